-- Two terminals on one bus have one TEI only by one reference number, or if that which was assigned it before did not hear that it
-- is removed.
use Rattle.std.specs.Prelude.{◌≡◌, ℕ, ◌&&◌, ◌⊎◌, Bool, true, false, List, [], ◌∷◌, All, if◌then◌else◌}
use Rattle.model_teis.specs.declared.network.remembered.Remembered.{Remembered}
use Rattle.model_line.specs.declared.config.Config.{Config}
use Rattle.laws_order.specs.teis.Bus.{Bus, Past, Step, network_of, removal_comes, is_among, past_of}
use Rattle.laws_order.specs.teis.Assignments.{CanMeet, IsThere, IsIn, given_to}

-- A terminal is to hear that the TEI of an assignment is removed, or has missed it.
abbrev pub IsOver : Bus → Past → Remembered → Type 0
IsOver b p r = (removal_comes b p r.tei ≡ true) ⊎ IsIn r p.missed

-- Of two assignments, one is older if the network has made the other since it last made this one.
abbrev pub is_older : Remembered → Remembered → List Remembered → Bool
is_older one two [] = false
is_older one two (r ∷ made) = if is_among one made then is_older one two made else is_among one (r ∷ []) && is_among two made

-- Two terminals hear one line of the network. So there are two runs, in which the same has happened at the network's card: each frame
-- that its line sends is in transit to either, and comes to each, or is lost for it. A TEI that both are told as assigned was
-- asked for by one reference number at both; or one of the two assignments is older, and is over for its terminal.
abbrev pub TwoTerminalsDiffer : Type 0
TwoTerminalsDiffer =
    (b : Bus) (other : Config) (its : ℕ) (steps theirs : List Step) → let twin : Bus = record b { terminal = other; line = its } in
    CanMeet b → CanMeet twin → All (IsThere b) steps → All (IsThere twin) theirs → let p = past_of b steps in let q = past_of twin theirs in
    p.at_network ≡ q.at_network → (one two : Remembered) → IsIn one (given_to b p) → IsIn two (given_to twin q) → one.tei ≡ two.tei →
    let made = (network_of b p).made in
    (one.ri ≡ two.ri) ⊎ (((is_older one two made ≡ true) × IsOver b p one) ⊎ ((is_older two one made ≡ true) × IsOver twin q two))
