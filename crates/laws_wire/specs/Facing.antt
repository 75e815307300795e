-- Two cards face each other by a link of the same service and TEI.
use Rattle.std.specs.Prelude.{◌≡◌, ℕ, ◌+◌, ◌*◌, ◌<◌, ◌≤◌, ◌||◌, Bool, true, false, List, [], ◌∷◌, ◌++◌, length, map, drop, All, Some, Result, Ok, Err, if◌then◌else◌}
use Rattle.lapd_frame.specs.declared.faults.ReadFault.{ReadFault}
use Rattle.lapd_frame.specs.declared.services.Service.{Service}
use Rattle.lapd_frame.specs.Grammar.{Parts}
use Rattle.lapd_frame.specs.Senders.{reading}
use Rattle.model_link.specs.Link.{Link, unsent}
use Rattle.model_line.specs.declared.config.Config.{Config}
use Rattle.model_line.specs.Event.{LineTold}
use Rattle.model_line.specs.Line.{Line, link_of, state_of, terms}
use Rattle.model_line.specs.Taken.{own_side}
use Rattle.model_card.specs.Card.{line_at}
use Rattle.model_card.specs.Sound.{IsSound}
use Rattle.laws_line.specs.Drains.{frames_to_go, information_to_go}
use Rattle.laws_wire.specs.Wire.{Endpoint, Wire, StepAt, doing_all, turns, IsStill}
use Rattle.laws_wire.specs.Call.{calling, AreOpposite, CanCall, IsTalk, IsCall, data_told, ToldInOrder}

abbrev pub line_of : Endpoint → Line
line_of s = line_at s.line s.card

-- What is on its way, as it is read.
abbrev pub parts_of : Result Parts ReadFault → List Parts
parts_of (Ok parts) = parts ∷ []
parts_of (Err fault) = []

abbrev pub read_as : Config → List ℕ → List Parts
read_as c octets = parts_of (reading (own_side c) octets)

-- The link at an endpoint, and whether either side is busy there.
abbrev pub own_link : Service → ℕ → Endpoint → Link
own_link service tei s = link_of service tei (line_of s)

abbrev pub is_busy : Link → Bool
is_busy l = l.own_busy || l.peer_busy

-- The frames that are on their way, or to go on its line; and those of the link that carry contents, or an acknowledgement alone.
abbrev pub frames_at : Endpoint → ℕ
frames_at s = length s.way + frames_to_go s.card.config (line_of s)

abbrev pub owed : Link → ℕ
owed l = if l.pending then 1 else 0

abbrev pub own_frames_at : Service → ℕ → Endpoint → ℕ
own_frames_at service tei s = information_to_go (terms s.card.config service tei) (own_link service tei s) + owed (own_link service tei s)

-- At a line of a sound card `Card::state` tells 7 of the link, neither side is busy, and no other frames are left there. The other
-- end has received all that was sent, and where some of it is not acknowledged it owes that.
pub record Speaks (service : Service) (tei : ℕ) (s u : Endpoint) : Type 0 where
  pub card : IsSound s.card × (s.line < s.card.config.lines)
  pub state : state_of service tei (line_of s) ≡ Some 7
  pub free : is_busy (own_link service tei s) ≡ false
  pub alone : frames_at s ≡ own_frames_at service tei s
  pub received : (own_link service tei u).r ≡ (own_link service tei s).s
  pub owes : (own_link service tei s).a < (own_link service tei s).s → (own_link service tei u).pending ≡ true

-- So does each of two cards of the two sides, with the same N201 and the same SAPI of the second service.
abbrev pub Face : Service → ℕ → Wire → Type 0
Face service tei w = Speaks service tei w.near w.far × Speaks service tei w.far w.near × AreOpposite w.near.card.config w.far.card.config

abbrev pub granted_of : Wire → ℕ
granted_of w = length w.near.granted + length w.far.granted

-- The most turns for what an end has left: four for each content unsent, and two for an acknowledgement that it owes.
abbrev pub most_turns : Service → ℕ → Endpoint → ℕ
most_turns service tei s = 4 * unsent (own_link service tei s) + 2 * owed (own_link service tei s)

-- What layer 3 of an end is to be told: the contents that were unsent at the other, and those that the other was granted to send
-- since.
abbrev pub unsent_at : Service → ℕ → Endpoint → List (List ℕ)
unsent_at service tei s = drop (own_link service tei s).s (own_link service tei s).contents

abbrev pub due_since : Service → ℕ → Endpoint → Endpoint → List LineTold
due_since service tei other now = map (data_told service tei) (unsent_at service tei other ++ drop (length other.granted) now.granted)

-- It is told that behind what it was told before.
abbrev pub IsToldSince : Type 0 → List LineTold → Endpoint → Endpoint → Type 0
IsToldSince in_the_end all before now = (since : List LineTold) × (now.told ≡ before.told ++ since) × ToldInOrder in_the_end all since

pub record Delivers (service : Service) (tei taken : ℕ) (w last : Wire) : Type 0 where
  pub turns : taken + 4 * granted_of w ≤ most_turns service tei w.near + most_turns service tei w.far + 4 * granted_of last
  pub near : IsToldSince (IsStill last) (due_since service tei w.far last.far) w.near last.near
  pub far : IsToldSince (IsStill last) (due_since service tei w.near last.near) w.far last.far

abbrev pub CardsDeliver : Type 0
CardsDeliver =
    (service : Service) (tei : ℕ) (ds : List StepAt) (w : Wire) → Face service tei w → All (IsTalk service tei) ds →
    Delivers service tei (turns ds w) w (doing_all ds w)

-- And where no turn is left they face each other again.
abbrev pub CardsFaceAgain : Type 0
CardsFaceAgain =
    (service : Service) (tei : ℕ) (ds : List StepAt) (w : Wire) → Face service tei w → All (IsTalk service tei) ds →
    IsStill (doing_all ds w) → Face service tei (doing_all ds w)

-- So do cards in a call, where no turn is left, whether one end called or both.
abbrev pub CallsFace : Type 0
CallsFace =
    (service : Service) (c d : Config) (line other tei : ℕ) (ds : List StepAt) → CanCall c line d other tei → All (IsCall service tei) ds →
    let w = doing_all ds (calling service tei c line d other) in IsStill w → Face service tei w
