-- A terminal and the network's side: the terminal asks for a TEI, is assigned one, and then a call comes through.
use Rattle.std.specs.Prelude.{◌≡◌, ◌≤◌, ℕ, ◌+◌, ◌*◌, true, List, [], ◌∷◌, length, All, if◌then◌else◌}
use Rattle.lapd_frame.specs.declared.notes.Note.TheVariants as notes
use Rattle.lapd_frame.specs.declared.services.Service.{Service}
use Rattle.model_line.specs.declared.config.Config.{Config}
use Rattle.model_line.specs.Event.{request, LineTold, nothing}
use Rattle.model_line.specs.Line.{is_terminal}
use Rattle.model_line.specs.Request.{Establish, AskTei}
use Rattle.laws_wire.specs.Wire.{Wire, happens, requests, StepAt, acting, turned, doing_all, turns, IsStill}
use Rattle.laws_wire.specs.Call.{endpoint, CanCall, IsCall, both_call, confirmed, told_first, all_told, ToldInOrder}
use Rattle.laws_wire.specs.Arriving.{SendsOrReceives}

-- Two cards that have just begun. The near one is a terminal's, and is asked to have a TEI assigned.
abbrev pub asking : Config → ℕ → Config → ℕ → Wire
asking c line d other = record { near = happens (request AskTei) (endpoint c line); far = endpoint d other }

-- Each end is told of its TEI. It is 64, the lowest that the network assigns (Q.921 clause 3.3.4.2).
abbrev pub assigned_told : LineTold
assigned_told = record nothing { notes = notes.Assigned 64 ∷ [] }

-- There are at most so many turns. At any time each end is told a beginning of this, and all of it if no turn is left.
pub record AreToldWithin (taken most : ℕ) (to_near to_far : List LineTold) (w : Wire) : Type 0 where
  pub turns : taken ≤ most
  pub near : ToldInOrder (IsStill w) to_near w.near.told
  pub far : ToldInOrder (IsStill w) to_far w.far.told

-- After so many turns the near end is asked to establish a link of this TEI. Then a call comes through as in `Call`, with at most four
-- turns more in all. What is told of it comes after the TEI.
abbrev pub CallsComeThroughThen : ℕ → Wire → Type 0
CallsComeThroughThen before w =
    (service : Service) (ds : List StepAt) → All (IsCall service 64) ds →
    let v = acting (requests (Establish service 64)) w in let both = both_call ds v in let last = doing_all ds v in
    AreToldWithin (before + turns ds v) ((if both then 12 else 8) + 4 * (length last.near.granted + length last.far.granted))
    (assigned_told ∷ all_told service 64 (confirmed service 64) last.far) (assigned_told ∷ all_told service 64 (told_first service 64 both) last.near) last

-- Each end is told of its TEI, once. As soon as the terminal's is told, either end may call: the near one of this wire, or of the wire
-- turned round.
abbrev pub TerminalsComeThrough : Type 0
TerminalsComeThrough =
    (c d : Config) (line other : ℕ) (ds : List StepAt) → CanCall c line d other 64 → is_terminal c ≡ true → All SendsOrReceives ds →
    let w = asking c line d other in let now = doing_all ds w in
    AreToldWithin (turns ds w) 4 (assigned_told ∷ []) (assigned_told ∷ []) now
    × (now.near.told ≡ assigned_told ∷ [] → CallsComeThroughThen (turns ds w) now × CallsComeThroughThen (turns ds w) (turned now))
