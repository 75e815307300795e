-- Each TEI that a terminal was assigned is the network's, or the terminal is to hear, or has missed, that it is removed.
use Rattle.std.specs.Prelude.{◌≡◌, ℕ, ◌==◌, ◌<◌, ◌⊎◌, Bool, true, List, [], ◌∷◌, ◌++◌, filter, flat_map, fold, All, Option, Some, if◌then◌else◌}
use Rattle.lapd_frame.specs.declared.addresses.Side.TheVariants.{Network}
use Rattle.lapd_frame.specs.declared.notes.Note.{Note}
use Rattle.lapd_frame.specs.declared.notes.Note.TheVariants.{Assigned}
use Rattle.model_teis.specs.declared.network.remembered.Remembered.{Remembered}
use Rattle.model_teis.specs.declared.terminal.procedure.Procedure.{Procedure}
use Rattle.model_teis.specs.declared.terminal.procedure.Procedure.TheVariants.{Asking}
use Rattle.model_line.specs.declared.config.Config.{Config}
use Rattle.model_line.specs.Line.{is_terminal}
use Rattle.model_line.specs.Sound.{IsInRange}
use Rattle.laws_line.specs.Heard.{notes_of}
use Rattle.model_card.specs.Card.{fresh}
use Rattle.model_card.specs.Event.{Event}
use Rattle.model_card.specs.Machine.{after}
use Rattle.model_card.specs.Run.{Moment, moments}
use Rattle.laws_trace.specs.Managing.{Managed, none_on, due, own_of}
use Rattle.laws_order.specs.teis.Bus.{Bus, Past, Step, network, terminal, network_of, removal_comes, past_of, is_there}

-- The TEIs on the terminal's line that are told as assigned, each with the reference number by which it was asked for (Q.921 clause
-- 5.3.2). One that management has put there is none of them.
pub record Terminal : Type 0 where
  pub teis : Managed
  pub given : List Remembered

abbrev pub asked_by : Option Procedure → ℕ
asked_by (Some (Asking ri attempts)) = ri
asked_by other = 0

abbrev pub taken_by : Note → Option Procedure → List Remembered
taken_by (Assigned tei) procedure = record { ri = asked_by procedure; tei = tei } ∷ []
taken_by note procedure = []

abbrev pub taken : Config → Managed → List Note → List Remembered
taken c was notes = flat_map (λ note. taken_by note (own_of c was).procedure) notes

abbrev pub with_given : (ℕ → Bool) → Config → Managed → List Note → Terminal → Terminal
with_given stays c now notes t = record { teis = now; given = filter (λ r. stays r.tei) (t.given ++ taken c t.teis notes) }

abbrev pub terminal_led : Config → ℕ → Terminal → Moment → Terminal
terminal_led c line t m =
    if m.event.line == line then with_given (λ tei. is_there line tei (after m.event m.card)) c (due c m.event.what t.teis) (notes_of m.answer) t else t

abbrev pub terminal_after : Config → ℕ → List Event → Terminal
terminal_after c line events = fold (terminal_led c line) (record { teis = none_on; given = [] }) (moments (fresh c) events)

abbrev pub given_to : Bus → Past → List Remembered
given_to b p = (terminal_after b.terminal b.line p.at_terminal).given

-- One is among others.
abbrev pub IsIn : Remembered → List Remembered → Type 0
IsIn r [] = ⊥
IsIn r (one ∷ more) = (one ≡ r) ⊎ IsIn r more

-- An assignment holds; or a message that removes its TEI is in transit to the terminal, or is owed; or the terminal has missed one
-- since the assignment was over (clause 5.3.4).
abbrev pub IsAccountedFor : Bus → Past → Remembered → Type 0
IsAccountedFor b p r = IsIn r (network_of b p).hold ⊎ ((removal_comes b p r.tei ≡ true) ⊎ IsIn r p.missed)

-- The cards are the network's and a terminal's, and the events are at lines of them.
pub record CanMeet (b : Bus) : Type 0 where
  pub side : b.network.side ≡ Network
  pub own : is_terminal b.terminal ≡ true
  pub network : IsInRange b.network
  pub terminal : IsInRange b.terminal
  pub number : b.number < b.network.lines
  pub line : b.line < b.terminal.lines

abbrev pub IsThere : Bus → Step → Type 0
IsThere b (network e) = e.line < b.network.lines
IsThere b (terminal e) = e.line < b.terminal.lines
IsThere b other = Unit {0}

abbrev pub AssignmentsHold : Type 0
AssignmentsHold = (b : Bus) (steps : List Step) → CanMeet b → All (IsThere b) steps → let p = past_of b steps in (r : Remembered) → IsIn r (given_to b p) → IsAccountedFor b p r
