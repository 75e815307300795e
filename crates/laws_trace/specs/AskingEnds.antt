-- Asking for a TEI ends: one is told as assigned, or it is told that none was.
use Rattle.std.specs.Prelude.{◌≡◌, ℕ, ◌==◌, ◌≤◌, ◌&&◌, not, Bool, true, false, List, [], ◌∷◌, ◌++◌, length, filter, flat_map, count_by, All, if◌then◌else◌}
use Rattle.lapd_frame.specs.declared.notes.Note.{Note}
use Rattle.lapd_frame.specs.declared.notes.Note.TheVariants.{Assigned, Unassigned}
use Rattle.lapd_frame.specs.declared.timers.Timer.TheVariants.{T202}
use Rattle.model_line.specs.declared.config.Config.{Config}
use Rattle.model_line.specs.Event as line_event
use Rattle.model_line.specs.Event.{request, expiry, Answer}
use Rattle.model_line.specs.Request.{AskTei, Down}
use Rattle.laws_line.specs.Heard.{notes_of}
use Rattle.laws_line.specs.Share.{is_granted}
use Rattle.model_card.specs.Event.{Event, at}
use Rattle.model_card.specs.Machine.{after}
use Rattle.model_card.specs.Run.{Moment, moments}
use Rattle.laws_trace.specs.Observer.{moment_of}

-- What asking comes to: a TEI is assigned, or none is after the last attempt (Q.921 clauses 5.3.2 and 5.3.2.1).
abbrev pub is_result : Note → Bool
is_result (Assigned tei) = true
is_result Unassigned = true
is_result other = false

-- What the line tells of it, in order.
abbrev pub results_in : ℕ → Moment → List Note
results_in number m = if m.event.line == number then filter is_result (notes_of m.answer) else []

abbrev pub results : ℕ → List Moment → List Note
results number ms = flat_map (results_in number) ms

-- How often T202 of the line expires.
abbrev pub is_t202 : line_event.Event → Bool
is_t202 (expiry T202) = true
is_t202 other = false

abbrev pub expiries : ℕ → List Event → ℕ
expiries number events = count_by (λ e. e.line == number && is_t202 e.what) events

-- Asking is broken off if the line is down (annex B), and another begins if a further request is granted.
abbrev pub breaks_off : line_event.Event → Answer → Bool
breaks_off (request Down) a = true
breaks_off (request AskTei) a = is_granted a
breaks_off other a = false

abbrev pub goes_on : ℕ → Moment → Bool
goes_on number m = not (m.event.line == number && breaks_off m.event.what m.answer)

-- One result is told, after the third expiry of T202 at the latest (N202, clause 5.9.4), and before a further request is granted.
pub record HasResult (expired : ℕ) (again : Bool) (told : List Note) : Type 0 where
  pub once : length told ≤ 1
  pub ends : 3 ≤ expired → length told ≡ 1
  pub first : again ≡ true → length told ≡ 1

-- So it is from a granted request on, whatever happens then.
abbrev pub AskingEnds : Config → List Event → ℕ → Type 0
AskingEnds c events number =
    (past later : List Event) → events ≡ past ++ at number (request AskTei) ∷ later →
    let asks = moment_of c past number (request AskTei) in let since = moments (after asks.event asks.card) later in
    is_granted asks.answer ≡ true → All (λ m. goes_on number m ≡ true) since →
    HasResult (expiries number later) (is_granted (moment_of c events number (request AskTei)).answer) (results number since)
