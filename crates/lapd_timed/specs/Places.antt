-- The places of a card's timers.
use Rattle.std.specs.Prelude.{◌≡◌, ℕ, true, false, ◌<◌, List, All, Option, Some, None, option_map}
use Rattle.lapd_clock.specs.Timer.{Timer, T200, T203, T201, T202}
use Rattle.lapd_clock.specs.Timers.{Expiry}
use Rattle.lapd_frame.specs.declared.services.Service.{Service}
use Rattle.lapd_timed.specs.OfCard.{slot_of, line_slot_of}
use Rattle.lapd_clock.specs.OwnPlaces.{RunsAt, is_nowhere}
use Rattle.model_line.specs.Line.{Line, link_number, place_in}
use Rattle.model_link.specs.declared.timers.LinkTimer.{LinkTimer}
use Rattle.model_link.specs.declared.timers.LinkTimer.TheVariants as link

-- The number of the link of a service with a TEI, where the TEI is on the line.
abbrev pub number_at : Service → ℕ → ℕ
number_at service place = link_number place service

abbrev pub link_on : Service → ℕ → Line → Option ℕ
link_on service tei l = option_map (number_at service) (place_in l tei)

-- The place of a timer of a line: of a link's timer, where its TEI is on the line.
abbrev pub slot_at : ℕ → ℕ → LinkTimer → ℕ → ℕ
slot_at terminals line timer number = slot_of terminals line number timer

abbrev pub own_place : ℕ → ℕ → Timer → Line → Option ℕ
own_place terminals line (T200 service tei) l = option_map (slot_at terminals line link.T200) (link_on service tei l)
own_place terminals line (T203 service tei) l = option_map (slot_at terminals line link.T203) (link_on service tei l)
own_place terminals line T201 l = Some (line_slot_of terminals false line)
own_place terminals line T202 l = Some (line_slot_of terminals true line)

-- Which timer of which line it is.
abbrev pub named_by : Expiry → ℕ × Timer
named_by x = (x.line, x.timer)

-- Each place is of a line that the card has.
abbrev pub AreOnLines : ℕ → List Expiry → Type 0
AreOnLines lines es = All (λ e. e.line < lines) es

-- A timer's own place; or where it has none, that at which it runs, if it runs at any.
abbrev pub IsFound : Option ℕ → ℕ → Timer → List Expiry → Type 0
IsFound None line timer es = is_nowhere line timer es
IsFound (Some place) line timer es = RunsAt place line timer es

abbrev pub IsOwnOrFound : Option ℕ → Option ℕ → ℕ → Timer → List Expiry → Type 0
IsOwnOrFound result (Some place) line timer es = result ≡ Some place
IsOwnOrFound result None line timer es = IsFound result line timer es
