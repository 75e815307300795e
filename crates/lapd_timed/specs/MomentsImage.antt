-- The moments of the timers of a card in its image.
use Rattle.std.specs.List.{range_with_len}
use Rattle.std.specs.Prelude.{◌≡◌, ℕ, ◌*◌, ◌<◌, Bool, true, false, ◌&&◌, List, ◌++◌, flat_map, is_some}
use Rattle.lapd_clock.specs.MomentImage.{moment_at}
use Rattle.lapd_clock.specs.Timers.{Expiry}
use Rattle.lapd_timed.specs.OfCard.{slot_of, line_slot_of}
use Rattle.lapd_clock.specs.OwnPlaces.{at, is_running}
use Rattle.model_line.specs.Line.{Line, link_at, place_at, tei_at}
use Rattle.model_link.specs.Told.{runs}
use Rattle.model_link.specs.declared.timers.LinkTimer.{LinkTimer}
use Rattle.model_link.specs.declared.timers.LinkTimer.TheVariants.{T200, T203}

-- Of a link that of T200 or of T203, if it runs one; of a line those of its links, by their numbers, and then that of T201 or T202;
-- and those of all lines.
abbrev pub link_moments : ℕ → ℕ → List Expiry → ℕ → List ℕ
link_moments terminals line es number = moment_at (slot_of terminals line number T200) es ++ moment_at (slot_of terminals line number T203) es

abbrev pub own_moments : ℕ → ℕ → List Expiry → List ℕ
own_moments terminals line es = moment_at (line_slot_of terminals false line) es ++ moment_at (line_slot_of terminals true line) es

abbrev pub links_moments : ℕ → ℕ → List Expiry → ℕ → List ℕ
links_moments terminals line es count = flat_map (link_moments terminals line es) (range_with_len 0 count)

abbrev pub line_moments : ℕ → List Expiry → ℕ → List ℕ
line_moments terminals es line = links_moments terminals line es (2 * terminals) ++ own_moments terminals line es

abbrev pub all_moments : ℕ → ℕ → List Expiry → List ℕ
all_moments lines terminals es = flat_map (line_moments terminals es) (range_with_len 0 lines)

-- Whether a link runs a timer; and whether a line does, of its own.
abbrev pub link_runs : Line → ℕ → LinkTimer → Bool
link_runs l number timer = is_some (tei_at (place_at number) l) && runs timer (link_at number l).running

abbrev pub line_runs : Line → Bool → Bool
line_runs l false = is_some l.management.check
line_runs l true = is_some l.own.procedure

-- At the places of a line run the timers that the line runs.
pub record RunsHere (terminals line : ℕ) (l : Line) (es : List Expiry) : Type 0 where
  pub links : (number : ℕ) (timer : LinkTimer) → number < 2 * terminals → is_running (at (slot_of terminals line number timer) es) ≡ link_runs l number timer
  pub own : (which : Bool) → is_running (at (line_slot_of terminals which line) es) ≡ line_runs l which
