-- How soon N200 is used up at the earliest: a timed card alone, whatever comes on its line.
use Rattle.std.specs.Prelude.{◌≡◌, ◌<◌, ℕ, ◌+◌, ◌*◌, max, ◌==◌, ◌||◌, true, false, List, flat_map, Some, if◌then◌else◌}
use Rattle.std.specs.List.{list_any}
use Rattle.lapd_clock.specs.Timer.{Lengths}
use Rattle.lapd_frame.specs.declared.services.Service.{Service}
use Rattle.lapd_frame.specs.Readings.{by_reading}
use Rattle.model_line.specs.Sound.{IsInRange}
use Rattle.model_line.specs.declared.config.Config.{Config}
use Rattle.model_line.specs.Line.{repeats_in, tries}
use Rattle.model_link.specs.declared.timers.LinkTimer.{LinkTimer}
use Rattle.model_link.specs.declared.timers.LinkTimer.TheVariants.{T200, T203}
use Rattle.model_timed.specs.Timed.{Step, after_all, ArePrompt}
use Rattle.laws_time.specs.circuit.Arriving.{error_in, is_used_up}
use Rattle.laws_time.specs.Silence.{news}
use Rattle.laws_time.specs.Watched.{Watched, fresh}

-- How many enquiries go at most, the first as T200 expires in state 7, or T203: as many as a command goes in all; but by annex B
-- one fewer after T200, and at least one (Q.921 clauses 5.6.7 and 5.9.2).
abbrev pub enquiries : Config → LinkTimer → ℕ
enquiries c T200 = by_reading c.reading (tries c) (max 1 (repeats_in c 8))
enquiries c T203 = tries c

-- From a time on at which `Card::state` tells 4 or 7 of a link, it takes so long at least until N200 is used up.
abbrev pub least_tries : Config → ℕ → ℕ
least_tries c state = if state == 7 then enquiries c T200 else tries c

abbrev pub N200TakesItsTime : {Card Event : Type 0} → Watched Card Event → Type 0
N200TakesItsTime {Card} {Event} w =
    (service : Service) (c : Config) (lengths : Lengths) (late number tei state : ℕ) (before steps : List (Step Event)) → IsInRange c →
    number < c.lines → (state == 4 || state == 7) ≡ true →
    let begun = fresh w c lengths in let t = after_all w.kind before begun in let u = after_all w.kind steps t in
    ArePrompt w.kind late before begun → ArePrompt w.kind late steps t → w.state number service tei t.card ≡ Some state →
    u.clock.now < t.clock.now + least_tries c state * lengths.t200 → list_any is_used_up (flat_map error_in (news w service tei number steps t)) ≡ false
