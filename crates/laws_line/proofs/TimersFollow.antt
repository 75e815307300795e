-- A caller that obeys the orders runs the timers that are needed: each event of a line.
use Rattle.laws_line.proofs.Vocabulary.{◌≡◌, false, arith, refl, ap, sym, subst, option_map_or, Timer, T201, T202, LinkTimer, HasItsTimer, is-timed, timely-after, timely-fresh, sound-after, Config, is_running, Line, fresh_line, link_count, IsInRange, T200, T203, fresh, Event, after, answer, IsSound, link_needs, is_needed, runs_then, HaveTheirTimers}
use Rattle.model_line.proofs.LinkMoves.{all-after}
use Rattle.model_line.proofs.TimersFollow.{runs-follow, all-same, nowhere}

-- A timely line runs what it needs.
pub needed-runs : (l : Line) → HaveTheirTimers l → (timer : Timer) → is_needed timer l ≡ is_running timer l
needed-runs l h timer = grind arith

pub timely-line : (c : Config) (e : Event) (l : Line) → IsInRange c → IsSound c l → HaveTheirTimers l → HaveTheirTimers (after c e l)
timely-line c e l ranged s h = record {
  links = all-after HasItsTimer timely-fresh (λ t e x range sound timely. timely-after t e x sound (sound-after t range e x sound) timely) c ranged e l s h.links;
}

pub followed : (c : Config) (e : Event) (l : Line) (timer : Timer) → IsInRange c → IsSound c l → HaveTheirTimers l
    → runs_then timer (is_needed timer l) e (answer c e l) ≡ is_needed timer (after c e l)
followed c e l timer ranged s h = grind (arith, needed-runs, runs-follow, is-timed, timely-line)

-- no TEI is on a line that begins, and its links begin
pub begins-timely : (c : Config) → HaveTheirTimers (fresh_line c)
begins-timely c = record { links = λ number. subst HasItsTimer (sym (all-same fresh (link_count c) number)) timely-fresh }

pub begins-with-none : (c : Config) (timer : Timer) → is_needed timer (fresh_line c) ≡ false
begins-with-none c T201 = refl
begins-with-none c T202 = refl
begins-with-none c (T200 service tei) = ap (λ o. option_map_or (link_needs LinkTimer.T200 service (fresh_line c)) o false) (nowhere c tei)
begins-with-none c (T203 service tei) = ap (λ o. option_map_or (link_needs LinkTimer.T203 service (fresh_line c)) o false) (nowhere c tei)
