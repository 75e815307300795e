-- The same timers run at the clock of a card and at its lines, after any steps.
use Rattle.std.proofs.Common.{arith, ◌≡◌, ℕ, ◌<◌, Bool, cond, List, [], ◌∷◌, drop, Option, Some, None, refl, sym, ap, ◌∙◌, subst, nat_le}
use Rattle.std.proofs.lemmas.Option.{none-some}
use Rattle.std.specs.List.{AllByRecursion}
use Rattle.std.specs.Option.{option_map_or}
use Rattle.lapd_clock.specs.InOrder.{IsInOrder}
use Rattle.lapd_clock.specs.Sound.{IsOneEach}
use Rattle.lapd_clock.specs.Timer.{Timer, Lengths}
use Rattle.lapd_clock.specs.Timers.{Expiry, is_before}
use Rattle.model_line.specs.Event as line_event
use Rattle.model_line.specs.Expiry.{is_running}
use Rattle.model_line.specs.Sound.{IsInRange}
use Rattle.model_line.specs.declared.config.Config.{Config}
use Rattle.model_card.specs.Card as cards
use Rattle.model_card.specs.Card.{Card, line_at}
use Rattle.model_card.specs.Event.{Event, at}
use Rattle.model_card.specs.Machine.{after}
use Rattle.model_card.specs.Reached.{AreTimed}
use Rattle.model_card.specs.Sound.{IsSound}
use Rattle.model_card.proofs.CardSound.{after_is_sound, fresh_is_sound}
use Rattle.model_card.proofs.Reaching.{timed-fresh}
use Rattle.model_card.specs.ports.Card as ports
use Rattle.model_card.specs.ports.Card.{OctetCard}
use Rattle.model_card.specs.ports.Event.{Event as OctetEvent, at as octet_at}
use Rattle.model_card.specs.ports.Port as port
use Rattle.model_timed.specs.Clock.{Clock, stopped, obeyed, due, first_due, without_first, at_moment}
use Rattle.model_timed.specs.Timed as timed
use Rattle.model_timed.specs.Timed.{Step, happens, time, falls_due, with_expiry, IsPrompt, ArePrompt}
use Rattle.model_timed.specs.Frames.{TimedCard, frames, fresh, orders_at, IsNoExpiry}
use Rattle.model_timed.specs.Octets.{TimedOctetCard, octets, fresh as octets_fresh, orders_at as octet_orders_at, IsNoExpiry as OctetIsNoExpiry}
use Rattle.model_timed.specs.RunTheSame.{left_at, left_by, as_they_are, RunAs, Stands, TimersRunOn, OctetTimersRunOn, TimersRunTheSame, OctetTimersRunTheSame}
use Rattle.model_timed.proofs.OctetsRun.{OctetsMean, octets-mean}
use Rattle.model_timed.proofs.Orders.{in-order, one-each, all-run}
use Rattle.model_timed.proofs.Running.{timed-then, run-on, run-fresh, taken-left}

happened : (e : Event) (card : Card) (clock : Clock) → IsSound card → AreTimed card → IsInOrder is_before clock.running → IsOneEach clock.running → AllByRecursion (λ (x : Expiry). x.line < card.config.lines) clock.running
    → e.line < card.config.lines → RunAs (left_by e) card clock → Stands (after e card) (obeyed e.line (orders_at e card) clock)
happened e card clock sound are_timed order one lines here run = record {
  sound = after_is_sound card e sound here;
  are_timed = timed-then card e sound here are_timed;
  in_order = in-order e.line clock (orders_at e card) order;
  one_each = one-each e.line clock (orders_at e card) one;
  on_lines = all-run (λ (x : Expiry). x.line < card.config.lines) e.line clock (orders_at e card) (λ timer. here) lines;
  run = run-on card e sound here are_timed clock run;
}

-- what may happen leaves all timers as they are
none-expires : (what : line_event.Event) → IsNoExpiry what → (number line : ℕ) (timer : Timer) (b : Bool) → left_at what number line timer b ≡ b
none-expires (line_event.expiry expired) may number line timer b = absurd may
none-expires (line_event.hears h) may number line timer b = refl
none-expires (line_event.request r) may number line timer b = refl
none-expires line_event.next may number line timer b = refl

left : (e : Event) (card : Card) (clock : Clock) → IsNoExpiry e.what → RunAs as_they_are card clock → RunAs (left_by e) card clock
left e card clock may run line timer within = run line timer within ∙ sym (none-expires e.what may e.line line timer (is_running timer (line_at line card)))

may-happen : (e : Event) (card : Card) (clock : Clock) → Stands card clock → e.line < card.config.lines → IsNoExpiry e.what → Stands (after e card) (obeyed e.line (orders_at e card) clock)
may-happen e card clock h here may = happened e card clock h.sound h.are_timed h.in_order h.one_each h.on_lines here (left e card clock may h.run)

-- and what is due falls due
first-is : (x : Expiry) (running : List Expiry) (now : ℕ) → first_due running now ≡ Some x → (rest : List Expiry) × (running ≡ x ∷ rest)
first-is x [] now is = absurd (none-some x is)
first-is x (e ∷ es) now is = (es, ap (λ (y : Expiry). y ∷ es) (the-same e x (nat_le e.moment now) is))
  where
    the-same : (e x : Expiry) (b : Bool) → cond b (Some e) None ≡ Some x → e ≡ x
    the-same e x b is = grind arith

falls : (x : Expiry) (card : Card) (clock : Clock) → Stands card clock → due clock ≡ Some x
    → let e = at x.line (line_event.expiry x.timer) in Stands (after e card) (obeyed x.line (orders_at e card) (without_first clock))
falls x card clock h is =
    let first = first-is x clock.running clock.now is in
    let order = subst (IsInOrder is_before) first.1 h.in_order in
    let one = subst IsOneEach first.1 h.one_each in
    let lines = subst (λ es. AllByRecursion (λ (y : Expiry). y.line < card.config.lines) es) first.1 h.on_lines in
    happened (at x.line (line_event.expiry x.timer)) card (without_first clock) h.sound h.are_timed
    (subst (λ es. IsInOrder is_before (drop 1 es)) (sym first.1) order.1)
    (subst (λ es. IsOneEach (drop 1 es)) (sym first.1) one.1)
    (subst (λ es. AllByRecursion (λ (y : Expiry). y.line < card.config.lines) (drop 1 es)) (sym first.1) lines.1)
    lines.0 (taken-left card clock x first.0 first.1 one.0 h.run)

at-moment : (moment : ℕ) (card : Card) (clock : Clock) → Stands card clock → Stands card (at_moment moment clock)
at-moment moment card clock h = record { sound = h.sound; are_timed = h.are_timed; in_order = h.in_order; one_each = h.one_each; on_lines = h.on_lines; run = h.run }

pub begins : (c : Config) (lengths : Lengths) → IsInRange c → Stands (cards.fresh c) (stopped lengths)
begins c lengths ranged = record {
  sound = fresh_is_sound c ranged;
  are_timed = timed-fresh c;
  in_order = tt;
  one_each = tt;
  on_lines = tt;
  run = run-fresh c lengths;
}

-- A card of frames, step by step.
fell : (t : TimedCard) → Stands t.card t.clock → (o : Option Expiry) → due t.clock ≡ o → let u = option_map_or (with_expiry frames t) o t in Stands u.card u.clock
fell t h None is = h
fell t h (Some x) is = falls x t.card t.clock h is

pub stepped : (late : ℕ) (s : Step Event) (t : TimedCard) → Stands t.card t.clock → IsPrompt frames late s t → let u = timed.after frames s t in Stands u.card u.clock
stepped late (happens e) t h prompt = may-happen e t.card t.clock h prompt.0 prompt.1
stepped late (time moment) t h prompt = at-moment moment t.card t.clock h
stepped late falls_due t h prompt = fell t h (due t.clock) refl

pub timers_run_on : TimersRunOn
unfolding timed.after_all ArePrompt
timers_run_on late [] t h prompt = h
timers_run_on late (s ∷ steps) t h prompt = timers_run_on late steps (timed.after frames s t) (stepped late s t h prompt.0) prompt.1

pub timers_run_the_same : TimersRunTheSame
timers_run_the_same c lengths late steps ranged prompt = (timers_run_on late steps (fresh c lengths) (begins c lengths ranged) prompt).run

-- A card of octets: what its events mean to the card of frames inside.
meant-happens : (e : OctetEvent) (m : OctetCard) (clock : Clock) (o : Option Event) → OctetsMean e m o → Stands m.card clock
    → ((f : Event) → o ≡ Some f → f.line ≡ e.line → (OctetIsNoExpiry e.what → IsNoExpiry f.what) → Stands (after f m.card) (obeyed f.line (orders_at f m.card) clock))
    → Stands (ports.after e m).card (obeyed e.line (octet_orders_at e m) clock)
meant-happens e m clock None means h step =
    subst (λ os. Stands (ports.after e m).card (obeyed e.line os clock)) (sym means.0) (subst (λ (card : Card). Stands card clock) (sym means.1) h)
meant-happens e m clock (Some f) means h step =
    subst (λ os. Stands (ports.after e m).card (obeyed e.line os clock)) (sym means.1)
    (subst (λ (card : Card). Stands card (obeyed e.line (orders_at f m.card) clock)) (sym means.2)
    (subst (λ n. Stands (after f m.card) (obeyed n (orders_at f m.card) clock)) means.0 (step f refl means.0 means.3)))

octet-happens : (e : OctetEvent) (m : OctetCard) (clock : Clock) → Stands m.card clock → e.line < m.card.config.lines → OctetIsNoExpiry e.what
    → Stands (ports.after e m).card (obeyed e.line (octet_orders_at e m) clock)
octet-happens e m clock h here may =
    meant-happens e m clock (ports.meant e m) (octets-mean e m) h
    (λ f is line_is meaning. may-happen f m.card clock h (subst (λ n. n < m.card.config.lines) (sym line_is) here) (meaning may))

-- an expiry means itself
expiry-means : (x : Expiry) (m : OctetCard) → ports.meant (octet_at x.line (port.expiry x.timer)) m ≡ Some (at x.line (line_event.expiry x.timer))
unfolding ports.meant
expiry-means x m = refl

octet-falls : (x : Expiry) (m : OctetCard) (clock : Clock) → Stands m.card clock → due clock ≡ Some x
    → let e = octet_at x.line (port.expiry x.timer) in Stands (ports.after e m).card (obeyed x.line (octet_orders_at e m) (without_first clock))
octet-falls x m clock h is =
    let e = octet_at x.line (port.expiry x.timer) in
    let f = at x.line (line_event.expiry x.timer) in
    let means : OctetsMean e m (Some f) = subst (OctetsMean e m) (expiry-means x m) (octets-mean e m) in
    subst (λ os. Stands (ports.after e m).card (obeyed x.line os (without_first clock))) (sym means.1)
    (subst (λ (card : Card). Stands card (obeyed x.line (orders_at f m.card) (without_first clock))) (sym means.2) (falls x m.card clock h is))

octet-fell : (t : TimedOctetCard) → Stands t.card.card t.clock → (o : Option Expiry) → due t.clock ≡ o → let u = option_map_or (with_expiry octets t) o t in Stands u.card.card u.clock
octet-fell t h None is = h
octet-fell t h (Some x) is = octet-falls x t.card t.clock h is

pub octet-stepped : (late : ℕ) (s : Step OctetEvent) (t : TimedOctetCard) → Stands t.card.card t.clock → IsPrompt octets late s t
    → let u = timed.after octets s t in Stands u.card.card u.clock
octet-stepped late (happens e) t h prompt = octet-happens e t.card t.clock h prompt.0 prompt.1
octet-stepped late (time moment) t h prompt = at-moment moment t.card.card t.clock h
octet-stepped late falls_due t h prompt = octet-fell t h (due t.clock) refl

pub octet_timers_run_on : OctetTimersRunOn
unfolding timed.after_all ArePrompt
octet_timers_run_on late [] t h prompt = h
octet_timers_run_on late (s ∷ steps) t h prompt = octet_timers_run_on late steps (timed.after octets s t) (octet-stepped late s t h prompt.0) prompt.1

pub octet_timers_run_the_same : OctetTimersRunTheSame
octet_timers_run_the_same c lengths late steps ranged prompt = (octet_timers_run_on late steps (octets_fresh c lengths) (begins c lengths ranged) prompt).run
