-- What happens at a card that keeps its own timers happens at its lines, and so do the expiries of its timers.
use Rattle.std.proofs.Common.{arith, ◌≡◌, ℕ, ◌<◌, Bool, true, false, cond, List, [], ◌∷◌, ◌++◌, drop, nat_le, Option, Some, None, option_map, refl, sym, subst, ◌∙◌}
use Rattle.std.proofs.lemmas.List.Elements.{All-cons, All-head, All-nil, All-tail, recursion_from_All}
use Rattle.std.proofs.lemmas.Option.{none-some}
use Rattle.std.specs.List.{AllByRecursion}
use Rattle.std.specs.Option.{option_map_or}
use Rattle.std.specs.Prelude.{All, option_to_list}
use Rattle.lapd_clock.specs.Timer.{Timer}
use Rattle.lapd_clock.specs.Timers.{Expiry}
use Rattle.lapd_clock.proofs.Ordered.{All-filter}
use Rattle.lapd_clock.specs.OwnPlaces.{is_running, timers_in}
use Rattle.lapd_clock.proofs.First.{All-in_order}
use Rattle.model_card.specs.Card.{Card}
use Rattle.model_timed.specs.Clock.{Clock, due, first_due, without_first}
use Rattle.model_timed.specs.Timed.{Kind, Timed, Step, happens, time, falls_due, after, expiry_at, with_event, with_expiry}
use Rattle.model_timed.proofs.Orders.{all-run}
use Rattle.lapd_timed.specs.Stands.{TimersStandIn}
use Rattle.lapd_timed.specs.declared.card_timers.CardTimers.{CardTimers}
use Rattle.laws_promises.specs.TimedRun.{is_wrong, served}
unfoldable use Rattle.laws_promises.specs.TimedRun.{events_in}

-- Timers that stand for a clock run at lines that the card has.
pub run-at-lines : (timers : Option CardTimers) (m : Card) (c : Clock) → TimersStandIn timers m c → AllByRecursion (λ (x : Expiry). x.line < m.config.lines) c.running
run-at-lines None m c s = absurd s
run-at-lines (Some timers) m c s =
    subst (AllByRecursion (λ (x : Expiry). x.line < m.config.lines)) (sym s.clock_is.running)
    (subst (λ n. AllByRecursion (λ (x : Expiry). x.line < n) (timers_in timers.moments)) (sym s.clock_is.lines)
    (All-in_order (λ (x : Expiry). x.line < timers.lines) _ (All-filter (λ (x : Expiry). x.line < timers.lines) is_running timers.moments (recursion_from_All (λ (x : Expiry). x.line < timers.lines) timers.moments timers.of_lines))))

-- What holds of the event that a step hands the card, if it hands it one.
abbrev pub IfHappens : {Event : Type 0} → (Event → Type 0) → Step Event → Type 0
IfHappens P (happens e) = P e
IfHappens P other = Unit {0}

-- What holds of each of these, and of every expiry, holds of all events that steps mean.
module _ {Card Event : Type 0} (k : Kind Card Event) (P : Event → Type 0) (expiries : (line : ℕ) (timer : Timer) → P (k.expiry line timer)) where
  meant-due : (steps : List (Step Event)) (t : Timed Card) → ((u : Timed Card) → All P (events_in k steps u)) → (o : Option Expiry)
      → let u = option_map_or (with_expiry k t) o t in All P (option_to_list (option_map (expiry_at k) o) ++ events_in k steps u)
  meant-due steps t all None = all t
  meant-due steps t all (Some x) = All-cons P (expiry_at k x) (events_in k steps (with_expiry k t x)) (expiries x.line x.timer) (all (with_expiry k t x))

  pub all-meant : (steps : List (Step Event)) (t : Timed Card) → All (IfHappens P) steps → All P (events_in k steps t)
  unfolding events_in
  all-meant [] t all = All-nil P
  all-meant (happens e ∷ steps) t all =
      All-cons P e (events_in k steps (after k (happens e) t)) (All-head (IfHappens P) (happens e) steps all) (all-meant steps (after k (happens e) t) (All-tail (IfHappens P) (happens e) steps all))
  all-meant (time moment ∷ steps) t all = all-meant steps (served k (time moment) t) (All-tail (IfHappens P) (time moment) steps all)
  all-meant (falls_due ∷ steps) t all = meant-due steps t (λ u. all-meant steps u (All-tail (IfHappens P) falls_due steps all)) (due t.clock)

-- What happens at lines that the card has, and the expiries of timers at these, are events at its lines.
module _ {Card Event : Type 0} (k : Kind Card Event) (lines : Card → ℕ) (stays : (e : Event) (card : Card) → lines (k.after e card) ≡ lines card) (named : (line : ℕ) (timer : Timer) → k.line (k.expiry line timer) ≡ line) where
  abbrev IsAt : ℕ → Step Event → Type 0
  IsAt n s = IfHappens (λ e. k.line e < n) s

  abbrev pub Run : ℕ → Clock → Type 0
  Run n c = AllByRecursion (λ (x : Expiry). x.line < n) c.running

  abbrev pub HaveLines : ℕ → Timed Card → Type 0
  HaveLines n t = (lines t.card ≡ n) × Run n t.clock

  -- an event at a line leaves all at their lines
  happened : (n : ℕ) (e : Event) (t : Timed Card) → k.line e < n → HaveLines n t → HaveLines n (with_event k e t)
  happened n e t here h = (stays e t.card ∙ h.0, all-run (λ (x : Expiry). x.line < n) (k.line e) t.clock (k.orders e t.card) (λ timer. here) h.1)

  -- what is due runs
  first-at : (n : ℕ) (x : Expiry) (running : List Expiry) (now : ℕ) → first_due running now ≡ Some x → AllByRecursion (λ (y : Expiry). y.line < n) running → (x.line < n) × AllByRecursion (λ (y : Expiry). y.line < n) (drop 1 running)
  first-at n x [] now is h = absurd (none-some x is)
  first-at n x (y ∷ ys) now is h = (subst (λ (z : Expiry). z.line < n) (same y x (nat_le y.moment now) is) h.0, h.1)
    where
      same : (y x : Expiry) (b : Bool) → cond b (Some y) None ≡ Some x → y ≡ x
      same y x b is = grind arith

  expired : (n : ℕ) (x : Expiry) (t : Timed Card) → due t.clock ≡ Some x → HaveLines n t → (x.line < n) × HaveLines n (with_expiry k t x)
  expired n x t is h =
      let first = first-at n x t.clock.running t.clock.now is h.1 in
      (first.0, happened n (expiry_at k x) (record t { clock = without_first t.clock }) (subst (λ l. l < n) (sym (named x.line x.timer)) first.0) (h.0, first.1))

  gone : (n moment : ℕ) (t : Timed Card) → HaveLines n t → (b : Bool) → HaveLines n (cond b t (after k (time moment) t))
  gone n moment t h true = h
  gone n moment t h false = h

  at-due : (n : ℕ) (steps : List (Step Event)) (t : Timed Card) → ((u : Timed Card) → HaveLines n u → All (λ e. k.line e < n) (events_in k steps u)) → HaveLines n t → (o : Option Expiry) → due t.clock ≡ o
      → let u = option_map_or (with_expiry k t) o t in All (λ e. k.line e < n) (option_to_list (option_map (expiry_at k) o) ++ events_in k steps u)
  at-due n steps t all h None is = all t h
  at-due n steps t all h (Some x) is =
      let then = expired n x t is h in
      All-cons (λ e. k.line e < n) (expiry_at k x) (events_in k steps (with_expiry k t x)) (subst (λ l. l < n) (sym (named x.line x.timer)) then.0) (all (with_expiry k t x) then.1)

  pub events-at : (n : ℕ) (steps : List (Step Event)) (t : Timed Card) → All (IsAt n) steps → HaveLines n t → All (λ e. k.line e < n) (events_in k steps t)
  unfolding events_in
  events-at n [] t all h = All-nil (λ e. k.line e < n)
  events-at n (happens e ∷ steps) t all h =
      let here = All-head (IsAt n) (happens e) steps all in
      All-cons (λ x. k.line x < n) e (events_in k steps (after k (happens e) t)) here (events-at n steps (after k (happens e) t) (All-tail (IsAt n) (happens e) steps all) (happened n e t here h))
  events-at n (time moment ∷ steps) t all h =
      events-at n steps (served k (time moment) t) (All-tail (IsAt n) (time moment) steps all) (gone n moment t h (is_wrong moment t.clock.now))
  events-at n (falls_due ∷ steps) t all h = at-due n steps t (λ u its. events-at n steps u (All-tail (IsAt n) falls_due steps all) its) h (due t.clock) refl
