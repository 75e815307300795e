-- What is due, and what is left when it is taken out.
use Rattle.std.proofs.Common.{arith, ◌≡◌, ℕ, ◌*◌, ◌≤◌, true, false, cond, List, [], ◌∷◌, drop, nat_le, Option, Some, None, option_map, refl, sym, ap, ◌∙◌, subst}
use Rattle.std.proofs.lemmas.Bool.Decides.{nat_tests}
use Rattle.std.proofs.lemmas.Option.{none-some, same_Some}
use Rattle.std.specs.List.{AllByRecursion}
use Rattle.std.specs.Prelude.{IfSome}
use Rattle.lapd_clock.specs.Timer.{Timer}
use Rattle.lapd_clock.specs.Timers as clocks
use Rattle.lapd_clock.specs.Timers.{Expiry, is_of}
use Rattle.lapd_timed.specs.OfCard.{Holds, AreApart, slot_of, line_slot_of}
use Rattle.lapd_clock.specs.OwnPlaces.{timers_in, at, IsTaken, IsItsPlace}
use Rattle.lapd_clock.proofs.Again.{itself}
use Rattle.lapd_timed.proofs.OfCard.{found_place, holds_stopped}
use Rattle.model_card.specs.Card.{Card}
use Rattle.model_card.specs.Event.{at as event_at}
use Rattle.model_line.specs.Event.{expiry}
use Rattle.model_timed.specs.Clock.{Clock, first_due, without_first}
use Rattle.model_timed.specs.RunTheSame.{left_by, as_they_are}
use Rattle.model_timed.proofs.Running.{taken-left}
use Rattle.lapd_timed.specs.Places.{named_by}
use Rattle.lapd_timed.specs.Stands.{IsOn, HeldTimers, AreKept}
use Rattle.lapd_timed.proofs.Carrying.{apart-now}
use Rattle.lapd_timed.proofs.WithinHour.{hour-first}

-- which timer is due, by the words of both
pub due-is : (es : List Expiry) (now : ℕ) → clocks.first_due es now ≡ option_map named_by (first_due es now)
due-is [] now = refl
due-is (e ∷ es) now = (elim (nat_le e.moment now) as (λ b. cond b (Some (named_by e)) None ≡ option_map named_by (cond b (Some e) None)) [
  | true ↦ refl
  | false ↦ refl
])

pub none-is : (es : List Expiry) (now : ℕ) → clocks.first_due es now ≡ None → first_due es now ≡ None
none-is es now none = go (first_due es now) (sym (due-is es now) ∙ none)
  where
    go : (o : Option Expiry) → option_map named_by o ≡ None → o ≡ None
    go None e = refl
    go (Some x) e = absurd (none-some (named_by x) (sym e))

module _ (card : Card) (h : HeldTimers) (c : Clock) (kept : AreKept as_they_are h card c) (new : List Expiry) (now : ℕ) (taken : IsTaken now h.moments new) where
  abbrev x : Expiry
  x = at taken.place h.moments

  running-is : c.running ≡ x ∷ timers_in new
  running-is = kept.clock_is.running ∙ taken.first.leads ∙ ap (λ es. x ∷ timers_in es) (sym taken.is)

  its : IsItsPlace taken.place x.line x.timer h.moments
  its = found_place h.lines (2 * h.terminals) (slot_of h.terminals) (line_slot_of h.terminals) (IsOn card) h.moments kept.clock_is.places (subst (λ n. AreApart n (IsOn card)) kept.clock_is.lines (apart-now card kept.reached)) taken.place x.line x.timer
      (record { within = taken.first.within; runs = taken.first.runs; its = itself x x.line x.timer refl refl })

  -- it is the one that the clock says is due
  pub is-due : clocks.first_due (timers_in h.moments) now ≡ Some (named_by x)
  is-due = ap (λ es. clocks.first_due es now) taken.first.leads ∙ ap (λ b. cond b (Some (named_by x)) None) (come taken.due)
    where
      come : x.moment ≤ now → nat_le x.moment now ≡ true
      come le = grind (arith, nat_tests)

  pub is-left : AreKept (left_by (event_at x.line (expiry x.timer))) (record h { moments = new }) card (without_first c)
  is-left = record {
    reached = kept.reached;
    clock_is = record {
      lines = kept.clock_is.lines;
      terminals = kept.clock_is.terminals;
      now = kept.clock_is.now;
      lengths = kept.clock_is.lengths;
      running = ap (drop 1) running-is;
      places = subst (Holds h.lines (2 * h.terminals) (slot_of h.terminals) (line_slot_of h.terminals) (IsOn card)) (sym taken.is)
          (holds_stopped h.lines (2 * h.terminals) (slot_of h.terminals) (line_slot_of h.terminals) (IsOn card) h.moments kept.clock_is.places taken.place taken.first.within);
      within_hour = hour-first c kept.clock_is.within_hour;
    };
    same = taken-left card c x (timers_in new) running-is
        (subst (λ es. AllByRecursion (λ e. is_of x.line x.timer e ≡ false) (timers_in es)) (sym taken.is) its.only) kept.same;
  }

-- So of whatever is taken out, if anything is.
pub left-is : (h : HeldTimers) (new : List Expiry) (r : Option (ℕ × Timer)) → r ≡ clocks.first_due (timers_in h.moments) h.now → IfSome r (λ _. IsTaken h.now h.moments new)
    → IfSome r (λ d. (m : Card) (c : Clock) → AreKept as_they_are h m c → AreKept (left_by (event_at d.0 (expiry d.1))) (record h { moments = new }) m (without_first c))
left-is h new None is taken = tt
left-is h new (Some d) is taken = λ m c kept.
    subst (λ (y : ℕ × Timer). AreKept (left_by (event_at y.0 (expiry y.1))) (record h { moments = new }) m (without_first c))
    (same_Some (named_by (at taken.place h.moments)) d (sym (is-due m h c kept new h.now taken) ∙ sym is))
    (is-left m h c kept new h.now taken)
