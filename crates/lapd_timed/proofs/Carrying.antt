-- Orders that are carried out in places.
use Rattle.std.proofs.Common.{arith, ◌≡◌, ◌≢◌, inl, inr, Bool, true, false, ℕ, ◌+◌, ◌*◌, ◌<◌, List, Option, Some, None, IsSome, option_map, refl, sym, ap, ◌∙◌, subst}
use Rattle.std.proofs.lemmas.Bool.{false≢true}
use Rattle.std.proofs.lemmas.Option.{none-some, same_Some}
use Rattle.lapd_clock.specs.Firsts.{never}
use Rattle.lapd_clock.specs.Timer.{Timer, T200, T203, T201, T202, Start, Stop, duration}
use Rattle.lapd_clock.specs.Timers.{Expiry, with_expiry, without}
use Rattle.lapd_frame.specs.declared.services.Service.{Service}
use Rattle.lapd_timed.specs.OfCard.{Holds, AreApart, slot_of, line_slot_of, timer_of, line_timer}
use Rattle.lapd_clock.specs.OwnPlaces.{timers_in, with_timer, without_timer, IsExchanged, IsItsPlace, IsRestarted}
use Rattle.lapd_clock.proofs.OwnPlace.{started_in_place, stopped_in_place, stopped_nowhere}
use Rattle.lapd_timed.proofs.OfCard.{holds_restarted}
use Rattle.lapd_timed.proofs.OfCard.{its_place, line_place, found_place, link_running, runs_still, either_first, holds_started, holds_stopped, holds_line}
use Rattle.model_teis.proofs.Tables.{place_of-is}
use Rattle.model_teis.specs.Table.{IsSoundTable}
use Rattle.model_card.specs.Card.{Card, line_at}
use Rattle.model_card.specs.Event.{Event}
use Rattle.model_card.specs.Machine.{after}
use Rattle.model_card.specs.Reached.{IsReached}
use Rattle.model_card.proofs.Reaching.{reached-sound, reached-after}
use Rattle.model_card.proofs.Steps.{has_lines, line_sound}
use Rattle.model_line.specs.Line.{link_number, place_at, service_at, place_in}
use Rattle.model_line.specs.Runs.{IsPlaced}
use Rattle.model_line.proofs.Numbers.{number_within, place_at-number, service_at-number}
use Rattle.model_line.proofs.Placed.{place-few}
use Rattle.model_link.specs.declared.timers.LinkTimer.{LinkTimer}
use Rattle.model_link.specs.declared.timers.LinkTimer.TheVariants as link
use Rattle.model_timed.specs.Clock.{Clock, obey}
use Rattle.model_timed.proofs.Running.{stays-in-place}
use Rattle.lapd_timed.specs.Places.{own_place, link_on, number_at, slot_at, IsOwnOrFound}
use Rattle.lapd_timed.specs.Stands.{IsOn, IsOnAmid, HeldTimers, AreAt}
use Rattle.lapd_timed.proofs.WithinHour.{hour-obeyed}

-- An event at a line of a card: before it and after it no TEI is at two places of a line, and no two are at one.
same-tei : (a b : ℕ) → Some a ≡ Some b → a ≡ b
same-tei a b e = cc

pub apart-now : (m : Card) → IsReached m → AreApart m.config.lines (IsOn m)
apart-now m reached = record {
  once = λ line place other tei within. (line_sound m line (has_lines m (reached-sound m reached)) within).management.table.once place other tei;
  alone = λ line place tei other within a b. same-tei tei other (sym a ∙ b);
}

pub apart : (m : Card) (e : Event) → IsReached m → e.line < m.config.lines → AreApart m.config.lines (IsOnAmid e m)
apart m e reached here = record {
  once = λ line place other tei within a b. once line place other tei within a b;
  alone = λ line place tei other within a b. alone line place tei other within a b;
}
  where
    before : (line : ℕ) → line < m.config.lines → IsSoundTable (line_at line m).management.places
    before line within = (line_sound m line (has_lines m (reached-sound m reached)) within).management.table

    now : (line : ℕ) → line < m.config.lines → IsSoundTable (line_at line (after e m)).management.places
    now line within = (line_sound (after e m) line (has_lines (after e m) (reached-sound (after e m) (reached-after m e reached here))) within).management.table

    once : (line place other tei : ℕ) → line < m.config.lines → IsOnAmid e m line place tei → IsOnAmid e m line other tei → place ≡ other
    once line place other tei within (inl a) (inl b) = (before line within).once place other tei a b
    once line place other tei within (inl a) (inr b) = (stays-in-place m e (reached-sound m reached) here line within).once place other tei a b
    once line place other tei within (inr a) (inl b) = sym ((stays-in-place m e (reached-sound m reached) here line within).once other place tei b a)
    once line place other tei within (inr a) (inr b) = (now line within).once place other tei a b

    alone : (line place tei other : ℕ) → line < m.config.lines → IsOnAmid e m line place tei → IsOnAmid e m line place other → tei ≡ other
    alone line place tei other within (inl a) (inl b) = same-tei tei other (sym a ∙ b)
    alone line place tei other within (inl a) (inr b) = (stays-in-place m e (reached-sound m reached) here line within).alone place tei other a b
    alone line place tei other within (inr a) (inl b) = sym ((stays-in-place m e (reached-sound m reached) here line within).alone place other tei b a)
    alone line place tei other within (inr a) (inr b) = same-tei tei other (sym a ∙ b)

mapped : (f : ℕ → ℕ) (o : Option ℕ) (i : ℕ) → option_map f o ≡ Some i → (p : ℕ) × ((o ≡ Some p) × (f p ≡ i))
mapped f None i e = absurd (none-some i e)
mapped f (Some p) i e = (p, (refl, same_Some (f p) i e))

unmapped-twice : (f g : ℕ → ℕ) (o : Option ℕ) → option_map f (option_map g o) ≡ None → IsSome o → ⊥
unmapped-twice f g None e some = false≢true some
unmapped-twice f g (Some p) e some = none-some (f (g p)) (sym e)

-- While the orders of an event are carried out: m is the card before the event, and the timers hold what they held then, or so.
module _ (m : Card) (e : Event) (reached : IsReached m) (here : e.line < m.config.lines) (h : HeldTimers) (c : Clock) (amid : AreAt (IsOnAmid e m) h m c) where
  lines-apart : AreApart h.lines (IsOnAmid e m)
  lines-apart = subst (λ n. AreApart n (IsOnAmid e m)) amid.lines (apart m e reached here)

  abbrev slot : ℕ → ℕ → LinkTimer → ℕ
  slot = slot_of h.terminals

  abbrev line_slot : Bool → ℕ → ℕ
  line_slot = line_slot_of h.terminals

  there : (line : ℕ) → line < h.lines → line < m.config.lines
  there line within = subst (λ n. line < n) (sym amid.lines) within

  -- the place of a timer is its own
  record Own (i line : ℕ) (timer : Timer) : Type 0 where
    its : IsItsPlace i line timer h.moments
    holds : (moment : ℕ) → Holds h.lines (2 * h.terminals) slot line_slot (IsOnAmid e m) (with_timer i timer moment h.moments)

  of-link : (line : ℕ) → line < h.lines → (k : LinkTimer) (service : Service) (tei p : ℕ) → place_in (line_at line (after e m)) tei ≡ Some p
      → Own (slot line (link_number p service) k) line (timer_of k service tei)
  of-link line within k service tei p at =
      let number = link_number p service in
      let sound = line_sound (after e m) line (has_lines (after e m) (reached-sound (after e m) (reached-after m e reached here))) (there line within) in
      let few : p < h.terminals = subst (λ n. p < n) amid.terminals (place-few m.config (line_at line (after e m)) tei p sound at) in
      let on : IsOnAmid e m line (place_at number) tei =
      subst (λ n. IsOnAmid e m line n tei) (sym (place_at-number p service)) (inr ((place_of-is (line_at line (after e m)).management.places tei p at).1)) in
      let is : timer_of k (service_at number) tei ≡ timer_of k service tei = ap (λ s. timer_of k s tei) (service_at-number p service) in
      record {
        its = subst (λ x. IsItsPlace (slot line number k) line x h.moments) is
            (its_place h.lines (2 * h.terminals) slot line_slot (IsOnAmid e m) h.moments amid.places lines-apart line number tei k within (number_within p h.terminals service few) on);
        holds = λ moment. subst (λ x. Holds h.lines (2 * h.terminals) slot line_slot (IsOnAmid e m) (with_timer (slot line number k) x moment h.moments)) is
            (holds_started h.lines (2 * h.terminals) slot line_slot (IsOnAmid e m) h.moments amid.places line number tei moment k within (number_within p h.terminals service few) on);
      }

  of-line : (line : ℕ) → line < h.lines → (which : Bool) → Own (line_slot which line) line (line_timer which)
  of-line line within which = record {
    its = line_place h.lines (2 * h.terminals) slot line_slot (IsOnAmid e m) h.moments amid.places lines-apart line which within;
    holds = λ moment. holds_line h.lines (2 * h.terminals) slot line_slot (IsOnAmid e m) h.moments amid.places line moment which within;
  }

  own : (line : ℕ) → line < h.lines → (timer : Timer) (i : ℕ) → own_place h.terminals line timer (line_at line (after e m)) ≡ Some i → Own i line timer
  own line within (T200 service tei) i is =
      let n = mapped (slot_at h.terminals line link.T200) (link_on service tei (line_at line (after e m))) i is in
      let p = mapped (number_at service) (place_in (line_at line (after e m)) tei) n.0 n.1.0 in
      subst (λ j. Own j line (T200 service tei)) (ap (slot_at h.terminals line link.T200) p.1.1 ∙ n.1.1) (of-link line within link.T200 service tei p.0 p.1.0)
  own line within (T203 service tei) i is =
      let n = mapped (slot_at h.terminals line link.T203) (link_on service tei (line_at line (after e m))) i is in
      let p = mapped (number_at service) (place_in (line_at line (after e m)) tei) n.0 n.1.0 in
      subst (λ j. Own j line (T203 service tei)) (ap (slot_at h.terminals line link.T203) p.1.1 ∙ n.1.1) (of-link line within link.T203 service tei p.0 p.1.0)
  own line within T201 i is = subst (λ n. Own n line T201) (same_Some (line_slot false line) i is) (of-line line within false)
  own line within T202 i is = subst (λ n. Own n line T202) (same_Some (line_slot true line) i is) (of-line line within true)

  -- a timer that is started has a place
  pub has-place : (line : ℕ) (timer : Timer) → IsPlaced (line_at line (after e m)) (Start timer) → own_place h.terminals line timer (line_at line (after e m)) ≡ None → ⊥
  has-place line (T200 service tei) placed is = unmapped-twice (slot_at h.terminals line link.T200) (number_at service) (place_in (line_at line (after e m)) tei) is placed
  has-place line (T203 service tei) placed is = unmapped-twice (slot_at h.terminals line link.T203) (number_at service) (place_in (line_at line (after e m)) tei) is placed
  has-place line T201 placed is = none-some (line_slot false line) (sym is)
  has-place line T202 placed is = none-some (line_slot true line) (sym is)

  -- where the TEI of a link is at its place, a timer of the link has its own
  at-link : (line number tei : ℕ) (k : LinkTimer) → line < h.lines → number < 2 * h.terminals → IsOnAmid e m line (place_at number) tei → Own (slot line number k) line (timer_of k (service_at number) tei)
  at-link line number tei k within number_there on = record {
    its = its_place h.lines (2 * h.terminals) slot line_slot (IsOnAmid e m) h.moments amid.places lines-apart line number tei k within number_there on;
    holds = λ moment. holds_started h.lines (2 * h.terminals) slot line_slot (IsOnAmid e m) h.moments amid.places line number tei moment k within number_there on;
  }

  -- it is started there
  started-at : (line : ℕ) (timer : Timer) (i moment : ℕ) (es : List Expiry) → Own i line timer → moment ≡ h.now + duration h.lengths timer → moment < never → es ≡ with_timer i timer moment h.moments
      → AreAt (IsOnAmid e m) (record h { moments = es }) m (obey line c (Start timer))
  started-at line timer i moment es o at soon new =
      let moment_is : c.now + duration c.lengths timer ≡ moment = ap (λ n. n + duration c.lengths timer) amid.now ∙ ap (λ l. h.now + duration l timer) amid.lengths ∙ sym at in
      record {
        lines = amid.lines;
        terminals = amid.terminals;
        now = amid.now;
        lengths = amid.lengths;
        running =
            ap (λ n. with_expiry (record { moment = n; line = line; timer = timer }) (without line timer c.running)) moment_is
            ∙ ap (λ rs. with_expiry (record { moment = moment; line = line; timer = timer }) (without line timer rs)) amid.running
            ∙ started_in_place h.moments i line timer moment o.its soon ∙ ap timers_in (sym new);
        places = subst (Holds h.lines (2 * h.terminals) slot line_slot (IsOnAmid e m)) (sym new) (o.holds moment);
        within_hour = hour-obeyed line (Start timer) c amid.within_hour;
      }

  pub carried-start : (line : ℕ) → line < h.lines → (timer : Timer) (i moment : ℕ) (es : List Expiry) → own_place h.terminals line timer (line_at line (after e m)) ≡ Some i
      → moment ≡ h.now + duration h.lengths timer → moment < never → es ≡ with_timer i timer moment h.moments
      → AreAt (IsOnAmid e m) (record h { moments = es }) m (obey line c (Start timer))
  carried-start line within timer i moment es is at soon new = started-at line timer i moment es (own line within timer i is) at soon new

  -- or where it runs
  pub carried-restart : (line : ℕ) → (timer : Timer) (moment : ℕ) (es : List Expiry) → IsRestarted line timer moment h.moments es
      → moment ≡ h.now + duration h.lengths timer → moment < never → AreAt (IsOnAmid e m) (record h { moments = es }) m (obey line c (Start timer))
  carried-restart line timer moment es again at soon =
      let its : IsItsPlace again.place line timer h.moments =
      found_place h.lines (2 * h.terminals) slot line_slot (IsOnAmid e m) h.moments amid.places lines-apart again.place line timer again.runs in
      let moment_is : c.now + duration c.lengths timer ≡ moment = ap (λ n. n + duration c.lengths timer) amid.now ∙ ap (λ l. h.now + duration l timer) amid.lengths ∙ sym at in
      record {
        lines = amid.lines;
        terminals = amid.terminals;
        now = amid.now;
        lengths = amid.lengths;
        running =
            ap (λ n. with_expiry (record { moment = n; line = line; timer = timer }) (without line timer c.running)) moment_is
            ∙ ap (λ rs. with_expiry (record { moment = moment; line = line; timer = timer }) (without line timer rs)) amid.running
            ∙ started_in_place h.moments again.place line timer moment its soon ∙ ap timers_in (sym again.is);
        places = subst (Holds h.lines (2 * h.terminals) slot line_slot (IsOnAmid e m)) (sym again.is)
            (holds_restarted h.lines (2 * h.terminals) slot line_slot (IsOnAmid e m) h.moments amid.places again.place line timer moment again.runs);
        within_hour = hour-obeyed line (Start timer) c amid.within_hour;
      }

  -- and one that is stopped is stopped where it runs
  stopped-at : (line : ℕ) (timer : Timer) (i : ℕ) (es : List Expiry) → IsItsPlace i line timer h.moments → es ≡ without_timer i h.moments
      → AreAt (IsOnAmid e m) (record h { moments = es }) m (obey line c (Stop timer))
  stopped-at line timer i es its new = record {
    lines = amid.lines;
    terminals = amid.terminals;
    now = amid.now;
    lengths = amid.lengths;
    running = ap (without line timer) amid.running ∙ stopped_in_place h.moments i line timer its ∙ ap timers_in (sym new);
    places = subst (Holds h.lines (2 * h.terminals) slot line_slot (IsOnAmid e m)) (sym new)
        (holds_stopped h.lines (2 * h.terminals) slot line_slot (IsOnAmid e m) h.moments amid.places i its.within);
    within_hour = hour-obeyed line (Stop timer) c amid.within_hour;
  }

  pub carried-stop : (line : ℕ) → line < h.lines → (timer : Timer) (i : ℕ) (es : List Expiry)
      → IsOwnOrFound (Some i) (own_place h.terminals line timer (line_at line (after e m))) line timer h.moments → es ≡ without_timer i h.moments
      → AreAt (IsOnAmid e m) (record h { moments = es }) m (obey line c (Stop timer))
  carried-stop line within timer i es found new = go (own_place h.terminals line timer (line_at line (after e m))) refl found
    where
      go : (o : Option ℕ) → own_place h.terminals line timer (line_at line (after e m)) ≡ o → IsOwnOrFound (Some i) o line timer h.moments
          → AreAt (IsOnAmid e m) (record h { moments = es }) m (obey line c (Stop timer))
      go (Some j) is same = stopped-at line timer i es (own line within timer i (is ∙ sym same)).its new
      go None is at = stopped-at line timer i es (found_place h.lines (2 * h.terminals) slot line_slot (IsOnAmid e m) h.moments amid.places lines-apart i line timer at) new

  pub carried-nowhere : (line : ℕ) (timer : Timer) → IsOwnOrFound None (own_place h.terminals line timer (line_at line (after e m))) line timer h.moments
      → AreAt (IsOnAmid e m) h m (obey line c (Stop timer))
  carried-nowhere line timer found = go (own_place h.terminals line timer (line_at line (after e m))) refl found
    where
      go : (o : Option ℕ) → own_place h.terminals line timer (line_at line (after e m)) ≡ o → IsOwnOrFound None o line timer h.moments → AreAt (IsOnAmid e m) h m (obey line c (Stop timer))
      go (Some j) is same = absurd (none-some j same)
      go None is nowhere = record {
        lines = amid.lines;
        terminals = amid.terminals;
        now = amid.now;
        lengths = amid.lengths;
        running = ap (without line timer) amid.running ∙ stopped_nowhere h.moments line timer nowhere;
        places = amid.places;
        within_hour = hour-obeyed line (Stop timer) c amid.within_hour;
      }

-- T200 and T203 of a link take turns, in the places that they have beside each other.
module _ (m : Card) (e : Event) (reached : IsReached m) (here : e.line < m.config.lines) (h : HeldTimers) (c : Clock) (amid : AreAt (IsOnAmid e m) h m c) (line tei : ℕ) (service : Service) (moment : ℕ) (es : List Expiry) where
  abbrev links : ℕ
  links = 2 * h.terminals

  abbrev its_slot : ℕ → ℕ → LinkTimer → ℕ
  its_slot = slot_of h.terminals

  abbrev its_line_slot : Bool → ℕ → ℕ
  its_line_slot = line_slot_of h.terminals

  are-apart : AreApart h.lines (IsOnAmid e m)
  are-apart = lines-apart m e reached here h c amid

  pub sends : IsExchanged line (T203 service tei) (T200 service tei) false moment h.moments es → moment ≡ h.now + duration h.lengths (T200 service tei) → moment < never
      → AreAt (IsOnAmid e m) (record h { moments = es }) m (obey line (obey line c (Start (T200 service tei))) (Stop (T203 service tei)))
  sends x at soon =
      let r = link_running h.lines links its_slot its_line_slot (IsOnAmid e m) h.moments amid.places are-apart x.place line tei link.T203 service x.runs in
      let beside_is : its_slot line r.number link.T200 ≡ x.beside = omega (arith, x.are_beside, r.is) in
      let own : Own m e reached here h c amid x.beside line (T200 service tei) =
      subst (λ i. Own m e reached here h c amid i line (T200 service tei)) beside_is
      (subst (λ s. Own m e reached here h c amid (its_slot line r.number link.T200) line (T200 s tei)) r.service_is (at-link m e reached here h c amid line r.number tei link.T200 r.line_there r.number_there r.on_line)) in
      let started = started-at m e reached here h c amid line (T200 service tei) x.beside moment (with_timer x.beside (T200 service tei) moment h.moments) own at soon refl in
      let apart_is : x.place ≢ x.beside = λ same. absurd (omega (arith, same, x.are_beside)) in
      let runs = runs_still h.moments x.beside x.place line (T203 service tei) _ apart_is x.runs in
      stopped-at m e reached here (record h { moments = with_timer x.beside (T200 service tei) moment h.moments }) (obey line c (Start (T200 service tei))) started line (T203 service tei) x.place es
      (found_place h.lines links its_slot its_line_slot (IsOnAmid e m) (with_timer x.beside (T200 service tei) moment h.moments) started.places are-apart x.place line (T203 service tei) runs) x.is

  pub rests : IsExchanged line (T200 service tei) (T203 service tei) true moment h.moments es → moment ≡ h.now + duration h.lengths (T203 service tei) → moment < never
      → AreAt (IsOnAmid e m) (record h { moments = es }) m (obey line (obey line c (Stop (T200 service tei))) (Start (T203 service tei)))
  rests x at soon =
      let r = link_running h.lines links its_slot its_line_slot (IsOnAmid e m) h.moments amid.places are-apart x.place line tei link.T200 service x.runs in
      let beside_is : its_slot line r.number link.T203 ≡ x.beside = omega (arith, x.are_beside, r.is) in
      let left = without_timer x.place h.moments in
      let stopped = stopped-at m e reached here h c amid line (T200 service tei) x.place left
      (found_place h.lines links its_slot its_line_slot (IsOnAmid e m) h.moments amid.places are-apart x.place line (T200 service tei) x.runs) refl in
      let then = obey line c (Stop (T200 service tei)) in
      let own : Own m e reached here (record h { moments = left }) then stopped x.beside line (T203 service tei) =
      subst (λ i. Own m e reached here (record h { moments = left }) then stopped i line (T203 service tei)) beside_is
      (subst (λ s. Own m e reached here (record h { moments = left }) then stopped (its_slot line r.number link.T203) line (T203 s tei)) r.service_is
      (at-link m e reached here (record h { moments = left }) then stopped line r.number tei link.T203 r.line_there r.number_there r.on_line)) in
      started-at m e reached here (record h { moments = left }) then stopped line (T203 service tei) x.beside moment es own at soon
      (x.is ∙ either_first h.moments x.place x.beside moment (T203 service tei) (λ same. absurd (omega (arith, same, x.are_beside))))
