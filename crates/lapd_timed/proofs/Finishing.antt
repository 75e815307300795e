-- An event with its orders: how they begin to be carried out, and what stands when all are.
use Rattle.std.proofs.Common.{◌≡◌, inl, inr, ℕ, ◌*◌, ◌<◌, true, Option, Some, None, refl, sym, ap, ◌∙◌, subst}
use Rattle.std.proofs.lemmas.Bool.{false≢true}
use Rattle.lapd_clock.specs.Firsts.{never}
use Rattle.lapd_clock.specs.Timers.{is_held}
use Rattle.lapd_frame.specs.declared.services.Service.{Service}
use Rattle.lapd_timed.specs.OfCard.{slot_of, line_slot_of, timer_of}
use Rattle.lapd_clock.specs.OwnPlaces.{is_running, timers_in, at}
use Rattle.lapd_clock.proofs.OwnPlace.{runs-held}
use Rattle.lapd_clock.proofs.Again.{itself}
use Rattle.lapd_timed.proofs.OfCard.{holds_moved}
use Rattle.lapd_clock.proofs.Standing.{runs}
use Rattle.model_teis.proofs.Tables.{place_of-is}
use Rattle.model_card.specs.Card.{Card, line_at}
use Rattle.model_card.specs.Event.{Event}
use Rattle.model_card.specs.Machine.{after}
use Rattle.model_card.proofs.Reaching.{reached-sound, reached-after}
use Rattle.model_line.specs.Expiry as line
use Rattle.model_line.specs.Line.{Line, place_at, service_at, place_in}
use Rattle.model_link.specs.declared.timers.LinkTimer.{LinkTimer}
use Rattle.model_link.specs.declared.timers.LinkTimer.TheVariants as link
use Rattle.model_timed.specs.Clock.{Clock, obeyed}
use Rattle.model_timed.specs.Frames.{orders_at}
use Rattle.model_timed.specs.RunTheSame.{RunAs, left_by, as_they_are}
use Rattle.model_timed.proofs.Running.{run-on, timed-reached}
use Rattle.lapd_timed.specs.Stands.{IsOn, IsOnAmid, HeldTimers, AreAt, AreKept}
use Rattle.lapd_timed.proofs.Carrying.{apart}

-- a timer of a link that runs at its line is of a TEI that is on it
placed-at : (service : Service) (k : LinkTimer) (o : Option ℕ) (l : Line) → line.runs_at service k o l ≡ true → (p : ℕ) × (o ≡ Some p)
placed-at service k None l run = absurd (false≢true run)
placed-at service k (Some p) l run = (p, refl)

runs-placed : (k : LinkTimer) (service : Service) (tei : ℕ) (l : Line) → line.is_running (timer_of k service tei) l ≡ true → (p : ℕ) × (place_in l tei ≡ Some p)
runs-placed link.T200 service tei l run = placed-at service link.T200 (place_in l tei) l run
runs-placed link.T203 service tei l run = placed-at service link.T203 (place_in l tei) l run

module _ (m : Card) (e : Event) (here : e.line < m.config.lines) (h : HeldTimers) (c : Clock) (kept : AreKept (left_by e) h m c) where
  pub begins : AreAt (IsOnAmid e m) h m c
  begins = record {
    lines = kept.clock_is.lines;
    terminals = kept.clock_is.terminals;
    now = kept.clock_is.now;
    lengths = kept.clock_is.lengths;
    running = kept.clock_is.running;
    places = holds_moved h.lines (2 * h.terminals) (slot_of h.terminals) (line_slot_of h.terminals) (IsOn m) h.moments kept.clock_is.places (IsOnAmid e m)
        (λ line number tei k there within soon line_is timer_is on. inl on);
    within_hour = kept.clock_is.within_hour;
  }

  -- the same timers run then at the clock and at the lines
  run-then : RunAs as_they_are (after e m) (obeyed e.line (orders_at e m) c)
  run-then = run-on m e (reached-sound m kept.reached) here (timed-reached m kept.reached) c kept.same

  module _ (new : HeldTimers) (amid : AreAt (IsOnAmid e m) new m (obeyed e.line (orders_at e m) c)) where
    stays : (line number tei : ℕ) (k : LinkTimer) → line < new.lines → number < 2 * new.terminals → (at (slot_of new.terminals line number k) new.moments).moment < never
        → (at (slot_of new.terminals line number k) new.moments).line ≡ line → (at (slot_of new.terminals line number k) new.moments).timer ≡ timer_of k (service_at number) tei
        → IsOnAmid e m line (place_at number) tei → IsOn (after e m) line (place_at number) tei
    stays line number tei k there within soon line_is timer_is on =
        let i = slot_of new.terminals line number k in
        let timer = timer_of k (service_at number) tei in
        let of_card : line < m.config.lines = subst (λ n. line < n) (sym amid.lines) there in
        let held : is_held line timer (timers_in new.moments) ≡ true =
        runs-held line timer new.moments i (record { within = amid.places.layout.slot_there line number k there within; runs = soon; its = itself (at i new.moments) line timer line_is timer_is }) in
        let p = runs-placed k (service_at number) tei (line_at line (after e m)) (sym (run-then line timer of_card) ∙ ap (is_held line timer) amid.running ∙ held) in
        let at_p : IsOn (after e m) line p.0 tei = (place_of-is (line_at line (after e m)).management.places tei p.0 p.1).1 in
        let same : p.0 ≡ place_at number = (apart m e kept.reached here).once line p.0 (place_at number) tei of_card (inr at_p) on in
        subst (λ n. IsOn (after e m) line n tei) same at_p

    pub finished : AreKept as_they_are new (after e m) (obeyed e.line (orders_at e m) c)
    finished = record {
      reached = reached-after m e kept.reached here;
      clock_is = record {
        lines = amid.lines;
        terminals = amid.terminals;
        now = amid.now;
        lengths = amid.lengths;
        running = amid.running;
        places = holds_moved new.lines (2 * new.terminals) (slot_of new.terminals) (line_slot_of new.terminals) (IsOnAmid e m) new.moments amid.places (IsOn (after e m)) stays;
        within_hour = amid.within_hour;
      };
      same = run-then;
    }
