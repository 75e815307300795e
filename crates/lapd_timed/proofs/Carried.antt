-- What carrying out an order comes to, of every event that led the card to where it is.
use Rattle.std.proofs.Common.{arith, ◌≡◌, true, false, ℕ, ◌+◌, ◌^◌, ◌<◌, ◌≤◌, List, [], ◌∷◌, length, get_or, Some, None, option_map, refl, sym, ap, ◌∙◌, subst}
use Rattle.std.specs.List.{AllByRecursion}
use Rattle.lapd_card.specs.FrameCard.{Held}
use Rattle.lapd_card.specs.FrameStands.{FrameStands}
use Rattle.lapd_clock.specs.Timer.{Timer, T200, T203, Order, Start, Stop, duration}
use Rattle.lapd_clock.specs.Timers.{Expiry}
use Rattle.lapd_timed.specs.OfCard.{slot_of}
use Rattle.lapd_clock.specs.OwnPlaces.{with_timer, without_timer, IsExchanged, IsRestarted}
use Rattle.lapd_frame.specs.declared.services.Service.{Service}
use Rattle.lapd_store.specs.Store.{Store}
use Rattle.model_card.specs.Card.{Card, line_at}
use Rattle.model_card.specs.Event.{Event}
use Rattle.model_card.specs.Machine.{after}
use Rattle.model_card.specs.Reached.{IsReached}
use Rattle.model_card.proofs.Reaching.{reached-sound}
use Rattle.model_line.specs.Runs.{IsPlaced}
use Rattle.model_link.specs.declared.timers.LinkTimer.{LinkTimer}
use Rattle.model_link.specs.declared.timers.LinkTimer.TheVariants as link
use Rattle.model_timed.specs.Clock.{Clock, obey, obeyed}
use Rattle.model_timed.specs.Frames.{orders_at}
use Rattle.model_timed.specs.RunTheSame.{left_by, as_they_are}
use Rattle.model_timed.proofs.Running.{are-placed}
use Rattle.lapd_timed.specs.Places.{own_place, link_on, slot_at, IsOwnOrFound}
use Rattle.lapd_timed.specs.Stands.{IsOnAmid, HeldTimers, AreAt, AreKept, HasLedTo}
use Rattle.lapd_timed.proofs.Carrying.{sends, rests, has-place, carried-restart, carried-start, carried-stop, carried-nowhere}
use Rattle.lapd_timed.proofs.Finishing.{begins, finished}
use Rattle.lapd_timed.proofs.Calls.{all-at}

-- the only one of a list
pub only-one : (orders : List Order) (d o : Order) → length orders ≡ 1 → get_or orders 0 d ≡ o → orders ≡ o ∷ []
only-one [] d o one is = absurd (omega (arith, one))
only-one (x ∷ []) d o one is = ap (λ y. y ∷ []) is
only-one (x ∷ y ∷ orders) d o one is = absurd (omega (arith, one))

-- Orders at a line have been carried out, of each event of which they are the orders.
abbrev pub IsCarriedOut : HeldTimers → ℕ → List Order → HeldTimers → Type 0
IsCarriedOut h line orders new = (e : Event) (m : Card) (c : Clock) → e.line ≡ line → line < m.config.lines → orders ≡ orders_at e m → AreKept (left_by e) h m c → AreKept as_they_are new (after e m) (obeyed line orders c)

carried-alone : (h : HeldTimers) (line : ℕ) (orders : List Order) (new : HeldTimers)
    → ((e : Event) (m : Card) (c : Clock) → IsReached m → e.line < m.config.lines → AreAt (IsOnAmid e m) h m c → AreAt (IsOnAmid e m) new m (obeyed line orders c)) → IsCarriedOut h line orders new
carried-alone h line orders new does e m c line_is line_there is kept =
    let here : e.line < m.config.lines = subst (λ n. n < m.config.lines) (sym line_is) line_there in
    let same : obeyed line orders c ≡ obeyed e.line (orders_at e m) c = ap (λ n. obeyed n orders c) (sym line_is) ∙ ap (λ os. obeyed e.line os c) is in
    subst (AreKept as_they_are new (after e m)) (sym same)
    (finished m e here h c kept new (subst (AreAt (IsOnAmid e m) new m) same (does e m c kept.reached here (begins m e here h c kept))))

-- Where one order alone starts a timer anew at the place at which it runs, it has been carried out.
pub restarted-alone : (h : HeldTimers) (line : ℕ) (timer : Timer) (d : ℕ) (es : List Expiry) → IsRestarted line timer (h.now + d) h.moments es → d ≡ duration h.lengths timer → h.now < 2 ^ 63 → d ≤ 3600000
    → (orders : List Order) → orders ≡ Start timer ∷ [] → IsCarriedOut h line orders (record h { moments = es })
restarted-alone h line timer d es again d_is now most orders alone =
    carried-alone h line orders (record h { moments = es }) (λ e m c reached here amid.
    subst (λ os. AreAt (IsOnAmid e m) (record h { moments = es }) m (obeyed line os c)) (sym alone)
    (carried-restart m e reached here h c amid line timer (h.now + d) es again (ap (λ n. h.now + n) d_is) (omega (arith, now, most))))

-- So where they have a link's T200 and T203 take turns.
pub sends-alone : (h : HeldTimers) (line tei : ℕ) (service : Service) (d : ℕ) (es : List Expiry) → IsExchanged line (T203 service tei) (T200 service tei) false (h.now + d) h.moments es → d ≡ duration h.lengths (T200 service tei)
    → h.now < 2 ^ 63 → d ≤ 3600000 → (orders : List Order) → orders ≡ Start (T200 service tei) ∷ Stop (T203 service tei) ∷ [] → IsCarriedOut h line orders (record h { moments = es })
sends-alone h line tei service d es x d_is now most orders alone =
    carried-alone h line orders (record h { moments = es }) (λ e m c reached here amid.
    subst (λ os. AreAt (IsOnAmid e m) (record h { moments = es }) m (obeyed line os c)) (sym alone)
    (sends m e reached here h c amid line tei service (h.now + d) es x (ap (λ n. h.now + n) d_is) (omega (arith, now, most))))

pub rests-alone : (h : HeldTimers) (line tei : ℕ) (service : Service) (d : ℕ) (es : List Expiry) → IsExchanged line (T200 service tei) (T203 service tei) true (h.now + d) h.moments es → d ≡ duration h.lengths (T203 service tei)
    → h.now < 2 ^ 63 → d ≤ 3600000 → (orders : List Order) → orders ≡ Stop (T200 service tei) ∷ Start (T203 service tei) ∷ [] → IsCarriedOut h line orders (record h { moments = es })
rests-alone h line tei service d es x d_is now most orders alone =
    carried-alone h line orders (record h { moments = es }) (λ e m c reached here amid.
    subst (λ os. AreAt (IsOnAmid e m) (record h { moments = es }) m (obeyed line os c)) (sym alone)
    (rests m e reached here h c amid line tei service (h.now + d) es x (ap (λ n. h.now + n) d_is) (omega (arith, now, most))))

module _ {S : Type 0} (store : S → Store) (card : Held S) (h : HeldTimers) (line : ℕ) (within : line < h.lines) where
  at-line : (e : Event) (m : Card) → HasLedTo store card line e m → e.line < m.config.lines
  at-line e m led = subst (λ n. n < m.config.lines) (sym led.line_is) led.line_there

  -- what holds of each machine for which the card stands, and that has as many terminals
  abbrev pub OfMachine : (Card → Type 0) → Type 0
  OfMachine P = (m : Card) → FrameStands store card m → m.config.terminals ≡ h.terminals → P m

  abbrev pub IsDone : Order → HeldTimers → Type 0
  IsDone order new = (e : Event) (m : Card) (c : Clock) → IsReached m → HasLedTo store card line e m → IsPlaced (line_at line (after e m)) order
      → AreAt (IsOnAmid e m) h m c → AreAt (IsOnAmid e m) new m (obey line c order)

  pub start-done : (timer : Timer) (i d : ℕ) (es : List Expiry) → OfMachine (λ m. Some i ≡ own_place h.terminals line timer (line_at line m)) → d ≡ duration h.lengths timer
      → h.now < 2 ^ 63 → d ≤ 3600000 → es ≡ with_timer i timer (h.now + d) h.moments → IsDone (Start timer) (record h { moments = es })
  start-done timer i d es is d_is now most new = λ e m c reached led placed amid.
      carried-start m e reached (at-line e m led) h c amid line within timer i (h.now + d) es (sym (is (after e m) led.stands amid.terminals)) (ap (λ n. h.now + n) d_is)
      (omega (arith, now, most)) new

  pub restart-done : (timer : Timer) (d : ℕ) (es : List Expiry) → IsRestarted line timer (h.now + d) h.moments es → d ≡ duration h.lengths timer
      → h.now < 2 ^ 63 → d ≤ 3600000 → IsDone (Start timer) (record h { moments = es })
  restart-done timer d es again d_is now most = λ e m c reached led placed amid.
      carried-restart m e reached (at-line e m led) h c amid line timer (h.now + d) es again (ap (λ n. h.now + n) d_is) (omega (arith, now, most))

  pub start-nowhere : (timer : Timer) → OfMachine (λ m. None ≡ own_place h.terminals line timer (line_at line m)) → IsDone (Start timer) h
  start-nowhere timer is = λ e m c reached led placed amid.
      absurd (has-place m e reached (at-line e m led) h c amid line timer placed (sym (is (after e m) led.stands amid.terminals)))

  pub stop-done : (timer : Timer) (i : ℕ) (es : List Expiry) → OfMachine (λ m. IsOwnOrFound (Some i) (own_place h.terminals line timer (line_at line m)) line timer h.moments)
      → es ≡ without_timer i h.moments → IsDone (Stop timer) (record h { moments = es })
  stop-done timer i es is new = λ e m c reached led placed amid.
      carried-stop m e reached (at-line e m led) h c amid line within timer i es (is (after e m) led.stands amid.terminals) new

  pub stop-nowhere : (timer : Timer) → OfMachine (λ m. IsOwnOrFound None (own_place h.terminals line timer (line_at line m)) line timer h.moments) → IsDone (Stop timer) h
  stop-nowhere timer is = λ e m c reached led placed amid.
      carried-nowhere m e reached (at-line e m led) h c amid line timer (is (after e m) led.stands amid.terminals)

  pub after-all : (e : Event) (m : Card) (c : Clock) (orders : List Order) (new : HeldTimers) → HasLedTo store card line e m → orders ≡ orders_at e m → AreKept (left_by e) h m c
      → AreAt (IsOnAmid e m) new m (obeyed line orders c) → AreKept as_they_are new (after e m) (obeyed line orders c)
  after-all e m c orders new led is kept amid =
      let same : obeyed line orders c ≡ obeyed e.line (orders_at e m) c = ap (λ n. obeyed n orders c) (sym led.line_is) ∙ ap (λ os. obeyed e.line os c) is in
      subst (AreKept as_they_are new (after e m)) (sym same)
      (finished m e (at-line e m led) h c kept new (subst (AreAt (IsOnAmid e m) new m) same amid))

  -- Two orders by which a link's T200 and T203 take turns.
  abbrev slot : ℕ → LinkTimer → ℕ
  slot number k = slot_of h.terminals line number k

  abbrev pub AreDone : List Order → HeldTimers → Type 0
  AreDone orders new = (e : Event) (m : Card) (c : Clock) → HasLedTo store card line e m → orders ≡ orders_at e m → AreKept (left_by e) h m c → AreKept as_they_are new (after e m) (obeyed line orders c)

  module _ (number tei : ℕ) (service : Service) (linked : OfMachine (λ m. Some number ≡ link_on service tei (line_at line m))) (d : ℕ) (now : h.now < 2 ^ 63) (most : d ≤ 3600000) (es : List Expiry) (orders : List Order) where
    pub sends-done : d ≡ duration h.lengths (T200 service tei) → es ≡ without_timer (slot number link.T203) (with_timer (slot number link.T200) (T200 service tei) (h.now + d) h.moments)
        → orders ≡ Start (T200 service tei) ∷ Stop (T203 service tei) ∷ [] → AreDone orders (record h { moments = es })
    sends-done d_is new alone = λ e m c led is kept.
        let amid = begins m e (at-line e m led) h c kept in
        let on : Some number ≡ link_on service tei (line_at line (after e m)) = linked (after e m) led.stands amid.terminals in
        let first = with_timer (slot number link.T200) (T200 service tei) (h.now + d) h.moments in
        let one = carried-start m e kept.reached (at-line e m led) h c amid line within (T200 service tei) (slot number link.T200) (h.now + d) first
        (sym (ap (option_map (slot_at h.terminals line link.T200)) on)) (ap (λ n. h.now + n) d_is) (omega (arith, now, most)) refl in
        let both = carried-stop m e kept.reached (at-line e m led) (record h { moments = first }) (obey line c (Start (T200 service tei))) one line within (T203 service tei) (slot number link.T203) es
        (subst (λ o. IsOwnOrFound (Some (slot number link.T203)) o line (T203 service tei) first) (ap (option_map (slot_at h.terminals line link.T203)) on) refl) new in
        after-all e m c orders (record h { moments = es }) led is kept (subst (λ os. AreAt (IsOnAmid e m) (record h { moments = es }) m (obeyed line os c)) (sym alone) both)

    pub rests-done : d ≡ duration h.lengths (T203 service tei) → es ≡ with_timer (slot number link.T203) (T203 service tei) (h.now + d) (without_timer (slot number link.T200) h.moments)
        → orders ≡ Stop (T200 service tei) ∷ Start (T203 service tei) ∷ [] → AreDone orders (record h { moments = es })
    rests-done d_is new alone = λ e m c led is kept.
        let amid = begins m e (at-line e m led) h c kept in
        let on : Some number ≡ link_on service tei (line_at line (after e m)) = linked (after e m) led.stands amid.terminals in
        let first = without_timer (slot number link.T200) h.moments in
        let one = carried-stop m e kept.reached (at-line e m led) h c amid line within (T200 service tei) (slot number link.T200) first
        (subst (λ o. IsOwnOrFound (Some (slot number link.T200)) o line (T200 service tei) h.moments) (ap (option_map (slot_at h.terminals line link.T200)) on) refl) refl in
        let both = carried-start m e kept.reached (at-line e m led) (record h { moments = first }) (obey line c (Stop (T200 service tei))) one line within (T203 service tei) (slot number link.T203) (h.now + d) es
        (sym (ap (option_map (slot_at h.terminals line link.T203)) on)) (ap (λ n. h.now + n) d_is) (omega (arith, now, most)) new in
        after-all e m c orders (record h { moments = es }) led is kept (subst (λ os. AreAt (IsOnAmid e m) (record h { moments = es }) m (obeyed line os c)) (sym alone) both)

  -- The orders of an event, from the first to the last.
  pub before-all : (e : Event) (m : Card) (c : Clock) → HasLedTo store card line e m → AreKept (left_by e) h m c → AreAt (IsOnAmid e m) h m c
  before-all e m c led kept = begins m e (at-line e m led) h c kept

  pub order-placed : (e : Event) (m : Card) (c : Clock) (orders : List Order) (i : ℕ) (d o : Order) → HasLedTo store card line e m → orders ≡ orders_at e m → AreKept (left_by e) h m c
      → i < length orders → get_or orders i d ≡ o → IsPlaced (line_at line (after e m)) o
  order-placed e m c orders i d o led is kept there at_it =
      all-at (IsPlaced (line_at line (after e m))) orders i d o
      (subst (λ os. AllByRecursion (IsPlaced (line_at line (after e m))) os) (sym is)
      (subst (λ n. AllByRecursion (IsPlaced (line_at n (after e m))) (orders_at e m)) led.line_is (are-placed m e (reached-sound m kept.reached) (at-line e m led)))) there at_it
