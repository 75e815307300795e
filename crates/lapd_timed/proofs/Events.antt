-- What an event of a card comes to, of either kind, once its orders have been carried out.
use Rattle.std.proofs.Common.{arith, ◌≡◌, ℕ, ◌<◌, Bool, List, [], ◌∷◌, length, Option, Some, None, refl, sym, ap, ◌∙◌, subst}
use Rattle.lapd_card.specs.FrameCard.{Held}
use Rattle.lapd_card.specs.FrameStands.{FrameStands}
use Rattle.lapd_card.specs.Kinds.{shelf_of}
use Rattle.lapd_clock.specs.Timer.{Timer, Order}
use Rattle.lapd_store.specs.Store.{Store}
use Rattle.model_card.specs.Card.{Card, line_at}
use Rattle.model_card.specs.Event.{Event}
use Rattle.model_card.specs.Machine.{after}
use Rattle.model_card.specs.ports.Card as ports
use Rattle.model_card.specs.ports.Card.{OctetCard}
use Rattle.model_card.specs.ports.Event as octet
use Rattle.model_line.specs.Event as line_event
use Rattle.model_line.specs.Expiry.{is_running}
use Rattle.model_timed.specs.Clock.{Clock, obeyed}
use Rattle.model_timed.specs.Frames.{orders_at, IsNoExpiry}
use Rattle.model_timed.specs.Octets as octets
use Rattle.model_timed.specs.RunTheSame.{left_at}
use Rattle.model_timed.proofs.OctetsRun.{OctetsMean, octets-mean}
use Rattle.lapd_timed.specs.Carried.{AreCarriedOut, AreNoted}
use Rattle.lapd_timed.specs.Stands.{held, AreAt, AreLeftIn, IsOnAmid, TimersStand, TimersStandIn}
use Rattle.lapd_timed.specs.declared.card_timers.CardTimers.{CardTimers}
use Rattle.lapd_timed.proofs.Finishing.{begins, finished}

pub no-orders : (orders : List Order) → length orders ≡ 0 → orders ≡ []
no-orders [] none = refl
no-orders (order ∷ orders) none = absurd (omega (arith, none))

-- Where nothing is ordered, all timers stay.
nothing-done : (timers : Option CardTimers) (e : Event) (m : Card) (c : Clock) → e.line < m.config.lines → [] ≡ orders_at e m → AreLeftIn e timers m c → TimersStandIn timers (after e m) c
nothing-done None e m c here is left = absurd left
nothing-done (Some t) e m c here is left =
    let none = subst (λ (os : List Order). AreAt (IsOnAmid e m) (held t) m (obeyed e.line os c)) is (begins m e here (held t) c left) in
    subst (λ (os : List Order). TimersStand t (after e m) (obeyed e.line os c)) (sym is) (finished m e here (held t) c left (held t) none)

pub nothing-ordered : (card : Held Store) (line : ℕ) (timers : Option CardTimers) → AreCarriedOut card line [] timers timers
nothing-ordered card line timers = record {
  there = refl;
  after = λ e m c led is left. nothing-done timers e m c (subst (λ n. n < m.config.lines) (sym led.line_is) led.line_there) is left;
}

-- What has been carried out has been where links are noted, too.
pub carried-too : (card of : Held Store) (line tei : ℕ) (orders : List Order) (old mid new : Option CardTimers) → AreCarriedOut card line orders old mid → AreNoted of line tei mid new → AreCarriedOut card line orders old new
carried-too card of line tei orders old mid new carried are_noted = record {
  there = are_noted.there ∙ carried.there;
  after = λ e m c led is left. are_noted.stand (after e m) (obeyed line orders c) (carried.after e m c led is left);
}

-- What may happen leaves all timers.
none-expires : (what : line_event.Event) → IsNoExpiry what → (number line : ℕ) (timer : Timer) (b : Bool) → left_at what number line timer b ≡ b
none-expires (line_event.expiry expired) may number line timer b = absurd may
none-expires (line_event.hears h) may number line timer b = refl
none-expires (line_event.request r) may number line timer b = refl
none-expires line_event.next may number line timer b = refl

pub all-left : (e : Event) → IsNoExpiry e.what → (timers : Option CardTimers) (m : Card) (c : Clock) → TimersStandIn timers m c → AreLeftIn e timers m c
all-left e may None m c k = absurd k
all-left e may (Some timers) m c k = record {
  reached = k.reached;
  clock_is = k.clock_is;
  same = λ l timer within. k.same l timer within ∙ sym (none-expires e.what may e.line l timer (is_running timer (line_at l m)));
}

-- An event of octets does to the timers what the event of frames does that it means.
pub meant-so : (e : octet.Event) (f : Event) (m : OctetCard) (c : Clock) (new : Option CardTimers) → OctetsMean e m (Some f) → TimersStandIn new (after f m.card) (obeyed f.line (orders_at f m.card) c)
    → TimersStandIn new (ports.after e m).card (obeyed e.line (octets.orders_at e m) c)
meant-so e f m c new means k =
    subst (λ os. TimersStandIn new (ports.after e m).card (obeyed e.line os c)) (sym means.1)
    (subst (λ (x : Card). TimersStandIn new x (obeyed e.line (orders_at f m.card) c)) (sym means.2)
    (subst (λ n. TimersStandIn new (after f m.card) (obeyed n (orders_at f m.card) c)) means.0 k))

module _ (card : Held Store) (line : ℕ) (orders : List Order) (old new : Option CardTimers) (carried : AreCarriedOut card line orders old new) where
  pub frames-done : (e : Event) → e.line ≡ line → (m : Card) (c : Clock) → line < m.config.lines → FrameStands shelf_of card (after e m) → orders ≡ orders_at e m → AreLeftIn e old m c
      → TimersStandIn new (after e m) (obeyed e.line (orders_at e m) c)
  frames-done e at_line m c there stands is left =
      subst (λ (k : Clock). TimersStandIn new (after e m) k) (ap (λ os. obeyed line os c) is ∙ ap (λ n. obeyed n (orders_at e m) c) (sym at_line))
      (carried.after e m c (record { line_is = at_line; line_there = there; stands = stands }) is left)

  pub octets-done : (e : octet.Event) → e.line ≡ line → octets.IsNoExpiry e.what → (m : OctetCard) (c : Clock) → line < m.card.config.lines → FrameStands shelf_of card (ports.after e m).card
      → orders ≡ octets.orders_at e m → (orders ≡ [] → TimersStandIn new m.card c) → TimersStandIn old m.card c → TimersStandIn new (ports.after e m).card (obeyed e.line (octets.orders_at e m) c)
  octets-done e at_line may m c there stands is none k = go (ports.meant e m) (octets-mean e m)
    where
      go : (o : Option Event) → OctetsMean e m o → TimersStandIn new (ports.after e m).card (obeyed e.line (octets.orders_at e m) c)
      go None means =
          subst (λ os. TimersStandIn new (ports.after e m).card (obeyed e.line os c)) (sym means.0)
          (subst (λ (x : Card). TimersStandIn new x c) (sym means.1) (none (is ∙ means.0)))
      go (Some f) means =
          meant-so e f m c new means
          (frames-done f (means.0 ∙ at_line) m.card c there (subst (λ (x : Card). FrameStands shelf_of card x) means.2 stands) (is ∙ means.1)
          (all-left f (means.3 may) old m.card c k))
