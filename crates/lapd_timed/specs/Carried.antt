-- What carrying out the orders of an answer at a line comes to.
use Rattle.std.specs.Prelude.{◌≡◌, ℕ, List, Option, is_some}
use Rattle.lapd_card.specs.FrameCard.{Held}
use Rattle.lapd_card.specs.FrameStands.{FrameStands}
use Rattle.lapd_card.specs.Kinds.{shelf_of}
use Rattle.lapd_clock.specs.Timer.{Order}
use Rattle.lapd_store.specs.Store.{Store}
use Rattle.model_card.specs.Card.{Card}
use Rattle.model_card.specs.Event.{Event}
use Rattle.model_card.specs.Machine.{after}
use Rattle.model_timed.specs.Changes.{Marks, noted}
use Rattle.model_timed.specs.Clock.{Clock, obeyed}
use Rattle.model_timed.specs.Frames.{orders_at}
use Rattle.lapd_timed.specs.Marked.{IsSameBut, IsTouched}
use Rattle.lapd_timed.specs.Stands.{AreLeftIn, ChangesStandIn, HasLedTo, TimersStandIn}
use Rattle.lapd_timed.specs.declared.card_timers.CardTimers.{CardTimers}

-- Of each event at the line of which these are the orders, and that has led the card to where it is, they have been carried out, if
-- the card keeps its own timers.
pub record AreCarriedOut (card : Held Store) (line : ℕ) (orders : List Order) (old new : Option CardTimers) : Type 0 where
  pub there : is_some new ≡ is_some old
  pub after : (e : Event) (m : Card) (c : Clock) → HasLedTo shelf_of card line e m → orders ≡ orders_at e m → AreLeftIn e old m c → TimersStandIn new (after e m) (obeyed line orders c)

-- And what is noted of the links stays.
abbrev pub AreStillNoted : Option CardTimers → Option CardTimers → Type 0
AreStillNoted old new = (m : Card) (marks : Marks) → ChangesStandIn old m marks → ChangesStandIn new m marks

-- What noting the states of the links of a TEI at a line comes to, or of all links of the line: they are noted of each card that
-- differs from the one before in these alone. No timer has changed.
pub record AreNoted (card : Held Store) (line tei : ℕ) (before after : Option CardTimers) : Type 0 where
  pub there : is_some after ≡ is_some before
  pub stand : (m : Card) (c : Clock) → TimersStandIn before m c → TimersStandIn after m c
  pub noted : (old new : Card) (c : Clock) (marks : Marks) → FrameStands shelf_of card new → ((lines links : ℕ) → IsSameBut lines links line (IsTouched line tei old new) old new)
      → TimersStandIn after new c → ChangesStandIn before old marks → ChangesStandIn after new (noted c.now new marks)
