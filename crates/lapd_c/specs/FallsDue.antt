-- What falls due at a card that keeps its own timers.
use Rattle.std.specs.Prelude.{◌≡◌, ◌≢◌, ◌⊎◌, ◌≤◌, ◌<◌, ◌^◌, ℕ, false, Option, None, Some, IfSome}
use Rattle.lapd_frame.specs.declared.timers.Timer.{Timer}
use Rattle.lapd_card.specs.Kinds.{Machine, after, answer, card_in}
use Rattle.model_card.specs.Card.{Card}
use Rattle.model_card.specs.Event.{Event, at}
use Rattle.model_line.specs.Event.{expiry}
use Rattle.model_timed.specs.Changes.{Marks, noted}
use Rattle.model_timed.specs.Clock.{Clock, at_moment, due, next_moment, obeyed, without_first}
use Rattle.model_timed.specs.Frames.{orders_at}
use Rattle.lapd_c.specs.declared.card.CardHandle.{CardHandle}
use Rattle.lapd_c.specs.declared.plain.reports.PlainReport.{PlainReport}
use Rattle.lapd_c.specs.Answers.{ShowsAnswer}
use Rattle.lapd_c.specs.Cards.{card_of, kind_in, marks_at, served_card, IsHandle, HandleStands}
use Rattle.lapd_c.specs.Counted.{Counts, counters_at}
use Rattle.lapd_c.specs.Kept.{ChangesStandIn, TimersStandIn, is_timed, timers_of, without_orders}
use Rattle.lapd_c.specs.Reopened.{TellsReopened}
use Rattle.lapd_c.specs.Reports.{given_up_tei}
use Rattle.lapd_c.specs.Reserved.{unused}
use Rattle.lapd_c.specs.Statuses as status
use Rattle.lapd_c.specs.Timers.{plain_timer}

-- What holds of each machine, and clock beside it, that stand for a card; and of each whose time can be a moment: one that is not
-- before the last, and is before 2^63.
abbrev pub WithClock : CardHandle → (Machine → Clock → Type 0) → Type 0
WithClock h holds = (m : Machine) (c : Clock) → HandleStands h m → TimersStandIn (timers_of h) (card_in m) c → holds m c

abbrev pub AtMoment : ℕ → CardHandle → (Machine → Clock → Type 0) → Type 0
AtMoment now h holds = WithClock h (λ m c. c.now ≤ now → now < 2 ^ 63 → holds m c)

-- A call with a moment, whatever is due. The timers of a card whose timers are the caller's do not fall due here.
pub record IsMomentCall (old new : CardHandle) (result : ℕ) (before r : PlainReport) : Type 0 where
  pub handle : IsHandle new
  pub kind : kind_in new ≡ kind_in old
  pub timed : is_timed new ≡ is_timed old
  pub no_card : card_of old ≡ None → (result ≡ status.no_card) × (new ≡ old)
  pub wrong_card : is_timed old ≡ false → (card_of old ≡ None) ⊎ ((result ≡ status.wrong_card) × (card_of new ≡ card_of old))
  pub unwritten : result ≢ status.ok → r ≡ before

-- A call that changes a card's timers alone, which a card whose timers are the caller's does not have.
pub record IsTimersCall (old new : CardHandle) (result : ℕ) : Type 0 where
  pub handle : IsHandle new
  pub card : served_card new ≡ served_card old
  pub marks : marks_at new ≡ marks_at old
  pub timed : is_timed new ≡ is_timed old
  pub noted : (m : Card) (marks : Marks) → ChangesStandIn (timers_of old) m marks → ChangesStandIn (timers_of new) m marks
  pub no_card : card_of old ≡ None → (result ≡ status.no_card) × (new ≡ old)
  pub wrong_card : is_timed old ≡ false → (card_of old ≡ None) ⊎ ((result ≡ status.wrong_card) × (card_of new ≡ card_of old))

-- What is told of the moment at which a timer falls due first; or that none runs.
abbrev pub TellsMoment : Option ℕ → ℕ → ℕ → Type 0
TellsMoment None result moment = result ≡ status.no_timer
TellsMoment (Some first) result moment = (result ≡ status.ok) × (moment ≡ first)

-- What is noted of the links of a card that keeps its own timers, once the time has gone on.
abbrev pub gone : ℕ → Machine → Marks → Marks
gone now m marks = noted now (card_in m) marks

-- Nothing is due: the time is now, and the first timer that runs falls due later.
pub record NoneDue (now : ℕ) (m : Machine) (c : Clock) (old new : CardHandle) (result : ℕ) : Type 0 where
  pub none : result ≡ status.no_timer
  pub stands : HandleStands new m
  pub timers : TimersStandIn (timers_of new) (card_in m) (at_moment now c)
  pub noted : (marks : Marks) → ChangesStandIn (timers_of old) (card_in m) marks → ChangesStandIn (timers_of new) (card_in m) (gone now m (gone now m marks))
  pub later : IfSome (next_moment (at_moment now c)) (λ first. now < first)
  pub marks : marks_at new ≡ marks_at old
  pub counters : counters_at new ≡ counters_at old

-- A timer of a line falls due first: the event is its expiry at this moment, and the report names it.
abbrev pub expires : ℕ → Timer → Event
expires line timer = at line (expiry timer)

pub record FellDue (now line : ℕ) (timer : Timer) (m : Machine) (c : Clock) (old new : CardHandle) (result : ℕ) (r : PlainReport) : Type 0 where
  pub ok : result ≡ status.ok
  pub of_line : r.line ≡ line
  pub expired : r.expired ≡ plain_timer timer
  pub shown : ShowsAnswer r (without_orders (answer (expires line timer) m))
  pub given_up : r.given_up_tei ≡ given_up_tei None r
  pub tail : r.reserved ≡ unused 15
  pub stands : HandleStands new (after (expires line timer) m)
  pub timers : TimersStandIn (timers_of new) (card_in (after (expires line timer) m))
      (obeyed line (orders_at (expires line timer) (card_in m)) (without_first (at_moment now c)))
  pub noted : (marks : Marks) → ChangesStandIn (timers_of old) (card_in m) marks → ChangesStandIn (timers_of new) (card_in (after (expires line timer) m))
      (gone (obeyed line (orders_at (expires line timer) (card_in m)) (without_first (at_moment now c))).now (after (expires line timer) m) (gone now m marks))
  pub counted : Counts (expires line timer) (card_in m) (counters_at old) (counters_at new)
  pub reopened : TellsReopened line (card_in (after (expires line timer) m)) (marks_at old) (marks_at new) r

-- A call with a moment: one before the last, or from 2^63 on, is refused, and nothing changes; else nothing is due, or the first that
-- is falls due.
abbrev pub RefusesMoment : ℕ → CardHandle → CardHandle → ℕ → Type 0
RefusesMoment now old new result = WithClock old (λ m c. (now < c.now) ⊎ (2 ^ 63 ≤ now) → (result ≡ status.wrong_time) × (card_of new ≡ card_of old))

abbrev pub FindsNoneDue : ℕ → CardHandle → CardHandle → ℕ → Type 0
FindsNoneDue now old new result = AtMoment now old (λ m c. due (at_moment now c) ≡ None → NoneDue now m c old new result)

abbrev pub LetsFallDue : ℕ → CardHandle → CardHandle → ℕ → PlainReport → Type 0
LetsFallDue now old new result r = AtMoment now old (λ m c. IfSome (due (at_moment now c)) (λ x. FellDue now x.line x.timer m c old new result r))
