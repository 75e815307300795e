-- What a call comes to at a card that stands for a machine, and what a report tells, in words of their own.
use Rattle.std.specs.Prelude.{◌≡◌, ◌≢◌, ◌≤◌, ◌<◌, ℕ, Bool, true, false, not, List, [], ◌∷◌, length, take, map, Some, None, Ok, Err, if◌then◌else◌, refl}
use Rattle.lapd_frame.specs.declared.refusals.Refusal.{Refusal}
use Rattle.lapd_frame.specs.declared.timers.Order.{Order}
use Rattle.lapd_frame.specs.declared.timers.Timer.{Timer}
use Rattle.model_line.specs.Counts.{is_given}
use Rattle.model_line.specs.Event as line
use Rattle.model_line.specs.Event.{LineTold, NextFrame, nothing}
use Rattle.model_line.specs.Laws.{orders_in}
use Rattle.model_card.specs.Counted.{all_counted, moment_of}
use Rattle.model_card.specs.Event.{at}
use Rattle.model_card.specs.Machine.{answer}
use Rattle.model_card.specs.Run.{Moment}
use Rattle.model_card.specs.declared.kinds.CardKind.{CardKind}
use Rattle.model_card.specs.ports.Card as octets
use Rattle.model_card.specs.ports.Card.{OctetCard}
use Rattle.model_card.specs.ports.Codec.{meant_in}
use Rattle.model_card.specs.ports.Event as octet
use Rattle.model_card.specs.ports.Port as port
use Rattle.model_timed.specs.Changes.{Marks, noted, unmarked}
use Rattle.model_timed.specs.Clock.{Clock, at_moment, obeyed, stopped, without_first}
use Rattle.lapd_card.specs.Kinds.{Machine, with_ports, alone, after, card_in}
use Rattle.lapd_c.specs.declared.card.CardHandle.{CardHandle}
use Rattle.lapd_c.specs.declared.plain.config.PlainConfig.{PlainConfig}
use Rattle.lapd_c.specs.declared.plain.reports.PlainReport.{PlainReport}
use Rattle.lapd_c.specs.declared.plain.timers.PlainLengths.{PlainLengths}
use Rattle.lapd_c.specs.BothKinds.{BothKindsAreServed}
use Rattle.lapd_c.specs.CallEvents.{CallsAreEvents}
use Rattle.lapd_c.specs.CallsWrite.{CallsWrite}
use Rattle.lapd_c.specs.CalledBy.{Asked, Called, inside, at_port}
use Rattle.lapd_c.specs.Calls.{IsCardStart, IsTimedStart, fresh}
use Rattle.lapd_c.specs.Cards.{card_of, marks_at, HandleStands}
use Rattle.lapd_c.specs.Config.{config_in}
use Rattle.lapd_c.specs.Counted.{counters_at}
use Rattle.lapd_c.specs.FallsDue.{FellDue, NoneDue}
use Rattle.lapd_c.specs.HandlesLeft.{HandlesAreLeft}
use Rattle.lapd_c.specs.Kept.{ChangesStandIn, TimersStandIn, is_timed, orders_by, timers_of}
use Rattle.lapd_c.specs.Notes.{cause_number, plain_note}
use Rattle.lapd_c.specs.Reopened.{TellsReopened, WaitsFor}
use Rattle.lapd_c.specs.Reports.{Shows, ShowsPull}
use Rattle.lapd_c.specs.Statuses.{refusal_status}
use Rattle.lapd_c.specs.Timers.{lengths_in, plain_order, plain_timer}
use Rattle.lapd_c.specs.Wanted.{Wanted, of_any, of_octets, of_frames, of_untimed}

-- Whether a call is of a card: by whether that keeps its own timers, and by its machine.
abbrev pub is_of : Wanted → Bool → Machine → Bool
is_of of_any timed m = true
is_of of_octets timed (with_ports m) = true
is_of of_octets timed (alone m) = false
is_of of_frames timed (with_ports m) = false
is_of of_frames timed (alone m) = true
is_of of_untimed timed m = not timed

-- A card that stands for this machine has the line, and the call is of it.
pub record IsAt (asked : Asked) (h : CardHandle) (m : Machine) : Type 0 where
  pub stands : HandleStands h m
  pub of_card : is_of asked.cards (is_timed h) m ≡ true
  pub has_line : asked.line < (card_in m).config.lines

-- The call changes nothing, and its status says why.
pub record IsRefused (status : ℕ) (m : Machine) (old new : CardHandle) (result : ℕ) (before r : PlainReport) : Type 0 where
  pub told : result ≡ status
  pub stands : HandleStands new m
  pub timers : timers_of new ≡ timers_of old
  pub counters : counters_at new ≡ counters_at old
  pub report : r ≡ before

-- The call is OK: the card stands for the machine after it; its own timers, if it keeps them, have carried out the orders, and
-- what is noted of its links is as after the event; and these moments are counted.
pub record IsDone (line : ℕ) (orders : List Order) (counted : List Moment) (m m' : Machine) (old new : CardHandle) (result : ℕ) : Type 0 where
  pub told : result ≡ 0
  pub stands : HandleStands new m'
  pub timers : (c : Clock) → TimersStandIn (timers_of old) (card_in m) c → TimersStandIn (timers_of new) (card_in m') (obeyed line orders c)
  pub links : (c : Clock) (marks : Marks) → TimersStandIn (timers_of old) (card_in m) c → ChangesStandIn (timers_of old) (card_in m) marks
      → ChangesStandIn (timers_of new) (card_in m') (noted (obeyed line orders c).now (card_in m') marks)
  pub counters : counters_at new ≡ all_counted (counters_at old) counted

-- A report tells this; and of a frame that goes whether one has begun, and whether another waits.
pub record Tells (t : LineTold) (has_begun has_more : Bool) (r : PlainReport) : Type 0 where
  pub notes : (r.note_count ≡ length t.notes) × (take r.note_count r.notes ≡ map plain_note t.notes)
  pub orders : (r.order_count ≡ length t.orders) × (take r.order_count r.orders ≡ map plain_order t.orders)
  pub contents : (octets : List ℕ) → t.contents ≡ Some octets → (r.delivered ≡ 1) × (r.length ≡ length octets) × (take r.length r.contents ≡ octets)
  pub no_contents : t.contents ≡ None → (r.delivered ≡ 0) × (r.length ≡ 0)
  pub cause : r.cause ≡ cause_number t.cause
  pub lost : r.lost ≡ t.lost
  pub given_up : r.given_up ≡ t.given_up
  pub given_up_16 : r.given_up_16 ≡ t.given_up_16
  pub begun : r.begun ≡ (if has_begun then 1 else 0)
  pub more : r.more ≡ (if has_more then 1 else 0)

-- One call of a line, whatever it asks for.
pub record CallIsServed (asked : Asked) (old new : CardHandle) (result : ℕ) (before r : PlainReport) : Type 0 where
  -- Without a card, of a card that it is not of, or of a line that the card lacks, it changes nothing.
  pub no_card : card_of old ≡ None → (result ≡ 11) × (new ≡ old) × (r ≡ before)
  pub other_card : (m : Machine) → HandleStands old m → is_of asked.cards (is_timed old) m ≡ false → IsRefused 26 m old new result before r
  pub no_line : (m : Machine) → HandleStands old m → is_of asked.cards (is_timed old) m ≡ true → (card_in m).config.lines ≤ asked.line
      → IsRefused 14 m old new result before r
  -- Nor does it if its arguments are wrong, or if the machine refuses what they ask for.
  pub wrong : (m : Machine) (status : ℕ) → IsAt asked old m → asked.event (card_in m) ≡ Err status → IsRefused status m old new result before r
  pub refused : (m : Machine) (what : line.Event) (why : Refusal) → IsAt asked old m → asked.event (card_in m) ≡ Ok (inside (at asked.line what))
      → answer (at asked.line what) (card_in m) ≡ line.refused why → IsRefused (refusal_status why) m old new result before r
  -- Which links wait then is what the call asks for; and after one that is done, what its report tells of them.
  pub waits : result ≢ 0 → WaitsFor (asked.waits result) asked.line (marks_at old) (marks_at new)
  pub reopened : (m : Machine) → HandleStands new m → asked.line < (card_in m).config.lines → result ≡ 0 → TellsReopened asked.line (card_in m) (marks_at old) (marks_at new) r
  -- Else the event happens, and the report shows what the machine answers.
  pub told : (m : Machine) (what : line.Event) (t : LineTold) → IsAt asked old m → asked.event (card_in m) ≡ Ok (inside (at asked.line what))
      → answer (at asked.line what) (card_in m) ≡ line.told t
      → IsDone asked.line t.orders (moment_of (card_in m) (at asked.line what) ∷ []) m (after (at asked.line what) m) old new result
      × Shows r (record t { orders = orders_by (is_timed old) t.orders })
  pub gave : (m : Machine) (what : line.Event) (next : NextFrame) → IsAt asked old m → asked.event (card_in m) ≡ Ok (inside (at asked.line what))
      → answer (at asked.line what) (card_in m) ≡ line.gave (Some next)
      → IsDone asked.line next.orders (moment_of (card_in m) (at asked.line what) ∷ []) m (after (at asked.line what) m) old new result
      × ShowsPull r true (is_given (answer (at asked.line line.next) (card_in (after (at asked.line what) m)))) (orders_by (is_timed old) next.orders)
  pub octet_told : (m : OctetCard) (what : port.Event) (t : LineTold) → IsAt asked old (with_ports m) → asked.event m.card ≡ Ok (at_port (octet.at asked.line what))
      → octets.answer (octet.at asked.line what) m ≡ port.told t
      → IsDone asked.line t.orders (meant_in (record { card = m; event = octet.at asked.line what; answer = port.told t })) (with_ports m)
      (with_ports (octets.after (octet.at asked.line what) m)) old new result
      × Shows r (record t { orders = orders_by (is_timed old) t.orders })
  pub pulled : (m : OctetCard) (what : port.Event) (value : ℕ) (begun : Bool) (orders : List Order) → IsAt asked old (with_ports m)
      → asked.event m.card ≡ Ok (at_port (octet.at asked.line what)) → octets.answer (octet.at asked.line what) m ≡ port.pulled value begun orders
      → IsDone asked.line orders (meant_in (record { card = m; event = octet.at asked.line what; answer = port.pulled value begun orders })) (with_ports m)
      (with_ports (octets.after (octet.at asked.line what) m)) old new result
      × ShowsPull r begun false (orders_by (is_timed old) orders)

-- A timer of a line has fallen due first. The card stands for the machine after its expiry. Its timers stand for the clock that
-- no longer has it, and has carried out the orders. What is noted of its links is as after the time has gone on, and then after
-- the expiry. The report tells the timer, the line and the answer.
pub record FallIsServed (now number : ℕ) (timer : Timer) (m : Machine) (c : Clock) (old new : CardHandle) (result : ℕ) (r : PlainReport) : Type 0 where
  pub ok : result ≡ 0
  pub stands : HandleStands new (after (at number (line.expiry timer)) m)
  pub timers : TimersStandIn (timers_of new) (card_in (after (at number (line.expiry timer)) m))
      (obeyed number (orders_in (answer (at number (line.expiry timer)) (card_in m))) (without_first (at_moment now c)))
  pub links : (marks : Marks) → ChangesStandIn (timers_of old) (card_in m) marks
      → ChangesStandIn (timers_of new) (card_in (after (at number (line.expiry timer)) m))
      (noted (obeyed number (orders_in (answer (at number (line.expiry timer)) (card_in m))) (without_first (at_moment now c))).now
      (card_in (after (at number (line.expiry timer)) m)) (noted now (card_in m) marks))
  pub counters : counters_at new ≡ all_counted (counters_at old) (moment_of (card_in m) (at number (line.expiry timer)) ∷ [])
  pub named : (r.line ≡ number) × (r.expired ≡ plain_timer timer)
  pub shown : (t : LineTold) → answer (at number (line.expiry timer)) (card_in m) ≡ line.told t → Shows r (record t { orders = [] })
  pub reopened : TellsReopened number (card_in (after (at number (line.expiry timer)) m)) (marks_at old) (marks_at new) r

-- Each call is the event that `lapd.h` says, and is served so, at a machine of either kind. So is what falls due at a card with
-- its own timers. Each leaves a handle for the next call. A start begins the machine of its configuration; if the card keeps
-- its own timers, none runs, and no link has changed. What a report shows it tells, without orders if the card keeps its own
-- timers.
pub record CallsAreServed : Type 0 where
  pub events : CallsAreEvents
  pub both_kinds : BothKindsAreServed
  pub writes : CallsWrite
  pub handles : HandlesAreLeft
  pub calls : (asked : Asked) (old new : CardHandle) (result : ℕ) (before r : PlainReport) → Called asked old new result before r → CallIsServed asked old new result before r
  pub falls_due : (now number : ℕ) (timer : Timer) (m : Machine) (c : Clock) (old new : CardHandle) (result : ℕ) (r : PlainReport) → FellDue now number timer m c old new result r
      → FallIsServed now number timer m c old new result r
  pub none_due : (now : ℕ) (m : Machine) (c : Clock) (old new : CardHandle) (result : ℕ) → NoneDue now m c old new result
      → (result ≡ 23) × HandleStands new m × TimersStandIn (timers_of new) (card_in m) (at_moment now c)
      × (marks_at new ≡ marks_at old) × (counters_at new ≡ counters_at old)
      × ((marks : Marks) → ChangesStandIn (timers_of old) (card_in m) marks → ChangesStandIn (timers_of new) (card_in m) (noted now (card_in m) (noted now (card_in m) marks)))
  pub starts : (kind : CardKind) (config : PlainConfig) (old new : CardHandle) → IsCardStart kind config old new 0
      → HandleStands new (fresh kind (config_in config)) × (is_timed new ≡ false)
  pub timed_starts : (kind : CardKind) (config : PlainConfig) (lengths : PlainLengths) (old new : CardHandle) → IsTimedStart kind config lengths old new 0
      → HandleStands new (fresh kind (config_in config)) × TimersStandIn (timers_of new) (card_in (fresh kind (config_in config))) (stopped (lengths_in lengths))
      × ChangesStandIn (timers_of new) (card_in (fresh kind (config_in config))) unmarked
  pub shows : (r : PlainReport) (t : LineTold) → Shows r t → Tells t false false r
  pub shows_pull : (r : PlainReport) (begun more : Bool) (orders : List Order) → ShowsPull r begun more orders → Tells (record nothing { orders = orders }) begun more r
  pub orders : (orders : List Order) → (orders_by false orders ≡ orders) × (orders_by true orders ≡ [])

-- Worked values: an octet is of a card of octets; an expiry of a card whose timers are the caller's.
worked_octet : (m : OctetCard) → is_of of_octets true (with_ports m) ≡ true
worked_octet m = refl

worked_expiry : (m : Machine) → is_of of_untimed true m ≡ false
worked_expiry m = refl
