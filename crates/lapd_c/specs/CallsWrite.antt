-- What a call writes beside its report, what it says of moments, and what is there after a start, in words of their own: those of `lapd.h`.
use Rattle.std.specs.Prelude.{◌≡◌, ◌≢◌, ◌⊎◌, ◌≤◌, ◌<◌, ◌^◌, ℕ, ◌+◌, ◌-◌, Bool, true, false, List, [], ◌∷◌, ◌++◌, length, take, drop, get_or, Option, None, Some, IfSome, IsSome, codes, refl}
use Rattle.std.proofs.Common.{arith}
use Rattle.lapd_clock.specs.Timer.{Lengths, first_out_of_range}
use Rattle.lapd_clock.specs.Timers.{Expiry, Timers}
use Rattle.lapd_count.specs.Counters.{none_counted, value_in}
use Rattle.lapd_count.specs.declared.counter.Counter.{Counter}
use Rattle.lapd_frame.specs.declared.services.Service.{Service}
use Rattle.lapd_frame.specs.declared.timers.Order.{Order}
use Rattle.lapd_frame.specs.declared.timers.Timer.{Timer}
use Rattle.lapd_text.specs.Told.{IsPutIn}
use Rattle.model_line.specs.Event as event
use Rattle.model_line.specs.Event.{NextFrame}
use Rattle.model_card.specs.Card.{Card}
use Rattle.model_card.specs.Event.{at}
use Rattle.model_card.specs.Machine.{answer}
use Rattle.model_card.specs.declared.kinds.CardKind.{CardKind}
use Rattle.model_card.specs.ports.Card as octets
use Rattle.model_card.specs.ports.Card.{OctetCard}
use Rattle.model_card.specs.ports.Event as octet
use Rattle.model_card.specs.ports.Port as port
use Rattle.model_timed.specs.Clock.{Clock, at_moment, due, next_moment}
use Rattle.lapd_card.specs.Kinds.{Machine, with_ports, alone, card_in, counters_of, line_count}
use Rattle.lapd_card.specs.declared.kinds.AnyCard.{AnyCard}
use Rattle.lapd_c.specs.declared.card.CardHandle.{CardHandle}
use Rattle.lapd_c.specs.declared.clock.ClockHandle.{ClockHandle}
use Rattle.lapd_c.specs.declared.kept.KeptCard.{KeptCard}
use Rattle.lapd_c.specs.declared.plain.config.PlainConfig.{PlainConfig}
use Rattle.lapd_c.specs.declared.plain.counters.PlainCounters.{PlainCounters}
use Rattle.lapd_c.specs.declared.plain.notes.PlainNote.{PlainNote}
use Rattle.lapd_c.specs.declared.plain.reports.PlainReport.{PlainReport}
use Rattle.lapd_c.specs.declared.plain.timers.PlainLengths.{PlainLengths}
use Rattle.lapd_c.specs.Answers.{octet_of}
use Rattle.lapd_c.specs.CalledBy.{Asked, Called, IsCallOf}
use Rattle.lapd_c.specs.Calls.{IsCardStart, IsTimedStart}
use Rattle.lapd_c.specs.Cards.{card_of, marks_at, served_card, IsHandle, HandleStands}
use Rattle.lapd_c.specs.Clocks as clocks
use Rattle.lapd_c.specs.Clocks.{IsClockCall, IsClockStart, after_lengths, clock_of, lengths_status, timer_status}
use Rattle.lapd_c.specs.Config.{config_fault}
use Rattle.lapd_c.specs.Counted.{counters_at}
use Rattle.lapd_c.specs.Counters.{plain_counters}
use Rattle.lapd_c.specs.FallsDue.{FellDue, FindsNoneDue, IsMomentCall, IsTimersCall, LetsFallDue, NoneDue, RefusesMoment, TellsMoment}
use Rattle.lapd_c.specs.Frames.{IsGiven, next_at}
use Rattle.lapd_c.specs.Kept.{TimersStandIn, is_timed, timers_of}
use Rattle.lapd_c.specs.Starts.{IsFreed}
use Rattle.lapd_c.specs.Timers.{lengths_fault}
use Rattle.lapd_c.specs.Waits.{Waits}
use Rattle.lapd_c.specs.Wanted.{FramesWithRoom, OctetsWithLine, Wanted}

-- A moment is not before the clock's, and before 2^63.
pub record IsOnTime (now : ℕ) (h : CardHandle) (m : Machine) (c : Clock) : Type 0 where
  pub stands : HandleStands h m
  pub timers : TimersStandIn (timers_of h) (card_in m) c
  pub not_before : c.now ≤ now
  pub not_after : now < 2 ^ 63

-- No link waits for room, and nothing is counted. But each of so many lines has a place for both.
pub record HasNothing (lines : ℕ) (h : CardHandle) : Type 0 where
  pub waits : length (marks_at h) ≡ lines
  pub counts : length (counters_at h) ≡ lines
  pub no_waits : (line tei : ℕ) (service : Service) → Waits (marks_at h) line service tei → ⊥
  pub no_counts : (line : ℕ) (counter : Counter) → value_in (get_or (counters_at h) line none_counted) counter ≡ 0

-- A report names the TEI whose links give contents up: that which is named, if one is; else that of the first note, if there is one.
-- If they give none up, it has 255.
pub record NamesGivenUp (names : Option ℕ) (r : PlainReport) : Type 0 where
  pub none : r.given_up ≡ 0 → r.given_up_16 ≡ 0 → r.given_up_tei ≡ 255
  pub named : (tei : ℕ) → names ≡ Some tei → (0 < r.given_up) ⊎ (0 < r.given_up_16) → r.given_up_tei ≡ tei
  pub noted : (note : PlainNote) (notes : List PlainNote) → names ≡ None → take r.note_count r.notes ≡ note ∷ notes
      → (0 < r.given_up) ⊎ (0 < r.given_up_16) → r.given_up_tei ≡ note.tei

abbrev pub no_octets : List ℕ
no_octets = 0 ∷ 0 ∷ 0 ∷ 0 ∷ 0 ∷ 0 ∷ 0 ∷ 0 ∷ 0 ∷ 0 ∷ 0 ∷ 0 ∷ 0 ∷ 0 ∷ 0 ∷ []

-- A start where none is, with all in range, is OK, or finds no memory. Unless it is OK, nothing changes.
pub record StartIsTold {H X : Type 0} (held : H → Option X) (IsInRange : Type 0) (old new : H) (result : ℕ) : Type 0 where
  pub in_range : held old ≡ None → IsInRange → (result ≡ 0) ⊎ (result ≡ 22)
  pub not_ok : result ≢ 0 → new ≡ old

pub record CallsWrite : Type 0 where
  -- A pull writes the octet that the machine gives. A call for the next frame writes the frame, and its length; after it the room is as it was.
  pub octet : (line written value : ℕ) (begun : Bool) (orders : List Order) (h : CardHandle) (m : OctetCard)
      → OctetsWithLine line h (λ m. written ≡ octet_of (octets.answer (octet.at line port.pull) m))
      → HandleStands h (with_ports m) → line < m.card.config.lines → octets.answer (octet.at line port.pull) m ≡ port.pulled value begun orders → written ≡ value
  pub frame : (line count : ℕ) (out out' : List ℕ) (given : NextFrame) (h : CardHandle) (m : Card)
      → FramesWithRoom line (length out) h (λ m. IfSome (next_at line m) (λ next. IsGiven next out out' count))
      → HandleStands h (alone m) → line < m.config.lines → m.config.n201 + 4 ≤ length out → answer (at line event.next) m ≡ event.gave (Some given)
      → (count ≡ length given.octets) × (out' ≡ given.octets ++ drop (length given.octets) out)
  -- The report of a call names its line, and no timer; nor does that of a block of octets.
  pub named : (asked : Asked) (old new : CardHandle) (result : ℕ) (before r : PlainReport) (m : Machine) → Called asked old new result before r
      → HandleStands new m → asked.line < (card_in m).config.lines → result ≡ 0 → (r.line ≡ asked.line) × (r.expired ≡ record { timer = 0; service = 0; tei = 0 })
  pub no_timer : (cards : Wanted) (line result : ℕ) (names : Option ℕ) (old new : CardHandle) (before r : PlainReport) → IsCallOf cards line names old new result before r
      → result ≡ 0 → r.expired ≡ record { timer = 0; service = 0; tei = 0 }
  -- It names the TEI of the links that give contents up, or 255. Its last 15 octets are 0.
  pub given_up : (cards : Wanted) (line result : ℕ) (names : Option ℕ) (old new : CardHandle) (before r : PlainReport) → IsCallOf cards line names old new result before r
      → result ≡ 0 → NamesGivenUp names r × (r.reserved ≡ no_octets)
  pub fallen_given_up : (now number result : ℕ) (timer : Timer) (m : Machine) (c : Clock) (old new : CardHandle) (r : PlainReport) → FellDue now number timer m c old new result r
      → NamesGivenUp None r × (r.reserved ≡ no_octets)
  -- A call leaves a card's kind of timers as it was.
  pub timed : (asked : Asked) (old new : CardHandle) (result : ℕ) (before r : PlainReport) → Called asked old new result before r → is_timed new ≡ is_timed old
  -- A moment before the clock's is refused, and one from 2^63 on. Else the first timer that is due falls due, or none is. A card
  -- whose timers are the caller's is another.
  pub refused : (now result : ℕ) (old new : CardHandle) (m : Machine) (c : Clock)
      → RefusesMoment now old new result
      → HandleStands old m → TimersStandIn (timers_of old) (card_in m) c → (now < c.now) ⊎ (2 ^ 63 ≤ now) → (result ≡ 21) × (card_of new ≡ card_of old)
  pub fell_due : (now result : ℕ) (x : Expiry) (old new : CardHandle) (m : Machine) (c : Clock) (r : PlainReport)
      → LetsFallDue now old new result r
      → IsOnTime now old m c → due (at_moment now c) ≡ Some x → FellDue now x.line x.timer m c old new result r
  pub none_due : (now result : ℕ) (old new : CardHandle) (m : Machine) (c : Clock)
      → FindsNoneDue now old new result
      → IsOnTime now old m c → due (at_moment now c) ≡ None → NoneDue now m c old new result
  pub untimed : (old new : CardHandle) (result : ℕ) (before r : PlainReport) → IsMomentCall old new result before r → card_of old ≢ None → is_timed old ≡ false → result ≡ 26
  pub no_moment_card : (old new : CardHandle) (result : ℕ) (before r : PlainReport) → IsMomentCall old new result before r → card_of old ≡ None → (result ≡ 11) × (new ≡ old)
  pub unwritten : (old new : CardHandle) (result : ℕ) (before r : PlainReport) → IsMomentCall old new result before r → result ≢ 0 → r ≡ before
  -- The moment that is told is the first at which a timer is due; and if none runs, there is none, and the status says so.
  pub moment : (c : Clock) (result moment : ℕ) → TellsMoment (next_moment c) result moment → result ≡ 0
      → IsSome (due (at_moment moment c)) × ((now : ℕ) → now < moment → due (at_moment now c) ≡ None)
  pub no_moment : (c : Clock) (result moment : ℕ) → TellsMoment (next_moment c) result moment → result ≢ 0
      → (result ≡ 23) × ((now : ℕ) → due (at_moment now c) ≡ None)
  -- New lengths of timers leave all else.
  pub lengths_alone : (old new : CardHandle) (result : ℕ) (m : Machine) → IsTimersCall old new result → HandleStands old m
      → HandleStands new m × (counters_at new ≡ counters_at old) × (marks_at new ≡ marks_at old)
  pub no_lengths_card : (old new : CardHandle) (result : ℕ) → IsTimersCall old new result → card_of old ≡ None → (result ≡ 11) × (new ≡ old)
  pub lengths_of_another : (old new : CardHandle) (result : ℕ) → IsTimersCall old new result → card_of old ≢ None → is_timed old ≡ false
      → (result ≡ 26) × (card_of new ≡ card_of old)
  -- A start begins a card or a clock, or changes nothing.
  pub start : (kind : CardKind) (config : PlainConfig) (old new : CardHandle) (result : ℕ) → IsCardStart kind config old new result
      → StartIsTold card_of (config_fault config ≡ None) old new result
  pub timed_start : (kind : CardKind) (config : PlainConfig) (lengths : PlainLengths) (old new : CardHandle) (result : ℕ) → IsTimedStart kind config lengths old new result
      → StartIsTold card_of ((config_fault config ≡ None) × (lengths_fault lengths ≡ None)) old new result
  pub clock_start : (config : PlainConfig) (old new : ClockHandle) (result : ℕ) → IsClockStart config old new result
      → StartIsTold clock_of (config_fault config ≡ None) old new result
  -- A second start, and one with a wrong configuration or length, change nothing, and say so.
  pub second_start : (kind : CardKind) (config : PlainConfig) (old new : CardHandle) (result : ℕ) (kept : KeptCard) → IsCardStart kind config old new result
      → card_of old ≡ Some kept → (result ≡ 13) × (new ≡ old)
  pub wrong_start : (kind : CardKind) (config : PlainConfig) (old new : CardHandle) (result wrong : ℕ) → IsCardStart kind config old new result
      → card_of old ≡ None → config_fault config ≡ Some wrong → (result ≡ wrong) × (new ≡ old)
  pub second_timed_start : (kind : CardKind) (config : PlainConfig) (lengths : PlainLengths) (old new : CardHandle) (result : ℕ) (kept : KeptCard)
      → IsTimedStart kind config lengths old new result → card_of old ≡ Some kept → (result ≡ 13) × (new ≡ old)
  pub wrong_timed_start : (kind : CardKind) (config : PlainConfig) (lengths : PlainLengths) (old new : CardHandle) (result wrong : ℕ)
      → IsTimedStart kind config lengths old new result → card_of old ≡ None → config_fault config ≡ Some wrong → (result ≡ wrong) × (new ≡ old)
  pub wrong_lengths : (kind : CardKind) (config : PlainConfig) (lengths : PlainLengths) (old new : CardHandle) (result : ℕ)
      → IsTimedStart kind config lengths old new result → card_of old ≡ None → config_fault config ≡ None
      → IfSome (lengths_fault lengths) (λ wrong. (result ≡ wrong) × (new ≡ old))
  pub second_clock : (config : PlainConfig) (old new : ClockHandle) (result : ℕ) (clock : Timers) → IsClockStart config old new result
      → clock_of old ≡ Some clock → (result ≡ 13) × (new ≡ old)
  pub wrong_clock : (config : PlainConfig) (old new : ClockHandle) (result wrong : ℕ) → IsClockStart config old new result
      → clock_of old ≡ None → config_fault config ≡ Some wrong → (result ≡ wrong) × (new ≡ old)
  -- An end leaves none, and says if none was there.
  pub card_ends : (old new : CardHandle) (result : ℕ) (kept : KeptCard) → IsFreed IsHandle card_of 11 old new result → card_of old ≡ Some kept → (result ≡ 0) × (card_of new ≡ None)
  pub clock_ends : (old new : ClockHandle) (result : ℕ) (clock : Timers) → IsFreed clocks.IsHandle clock_of 12 old new result → clock_of old ≡ Some clock
      → (result ≡ 0) × (clock_of new ≡ None)
  pub no_card_ends : (old new : CardHandle) (result : ℕ) → IsFreed IsHandle card_of 11 old new result → card_of old ≡ None → (result ≡ 11) × (new ≡ old)
  pub no_clock_ends : (old new : ClockHandle) (result : ℕ) → IsFreed clocks.IsHandle clock_of 12 old new result → clock_of old ≡ None → (result ≡ 12) × (new ≡ old)
  -- A card begins with nothing. What holds no card, and no clock, may be given to a call.
  pub starts : (kind : CardKind) (config : PlainConfig) (old new : CardHandle) → IsCardStart kind config old new 0 → HasNothing config.lines new
  pub timed_starts : (kind : CardKind) (config : PlainConfig) (lengths : PlainLengths) (old new : CardHandle) → IsTimedStart kind config lengths old new 0 → HasNothing config.lines new
  pub no_card : (h : CardHandle) → card_of h ≡ None → h.started ≡ false → IsHandle h
  pub no_clock : (h : ClockHandle) → clock_of h ≡ None → h.started ≡ false → clocks.IsHandle h
  -- Counters are those of the line. A card has as many lines as its machine.
  pub lines : (h : CardHandle) (card : AnyCard) (m : Machine) → served_card h ≡ Some card → HandleStands h m → line_count card ≡ (card_in m).config.lines
  pub counters : (line result : ℕ) (h : CardHandle) (card : AnyCard) (written : PlainCounters)
      → IfSome (served_card h) (λ card. line < line_count card → (result ≡ 0) × (written ≡ plain_counters (get_or (counters_of card) line none_counted)))
      → served_card h ≡ Some card → line < line_count card → (result ≡ 0) × (written ≡ plain_counters (get_or (counters_at h) line none_counted))
  -- A clock takes lengths, if each is in its range, for timers that are started from then on. It says whether a timer is there. If
  -- there is no clock, the status says so.
  pub lengths : (l : Lengths) (c : Timers) → first_out_of_range l ≡ None → (lengths_status l c ≡ 0) × (after_lengths l c ≡ record c { lengths = l })
  pub wrong_length : (l : Lengths) (c : Timers) → IfSome (first_out_of_range l) (λ _. (lengths_status l c ≡ 21) × (after_lengths l c ≡ c))
  pub timer_there : (due : ℕ × Timer) (moment : ℕ) → (timer_status (Some due) ≡ 0) × (timer_status (Some moment) ≡ 0)
  pub no_timer_there : (timer_status {A = ℕ × Timer} None ≡ 23) × (timer_status {A = ℕ} None ≡ 23)
  pub without_clock : (tells : Timers → ℕ) (leaves : Timers → Timers) (old new : ClockHandle) (result : ℕ) → IsClockCall tells leaves old new result
      → clock_of old ≡ None → (result ≡ 12) × (new ≡ old)
  -- A text stands in front of its room, with a 0 in place of its line feed.
  pub text : (text old new : List ℕ) → IsPutIn true text old new → new ≡ take (length text - 1) text ++ 0 ∷ drop (length text) old

-- Worked value: a text of two letters, in a room of four octets.
worked_text : IsPutIn true (codes "RR\n") (1 ∷ 2 ∷ 3 ∷ 4 ∷ []) (codes "RR" ++ 0 ∷ 4 ∷ [])
worked_text = (omega arith, refl)
