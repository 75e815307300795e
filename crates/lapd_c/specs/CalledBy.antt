-- What a call of a card comes to: it is one event of the machine, or it changes nothing.
use Rattle.std.specs.Prelude.{◌≡◌, ◌≢◌, ◌≤◌, ℕ, Bool, true, List, Option, Some, None, IfSome, Result, IfOk, IfErr}
use Rattle.lapd_count.specs.declared.counters.Counters.{Counters}
use Rattle.lapd_frame.specs.declared.refusals.Refusal.{Refusal}
use Rattle.lapd_card.specs.Kinds as kinds
use Rattle.lapd_card.specs.Kinds.{Machine, with_ports, alone, card_in}
use Rattle.lapd_card.specs.Waiting.{has_next}
use Rattle.model_card.specs.Card.{Card}
use Rattle.model_card.specs.Event as frames
use Rattle.model_card.specs.ports.Event as octets
use Rattle.model_card.specs.ports.Card as octet_card
use Rattle.model_line.specs.Event as line
use Rattle.lapd_c.specs.declared.card.CardHandle.{CardHandle}
use Rattle.lapd_c.specs.declared.plain.reports.PlainReport.{PlainReport}
use Rattle.lapd_c.specs.Answers.{ShowsAnswer, ShowsReply}
use Rattle.lapd_c.specs.Cards.{card_of, kind_in, marks_at, IsHandle, HandleStands}
use Rattle.lapd_c.specs.Counted.{Counts, CountsMeaning, counters_at}
use Rattle.lapd_c.specs.Kept.{Obeys, ObeysMeaning, is_timed, orders_by, reply_seen_by, seen_by, timers_of}
use Rattle.lapd_c.specs.Reopened.{TellsReopened, WaitsFor}
use Rattle.lapd_c.specs.Reports.{ShowsPull, given_up_tei}
use Rattle.lapd_c.specs.Reserved.{unused}
use Rattle.lapd_c.specs.Statuses as status
use Rattle.lapd_c.specs.Statuses.{refusal_status}
use Rattle.lapd_c.specs.Timers.{no_timer}
use Rattle.lapd_c.specs.Wanted.{Wanted, of_any, IsOther, OfEach, WithLine}

-- An event at a line of the card of frames, or at one of a card of octets.
pub data Happening : Type 0 where
  inside : frames.Event → Happening
  at_port : octets.Event → Happening

-- The machine after it, and why the machine refuses it, if it does.
abbrev pub after : Happening → Machine → Machine
after (inside e) m = kinds.after e m
after (at_port e) (with_ports m) = with_ports (octet_card.after e m)
after (at_port e) (alone m) = alone m

abbrev pub why_in : line.Answer → Option Refusal
why_in (line.told t) = None
why_in (line.refused why) = Some why
why_in (line.gave next) = None

abbrev pub why_refused : Happening → Machine → Option Refusal
why_refused (inside e) m = why_in (kinds.answer e m)
why_refused (at_port e) m = None

-- The report shows the machine's answer: of a card that keeps its own timers without orders. The next frame is written beside
-- it; the report tells its orders, and whether another frame waits after it.
abbrev pub ShowsGiven : Bool → PlainReport → Bool → line.Answer → Type 0
ShowsGiven timed r more (line.gave None) = ⊥
ShowsGiven timed r more (line.gave (Some next)) = ShowsPull r true more (orders_by timed next.orders)
ShowsGiven timed r more answer = ShowsAnswer r (seen_by timed answer)

abbrev pub Shown : Bool → Happening → Machine → PlainReport → Type 0
Shown timed (inside e) m r = ShowsGiven timed r (has_next e.line (card_in (kinds.after e m))) (kinds.answer e m)
Shown timed (at_port e) (with_ports m) r = ShowsReply r (reply_seen_by timed (octet_card.answer e m))
Shown timed (at_port e) (alone m) r = ⊥

-- A card that keeps its own timers has carried out the answer's orders; and what the event shows is counted.
abbrev pub Obeyed : Happening → Machine → CardHandle → CardHandle → Type 0
Obeyed (inside e) m old new = Obeys e (card_in m) old new
Obeyed (at_port e) (with_ports m) old new = ObeysMeaning e m old new
Obeyed (at_port e) (alone m) old new = ⊥

abbrev pub IsCounted : Happening → Machine → List Counters → List Counters → Type 0
IsCounted (inside e) m old new = Counts e (card_in m) old new
IsCounted (at_port e) (with_ports m) old new = CountsMeaning e m old new
IsCounted (at_port e) (alone m) old new = ⊥

-- The event happens: the card is the machine after it, the report tells what that answered, and it is counted.
pub record Served (e : Happening) (m : Machine) (old new : CardHandle) (result : ℕ) (r : PlainReport) : Type 0 where
  pub ok : result ≡ status.ok
  pub stands : HandleStands new (after e m)
  pub shown : Shown (is_timed old) e m r
  pub obeyed : Obeyed e m old new
  pub counted : IsCounted e m (counters_at old) (counters_at new)

-- This holds of every call of a line, whatever happens.
pub record IsCallOf (cards : Wanted) (line : ℕ) (named : Option ℕ) (old new : CardHandle) (result : ℕ) (before r : PlainReport) : Type 0 where
  pub handle : IsHandle new
  -- The card is of the same kind, and keeps its own timers if it did.
  pub kind : kind_in new ≡ kind_in old
  pub timed : is_timed new ≡ is_timed old
  -- If there is no card, if it is none of those that the call is of, or if it has no such line, the status says so.
  pub no_card : card_of old ≡ None → (result ≡ status.no_card) × (new ≡ old)
  pub wrong_card : IsOther cards old → result ≡ status.wrong_card
  pub wrong_line : OfEach cards old (λ m. (card_in m).config.lines ≤ line → result ≡ status.wrong_line)
  -- If the status is not OK no report is written; else it tells which link has room again, if one waits that has. No timer fell due.
  pub unwritten : result ≢ status.ok → r ≡ before
  pub reopened : WithLine of_any line new (λ m. result ≡ status.ok → TellsReopened line (card_in m) (marks_at old) (marks_at new) r)
  pub expired : result ≡ status.ok → r.expired ≡ no_timer
  -- It tells of which TEI contents are given up; and what is for a later version is 0.
  pub given_up : result ≡ status.ok → r.given_up_tei ≡ given_up_tei named r
  pub tail : result ≡ status.ok → r.reserved ≡ unused 15

-- Nothing changes: the card stands for the same machine, and has counted nothing; its timers are as they were; and the same links
-- wait for room, or one more.
pub record Unchanged (line : ℕ) (waiting : Option ℕ) (old new : CardHandle) : Type 0 where
  pub stands : (m : Machine) → HandleStands old m → HandleStands new m
  pub counters : (m : Machine) → HandleStands old m → counters_at new ≡ counters_at old
  pub timers : timers_of new ≡ timers_of old
  pub marks : WaitsFor waiting line (marks_at old) (marks_at new)

-- What a call asks: of which cards, of which line, of which TEI if it names one, and what happens there, or which status says what is wrong with its arguments.
-- And which link waits for room after it, by its status.
pub record Asked : Type 0 where
  pub cards : Wanted
  pub line : ℕ
  pub names : Option ℕ
  pub event : Card → Result Happening ℕ
  pub waits : ℕ → Option ℕ

-- A call is one event of a line.
pub record Called (asked : Asked) (old new : CardHandle) (result : ℕ) (before r : PlainReport) : Type 0 where
  pub call : IsCallOf asked.cards asked.line asked.names old new result before r
  -- If something is wrong, or if the machine refuses the event, the status says so, is not OK, and nothing changes.
  pub wrong : WithLine asked.cards asked.line old (λ m. IfErr (asked.event (card_in m)) (λ wrong. result ≡ wrong))
  pub not_ok : WithLine asked.cards asked.line old (λ m. IfErr (asked.event (card_in m)) (λ wrong. wrong ≢ status.ok))
  pub refused : WithLine asked.cards asked.line old (λ m.
      IfOk (asked.event (card_in m)) (λ e. IfSome (why_refused e m) (λ why. result ≡ refusal_status why)))
  pub unchanged : result ≢ status.ok → Unchanged asked.line (asked.waits result) old new
  -- Else the event happens.
  pub served : WithLine asked.cards asked.line old (λ m.
      IfOk (asked.event (card_in m)) (λ e. why_refused e m ≡ None → Served e m old new result r))
