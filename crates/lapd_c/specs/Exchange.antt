-- Octets taken and given in turn.
use Rattle.std.specs.Prelude.{◌≡◌, ◌≤◌, ◌⊎◌, ℕ, zero, suc, ◌+◌, ◌-◌, ◌*◌, ◌/◌, ◌%◌, ◌==◌, nat_le, Bool, true, false, not, ◌&&◌, List, [], ◌∷◌, ◌++◌, length, get_or, set, is_none, None, Some, if◌then◌else◌}
use Rattle.model_line.specs.Event.{LineTold, nothing}
use Rattle.model_card.specs.ports.Card.{OctetCard, answer}
use Rattle.model_card.specs.ports.Event.{Event, at}
use Rattle.model_card.specs.ports.Port.{Answer, octet, pull, told, refused, pulled}
use Rattle.model_card.specs.ports.Run.{run}
use Rattle.lapd_c.specs.declared.plain.reports.PlainReport.{PlainReport}
use Rattle.lapd_card.specs.Kinds.{counters_of, with_ports, AnyStands}
use Rattle.lapd_card.specs.declared.kinds.AnyCard.{AnyCard}
use Rattle.model_card.specs.Counted.{all_counted}
use Rattle.model_card.specs.Run.{moments}
use Rattle.model_card.specs.ports.Run.{meant_all}
use Rattle.lapd_timed.specs.Called.{CalledOfOctets}
use Rattle.lapd_timed.specs.declared.timed_card.TimedCard.{TimedCard}
use Rattle.lapd_c.specs.declared.card.CardHandle.{CardHandle}
use Rattle.lapd_c.specs.Answers.{ShowsReply, octet_of}
use Rattle.lapd_c.specs.Cards.{card_of}
use Rattle.lapd_c.specs.Slots.{HeldCard}
use Rattle.lapd_c.specs.Counted.{counters_at}
use Rattle.lapd_c.specs.Kept.{CarryOutAll, ObeysAll, is_timed, reply_seen_by}
use Rattle.lapd_c.specs.Reports.{Shows, contents_or_none}
use Rattle.lapd_c.specs.Statuses as status

-- An answer has nothing to tell.
abbrev pub tells_nothing : Answer → Bool
tells_nothing (told t) = (length t.notes == 0) && (length t.orders == 0) && is_none t.cause && (t.lost == 0) && (t.given_up == 0) && (t.given_up_16 == 0) && is_none t.contents
tells_nothing (refused why) = false
tells_nothing (pulled value begun orders) = not begun && (length orders == 0)

-- As many octets are given as are taken, and the step from which to go on is within them.
abbrev pub is_exchange : List ℕ → List ℕ → ℕ → Bool
is_exchange taken given from = (length taken == length given) && nat_le from (2 * length taken)

-- A call of a card of octets is this event. If the answer has something to tell, the report tells it; else none is written.
pub record IsStep (e : Event) (old new : TimedCard) (tells : Bool) (before r : PlainReport) : Type 0 where
  pub answered : Answer
  pub called : CalledOfOctets e answered old new
  pub is : tells ≡ not (tells_nothing answered)
  pub shown : (m : OctetCard) → AnyStands old.card (with_ports m) → tells ≡ true → ShowsReply r answered
  pub unchanged : tells ≡ false → r ≡ before

-- What an octet has ended is shown, if that is anything to tell.
pub record ShowsEnded (ended : LineTold) (tells : Bool) (before r : PlainReport) : Type 0 where
  pub is : tells ≡ not (tells_nothing (told ended))
  pub shown : length (contents_or_none ended.contents) ≤ 260 → tells ≡ true → Shows r ended
  pub unchanged : tells ≡ false → r ≡ before

-- Step 2i takes octet i, step 2i + 1 gives one.
abbrev pub step_event : ℕ → List ℕ → ℕ → Event
step_event line taken step = at line (if step % 2 == 0 then octet (get_or taken (step / 2) 0) else pull)

-- So many steps from a step on.
unfoldable pub steps_made : ℕ → List ℕ → ℕ → ℕ → List Event
steps_made line taken from zero = []
steps_made line taken from (suc n) = steps_made line taken from n ++ step_event line taken (from + n) ∷ []

-- The card after them, and the answer to the one that follows.
abbrev pub card_after : ℕ → List ℕ → ℕ → ℕ → OctetCard → OctetCard
card_after line taken from n m = (run m (steps_made line taken from n)).card

abbrev pub answer_after : ℕ → List ℕ → ℕ → ℕ → OctetCard → Answer
answer_after line taken from n m = answer (step_event line taken (from + n)) (card_after line taken from n m)

-- The octets given after them: each that a step gives stands in its place.
abbrev pub with_step : ℕ → Answer → List ℕ → List ℕ
with_step step a given = if step % 2 == 0 then given else set given (step / 2) (octet_of a)

unfoldable pub given_after : ℕ → List ℕ → ℕ → ℕ → OctetCard → List ℕ → List ℕ
given_after line taken from zero m given = given
given_after line taken from (suc n) m given =
    with_step (from + n) (answer_after line taken from n m) (given_after line taken from n m given)

-- All of the first steps have nothing to tell.
unfoldable pub AllQuiet : ℕ → List ℕ → ℕ → ℕ → OctetCard → Type 0
AllQuiet line taken from zero m = Unit {0}
AllQuiet line taken from (suc n) m = AllQuiet line taken from n m × (tells_nothing (answer_after line taken from n m) ≡ true)

-- All steps were made, and none had anything to tell.
pub record IsThrough (line : ℕ) (taken : List ℕ) (from n : ℕ) (m : OctetCard) (to : ℕ) (r : PlainReport) : Type 0 where
  pub end : to ≡ 2 * length taken
  pub made : to ≡ from + n
  pub quiet : AllQuiet line taken from n m
  pub report : ShowsReply r (told nothing)

-- The last step was the first to have something to tell, orders among that, and the report tells it: without the orders where
-- the card keeps its own timers.
pub record TellsAtLast (timed : Bool) (line : ℕ) (taken : List ℕ) (from n : ℕ) (m : OctetCard) (to : ℕ) (r : PlainReport) : Type 0 where
  pub before : ℕ
  pub last : n ≡ before + 1
  pub made : to ≡ from + n
  pub quiet : AllQuiet line taken from before m
  pub tells : tells_nothing (answer_after line taken from before m) ≡ false
  pub report : ShowsReply r (reply_seen_by timed (answer_after line taken from before m))

-- So many steps were made of the machine, and the card stands for it after them.
pub record Exchanged (timed : Bool) (line : ℕ) (taken : List ℕ) (from : ℕ) (m : OctetCard) (card : AnyCard) (given given' : List ℕ) (to : ℕ) (r : PlainReport) : Type 0 where
  pub n : ℕ
  pub within : to ≤ 2 * length taken
  pub stands : AnyStands card (with_ports (card_after line taken from n m))
  pub octets : given' ≡ given_after line taken from n m given
  pub ended : IsThrough line taken from n m to r ⊎ TellsAtLast timed line taken from n m to r

-- All are counted; and what they order is carried out, if the card keeps its own timers.
pub record AreMade (line : ℕ) (taken : List ℕ) (from : ℕ) (m : OctetCard) (old new : TimedCard) (given given' : List ℕ) (to : ℕ) (r : PlainReport) : Type 0 where
  pub made : Exchanged false line taken from m new.card given given' to r
  pub counted : counters_of new.card ≡ all_counted (counters_of old.card) (moments m.card (meant_all m (steps_made line taken from (to - from))))
  pub carried : CarryOutAll (steps_made line taken from (to - from)) m old.timers new.timers

abbrev pub ExchangedIn : Bool → ℕ → List ℕ → ℕ → OctetCard → HeldCard → List ℕ → List ℕ → ℕ → PlainReport → Type 0
ExchangedIn timed line taken from m None given given' to r = ⊥
ExchangedIn timed line taken from m (Some kept) given given' to r = Exchanged timed line taken from m kept.timed.card given given' to r

-- So a call that is several events: its report tells the last, and all are obeyed and counted.
pub record Exchanges (line : ℕ) (taken : List ℕ) (from : ℕ) (m : OctetCard) (old new : CardHandle) (result : ℕ) (given given' : List ℕ) (to : ℕ)
    (r : PlainReport) : Type 0 where
  pub ok : result ≡ status.ok
  pub exchanged : ExchangedIn (is_timed old) line taken from m (card_of new) given given' to r
  pub obeyed : ObeysAll (steps_made line taken from (to - from)) m old new
  pub counted : counters_at new ≡ all_counted (counters_at old) (moments m.card (meant_all m (steps_made line taken from (to - from))))
