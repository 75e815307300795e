-- Laws of whole runs. Each holds for every list of events, and so for every front of a list.
use Rattle.std.specs.Prelude.{◌≡◌, ◌↔◌, ℕ, ◌≤◌, ◌<◌, Some, IsSome, List, map}
use Rattle.model_bits.specs.Stream as stream
use Rattle.lapd_frame.specs.declared.refusals.Refusal.{Refusal}
use Rattle.lapd_frame.specs.declared.timers.Timer.{Timer}
use Rattle.model_line.specs.declared.config.Config.{Config}
use Rattle.model_line.specs.Event.{Answer, request, refused}
use Rattle.model_line.specs.Request.{Request}
use Rattle.model_line.specs.Refusal.{refusal}
use Rattle.model_line.specs.Sound.{IsInRange}
use Rattle.model_card.specs.Event.{Event, at}
use Rattle.model_card.specs.Card.{Card, fresh, line_at, is_full}
use Rattle.model_card.specs.Machine.{after, answer}
use Rattle.model_card.specs.Run.{Moment, run, moments, after_all, AreAtLines}
use Rattle.model_card.specs.Sound.{IsSound}
use Rattle.model_card.specs.Stored.{stored, limit}
use Rattle.model_card.specs.ByEvent.{RisesByHeard, RisesByExpiry, RisesByRequest, FallsByNext, ArePriced}
use Rattle.model_card.specs.Drops.{AreDropsWithoutCost, AreDropsWithoutEffect}
use Rattle.model_card.specs.Promises.{IsWithinLimit, IsAmortised, IsAmortisedFromZero, AreRejectsLong, IsNumbered, IsNumberedFromZero, IsIsolated, IsNeverFull}

-- A run as one fold is its moments.
abbrev pub reply_of : Moment → ℕ × Answer
reply_of m = (m.event.line, m.answer)

pub record RunIsMoments : Type 0 where
  pub card : (card : Card) (events : List Event) → (run card events).card ≡ after_all card events
  pub replies : (card : Card) (events : List Event) → (run card events).replies ≡ map reply_of (moments card events)

-- A card is sound as it begins, and each event keeps it so.
pub record CardsStaySound : Type 0 where
  pub begins : (c : Config) → IsInRange c → IsSound (fresh c)
  pub stays : (card : Card) (e : Event) → IsSound card → e.line < card.config.lines → IsSound (after e card)
  pub always : (card : Card) (events : List Event) → IsSound card → AreAtLines card events → IsSound (after_all card events)

-- It never stores more octets than its limit.
pub record StoredWithinLimit : Type 0 where
  pub now : (card : Card) → IsSound card → stored card ≤ limit card.config
  pub always : (card : Card) (events : List Event) → IsSound card → AreAtLines card events → IsWithinLimit card events

-- A request is refused exactly where a row of the table of refusals holds, for the reason of the first that does; and
-- then nothing changes.
pub record RefusedByTheTable : Type 0 where
  pub refused_exactly : (card : Card) (number : ℕ) (r : Request) (why : Refusal) →
      (answer (at number (request r)) card ≡ refused why)
      ↔ (refusal card.config (is_full card) r (line_at number card) ≡ Some why)
  pub unchanged : (card : Card) (number : ℕ) (r : Request) →
      IsSome (refusal card.config (is_full card) r (line_at number card)) → after (at number (request r)) card ≡ card

-- The frames sent, and those that may still be sent, rise by at most two for each frame that is heard (or by so many as a
-- terminal may have TEIs, if these are more), by one for each request that is accepted, by k + 1 for each expiry of a running timer, and by k for each REJ with a valid N(R).
-- Calls for the next frame and refusals never raise them, nor does what is dropped before it is a frame; a frame dropped later
-- is one that was heard here, though it costs nothing (`DropsCostNothing`).
abbrev pub FramesAmortised : Type 0
FramesAmortised = (card : Card) (events : List Event) → IsSound card → AreAtLines card events → IsAmortised card events

-- The same event by event: how much each raises them at most, and that a call which gives a frame lowers them.
pub record FramesByEvent : Type 0 where
  pub heard : (card : Card) (number : ℕ) (e : stream.Event) → IsSound card → number < card.config.lines → RisesByHeard number e card
  pub expiries : (card : Card) (number : ℕ) (timer : Timer) → IsSound card → number < card.config.lines → RisesByExpiry number timer card
  pub requests : (card : Card) (number : ℕ) (r : Request) → IsSound card → number < card.config.lines → RisesByRequest number r card
  pub calls : (card : Card) (number : ℕ) → IsSound card → number < card.config.lines → FallsByNext number card
  pub in_runs : (card : Card) (events : List Event) → IsSound card → AreAtLines card events → ArePriced card events

-- What is dropped costs nothing, in no moment of a run.
abbrev pub DropsCostNothing : Type 0
DropsCostNothing = (card : Card) (events : List Event) → IsSound card → AreAtLines card events → AreDropsWithoutCost card events

-- And nothing else is told of it, and it changes nothing, from any card on.
abbrev pub DropsChangeNothing : Type 0
DropsChangeNothing = (card : Card) (events : List Event) → AreDropsWithoutEffect card events

-- From a fresh card on, where nothing may be sent before, they are within the same bound.
abbrev pub FramesAmortisedFromZero : Type 0
FramesAmortisedFromZero = (c : Config) (events : List Event) → IsInRange c → AreAtLines (fresh c) events → IsAmortisedFromZero c events

-- And an REJ with a valid N(R) is a frame of four octets at least.
abbrev pub RejectsAreLong : Type 0
RejectsAreLong = (card : Card) (events : List Event) → AreRejectsLong card events

-- Each link's deliveries are numbered without gap since its establishment, each told in the moment of its frame; and on
-- a card that began fresh from 0 on.
pub record DeliveriesNumbered : Type 0 where
  pub numbered : (card : Card) (events : List Event) → IsSound card → AreAtLines card events → IsNumbered card events
  pub from_zero : (c : Config) (events : List Event) → IsInRange c → AreAtLines (fresh c) events → IsNumberedFromZero c events

-- From a fresh card on, what a line answers except for a full pool is what it would answer on a card of its own, to the
-- events at it that did not find the pool full.
abbrev pub LinesIsolated : Type 0
LinesIsolated = (c : Config) (events : List Event) → IsInRange c → AreAtLines (fresh c) events → IsIsolated c events

-- And the pool is never full where there is a slot for each place of each queue.
abbrev pub PoolNeverFull : Type 0
PoolNeverFull = (c : Config) (events : List Event) → IsInRange c → AreAtLines (fresh c) events → IsNeverFull c events
