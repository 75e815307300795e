-- Whole lists of events at a card of octets. What is promised of frames is said of what the events mean to the card of frames
-- inside (`Codec` of `model_card::ports`); here are the words of what is left.
use Rattle.std.specs.Prelude.{◌≡◌, ◌↔◌, ℕ, ◌<◌, List, map, take, Option, Some, None, IsSome, Result}
use Rattle.lapd_frame.specs.declared.refusals.Refusal.{Refusal}
use Rattle.model_card.specs.Card as frames
use Rattle.model_card.specs.ByEvent as frames_by
use Rattle.model_card.specs.ByEvent.{ArePriced}
use Rattle.model_card.specs.Counted.{moment_of, all_counted, CountersAreNumbers}
use Rattle.model_card.specs.Counts.{may_send}
use Rattle.model_card.specs.Event as frame_event
use Rattle.model_card.specs.Promises.{IsAmortised, IsAmortisedFromZero, IsNeverFull, IsNumbered, IsNumberedFromZero}
use Rattle.model_card.specs.Run.{moments}
use Rattle.model_line.specs.Refusal.{refusal}
use Rattle.model_line.specs.Request.{Request}
use Rattle.model_card.specs.declared.ports.events.Event as rust
use Rattle.model_card.specs.ports.Card.{OctetCard, fresh, port_at, meant, after, answer}
use Rattle.model_card.specs.ports.Codec.{IsTextOf, PortGoesOn, Refines}
use Rattle.model_card.specs.ports.Drops.{AreDropsWithoutCost, AreDropsWithoutEffect}
use Rattle.model_card.specs.ports.Event.{Event, at, event_of}
use Rattle.model_card.specs.ports.Laws.{RunIsMoments}
use Rattle.model_card.specs.ports.Port.{Answer, request, refused}
use Rattle.model_card.specs.ports.Promises.{IsWithinLimit, HasSixOctetsAFrame, HasSevenOctetsAReject, IsLinear, IsIsolated}
use Rattle.model_card.specs.ports.Run.{run, after_all, meant_all}
use Rattle.lapd_card.specs.Card.{Held}
use Rattle.lapd_card.specs.Counted.{counters_in}
use Rattle.lapd_card.specs.Runs.{Runs}
use Rattle.lapd_card.specs.Stands.{OctetCardStands}
use Rattle.lapd_card.specs.declared.sink.SinkFault.{SinkFault}
use Rattle.lapd_store.specs.Store.{Store}

abbrev pub line_of : rust.Event → ℕ
line_of event = (event_of event).line

abbrev pub events_of : List rust.Event → List Event
events_of events = map event_of events

-- An event costs what its meaning does (`IsPriced` of `model_card`); what means nothing costs nothing.
abbrev pub CostsAs : Event → OctetCard → Option frame_event.Event → Type 0
CostsAs e m None = may_send (after e m).card ≡ may_send m.card
CostsAs e m (Some f) = frames_by.IsPriced (moment_of m.card f)

abbrev pub IsPriced : Event → OctetCard → Type 0
IsPriced e m = CostsAs e m (meant e m)

-- A request is refused exactly where a row of the table of refusals holds, for the reason of the first that does; and then
-- nothing changes.
pub record RefusedByTheTable : Type 0 where
  pub refused_exactly : (m : OctetCard) (number : ℕ) (r : Request) (why : Refusal) →
      (answer (at number (request r)) m ≡ refused why)
      ↔ (refusal m.card.config (frames.is_full m.card) r (frames.line_at number m.card) ≡ Some why)
  pub unchanged : (m : OctetCard) (number : ℕ) (r : Request) →
      IsSome (refusal m.card.config (frames.is_full m.card) r (frames.line_at number m.card)) → after (at number (request r)) m ≡ m

-- The octets pulled of each line, after those given before, are a beginning of one text of flags and whole frames, whose
-- frames are those that the card of frames gave there, in order; and what was heard is what stands in the octets received.
pub record IsTextualAt (m : OctetCard) (events : List Event) (number : ℕ) : Type 0 where
  pub goes_on : PortGoesOn m events number
  pub text : IsTextOf (port_at number (after_all m events))

abbrev pub IsTextual : OctetCard → List Event → Type 0
IsTextual m events = (number : ℕ) → number < m.card.config.lines → IsTextualAt m events number

-- A list of events was run at a card of octets. What it means to the card of frames is counted.
abbrev pub HasRun : {S K : Type 0} → (S → Store) → (K → ℕ → Answer → K → Type 0) → (K → ℕ → Answer → K → Type 0) → (K → ℕ) → Held S → Held S
    → List Event → K → K → Result ℕ SinkFault → Type 0
HasRun store takes misses failures old new =
    Runs takes misses failures (OctetCardStands store old) (OctetCardStands store new) (λ m es. (run m es).card) (λ m es. (run m es).replies)
    (λ m es. counters_in new.frames.lines ≡ all_counted (counters_in old.frames.lines) (moments m.card (meant_all m es)))

-- The laws that hold of each list of events at a card, for the machines for which it stood: `Card::drive` says each in words.
pub record KeepsLaws {S : Type 0} (store : S → Store) (card : Held S) (events : List Event) : Type 0 where
  -- The replies of `run` are the answers of `moments`, and its card is that of `after_all`: all below speaks of those.
  pub moments : RunIsMoments
  pub refused : RefusedByTheTable
  pub counters_add_up : CountersAreNumbers
  -- in every moment of the run of all events,
  pub by_event : (m : OctetCard) → OctetCardStands store card m → ArePriced m.card (meant_all m events)
  pub drops : (m : OctetCard) → OctetCardStands store card m → AreDropsWithoutCost m events
  pub without_effect : (m : OctetCard) → OctetCardStands store card m → AreDropsWithoutEffect m events
  -- and after every front of the list, from every card or, where it says `fresh`, from one that has just begun
  pub within_limit : (m : OctetCard) (count : ℕ) → OctetCardStands store card m → IsWithinLimit m (take count events)
  pub amortised : (m : OctetCard) (count : ℕ) → OctetCardStands store card m → IsAmortised m.card (meant_all m (take count events))
  pub amortised_from_zero : (count : ℕ) → OctetCardStands store card (fresh card.frames.config)
      → IsAmortisedFromZero card.frames.config (meant_all (fresh card.frames.config) (take count events))
  pub six_octets_a_frame : (count : ℕ) → OctetCardStands store card (fresh card.frames.config) → HasSixOctetsAFrame card.frames.config (take count events)
  pub seven_octets_a_reject : (count : ℕ) → OctetCardStands store card (fresh card.frames.config) → HasSevenOctetsAReject card.frames.config (take count events)
  pub linear : (count : ℕ) → OctetCardStands store card (fresh card.frames.config) → IsLinear card.frames.config (take count events)
  pub isolated : (count : ℕ) → OctetCardStands store card (fresh card.frames.config) → IsIsolated card.frames.config (take count events)
  pub never_full : (count : ℕ) → OctetCardStands store card (fresh card.frames.config)
      → IsNeverFull card.frames.config (meant_all (fresh card.frames.config) (take count events))
  pub numbered : (m : OctetCard) (count : ℕ) → OctetCardStands store card m → IsNumbered m.card (meant_all m (take count events))
  pub from_zero : (count : ℕ) → OctetCardStands store card (fresh card.frames.config)
      → IsNumberedFromZero card.frames.config (meant_all (fresh card.frames.config) (take count events))
  pub codec : (m : OctetCard) (count : ℕ) → OctetCardStands store card m → Refines m (take count events)
  pub textual : (m : OctetCard) (count : ℕ) → OctetCardStands store card m → IsTextual m (take count events)
