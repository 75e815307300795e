-- A law of the machine holds of the events of a list at a card of octets, and of every front of it: of frames it is said of
-- what they mean.
use Rattle.lapd_card.proofs.Vocabulary.{arith, ◌≡◌, ℕ, ◌<◌, ◌↔◌, List, take, sym, ap, subst, ◌∙◌, All-map, All-take, All-weaker, All, Config, IsInRange, Refusal, refused_by_the_table, Card, IsSound, ArePriced, frames_by_event, IsAmortised, IsAmortisedFromZero, IsNeverFull, IsNumbered, IsNumberedFromZero, frames_amortised, frames_amortised_from_zero, pool_never_full, deliveries_numbered, Store}
use Rattle.lapd_card.proofs.Vocabulary.{OctetCard}
use Rattle.model_line.specs.Event as line
use Rattle.model_card.specs.Card as cards
use Rattle.model_card.specs.Event as frames
use Rattle.model_card.specs.Machine as machine
use Rattle.model_card.specs.Run as runs
use Rattle.model_card.specs.declared.ports.events.Event as rust
use Rattle.model_card.specs.ports.Card.{fresh}
use Rattle.model_card.specs.ports.Event.{Event, event_of}
use Rattle.model_card.specs.ports.Port as port
use Rattle.model_card.specs.ports.Port.{answer_of}
use Rattle.model_card.specs.ports.Promises.{IsWithinLimit, HasSixOctetsAFrame, HasSevenOctetsAReject, IsLinear, IsIsolated}
use Rattle.model_card.specs.ports.Run.{IsAtLine, AreAtLines}
unfoldable use Rattle.model_card.specs.ports.Run.{after_all, meant_all}
use Rattle.model_card.specs.ports.Sound.{IsSoundOctetCard}
use Rattle.model_card.proofs.OfPorts.Codec.{refines, run_goes_on}
use Rattle.model_card.proofs.OfPorts.Drops.{drops_are_without_effect}
use Rattle.model_card.proofs.OfPorts.Fold.{run_is_moments}
use Rattle.model_card.proofs.OfPorts.Isolated.{lines_isolated}
use Rattle.model_card.proofs.OfPorts.Linear.{frames_linear}
use Rattle.model_card.proofs.OfPorts.Reaching.{reached_sound}
use Rattle.model_card.proofs.OfPorts.Sound.{always_sound, port_sound}
use Rattle.model_card.proofs.OfPorts.Steps.{config_stays}
use Rattle.model_card.proofs.OfPorts.Stored.{stored_within_limit}
use Rattle.lapd_card.specs.Card.{Held, line_count}
use Rattle.lapd_card.specs.Drive.{line_of, events_of, RefusedByTheTable, IsTextual, KeepsLaws}
use Rattle.lapd_card.specs.Stands.{OctetCardStands}
use Rattle.lapd_card.proofs.Counting.{numbers_in_runs}
use Rattle.lapd_card.proofs.OneOctet.{request_passes, passed_answer, passed_after}

-- the events are at lines of the machine
pub events_at_lines : {S : Type 0} (store : S → Store) (card : Held S) (events : List rust.Event) → All (λ e. line_of e < line_count card) events → (m : OctetCard) → OctetCardStands store card m → AreAtLines m (events_of events)
events_at_lines store card events within m s =
    All-map (IsAtLine m) event_of events (All-weaker (λ e. line_of e < line_count card) (λ e. IsAtLine m (event_of e)) (λ e below. subst (λ c. line_of e < c.lines) (sym s.frames.config) below) events within)

-- a request is refused as the card of frames refuses it
same_refusal : (a : line.Answer) (why : Refusal) → (answer_of a ≡ port.refused why) ↔ (a ≡ line.refused why)
same_refusal a why = grind arith

pub refused_by_table : RefusedByTheTable
refused_by_table = record {
  refused_exactly = λ m number r why.
      let both = same_refusal (machine.answer (frames.at number (line.request r)) m.card) why in
      let table = refused_by_the_table.refused_exactly m.card number r why in
      let is = passed_answer (request_passes r) number m in
      ((λ e. table.0 (both.0 (sym is ∙ e))), (λ e. is ∙ both.1 (table.1 e)));
  unchanged = λ m number r some.
      passed_after (request_passes r) number m ∙ ap (λ card. record { card = card; ports = m.ports }) (refused_by_the_table.unchanged m.card number r some);
}

-- the texts of its lines go on
textual : (m : OctetCard) (events : List Event) → IsSoundOctetCard m → AreAtLines m events → IsTextual m events
textual m events s within number few = record {
  goes_on = run_goes_on m events number (subst (λ n. number < n) (sym s.count) few);
  text = (port_sound (after_all m events) number (always_sound m events s within) (subst (λ (c : Config). number < c.lines) (sym (config_stays m events)) few)).text;
}

-- The laws hold of the events of a list, of each front of it, and of each front of that of a card as it begins.
pub laws : {S : Type 0} (store : S → Store) (card : Held S) (list : List Event) → ((m : OctetCard) → OctetCardStands store card m → AreAtLines m list) → KeepsLaws store card list
laws store card list within = record {
  moments = run_is_moments;
  refused = refused_by_table;
  counters_add_up = numbers_in_runs;
  by_event = λ m s. meaning ArePriced frames_by_event.in_runs m list (reached_sound m s.reached) (within m s);
  drops = λ m s. drops_are_without_effect.cost m list (reached_sound m s.reached) (within m s);
  without_effect = λ m s. drops_are_without_effect.effect m list;
  within_limit = front IsWithinLimit stored_within_limit;
  amortised = front (λ m es. IsAmortised m.card (meant_all m es)) (meaning IsAmortised frames_amortised);
  amortised_from_zero = first (λ c es. IsAmortisedFromZero c (meant_all (fresh c) es)) (meaning_first IsAmortisedFromZero frames_amortised_from_zero);
  six_octets_a_frame = first HasSixOctetsAFrame frames_linear.frames;
  seven_octets_a_reject = first HasSevenOctetsAReject frames_linear.rejects;
  linear = first IsLinear frames_linear.linear;
  isolated = first IsIsolated lines_isolated;
  never_full = first (λ c es. IsNeverFull c (meant_all (fresh c) es)) (meaning_first IsNeverFull pool_never_full);
  numbered = front (λ m es. IsNumbered m.card (meant_all m es)) (meaning IsNumbered deliveries_numbered.numbered);
  from_zero = first (λ c es. IsNumberedFromZero c (meant_all (fresh c) es)) (meaning_first IsNumberedFromZero deliveries_numbered.from_zero);
  codec = λ m count s. refines m (take count list);
  textual = front IsTextual textual;
}
  where
    -- a law of frames holds of what the events mean,
    meaning : (P : Card → List frames.Event → Type 0) → ((m : Card) (fs : List frames.Event) → IsSound m → runs.AreAtLines m fs → P m fs)
        → (m : OctetCard) (es : List Event) → IsSoundOctetCard m → AreAtLines m es → P m.card (meant_all m es)
    meaning P law m es s at_lines = law m.card (meant_all m es) s.card ((refines m es).at_lines at_lines)

    meaning_first : (P : Config → List frames.Event → Type 0) → ((c : Config) (fs : List frames.Event) → IsInRange c → runs.AreAtLines (cards.fresh c) fs → P c fs)
        → (c : Config) (es : List Event) → IsInRange c → AreAtLines (fresh c) es → P c (meant_all (fresh c) es)
    meaning_first P law c es range at_lines = law c (meant_all (fresh c) es) range ((refines (fresh c) es).at_lines at_lines)

    -- and a law of octets of each front
    front : (P : OctetCard → List Event → Type 0) → ((m : OctetCard) (es : List Event) → IsSoundOctetCard m → AreAtLines m es → P m es) → (m : OctetCard) (count : ℕ) → OctetCardStands store card m → P m (take count list)
    front P law m count s = law m (take count list) (reached_sound m s.reached) (All-take (IsAtLine m) count list (within m s))

    first : (P : Config → List Event → Type 0) → ((c : Config) (es : List Event) → IsInRange c → AreAtLines (fresh c) es → P c es) → (count : ℕ) → OctetCardStands store card (fresh card.frames.config) → P card.frames.config (take count list)
    first P law count s = law card.frames.config (take count list) s.reached.config (All-take (IsAtLine (fresh card.frames.config)) count list (within (fresh card.frames.config) s))
