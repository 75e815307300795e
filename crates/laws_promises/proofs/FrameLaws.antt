-- The laws of the machine hold of the events of a card's list, and of every front of it.
use Rattle.laws_promises.proofs.Vocabulary.{arith, ◌≡◌, ℕ, ◌<◌, List, take, sym, subst, All, All-map, All-take, All-weaker, Card, Config, IsAtLine, IsSound, FrameStands, reached-sound, frames_amortised, rejects_are_long, run_is_moments, refused_by_the_table}
use Rattle.model_line.specs.Sound.{IsInRange}
use Rattle.model_card.specs.ByEvent.{ArePriced}
use Rattle.model_card.specs.Card.{fresh}
use Rattle.model_card.specs.Drops.{AreDropsWithoutCost, AreDropsWithoutEffect}
use Rattle.model_card.specs.Event.{Event}
use Rattle.model_card.specs.Promises.{IsWithinLimit, IsAmortised, IsAmortisedFromZero, AreRejectsLong, IsIsolated, IsNeverFull, IsNumbered, IsNumberedFromZero}
use Rattle.model_card.specs.Run.{AreAtLines}
use Rattle.model_card.proofs.Amortised.{frames_amortised_from_zero}
use Rattle.model_card.proofs.ByEvent.{frames_by_event}
use Rattle.model_card.proofs.Drops.{drops_change_nothing, drops_cost_nothing}
use Rattle.model_card.proofs.Isolated.{lines_isolated}
use Rattle.model_card.proofs.NeverFull.{pool_never_full}
use Rattle.model_card.proofs.Numbering.{deliveries_numbered}
use Rattle.model_card.proofs.Stored.{stored_within_limit}
use Rattle.lapd_store.specs.Store.{Store}
use Rattle.lapd_card.specs.FrameCard.{Held, line_count}
use Rattle.lapd_card.proofs.Counting.{numbers_in_runs}
use Rattle.laws_promises.specs.FrameDrive.{event_of, line_of, events_of, FramesKeepLaws}
use Rattle.laws_promises.specs.declared.frame_events.FrameEvent as rust
use Rattle.laws_promises.proofs.Kept.{promises-kept}
use Rattle.laws_promises.proofs.Linear.{TakesItsOctets, all_take, is_linear}

-- An event is at its line, whatever the longest information field is; so events are at lines of the machine.
line_is : (n201 : ℕ) (e : rust.FrameEvent) → (event_of n201 e).line ≡ line_of e
line_is n201 e = grind arith

events_at_lines : {S : Type 0} (store : S → Store) (card : Held S) (n201 : ℕ) (events : List rust.FrameEvent) → All (λ e. line_of e < line_count card) events → (m : Card) → FrameStands store card m
    → AreAtLines m (events_of n201 events)
events_at_lines store card n201 events within m s =
    All-map (IsAtLine m) (event_of n201) events
    (All-weaker (λ e. line_of e < line_count card) (λ e. IsAtLine m (event_of n201 e))
    (λ e below. subst (λ n. n < m.config.lines) (sym (line_is n201 e)) (subst (λ c. line_of e < c.lines) (sym s.config) below)) events within)

-- The laws hold of the events of a list, of each front of it, and of each front of that of a card as it begins.
pub laws : {S : Type 0} (store : S → Store) (card : Held S) (list : List Event) → ((m : Card) → FrameStands store card m → AreAtLines m list) → All (TakesItsOctets card.config.n201) list
    → FramesKeepLaws store card list
laws store card list within octets = record {
  moments = run_is_moments;
  refused = refused_by_the_table;
  counters_add_up = numbers_in_runs;
  by_event = whole ArePriced frames_by_event.in_runs;
  drops = whole AreDropsWithoutCost drops_cost_nothing;
  without_effect = whole AreDropsWithoutEffect (λ m es s within. drops_change_nothing m es);
  within_limit = front IsWithinLimit stored_within_limit.always;
  amortised = front IsAmortised frames_amortised;
  amortised_from_zero = first IsAmortisedFromZero frames_amortised_from_zero;
  rejects_are_long = front AreRejectsLong (λ m es s within. rejects_are_long m es);
  isolated = first IsIsolated lines_isolated;
  never_full = first IsNeverFull pool_never_full;
  numbered = front IsNumbered deliveries_numbered.numbered;
  from_zero = first IsNumberedFromZero deliveries_numbered.from_zero;
  linear = λ m count s.
      is_linear m (take count list) (reached-sound m s.reached) (All-take (IsAtLine m) count list (within m s))
      (subst (λ (c : Config). All (TakesItsOctets c.n201) (take count list)) (sym s.config) (All-take (TakesItsOctets card.config.n201) count list octets));
  promises = λ m s. promises-kept m list s.reached (within m s);
}
  where
    whole : (P : Card → List Event → Type 0) → ((m : Card) (es : List Event) → IsSound m → AreAtLines m es → P m es) → (m : Card) → FrameStands store card m → P m list
    whole P law m s = law m list (reached-sound m s.reached) (within m s)

    front : (P : Card → List Event → Type 0) → ((m : Card) (es : List Event) → IsSound m → AreAtLines m es → P m es) → (m : Card) (count : ℕ) → FrameStands store card m → P m (take count list)
    front P law m count s = law m (take count list) (reached-sound m s.reached) (All-take (IsAtLine m) count list (within m s))

    first : (P : Config → List Event → Type 0) → ((c : Config) (es : List Event) → IsInRange c → AreAtLines (fresh c) es → P c es) → (count : ℕ) → FrameStands store card (fresh card.config) → P card.config (take count list)
    first P law count s = law card.config (take count list) s.reached.config (All-take (IsAtLine (fresh card.config)) count list (within (fresh card.config) s))

-- so of the events with which a card is driven
pub laws_of : {S : Type 0} (store : S → Store) (card : Held S) (events : List rust.FrameEvent) → All (λ e. line_of e < line_count card) events
    → FramesKeepLaws store card (events_of card.config.n201 events)
laws_of store card events within = laws store card (events_of card.config.n201 events) (events_at_lines store card card.config.n201 events within) (all_take card.config.n201 events)
