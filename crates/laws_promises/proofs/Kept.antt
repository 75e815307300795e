-- Every card that is reached keeps all that is promised, of every list of events at its lines.
use Rattle.laws_promises.proofs.Vocabulary.{ℕ, List, take, All-take, Card, IsAtLine, IsSound, reached-sound, Wherever, CallsComeToAnEnd, others-stay, come-to-an-end}
use Rattle.model_card.specs.Event.{Event}
use Rattle.model_card.specs.Reached.{IsReached}
use Rattle.model_card.specs.Run.{AreAtLines}
use Rattle.laws_promises.specs.Promises.{Promises}

module _ (m : Card) (events : List Event) (reached : IsReached m) (within : AreAtLines m events) where
  sound : IsSound m
  sound = reached-sound m reached

  front-within : (count : ℕ) → AreAtLines m (take count events)
  front-within count = All-take (IsAtLine m) count events within

  -- a law of every sound card holds after each front of the list
  front : (P : Card → List Event → Type 0) → ((card : Card) (es : List Event) → IsSound card → AreAtLines card es → P card es)
      → (count : ℕ) → P m (take count events)
  front P law count = law m (take count events) sound (front-within count)

  pub promises-kept : Promises m events
  promises-kept = record {
    others_stay = others-stay m events sound within;
    calls_come_to_an_end = front (Wherever CallsComeToAnEnd) come-to-an-end;
  }
