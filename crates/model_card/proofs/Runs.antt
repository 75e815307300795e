-- Runs of a card, one after the other.
use Rattle.model_card.proofs.Vocabulary.{◌≡◌, List, [], ◌∷◌, ◌++◌, refl, Card, Event, after, after_all}

pub config_stays : (m : Card) (events : List Event) → (after_all m events).config ≡ m.config
unfolding after_all
config_stays m [] = refl
config_stays m (e ∷ events) = config_stays (after e m) events

pub after_all-append : (m : Card) (a b : List Event) → after_all m (a ++ b) ≡ after_all (after_all m a) b
unfolding after_all
after_all-append m [] b = refl
after_all-append m (e ∷ a) b = after_all-append (after e m) a b
