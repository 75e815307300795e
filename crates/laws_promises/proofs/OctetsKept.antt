-- Every card of octets that is reached keeps all that is promised of its octets, of every list of events at its lines.
use Rattle.laws_promises.proofs.Vocabulary.{List, OctetCard}
use Rattle.model_card.specs.ports.Event.{Event}
use Rattle.model_card.specs.ports.Reached.{IsReached}
use Rattle.model_card.specs.ports.Run.{AreAtLines}
use Rattle.laws_promises.specs.PromisesOfOctets.{PromisesOfOctets}
use Rattle.laws_promises.proofs.Telling.{begun-told}

pub octets-kept : (m : OctetCard) (events : List Event) → IsReached m → AreAtLines m events → PromisesOfOctets m events
octets-kept m events r all = record { begun_is_told = begun-told m events }
