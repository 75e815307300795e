-- Laws of whole runs: what a card does with what it is given and what it hears.
use Rattle.std.specs.Prelude.{List}
use Rattle.model_card.specs.Card.{Card}
use Rattle.model_card.specs.Event.{Event}
use Rattle.model_card.specs.Run.{AreAtLines}
use Rattle.model_card.specs.Sound.{IsSound}
use Rattle.laws_line.specs.card.Brief.{OthersStay, CausesAreTold}
use Rattle.laws_line.specs.card.Promises.{HasOneEvent}

abbrev pub OthersAreLeft : Type 0
OthersAreLeft = (card : Card) (events : List Event) → IsSound card → AreAtLines card events → OthersStay card events

abbrev pub CausesTold : Type 0
CausesTold = (card : Card) (events : List Event) → IsSound card → AreAtLines card events → CausesAreTold card events

abbrev pub OneEvent : Type 0
OneEvent = (card : Card) (events : List Event) → IsSound card → AreAtLines card events → HasOneEvent card events
