-- What is counted of the lines of the card that C holds.
use Rattle.std.specs.Prelude.{◌≡◌, List, [], None, Some}
use Rattle.lapd_count.specs.declared.counters.Counters.{Counters}
use Rattle.model_card.specs.Card.{Card}
use Rattle.model_card.specs.Counted.{moment_counted, moment_of}
use Rattle.model_card.specs.Event.{Event}
use Rattle.model_card.specs.ports.Card.{OctetCard}
use Rattle.model_card.specs.ports.Event as octets
use Rattle.lapd_card.specs.Stands.{meaning_counted}
use Rattle.lapd_c.specs.declared.card.CardHandle.{CardHandle}
use Rattle.lapd_c.specs.Slots.{HeldCard}
use Rattle.lapd_c.specs.Cards.{card_of}
use Rattle.lapd_card.specs.Kinds.{counters_of}

-- The counters of its lines; of no card, none.
abbrev pub counters_held : HeldCard → List Counters
counters_held None = []
counters_held (Some kept) = counters_of kept.timed.card

abbrev pub counters_at : CardHandle → List Counters
counters_at h = counters_held (card_of h)

-- An event is counted: at its line what it shows, and on no other line anything. One of octets is counted as what it means to
-- the card of frames.
abbrev pub Counts : Event → Card → List Counters → List Counters → Type 0
Counts e m old new = new ≡ moment_counted old (moment_of m e)

abbrev pub CountsMeaning : octets.Event → OctetCard → List Counters → List Counters → Type 0
CountsMeaning e m old new = new ≡ meaning_counted old m e
