-- What a card of octets holds of its past.
use Rattle.std.specs.Prelude.{◌≡◌, List}
use Rattle.lapd_count.specs.declared.counters.Counters.{Counters}
use Rattle.model_card.specs.Counted.{all_counted}
use Rattle.model_card.specs.ports.Card as machine
use Rattle.model_card.specs.ports.Card.{after, answer}
use Rattle.model_card.specs.ports.Codec.{meant_in}
use Rattle.model_card.specs.ports.Event.{Event}
use Rattle.model_card.specs.ports.Reached.{IsReached}
use Rattle.lapd_card.specs.Card.{Held}
use Rattle.lapd_card.specs.Counted.{counters_in}
use Rattle.lapd_card.specs.FrameStands.{FrameStands}
use Rattle.lapd_card.specs.Ports.{PortsStand}
use Rattle.lapd_store.specs.Store.{Store}

-- A card of octets stands for a machine: its card of frames does for the one inside, and its ports do for the machine's; and
-- the machine is one that a list of events reaches.
pub record OctetCardStands {S : Type 0} (store : S → Store) (card : Held S) (m : machine.OctetCard) : Type 0 where
  pub frames : FrameStands store card.frames m.card
  pub ports : PortsStand card.frames.config.n201 card.ports m.ports
  pub reached : IsReached m

-- There is a machine for which it stands.
abbrev pub HasPast : {S : Type 0} → (S → Store) → Held S → Type 0
HasPast store card = (m : machine.OctetCard) × OctetCardStands store card m

-- What an event at a machine means to the card of frames is counted there; what means nothing is not.
abbrev pub meaning_counted : List Counters → machine.OctetCard → Event → List Counters
meaning_counted all m event = all_counted all (meant_in (record { card = m; event = event; answer = answer event m }))

-- An event leads a card from one value to another: for every machine for which the card stood, it stands for that machine
-- after the event; and what it means is counted.
pub record Leads {S : Type 0} (store : S → Store) (event : Event) (old new : Held S) : Type 0 where
  pub config : new.frames.config ≡ old.frames.config
  pub stands : (m : machine.OctetCard) → OctetCardStands store old m → OctetCardStands store new (after event m)
  pub counted : (m : machine.OctetCard) → OctetCardStands store old m → counters_in new.frames.lines ≡ meaning_counted (counters_in old.frames.lines) m event
