-- What a card holds of its past.
use Rattle.std.specs.Prelude.{◌≡◌, ◌≤◌}
use Rattle.model_card.specs.Card as machine
use Rattle.model_card.specs.Counted.{moment_counted, moment_of}
use Rattle.model_card.specs.Event.{Event}
use Rattle.model_card.specs.Machine.{after}
use Rattle.model_card.specs.Reached.{IsReached}
use Rattle.lapd_card.specs.Waiting.{waits_on}
use Rattle.lapd_card.specs.Counted.{counters_in}
use Rattle.lapd_card.specs.FrameCard.{Held}
use Rattle.lapd_card.specs.Lines.{LinesStand}
use Rattle.lapd_line.specs.Marks.{AreMarked}
use Rattle.lapd_store.specs.Store.{Store}

-- A card stands for a machine: it has its configuration, and its lines stand for the machine's over its shelf, which
-- has as many slots as the configuration says, or more; those lines are marked on which a frame waits; and the machine is one
-- that a list of events reaches.
pub record FrameStands {S : Type 0} (store : S → Store) (card : Held S) (m : machine.Card) : Type 0 where
  pub config : m.config ≡ card.config
  pub lines : LinesStand card.config card.lines (store card.shelf) m.lines
  pub slots : card.config.slots ≤ (store card.shelf).slots
  pub waiting : AreMarked card.waiting (waits_on m)
  pub reached : IsReached m

-- There is a machine for which it stands.
abbrev pub HasPast : {S : Type 0} → (S → Store) → Held S → Type 0
HasPast store card = (m : machine.Card) × FrameStands store card m

-- An event leads a card from one value to another: for every machine for which the card stood, it stands for that machine
-- after the event. At its line what it shows is counted, and on no other line anything.
pub record Leads {S : Type 0} (store : S → Store) (event : Event) (old new : Held S) : Type 0 where
  pub config : new.config ≡ old.config
  pub stands : (m : machine.Card) → FrameStands store old m → FrameStands store new (after event m)
  pub counted : (m : machine.Card) → FrameStands store old m → counters_in new.lines ≡ moment_counted (counters_in old.lines) (moment_of m event)
