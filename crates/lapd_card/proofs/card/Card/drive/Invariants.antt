-- The invariants of the loops of `Card::drive`.
use Rattle.lapd_card.proofs.Vocabulary.{◌≡◌, take, moments, counters_in, all_counted, Taken}
use Rattle.model_card.specs.ports.Card as machine
use Rattle.model_card.specs.ports.Run.{run}
unfoldable use Rattle.model_card.specs.ports.Run.{meant_all}
use Rattle.lapd_card.specs.Drive.{events_of}
use Rattle.lapd_card.specs.Stands.{OctetCardStands}
use Rattle.lapd_card.proofs.card.Card.drive.Given as goal

-- the events so far have happened and are counted, and the sink has taken their replies
abbrev pub invariant-loop-at : goal.invariant-loop-at
invariant-loop-at g l = record {
  config : l.self.frames.config ≡ l.fn.self.frames.config;
  none_failed : g.K.Sink.failures l.sink ≡ g.K.Sink.failures l.fn.sink;
  ran : (m : machine.OctetCard) → OctetCardStands g.S.Shelf.store l.fn.self m → OctetCardStands g.S.Shelf.store l.self (run m (take l.at (events_of l.events))).card;
  counted : (m : machine.OctetCard) → OctetCardStands g.S.Shelf.store l.fn.self m → counters_in l.self.frames.lines ≡ all_counted (counters_in l.fn.self.frames.lines) (moments m.card (meant_all m (take l.at (events_of l.events))));
  taken : (m : machine.OctetCard) → OctetCardStands g.S.Shelf.store l.fn.self m → Taken g.K.Sink.takes l.fn.sink (run m (take l.at (events_of l.events))).replies l.sink;
}
