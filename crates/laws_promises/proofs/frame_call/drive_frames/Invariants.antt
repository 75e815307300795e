-- The invariants of the loops of `drive_frames`.
use Rattle.laws_promises.proofs.Vocabulary.{◌≡◌, take, run, moments, counters_in, all_counted, FrameStands, Taken}
use Rattle.model_card.specs.Card as machine
use Rattle.laws_promises.specs.FrameDrive.{events_of}
use Rattle.laws_promises.proofs.frame_call.drive_frames.Given as goal

-- the events so far have happened and are counted, and the sink has taken their replies
abbrev pub invariant-loop-at : goal.invariant-loop-at
invariant-loop-at g l = record {
  config : l.card.config ≡ l.fn.card.config;
  none_failed : g.K.FrameSink.failures l.sink ≡ g.K.FrameSink.failures l.fn.sink;
  ran : (m : machine.Card) → FrameStands g.S.Shelf.store l.fn.card m → FrameStands g.S.Shelf.store l.card (run m (take l.at (events_of l.fn.card.config.n201 l.events))).card;
  counted : (m : machine.Card) → FrameStands g.S.Shelf.store l.fn.card m → counters_in l.card.lines ≡ all_counted (counters_in l.fn.card.lines) (moments m (take l.at (events_of l.fn.card.config.n201 l.events)));
  taken : (m : machine.Card) → FrameStands g.S.Shelf.store l.fn.card m → Taken g.K.FrameSink.takes l.fn.sink (run m (take l.at (events_of l.fn.card.config.n201 l.events))).replies l.sink;
}
