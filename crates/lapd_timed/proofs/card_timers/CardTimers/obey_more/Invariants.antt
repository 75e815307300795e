-- The invariant of the loop of `obey_more`.
use Rattle.std.proofs.Common.{◌≡◌, take}
use Rattle.model_card.specs.Card.{Card}
use Rattle.model_card.specs.Event.{Event}
use Rattle.model_timed.specs.Clock.{Clock, obeyed}
use Rattle.model_timed.specs.Frames.{orders_at}
use Rattle.lapd_timed.specs.Stands.{AreAmid, AreLeft, HasLedTo}
use Rattle.lapd_timed.proofs.card_timers.CardTimers.obey_more.Given as goal

-- the orders so far have been carried out
abbrev pub invariant-loop-order : goal.invariant-loop-order
invariant-loop-order g l = record {
  lines : l.self.lines ≡ l.fn.self.lines;
  terminals : l.self.terminals ≡ l.fn.self.terminals;
  changes : l.self.changes ≡ l.fn.self.changes;
  amid : (e : Event) (m : Card) (c : Clock) → HasLedTo g.S.Shelf.store l.card l.line e m → l.orders ≡ orders_at e m → AreLeft e l.fn.self m c
      → AreAmid e l.self m (obeyed l.line (take l.order-index l.orders) c);
}
