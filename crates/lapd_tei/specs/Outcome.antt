-- What the code's values stand for.
use Rattle.std.specs.Prelude.{◌≡◌, ◌≤◌, [], length}
use Rattle.lapd_frame.specs.ShortLists.{listed}
use Rattle.lapd_tei.specs.declared.outcome.TeiOutcome.{TeiOutcome}
use Rattle.lapd_tei.specs.declared.teis.Teis.TheInside.{Inside}
use Rattle.model_teis.specs.network.Machine.{Management, TeiTold}
use Rattle.model_teis.specs.network.Words.{Course}

abbrev pub told_of : TeiOutcome → TeiTold
told_of o = record { notes = listed o.notes; change = o.change; orders = listed o.orders; lost = o.lost; unserved = o.unserved }

abbrev pub management_of : Inside → Management
management_of t = record {
  reading = t.reading;
  places = t.table;
  remembered = t.memory;
  check = t.check;
  to_check = t.due;
  waiting = t.queue;
}

-- where an event has led, as an outcome tells it
abbrev pub led_to : Management → TeiOutcome → Course
led_to m o = record { now = m; told = told_of o }

-- An outcome has at most one note and one order.
pub record IsShort (o : TeiOutcome) : Type 0 where
  pub notes : length (listed o.notes) ≤ 1
  pub orders : length (listed o.orders) ≤ 1

-- One to which the end of a check can be added: it has no order yet.
pub record IsOpen (o : TeiOutcome) : Type 0 where
  pub notes : length (listed o.notes) ≤ 1
  pub orders : listed o.orders ≡ []
