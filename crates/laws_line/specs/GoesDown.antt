-- A line goes down (Q.921 annex B, persistent deactivation): what waits on it and is of no link is given up.
use Rattle.std.specs.Prelude.{◌≡◌, ◌++◌, false, length, replicate, [], None}
use Rattle.model_teis.specs.network.Laws.{stop_of}
use Rattle.model_teis.specs.terminal.Words.{stop_of as stop_202}
use Rattle.model_line.specs.Event.{Answer, told, nothing}
use Rattle.model_line.specs.Line.{Line}

-- No unit data waits any more, no message of TEI management, no check runs or is due, and of a terminal no procedure. All else of the
-- line stays, its TEIs and its links, too; and all that is told is that T201 stops, or T202, if it ran.
pub record GivesUp (before after : Line) (answer : Answer) : Type 0 where
  pub line : after ≡ record before {
    management = record before.management { check = None; to_check = replicate (length before.management.to_check) false; waiting = [] };
    own = record before.own { procedure = None; waiting = [] };
    units = [];
  }
  pub answer_is : answer ≡ told (record nothing { orders = stop_of before.management.check ++ stop_202 before.own.procedure })
