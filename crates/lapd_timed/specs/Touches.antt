-- Of which TEI the links are that an event may leave in another state.
use Rattle.std.specs.Prelude.{ℕ, Option, Some, None}
use Rattle.lapd_clock.specs.Timer.{Timer, T200, T203, T201, T202}
use Rattle.model_line.specs.Request.{Request, Establish, Release, Data, Unit, SetBusy, ClearBusy, Deactivate}
use Rattle.model_line.specs.Sides.{group_tei}

-- Where it is the group's, a TEI may come to the line, or leave it.
abbrev pub touched_by_timer : Timer → ℕ
touched_by_timer (T200 service tei) = tei
touched_by_timer (T203 service tei) = tei
touched_by_timer T201 = group_tei
touched_by_timer T202 = group_tei

-- Unit data is of no link.
abbrev pub touched_by : Request → Option ℕ
touched_by (Establish service tei) = Some tei
touched_by (Release service tei) = Some tei
touched_by (Data service tei contents) = Some tei
touched_by (Unit service tei contents) = None
touched_by (SetBusy service tei) = Some tei
touched_by (ClearBusy service tei) = Some tei
touched_by (Deactivate service tei) = Some tei
touched_by other = Some group_tei
