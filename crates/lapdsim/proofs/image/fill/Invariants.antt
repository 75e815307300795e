-- What was read lies in the room.
use Rattle.std.proofs.Common.{◌≤◌, length}
use Rattle.lapdsim.proofs.image.fill.Given as goal

abbrev pub invariant-loop : goal.invariant-loop
invariant-loop g l = l.filled ≤ length l.room
