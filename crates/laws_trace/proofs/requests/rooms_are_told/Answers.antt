-- Hand-written answers for `rooms_are_told`.
use Rattle.laws_trace.proofs.RoomsAreTold.{no-room-is-told, rooms-are-told}
use Rattle.laws_trace.proofs.requests.rooms_are_told.Goals as goal

pub returns-clause-rooms : goal.returns-clause-rooms
returns-clause-rooms c = λ config events number ranged all within. rooms-are-told config events number ranged all within

pub returns-clause-off : goal.returns-clause-off
returns-clause-off c = λ config events number ranged all within. no-room-is-told config events number ranged all within
