-- The invariant of the loop of `number_of`.
use Rattle.lapd_image.proofs.Spelled.{IsRead}
use Rattle.lapd_image.proofs.reader.number_of.Given as goal

-- the octets from the place on are read
abbrev pub invariant-loop-place : goal.invariant-loop-place
invariant-loop-place l = IsRead l.octets l.place l.n
