-- The count is put, and then the octets.
use Rattle.lapd_image.proofs.Puts.{puts-then}
use Rattle.lapd_image.proofs.writing.put_contents.Goals as goal

pub returns : goal.returns
returns c = puts-then c.put_number-at.ensures c.put_octets.ensures
