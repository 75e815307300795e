-- Hand-written answers for `put_unit`.
use Rattle.lapd_line.proofs.Vocabulary.{arith, ap, ◌∷◌}
use Rattle.lapd_frame.proofs.Spelling.{are-octets}
use Rattle.lapd_image.proofs.Puts.{puts-same, puts-then}
use Rattle.lapd_image.specs.Numbers.{contents}
use Rattle.lapd_line.proofs.units.saved.put_unit.Goals as goal

pub returns-clause-puts : goal.returns-clause-puts
returns-clause-puts c = puts-same (ap (λ n. n ∷ contents c.args.contents.now) c.receivers.ensures) (puts-then c.put_octet-at.ensures c.put_contents.ensures)

pub returns-clause-saved : goal.returns-clause-saved
returns-clause-saved c = are-octets c.args.contents.now (λ i. omega (arith, c.type_inv.contents i))
