-- Hand-written answers for `read`.
use Rattle.lapd_frame.proofs.Vocabulary.{arith}
use Rattle.lapd_frame.proofs.Spelling.{are-octets, outcome-spelled, outcome-only, outcome-fault}
use Rattle.lapd_frame.proofs.reading.read.Goals as goal

pub returns-clause-spelled : goal.returns-clause-spelled
returns-clause-spelled c = outcome-spelled c.args.side c.args.octets.now _ (are-octets _ (λ i. omega (arith, c.type_inv.octets i))) c.parse.ensures.reading

pub returns-clause-only : goal.returns-clause-only
returns-clause-only c = λ frame s. outcome-only c.args.side c.args.octets.now _ frame c.parse.ensures.reading s

pub returns-clause-fault : goal.returns-clause-fault
returns-clause-fault c = λ fault. outcome-fault c.args.side c.args.octets.now _ fault (are-octets _ (λ i. omega (arith, c.type_inv.octets i))) c.parse.ensures.reading
