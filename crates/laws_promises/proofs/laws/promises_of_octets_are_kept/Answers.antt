-- The law is that of OctetsKept.
use Rattle.laws_promises.proofs.OctetsKept.{octets-kept}
use Rattle.laws_promises.proofs.laws.promises_of_octets_are_kept.Goals as goal

pub returns : goal.returns
returns c = octets-kept
