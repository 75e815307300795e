-- Hand-written answers for `contents_fit`.
use Rattle.lapd_c.proofs.Contents.{contents_fit}
use Rattle.lapd_c.proofs.laws.contents_fit.Goals as goal

pub returns : goal.returns
returns c = contents_fit
