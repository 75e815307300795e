-- Hand-written answers for `links_reopen`.
use Rattle.lapd_c.proofs.Waits.{links_reopen_by}
use Rattle.lapd_c.proofs.laws.links_reopen.Goals as goal

pub returns : goal.returns
returns c = links_reopen_by
