-- Hand-written answers for `blocks_are_calls`.
use Rattle.lapd_c.proofs.BlockMade.{blocks_are_made}
use Rattle.lapd_c.proofs.Blocks.{blocks_are_calls_by}
use Rattle.lapd_c.proofs.laws.blocks_are_calls.Goals as goal

pub returns : goal.returns
returns c = blocks_are_calls_by blocks_are_made
