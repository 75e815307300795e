-- Hand-written answers for `Region::lend`.
use Rattle.lapd_store.proofs.Vocabulary.{arith}
use Rattle.lapd_store.proofs.Runs.{run_of, holds_run}
use Rattle.lapd_store.proofs.region.Region.lend.Goals as goal

pub lend-requires : goal.lend-requires
lend-requires c = grind (arith, run_of)

pub returns-clause-octets : goal.returns-clause-octets
returns-clause-octets c = grind (arith, holds_run)
