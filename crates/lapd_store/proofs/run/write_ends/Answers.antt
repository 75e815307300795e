-- Hand-written answers for `write_ends`.
use Rattle.lapd_store.proofs.Vocabulary.{◌-◌, length, arith}
use Rattle.lapd_store.proofs.Blocks.{both_ends}
use Rattle.lapd_store.proofs.run.write_ends.Goals as goal

pub returns-clause-written : goal.returns-clause-written
returns-clause-written g c k lt =
    both_ends c.write_block.new.memory.written c.write_block-2.new.memory.written c.args.from (length c.args.octets.now - g.row.N) g.row.N c.args.octets.now
    c.block_of.result c.block_of-2.result (omega (arith, c.requires.all)) c.block_of.ensures.len c.block_of-2.ensures.len
    c.write_block.ensures.written c.block_of.ensures.octets c.write_block-2.ensures.written c.block_of-2.ensures.octets c.write_block-2.ensures.others
    k (omega (arith, lt, c.requires.enough))
