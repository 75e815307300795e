-- Hand-written answers for `RawShelfShelf::get`.
use Rattle.lapd_store.proofs.Vocabulary.{arith}
use Rattle.lapd_store.proofs.RawLemmas.{read_length}
use Rattle.lapd_store.proofs.RawSound.{used_slot, held}
use Rattle.lapd_store.proofs.raw_shelf.RawShelfShelf.get.Goals as goal

pub overflow_mul-at : goal.overflow_mul-at
overflow_mul-at c = grind (arith, used_slot)

pub index-requires : goal.index-requires
index-requires c = let u = used_slot c.self.invariant c.self.view_is c.slot.view_is c.requires in omega (arith, u.there, c.self.inside.lengths.ok.0)

pub lend-requires-clause-within : goal.lend-requires-clause-within
lend-requires-clause-within c = grind (arith, used_slot, read_length)

pub lend-requires-clause-written : goal.lend-requires-clause-written
lend-requires-clause-written c = grind (arith, used_slot, read_length)

pub returns-clause-octets : goal.returns-clause-octets
returns-clause-octets c = grind (arith, used_slot, read_length, held)

pub returns-clause-fits : goal.returns-clause-fits
returns-clause-fits c = grind (arith, used_slot, read_length)
