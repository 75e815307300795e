-- Hand-written answers for `SlabShelfShelf::get`.
use Rattle.lapd_store.proofs.Vocabulary.{◌≡◌, Some, slab_store, contents_of, arith}
use Rattle.lapd_store.proofs.SlabLemmas.{contents_of-slab, ContainsKey-slab}
use Rattle.lapd_store.proofs.StoreLemmas.{length_within}
use Rattle.lapd_store.proofs.slab_shelf.SlabShelfShelf.get.Goals as goal

pub index-requires : goal.index-requires
index-requires c = grind (arith, ContainsKey-slab)

lent : (c : goal.After-as_slice) → contents_of (slab_store c.self.inside) c.slot.inside.number ≡ Some c.as_slice.result.now
lent c = grind (arith, contents_of-slab)

pub returns-clause-octets : goal.returns-clause-octets
returns-clause-octets c = rw (← c.self.view_is, ← c.slot.view_is) (lent c)

pub returns-clause-fits : goal.returns-clause-fits
returns-clause-fits c = grind (arith, length_within, lent)
