-- Hand-written answers for `SlabShelfShelf::used`.
use Rattle.lapd_store.proofs.Vocabulary.{arith}
use Rattle.lapd_store.proofs.slab_shelf.SlabShelfShelf.used.Goals as goal

pub overflow_cast-result : goal.overflow_cast-result
overflow_cast-result c = omega (arith, c.self.invariant.counted, c.self.invariant.within.count, c.self.invariant.few)
