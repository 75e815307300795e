-- Hand-written answers for `SlabShelf::start`.
use Rattle.lapd_store.proofs.Vocabulary.{arith}
use Rattle.lapd_store.proofs.SlabLemmas.{IsSoundSlab-start}
use Rattle.lapd_store.proofs.slab_shelf.SlabShelf.start.Goals as goal

pub invariant_of-result : goal.invariant_of-result
invariant_of-result c =
    IsSoundSlab-start c.in_ok-contents.contents c.args.slots c.args.width c.in_ok-contents.ensures.empty c.in_ok-contents.ensures.capacity (omega arith) c.requires.most
