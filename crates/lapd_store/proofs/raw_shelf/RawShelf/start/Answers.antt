-- Hand-written answers for `RawShelf::start`.
use Rattle.lapd_store.proofs.Vocabulary.{length-replicate, arith}
use Rattle.lapd_store.proofs.RawSound.{start_store, start_sound}
use Rattle.lapd_store.proofs.raw_shelf.RawShelf.start.Goals as goal

pub invariant_of-result : goal.invariant_of-result
invariant_of-result c = grind (arith, start_sound, length-replicate)

pub returns : goal.returns
returns c =
    start_store (record { region = c.link_all.new.region; lengths = c.in_ok-lengths.lengths; octets = 0; used = 0; first = c.slot_or_end.result; width = c.args.width }) c.args.slots (c.in_ok-lengths.ensures.items_if_clones_equal (λ y is. is))
