-- Hand-written answers for `SlotQueue::release_one`.
use Rattle.lapd_store.proofs.Vocabulary.{sym, arith}
use Rattle.lapd_store.proofs.Queues.{Keeps-used, Keeps-release}
use Rattle.lapd_store.proofs.slot_queue.SlotQueue.release_one.Goals as goal

pub release-requires : goal.release-requires
release-requires g c =
    let (messages, others, kept) = c.requires in
    Keeps-used c.args.self.now.slots messages others 0 c.in-Some.slot (sym c.in-Some.ensures.oldest) kept

pub returns-in-Some-clause-kept : goal.returns-in-Some-clause-kept
returns-in-Some-clause-kept g c messages others kept = grind (arith, Keeps-release)
