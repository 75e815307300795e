-- Hand-written answers for `SlotQueue::release_oldest`.
use Rattle.lapd_store.proofs.Vocabulary.{drop, arith}
use Rattle.lapd_store.proofs.Queues.{Keeps-one_less, without-one_less}
use Rattle.lapd_store.proofs.slot_queue.SlotQueue.release_oldest.Goals as goal

pub loop-released-preserved : goal.loop-released-preserved
loop-released-preserved g c =
    let n = c.loop-released.released in
    let before = c.loop-released.invariant in
    let one = c.release_one.ensures in
    record {
      kept = λ messages others kept. Keeps-one_less c.release_one.new.self.slots messages others n (one.kept (drop n messages) others (before.kept messages others kept));
      slots = without-one_less c.args.self.now c.loop-released.self c.release_one.new.self n before.slots one.slots;
      limits = grind arith;
    }
