-- Hand-written answers for `Teis::answer_request`.
use Rattle.lapd_tei.proofs.Vocabulary.{sym, subst, ◌∙◌, arith, IsSoundMemory, IsSoundQueue, IsAsRead, IdentityDenied, management_of}
use Rattle.model_teis.proofs.Tables.{on-newcomer, free_tei-is}
use Rattle.model_teis.proofs.OfNetwork.Memories.{memory-put, memory-as_read, remembered-range}
use Rattle.model_teis.proofs.OfNetwork.Dues.{read-remembered}
use Rattle.model_teis.proofs.OfNetwork.SoundWords.{sound_came, sound_sent, queue-sent}
use Rattle.lapd_tei.proofs.teis.Teis.answer_request.Goals as goal

pub invariant_of-self : goal.invariant_of-self
invariant_of-self c =
    let sound = c.self.invariant in
    sound_sent (management_of c.self.inside) _ _ _ sound (remembered-range _ _ c.args.ri _ sound.table sound.memory (sym c.tei_for.ensures ∙ c.in-Some.is)) sound.checked sound.due c.send.ensures.waits

pub invariant_of-self-in_default-2 : goal.invariant_of-self-in_default-2
invariant_of-self-in_default-2 c =
    sound_sent (management_of c.self.inside) (IdentityDenied c.args.ri 127) _ _ c.self.invariant (omega arith) c.self.invariant.checked c.self.invariant.due c.send-in_default-2.ensures.waits

pub invariant_of-self-2 : goal.invariant_of-self-2
invariant_of-self-2 c =
    let sound = c.self.invariant in
    let at = sym c.free_place.ensures.place ∙ c.in-Some-Some.is-0 in
    let free = free_tei-is c.self.inside.table c.in-Some-Some.tei (sym c.free_tei.ensures ∙ c.in-Some-Some.is-1) in
    let new = sym c.tei_for.ensures ∙ c.in_default.is in
    sound_came (management_of c.self.inside) _ _ _ _ _ sound free.off at free.most c.put.ensures
    (subst (IsSoundMemory _) (sym c.remember.ensures) (memory-as_read c.self.inside.reading _ _ _ c.args.ri _ sound.memory (memory-put _ _ _ _ at sound.memory) new free.off (on-newcomer _ _ _ at)))
    (subst IsSoundQueue (sym c.send-2.ensures.waits) (queue-sent _ _ sound.queue (omega (arith, free.most))))
    (subst (λ r. IsAsRead c.self.inside.reading r c.self.inside.due) (sym c.remember.ensures) (read-remembered c.self.inside.reading _ _ c.self.inside.due sound.read))
