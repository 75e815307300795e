-- Hand-written answers for `Entity::next_information`.
use Rattle.lapd_link_steps.proofs.Vocabulary.{ℕ, ◌+◌, List, Option, Some, false, ap, ◌∙◌, slice_get, Seq, seq, command, Information}
use Rattle.lapd_link_steps.proofs.Queue.{contents_at-queue}
use Rattle.lapd_link_steps.proofs.entity.Entity.next_information.Goals as goal

pub returns-clause-given : goal.returns-clause-given
returns-clause-given c = λ terms messages t p none fits.
    ap (λ (vs : Seq). Some (record { frame = command (Information vs c.args.self.now.vr false); contents = slice_get messages c.from.result })) (c.vs.ensures.plain p.a p.s fits.window)
    ∙ ap (λ (vr : Seq). Some (record { frame = command (Information (seq p.s) vr false); contents = slice_get messages c.from.result })) fits.received
    ∙ ap (λ (octets : Option (List ℕ)). Some (record { frame = command (Information (seq p.s) (seq p.r) false); contents = octets }))
    (contents_at-queue messages p.contents t.released p.a p.s c.from.result none fits.queue (ap (λ n. p.a + n) c.from.ensures ∙ c.outstanding.ensures.plain p.a p.s fits.window))
