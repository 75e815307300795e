-- Hand-written answers for `Entity::contents_in_7_8`.
use Rattle.lapd_link_steps.proofs.Vocabulary.{sym, ap, ◌∙◌, eq-eqb, true, Seq, seq, is_own_busy, depending_on}
use Rattle.lapd_link_steps.proofs.Tests.{ne-eqb}
use Rattle.model_link.specs.MultipleFrame as row
use Rattle.model_link.specs.Words as word
use Rattle.lapd_link_steps.proofs.Steps.{◌▹◌, bit_yes, bit_no, where_yes, where_no, pending_set, rejecting_set}
use Rattle.lapd_link_steps.proofs.entity.Entity.contents_in_7_8.Goals as goal

pub returns-then-self-clause-does : goal.returns-then-self-clause-does
returns-then-self-clause-does c = λ info.
    where_yes is_own_busy (depending_on (row.is_next c.args.ns) (row.in_sequence c.args.terms.now c.args.pf info) (row.out_of_sequence c.args.terms.now c.args.pf))
    (λ messages p fits. c.if-self.true)
    (c.answer_if.ensures.does info)

pub returns-then-ns-self-clause-does : goal.returns-then-ns-self-clause-does
returns-then-ns-self-clause-does c = λ info.
    where_no is_own_busy (row.dropped c.args.terms.now c.args.pf) (λ messages p fits. c.if-self.false)
    (where_no (row.is_next c.args.ns) (row.in_sequence c.args.terms.now c.args.pf info)
    (λ messages p fits. ne-eqb c.args.ns.value (seq p.r).value (λ same. c.if-ns-self.true (same ∙ sym (ap (λ (v : Seq). v.value) fits.received))))
    (c.out_of_sequence.ensures.does info))

pub returns-then-pf-clause-does : goal.returns-then-pf-clause-does
returns-then-pf-clause-does c = λ info.
    where_no is_own_busy (row.dropped c.args.terms.now c.args.pf) (λ messages p fits. c.if-self.false)
    (where_yes (row.is_next c.args.ns) (row.out_of_sequence c.args.terms.now c.args.pf)
    (λ messages p fits. eq-eqb c.args.ns.value (seq p.r).value (c.if-ns-self.false ∙ ap (λ (v : Seq). v.value) fits.received))
    (c.count_received.ensures _ _ _ ▹ rejecting_set ▹ c.deliver.ensures.does info _ ▹ bit_yes _ (word.pending_is true) c.if-pf.true (c.report_receiver_status.ensures.does info)))

pub returns-else-pf-clause-does : goal.returns-else-pf-clause-does
returns-else-pf-clause-does c = λ info.
    where_no is_own_busy (row.dropped c.args.terms.now c.args.pf) (λ messages p fits. c.if-self.false)
    (where_yes (row.is_next c.args.ns) (row.out_of_sequence c.args.terms.now c.args.pf)
    (λ messages p fits. eq-eqb c.args.ns.value (seq p.r).value (c.if-ns-self.false ∙ ap (λ (v : Seq). v.value) fits.received))
    (c.count_received.ensures _ _ _ ▹ rejecting_set ▹ c.deliver.ensures.does info _ ▹ bit_no _ (word.answer c.args.terms.now) c.if-pf.false (pending_set)))
