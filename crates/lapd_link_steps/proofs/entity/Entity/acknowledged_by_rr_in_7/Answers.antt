-- Hand-written answers for `Entity::acknowledged_by_rr_in_7`.
use Rattle.lapd_link_steps.proofs.Vocabulary.{sym, ◌∙◌, true≢false, arith, eq-eqb, lt-ltb, le-ltb, T200, T203, ◌then◌, nothing, depending_on}
use Rattle.model_link.specs.Words as word
use Rattle.model_link.specs.Established as row
use Rattle.lapd_link_steps.proofs.Tests.{ne-eqb}
use Rattle.lapd_link_steps.proofs.Steps.{by_then, by_any, by_where_yes, by_where_no, does_nothing}
use Rattle.lapd_link_steps.proofs.entity.Entity.acknowledged_by_rr_in_7.Goals as goal

pub returns-then-names_next-clause-does : goal.returns-then-names_next-clause-does
returns-then-names_next-clause-does c = λ terms info.
    by_where_yes row.is_all_sent (λ n. depending_on (row.is_beyond_acknowledged n) (word.acknowledge n then word.start T200) nothing)
    (λ messages p n named fits. eq-eqb n p.s ((c.names_next.ensures.plain p.a p.s n fits.window named).0 c.if-names_next.true))
    (by_then (c.acknowledge.ensures.does terms info) (c.start_timer.ensures.does terms info))

pub returns-then-acknowledged_by-eq0-clause-does : goal.returns-then-acknowledged_by-eq0-clause-does
returns-then-acknowledged_by-eq0-clause-does c = λ terms info.
    by_where_no row.is_all_sent (λ n. word.acknowledge n then word.start T203)
    (λ messages p n named fits. ne-eqb n p.s (λ same. absurd (true≢false (sym ((c.names_next.ensures.plain p.a p.s n fits.window named).1 same) ∙ c.if-names_next.false))))
    (by_where_no row.is_beyond_acknowledged (λ n. word.acknowledge n then word.start T200)
    (λ messages p n named fits. le-ltb p.a n (omega (arith, c.if-acknowledged_by-eq0.true, c.acknowledged_by.ensures.plain p.a p.s n fits.window named)))
    (by_any does_nothing))

pub returns-clause-does : goal.returns-clause-does
returns-clause-does c = λ terms info.
    by_where_no row.is_all_sent (λ n. word.acknowledge n then word.start T203)
    (λ messages p n named fits. ne-eqb n p.s (λ same. absurd (true≢false (sym ((c.names_next.ensures.plain p.a p.s n fits.window named).1 same) ∙ c.if-names_next.false))))
    (by_where_yes row.is_beyond_acknowledged (λ _. nothing)
    (λ messages p n named fits. lt-ltb p.a n (omega (arith, c.if-acknowledged_by-eq0.false, c.acknowledged_by.ensures.plain p.a p.s n fits.window named)))
    (by_then (c.acknowledge-2.ensures.does terms info) (c.start_timer-2.ensures.does terms info)))
