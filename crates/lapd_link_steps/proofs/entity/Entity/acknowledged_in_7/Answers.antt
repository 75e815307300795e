-- Hand-written answers for `Entity::acknowledged_in_7`.
use Rattle.lapd_link_steps.proofs.Vocabulary.{is_peer_busy, acknowledge, effect_of, Rnr, Rej}
use Rattle.lapd_link_steps.specs.declared.states.multiple_frame.Bearer.TheVariants.{Information}
use Rattle.model_link.specs.Established as row
use Rattle.lapd_link_steps.proofs.Steps.{acknowledged_then, by_known, by_then, by_where_yes, by_where_no}
use Rattle.lapd_link_steps.proofs.entity.Entity.acknowledged_in_7.Goals as goal

pub returns-in-Information-clause-does : goal.returns-in-Information-clause-does
returns-in-Information-clause-does c = λ terms info final.
    by_known (λ by. effect_of (row.particulars_in_7 terms) by final) c.args.by Information c.in-Information.is
    (by_where_yes (λ _. is_peer_busy) row.acknowledged_in_7 (λ messages p n named fits. c.if-self.true) (c.acknowledge.ensures.does terms info))

pub returns-in-Rnr-clause-does : goal.returns-in-Rnr-clause-does
returns-in-Rnr-clause-does c = λ terms info final.
    by_known (λ by. effect_of (row.particulars_in_7 terms) by final) c.args.by Rnr c.in-Rnr.is
    (by_then (c.acknowledge-in-Rnr.ensures.does terms info) (c.start_timer.ensures.does terms info))

pub returns-in-Rej-clause-does : goal.returns-in-Rej-clause-does
returns-in-Rej-clause-does c = λ terms info final.
    by_known (λ by. effect_of (row.particulars_in_7 terms) by final) c.args.by Rej c.in-Rej.is
    (acknowledged_then (c.acknowledge-in-Rej.ensures.does terms info) (by_then (c.send_again_from.ensures terms info _) (c.start_timer-in-Rej.ensures.does terms info)))

pub returns-in-Information-2-clause-does : goal.returns-in-Information-2-clause-does
returns-in-Information-2-clause-does c = λ terms info final.
    by_known (λ by. effect_of (row.particulars_in_7 terms) by final) c.args.by Information c.in-Information-2.is
    (by_where_no (λ _. is_peer_busy) acknowledge (λ messages p n named fits. c.if-self.false) (c.acknowledged_by_rr_in_7.ensures.does terms info))
