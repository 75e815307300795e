-- Hand-written answers for `Entity::acknowledged_by_supervisory_in_8`.
use Rattle.lapd_link_steps.proofs.Vocabulary.{acknowledge}
use Rattle.model_link.specs.TimerRecovery as row
use Rattle.lapd_link_steps.proofs.Steps.{◌▹◌, acknowledged_then, by_then, by_bit_yes, by_bit_no, state_set}
use Rattle.lapd_link_steps.proofs.entity.Entity.acknowledged_by_supervisory_in_8.Goals as goal

pub returns-then-is_final-clause-does : goal.returns-then-is_final-clause-does
returns-then-is_final-clause-does c = λ terms info. by_bit_yes _ acknowledge c.if-is_final.true (acknowledged_then (c.acknowledge.ensures.does terms info) (by_then (c.send_again_from.ensures terms info _) (c.start_timer.ensures.does terms info ▹ state_set)))

pub returns-else-is_final-clause-does : goal.returns-else-is_final-clause-does
returns-else-is_final-clause-does c = λ terms info. by_bit_no _ (row.recovered c.args.timer) c.if-is_final.false (c.acknowledge.ensures.does terms info)
