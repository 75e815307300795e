-- Hand-written answers for `Entity::save`.
use Rattle.std.proofs.Common.{ap}
use Rattle.lapd_image.proofs.Puts.{puts-same, puts-then}
use Rattle.lapd_link_steps.proofs.Vocabulary.{past_at}
use Rattle.lapd_link_steps.proofs.Image.{head-resting}
use Rattle.lapd_link_steps.proofs.entity.Entity.save.Goals as goal

pub returns-clause-puts : goal.returns-clause-puts
returns-clause-puts c = λ terms m rests.
    puts-same (head-resting rests (c.state_octet.ensures (past_at m)) (c.flags.ensures (past_at m)) (ap (λ x. x.value) c.va.ensures.held) (c.outstanding.ensures.plain m.a m.s rests.window))
    (puts-then c.put_octet-at.ensures (puts-then c.put_octet-at-2.ensures (puts-then c.put_octet-at-3.ensures (puts-then c.put_octet-at-4.ensures
    (puts-then c.put_octet-at-5.ensures (puts-then c.put_octet-at-6.ensures (puts-then c.put_octet-at-7.ensures c.put_counts.ensures.puts)))))))
