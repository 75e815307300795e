-- Hand-written answers for `job`.
use Rattle.lapd_script.proofs.Vocabulary.{true, false, sym, ◌∙◌}
use Rattle.lapd_script.proofs.JobLemmas.{and_first, with_network, no_limits, with_limits}
use Rattle.lapd_script.proofs.arguments.job.Goals as goal
use Rattle.lapd_script.proofs.arguments.job.Goals.{then-eq, else-eq}

pub returns-after-eq : goal.returns-after-eq
returns-after-eq c =
    with_network c.args.words.now _ c.if-eq.then_some c.in-len3.len_at_least c.in-len3.len_below c.then_some-in-len3.ensures (elim c.if-eq.branch [
      | then-eq w ↦ and_first _ _ _ true w.if-eq.ensures (w.then_some-is ∙ w.eq-then-eq.ensures)
      | else-eq w ↦ and_first _ _ _ false w.if-eq.ensures (w.then_some-is ∙ c.eq-in-len3.ensures ∙ sym w.if-eq.ensures)
    ])

pub returns-then-eq-2 : goal.returns-then-eq-2
returns-then-eq-2 c = with_limits c.args.words.now _ c.in-len6.len_at_least c.in-len6.len_below c.if-eq-2.ensures c.limits.ensures

pub returns-else-eq-2 : goal.returns-else-eq-2
returns-else-eq-2 c = no_limits c.args.words.now c.in-len6.len_at_least c.in-len6.len_below c.if-eq-2.ensures
