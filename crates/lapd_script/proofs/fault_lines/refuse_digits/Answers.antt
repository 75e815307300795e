-- Hand-written answers for `refuse_digits`.
use Rattle.lapd_script.proofs.Vocabulary.{List, ℕ, subst, Writes}
use Rattle.lapd_script.proofs.fault_lines.refuse_digits.Goals as goal

pub returns-clause-told : goal.returns-clause-told
returns-clause-told g c =
    (c.write.result, subst (λ (text : List ℕ). Writes c.write.result (g.F.Target.taken c.args.faults.now) (g.F.Target.taken c.write.new.self) text) c.line.ensures c.write.ensures)
