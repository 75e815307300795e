-- Hand-written answers for `refuse_words`.
use Rattle.lapd_script.proofs.fault_lines.refuse_words.Goals as goal

pub returns-clause-told : goal.returns-clause-told
returns-clause-told g c = (c.write.result, c.write.ensures)
