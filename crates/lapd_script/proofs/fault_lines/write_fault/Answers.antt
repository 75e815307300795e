-- Hand-written answers for `write_fault`.
use Rattle.lapd_script.proofs.Vocabulary.{sym, subst, Writes, PlayFault, play_line}
use Rattle.lapd_script.proofs.fault_lines.write_fault.Goals as goal

pub returns-in-Read : goal.returns-in-Read
returns-in-Read g c =
    subst (λ (fault : PlayFault). Writes c.write.result (g.F.Target.taken c.args.faults.now) (g.F.Target.taken c.write.new.self) (play_line fault)) (sym c.in-Read.is) c.write.ensures

pub returns-in-Write : goal.returns-in-Write
returns-in-Write g c =
    subst (λ (fault : PlayFault). Writes c.write-in-Write.result (g.F.Target.taken c.args.faults.now) (g.F.Target.taken c.write-in-Write.new.self) (play_line fault)) (sym c.in-Write.is) c.write-in-Write.ensures

pub returns-in-OutOfMemory : goal.returns-in-OutOfMemory
returns-in-OutOfMemory g c =
    subst (λ (fault : PlayFault). Writes c.write-in-OutOfMemory.result (g.F.Target.taken c.args.faults.now) (g.F.Target.taken c.write-in-OutOfMemory.new.self) (play_line fault)) (sym c.in-OutOfMemory.is) c.write-in-OutOfMemory.ensures
