-- Hand-written answers for `Teis::start_as`.
use Rattle.lapd_tei.proofs.Vocabulary.{rules, sym, subst, IsSoundTable, IsSoundMemory, AreSoundChecks, IsAsRead, None}
use Rattle.model_teis.proofs.Tables.{table-empty}
use Rattle.model_teis.proofs.OfNetwork.SoundWords.{memory-empty, queue-empty}
use Rattle.model_teis.proofs.OfNetwork.Dues.{dues-empty, read-empty}
use Rattle.lapd_tei.proofs.teis.Teis.start_as.Goals as goal

pub invariant_of-result : goal.invariant_of-result
invariant_of-result c = record {
  table = subst IsSoundTable (sym c.empty.ensures) (table-empty c.args.terminals);
  memory = subst (IsSoundMemory c.empty.result) (sym c.new.ensures) (memory-empty c.empty.result);
  checked = tt;
  due = subst (λ p. AreSoundChecks p None c.none.result) (sym c.empty.ensures) (subst (AreSoundChecks _ None) (sym c.none.ensures) (dues-empty c.args.terminals));
  queue = search (rules, queue-empty);
  read = subst (λ r. IsAsRead c.args.reading r c.none.result) (sym c.new.ensures) (subst (IsAsRead c.args.reading _) (sym c.none.ensures) (read-empty c.args.reading c.args.terminals));
}
