-- Hand-written answers for `Teis::leave`.
use Rattle.lapd_tei.proofs.Vocabulary.{◌≡◌, IfSome, false, sym, subst, ap, ◌∙◌, is_checked, place_of, due_at, AreSoundChecks, IsAsRead, IsSoundTable, IsSoundMemory, IsSoundCheck}
use Rattle.model_teis.proofs.Tables.{table-freed}
use Rattle.model_teis.proofs.OfNetwork.Memories.{memory-freed}
use Rattle.model_teis.proofs.OfNetwork.SoundWords.{check-freed}
use Rattle.model_teis.proofs.OfNetwork.Dues.{dues-freed, read-less, read-leaving}
use Rattle.lapd_tei.proofs.teis.Teis.leave.Goals as goal

pub invariant_of-self : goal.invariant_of-self
invariant_of-self c =
    let sound = c.self.invariant in
    let other : is_checked c.args.tei c.self.inside.check ≡ false = subst (λ m. is_checked c.args.tei m.check ≡ false) (sym c.self.view_is) c.requires in
    let cleared : c.put.new.self ≡ due_at (place_of c.args.tei c.self.inside.table) false c.self.inside.due = c.put.ensures ∙ ap (λ o. due_at o false c.self.inside.due) c.take-place.ensures.place in
    record {
      table = subst IsSoundTable (sym c.take-place.ensures.freed) (table-freed _ c.args.tei sound.table);
      memory =
          subst (λ places. IsSoundMemory places c.forget.new.self) (sym c.take-place.ensures.freed)
          (subst (IsSoundMemory _) (sym c.forget.ensures) (memory-freed _ _ c.args.tei sound.memory));
      checked = subst (λ places. IfSome c.self.inside.check (IsSoundCheck c.self.inside.reading places)) (sym c.take-place.ensures.freed) (check-freed _ _ _ c.args.tei other sound.checked);
      due = subst (λ places. AreSoundChecks places c.self.inside.check c.put.new.self) (sym c.take-place.ensures.freed)
          (subst (AreSoundChecks _ c.self.inside.check) (sym cleared) (dues-freed _ _ _ c.args.tei sound.due));
      queue = sound.queue;
      read = subst (IsAsRead c.self.inside.reading c.forget.new.self) (sym cleared)
          (subst (λ r. IsAsRead c.self.inside.reading r (due_at (place_of c.args.tei c.self.inside.table) false c.self.inside.due)) (sym c.forget.ensures)
          (read-less _ _ c.self.inside.due (place_of c.args.tei c.self.inside.table) (read-leaving _ _ c.self.inside.due _ sound.read)));
    }
