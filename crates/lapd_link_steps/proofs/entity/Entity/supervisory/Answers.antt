-- Hand-written answers for `Entity::supervisory`.
use Rattle.lapd_link_steps.proofs.Vocabulary.{ℕ, Bool, List, Terms, Entity, BareReport, Does, sym, ap, ◌≡◌, ◌∙◌, ◌&&◌, true, false, not, by_number, effect_of, particulars, unsolicited}
use Rattle.model_link.specs.MultipleFrame as row
use Rattle.lapd_link_steps.proofs.Steps.{◌▹◌, with_known}
use Rattle.lapd_link_steps.proofs.entity.Entity.supervisory.Goals.{then-not-command, else-not-command, then-command, else-command, then-not-recovering, else-not-recovering}
use Rattle.lapd_link_steps.proofs.entity.Entity.supervisory.Goals as goal

told_final : {terms : Terms} {info : List ℕ} {e : Entity} {t t' : BareReport} (recovering final : Bool) → Does terms info (unsolicited terms (not recovering && final)) e t e t' → Does terms info ((particulars recovering terms).told_of final) e t e t'
told_final true final done = done
told_final false final done = done

pub returns-clause-does : goal.returns-clause-does
returns-clause-does c = λ info.
    let is_final : c.if-not-command.is_final ≡ row.is_final c.args.command c.args.pf = elim c.if-not-command.branch [
      | then-not-command w ↦ w.is_final-is ∙ ap (λ b. not b && c.args.pf) (sym w.if-not-command.true)
      | else-not-command w ↦ w.is_final-is ∙ ap not w.if-not-command.false ∙ ap (λ b. not b && c.args.pf) (sym w.if-not-command.false)
    ] in
    let polled : c.if-command.answer_if ≡ c.args.command && c.args.pf = elim c.if-command.branch [
      | then-command w ↦ w.answer_if-is ∙ ap (λ b. b && c.args.pf) (sym w.if-command.true)
      | else-command w ↦ w.answer_if-is ∙ w.if-command.false ∙ ap (λ b. b && c.args.pf) (sym w.if-command.false)
    ] in
    let told : c.if-not-recovering.unsolicited ≡ not c.args.recovering && row.is_final c.args.command c.args.pf = elim c.if-not-recovering.branch [
      | then-not-recovering w ↦ w.unsolicited-is ∙ is_final ∙ ap (λ b. not b && row.is_final c.args.command c.args.pf) (sym w.if-not-recovering.true)
      | else-not-recovering w ↦ w.unsolicited-is ∙ ap not w.if-not-recovering.false ∙ ap (λ b. not b && row.is_final c.args.command c.args.pf) (sym w.if-not-recovering.false)
    ] in
    with_known (row.dropped c.args.terms.now) _ _ (sym polled) (c.answer_if.ensures.does info)
    ▹ told_final c.args.recovering _ (with_known (unsolicited c.args.terms.now) _ _ (sym told) (c.unsolicited.ensures.does info _))
    ▹ with_known (λ final. by_number c.args.terms.now c.args.nr (effect_of (particulars c.args.recovering c.args.terms.now) c.args.by final)) _ _ (sym is_final) (c.number.ensures.does info)
