-- Hand-written answers for `Entity::has_frame`.
use Rattle.lapd_link_steps.proofs.Vocabulary.{◌||◌, ap, sym, ◌∙◌}
use Rattle.lapd_link_steps.proofs.Giving.{control_given, other_given}
use Rattle.lapd_link_steps.proofs.entity.Entity.has_frame.Goals as goal

pub returns-then-not-is_empty : goal.returns-then-not-is_empty
returns-then-not-is_empty c = λ m rests many few. control_given m rests (sym c.if-not-is_empty.ensures)

pub returns-then-may_send_information : goal.returns-then-may_send_information
returns-then-may_send_information c = λ m rests many few.
    c.if-may_send_information.true ∙ ap (λ b. b || c.args.self.now.pending) (sym c.if-may_send_information.true) ∙ other_given m rests (sym c.if-not-is_empty.ensures) c.may_send_information.ensures.machine many few

pub returns-else-may_send_information : goal.returns-else-may_send_information
returns-else-may_send_information c = λ m rests many few.
    ap (λ b. b || c.args.self.now.pending) (sym c.if-may_send_information.false) ∙ other_given m rests (sym c.if-not-is_empty.ensures) c.may_send_information.ensures.machine many few
