-- Hand-written answers for `KeptCard::save`.
use Rattle.std.proofs.Common.{ap, subst, sym, ◌∙◌}
use Rattle.lapd_card.specs.Kinds.{frames_of, FrameCardStands}
use Rattle.lapd_c.proofs.Saving.{marks_held_as, stands_for}
use Rattle.lapd_c.proofs.kept.KeptCard.save.Goals as goal

pub returns-clause-saved : goal.returns-clause-saved
returns-clause-saved c = λ s held.
    let numbers = c.waits_of-waits.ensures s.card (subst (λ f. FrameCardStands f s.card) (sym (c.frames.ensures.card ∙ ap frames_of c.card.ensures)) held.lines) in
    c.save.ensures.saved s (stands_for c.args.self.now c.waits_of-waits.result s numbers held) (marks_held_as c.args.self.now s held)
