-- Hand-written answers for `FrameCard::has_next`.
use Rattle.lapd_card.proofs.Vocabulary.{sym, ◌∙◌}
use Rattle.lapd_card.proofs.OneLine.{few_card, few_line}
use Rattle.lapd_card.proofs.Waiting.{same_marks}
use Rattle.lapd_card.proofs.frame_card.FrameCard.has_next.Goals as goal

pub has-requires : goal.has-requires
has-requires g c = few_line g.S.Shelf.store c.self.invariant c.self.view_is c.requires

pub returns : goal.returns
returns g c = λ m s.
    let (are, all, few) = few_card g.S.Shelf.store c.self.view_is m s in
    same_marks _ _ (sym c.has.ensures ∙ are c.args.line (few_line g.S.Shelf.store c.self.invariant c.self.view_is c.requires))
