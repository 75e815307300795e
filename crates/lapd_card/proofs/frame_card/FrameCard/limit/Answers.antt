-- Hand-written answers for `FrameCard::limit`.
use Rattle.lapd_card.proofs.Vocabulary.{sym, subst, ap, ◌∙◌, IsInRange, FrameStands}
use Rattle.model_card.specs.ports.Stored.{limit}
use Rattle.lapd_card.proofs.frame_card.FrameCard.limit.Goals as goal

pub limit-requires : goal.limit-requires
limit-requires g c = let (m, s) = c.self.invariant in subst IsInRange s.config s.reached.config

pub returns : goal.returns
returns g c = λ m s. c.limit.ensures ∙ ap limit (sym ((subst (λ card. FrameStands g.S.Shelf.store card m) (sym c.self.view_is) s).config))
