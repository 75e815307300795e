-- Hand-written answers for `FrameCard::frame_limit`.
use Rattle.lapd_card.proofs.Vocabulary.{subst, IsInRange}
use Rattle.lapd_card.proofs.frame_card.FrameCard.frame_limit.Goals as goal

pub frame_limit-requires : goal.frame_limit-requires
frame_limit-requires g c = let (m, s) = c.self.invariant in subst IsInRange s.config s.reached.config
