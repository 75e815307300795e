-- Hand-written answers for `AnyCard::frames`.
use Rattle.lapd_card.proofs.Vocabulary.{sym, ap, ◌∙◌}
use Rattle.lapd_card.specs.Kinds.{FrameCardStands, card_in}
use Rattle.lapd_card.specs.declared.kinds.AnyCard.TheVariants.{Octets}
use Rattle.lapd_card.proofs.Kinded.{by_octets, by_frames}
use Rattle.lapd_card.proofs.kinds.AnyCard.frames.Goals as goal

pub returns-in-Octets-clause-stands : goal.returns-in-Octets-clause-stands
returns-in-Octets-clause-stands c =
    by_octets (λ m. FrameCardStands c.card.inside.frames (card_in m)) (c.in-Octets.is ∙ ap Octets (sym c.card.view_is)) (λ m s. s.frames)

pub returns-in-Frames-clause-stands : goal.returns-in-Frames-clause-stands
returns-in-Frames-clause-stands c = by_frames (λ m. FrameCardStands c.in-Frames.card (card_in m)) c.in-Frames.is (λ m s. s)
