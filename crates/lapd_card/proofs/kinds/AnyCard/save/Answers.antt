-- Hand-written answers for `AnyCard::save`.
use Rattle.lapd_card.proofs.Vocabulary.{ap, counters_in, subst}
use Rattle.lapd_card.specs.Image.{IsSavedOf, lines_of}
use Rattle.lapd_card.proofs.kinds.AnyCard.save.Goals as goal

pub returns-clause-puts : goal.returns-clause-puts
returns-clause-puts c = λ m s.
    c.save.ensures.puts (lines_of c.args.self.now m) (record { stands = c.frames.ensures.stands m s; counted = ap (λ card. counters_in card.lines) c.frames.ensures.card })

pub returns-clause-saved : goal.returns-clause-saved
returns-clause-saved c = λ m s.
    subst (λ card. IsSavedOf card.config (lines_of c.args.self.now m)) c.frames.ensures.card
    (c.save.ensures.saved (lines_of c.args.self.now m) (record { stands = c.frames.ensures.stands m s; counted = ap (λ card. counters_in card.lines) c.frames.ensures.card }))
