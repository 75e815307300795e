-- Hand-written answers for `restore_seed`.
use Rattle.lapd_card.proofs.Vocabulary.{sym, subst}
use Rattle.lapd_image.proofs.Reading.{on_err}
use Rattle.lapd_image.specs.Reads.{HasNone}
use Rattle.model_line.specs.ConfigImage.{seed}
use Rattle.lapd_card.specs.Image.{IsSeed}
use Rattle.lapd_card.proofs.Configs.{none_of_seed}
use Rattle.lapd_card.proofs.saved.configs.restore_seed.Goals as goal

pub returns-in_err-number-clause-none : goal.returns-in_err-number-clause-none
returns-in_err-number-clause-none c =
    on_err c.from_residual.result (subst (λ there. HasNone seed (IsSeed there) c.args.reader.now) (sym c.if-there.true) (none_of_seed c.in_err-number.ensures.short))
