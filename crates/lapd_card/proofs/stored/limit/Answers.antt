-- Hand-written answers for `limit`.
use Rattle.lapd_card.proofs.Vocabulary.{◌≡◌, ◌+◌, ◌*◌, sym, subst, Fits, w32}
use Rattle.model_card.specs.ports.Stored.{limit}
use Rattle.lapd_card.proofs.Amounts.{octets_small, fits_32}
use Rattle.lapd_card.proofs.stored.limit.Goals as goal

pub overflow_add-result-2 : goal.overflow_add-result-2
overflow_add-result-2 c =
    let frames = c.frame_limit.ensures in
    let lines = c.from.ensures in
    let width = c.from-2.ensures in
    let is : c.frame_limit.result + c.from.result * (2 * c.from-2.result + 10) ≡ limit c.args.config.now = cc in
    subst (λ n. Fits w32 n) (sym is) (fits_32 (limit c.args.config.now) (octets_small c.args.config.now c.requires))
