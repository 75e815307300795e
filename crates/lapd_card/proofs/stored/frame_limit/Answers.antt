-- Hand-written answers for `frame_limit`.
use Rattle.lapd_card.proofs.Vocabulary.{◌≡◌, ◌+◌, ◌*◌, sym, subst, Fits, w32, limit}
use Rattle.lapd_card.proofs.Amounts.{fits_32, limit_small}
use Rattle.lapd_card.proofs.stored.frame_limit.Goals as goal

pub overflow_add-result : goal.overflow_add-result
overflow_add-result c =
    let control = c.from.ensures in
    let terminals = c.from-2.ensures in
    let lines = c.from-3.ensures in
    let slots = c.from-4.ensures in
    let width = c.from-5.ensures in
    let held = c.most_held.ensures.most in
    let is : c.from-3.result * (8 * c.from.result * c.from-2.result + c.most_held.result) + c.from-4.result * c.from-5.result ≡ limit c.args.config.now = cc in
    subst (λ n. Fits w32 n) (sym is) (fits_32 (limit c.args.config.now) (limit_small c.args.config.now c.requires))
