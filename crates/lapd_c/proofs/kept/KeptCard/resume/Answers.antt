-- Hand-written answers for `KeptCard::resume`.
use Rattle.std.proofs.Common.{List, ℕ, subst, sym}
use Rattle.std.specs.Prelude.{IfSome}
use Rattle.lapd_card.specs.Kinds.{FrameCardStands}
use Rattle.lapd_timed.specs.Image.{IsRestoredFrom}
use Rattle.lapd_c.specs.Saves.{IsRead}
use Rattle.lapd_c.specs.declared.kept.KeptCard.{KeptCard}
use Rattle.lapd_c.proofs.Saving.{boxed, read_again}
use Rattle.lapd_c.proofs.kept.KeptCard.resume.Goals as goal

pub returns : goal.returns
returns c =
    let of = c.args.restored in
    let kept : KeptCard = record { timed = c.of-timed.result; refused = c.mark.new.refused } in
    subst (λ o. IfSome o (λ kept. (image : List ℕ) → IsRestoredFrom image of.card of.waits of.timers → IsRead image kept.value)) (sym c.ok-2.ensures.value)
    (boxed (λ kept. (image : List ℕ) → IsRestoredFrom image of.card of.waits of.timers → IsRead image kept) kept c.new.result (λ b. b.value) c.new.ensures.ok
    (λ image from. read_again image of.waits kept of.card of.timers c.of-timed.ensures.card c.of-timed.ensures.timers
    (λ m s. c.mark.ensures m (subst (λ f. FrameCardStands f m) (sym c.frames-2.ensures.card) s)) from))
