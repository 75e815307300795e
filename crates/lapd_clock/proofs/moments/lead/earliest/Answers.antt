-- One place more is the earliest, or the earliest of the others, or neither.
use Rattle.std.proofs.Common.{◌∙◌, arith, inl, inr}
use Rattle.lapd_clock.proofs.Vocabulary.{cases_lt}
use Rattle.lapd_clock.proofs.Leading.{IsTakenIn, nearer, farther, neither}
use Rattle.lapd_clock.proofs.moments.lead.earliest.Goals.{then-moment-others, else-moment-others}
use Rattle.lapd_clock.proofs.moments.lead.earliest.Goals as goal

pub loop-place-preserved : goal.loop-place-preserved
loop-place-preserved c =
    let ps = c.args.places.now in
    let n = c.loop-place.place in
    let so = c.loop-place.invariant.so_far in
    let is = c.loop-place.invariant.least in
    let taken : IsTakenIn ps n c.if-moment-others.first c.if-moment-others.least c.if-moment-others.others = elim c.if-moment-others.branch [
      | then-moment-others b ↦ elim (cases_lt _ c.loop-place.least) [
        | inl less ↦ let e = b.take.ensures.earliest less in
            nearer ps n c.loop-place.first c.loop-place.others _ (omega arith) so c.loop-place.least is _ _ _ less (b.first-is ∙ e.0) (b.least-is ∙ e.1) (b.others-is ∙ e.2)
        | inr more ↦ let e = b.take.ensures.other more in
            farther ps n c.loop-place.first c.loop-place.others _ (omega arith) so c.loop-place.least is _ _ _ more b.if-moment-others.true (b.first-is ∙ e.0) (b.least-is ∙ e.1) (b.others-is ∙ e.2)
      ]
      | else-moment-others b ↦ neither ps n c.loop-place.first c.loop-place.others _ (omega arith) so c.loop-place.least is _ _ _ b.if-moment-others.false c.loop-place.invariant.ordered b.first-is b.least-is b.others-is
    ] in
    record { so_far = taken.so_far; least = taken.least; ordered = taken.ordered }
