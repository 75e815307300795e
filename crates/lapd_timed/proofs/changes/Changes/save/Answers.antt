-- Moments are written, one after the other.
use Rattle.std.proofs.Common.{add-one, ap, take_all, ◌∙◌}
use Rattle.lapd_image.specs.Numbers.{number}
use Rattle.lapd_image.proofs.Puts.{puts-none, puts-same, puts-next}
use Rattle.model_image.specs.Images.{changes}
use Rattle.lapd_timed.proofs.changes.Changes.save.Goals as goal

pub loop-moment-init : goal.loop-moment-init
loop-moment-init c = puts-none c.requires

pub loop-moment-preserved : goal.loop-moment-preserved
loop-moment-preserved c = rw add-one (puts-next (number 8) _ c.loop-moment.moment-index 0 c.loop-moment-test.true c.loop-moment.invariant c.put_number-end.ensures)

pub returns : goal.returns
returns c =
    puts-same (ap changes (take_all c.loop-moment.moment-index _ c.loop-moment-test.false ∙ c.deref-moment-items.ensures.value ∙ ap (λ k. k.moments) c.self.view_is)) c.loop-moment.invariant
