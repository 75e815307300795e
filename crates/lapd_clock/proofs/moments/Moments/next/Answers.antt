-- The first, if one runs.
use Rattle.std.proofs.Common.{◌∙◌, sym, ap, arith}
use Rattle.lapd_clock.specs.Timers.{first_moment}
use Rattle.lapd_clock.proofs.Standing.{next_is, none_left}
use Rattle.lapd_clock.proofs.moments.Moments.next.Goals as goal

pub returns-in_err-place-clause-next : goal.returns-in_err-place-clause-next
returns-in_err-place-clause-next c = c.from_residual.ensures ∙ sym (ap first_moment (none_left _ c.args.self.now (omega arith) c.in_err-place.ensures.none))

pub returns-clause-next : goal.returns-clause-next
returns-clause-next c =
    next_is c.self.inside.places.items c.args.self.now c.in_ok-place.place _ c.index.result.now (c.self.view_is ∙ c.first.ensures.unchanged) c.in_ok-place.ensures.first c.index.ensures
