-- A place of a line that rests, if one does.
use Rattle.std.proofs.Common.{◌+◌, ◌*◌, arith, ap, subst, sym}
use Rattle.std.specs.List.{between}
use Rattle.std.specs.Prelude.{IfNone}
use Rattle.lapd_clock.specs.OwnPlaces.{is_full}
use Rattle.lapd_clock.proofs.AnyPlace.{free-at, full, none-there}
use Rattle.lapd_clock.proofs.Bounds.{some-place}
use Rattle.lapd_clock.proofs.moments.Moments.free.Goals as goal

pub returns-then-line-len-clause-none : goal.returns-then-line-len-clause-none
returns-then-line-len-clause-none c = λ i within own.
    absurd (none-there c.self.inside.each c.args.line c.self.inside.bounds.items c.self.inside.leads.items c.self.inside.places.items c.args.self.now c.self.view_is c.self.invariant.bounded
    (omega (arith, c.if-line-len.true, c.len.ensures, c.self.inside.leads.ok.0)) some-place i within own)

pub returns-in_err-place-clause-none : goal.returns-in_err-place-clause-none
returns-in_err-place-clause-none c =
    subst (λ o. IfNone o (is_full c.args.line c.args.self.now)) (sym c.from_residual.ensures)
    (full c.self.inside.each c.args.line c.self.inside.bounds.items c.self.inside.leads.items c.self.inside.places.items c.args.self.now c.self.view_is c.self.invariant.bounded
    (omega (arith, c.if-line-len.false, c.len.ensures, c.self.inside.leads.ok.0)) _
    (ap (between (c.args.line * c.self.inside.each) (c.args.line * c.self.inside.each + c.self.inside.each)) c.deref.ensures.value) some-place c.in_err-place.ensures.none)

pub returns-clause-rests : goal.returns-clause-rests
returns-clause-rests c =
    free-at c.self.inside.each c.args.line c.self.inside.bounds.items c.self.inside.leads.items c.self.inside.places.items c.args.self.now c.self.view_is c.self.invariant.bounded
    (omega (arith, c.if-line-len.false, c.len.ensures, c.self.inside.leads.ok.0)) _
    (ap (between (c.args.line * c.self.inside.each) (c.args.line * c.self.inside.each + c.self.inside.each)) c.deref.ensures.value)
    c.in_ok-place.place some-place c.in_ok-place.ensures.within c.in_ok-place.ensures.rests
