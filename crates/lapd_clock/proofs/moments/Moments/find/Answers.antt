-- What a look through the places of a line finds.
use Rattle.std.proofs.Common.{◌+◌, ◌*◌, arith, ap, subst, sym}
use Rattle.std.specs.List.{between}
use Rattle.std.specs.Prelude.{IfNone}
use Rattle.lapd_clock.specs.OwnPlaces.{is_nowhere}
use Rattle.lapd_clock.proofs.AnyPlace.{found, not_found, nowhere-there}
use Rattle.lapd_clock.proofs.moments.Moments.find.Goals as goal

pub returns-then-line-len-clause-none : goal.returns-then-line-len-clause-none
returns-then-line-len-clause-none c =
    nowhere-there c.self.inside.each c.args.line c.self.inside.bounds.items c.self.inside.leads.items c.self.inside.places.items c.args.self.now c.args.timer c.self.view_is c.self.invariant.bounded
    (omega (arith, c.if-line-len.true, c.len.ensures, c.self.inside.leads.ok.0))

pub returns-in_err-place-clause-none : goal.returns-in_err-place-clause-none
returns-in_err-place-clause-none c =
    subst (λ o. IfNone o (is_nowhere c.args.line c.args.timer c.args.self.now)) (sym c.from_residual.ensures)
    (not_found c.self.inside.each c.args.line c.self.inside.bounds.items c.self.inside.leads.items c.self.inside.places.items c.args.self.now c.self.view_is c.self.invariant.bounded
    (omega (arith, c.if-line-len.false, c.len.ensures, c.self.inside.leads.ok.0)) c.index.result.now c.index.ensures _
    (ap (between (c.args.line * c.self.inside.each) (c.args.line * c.self.inside.each + c.index.result.now.used)) c.deref.ensures.value) c.args.timer c.in_err-place.ensures.none)

pub returns-clause-found : goal.returns-clause-found
returns-clause-found c =
    found c.self.inside.each c.args.line c.self.inside.bounds.items c.self.inside.leads.items c.self.inside.places.items c.args.self.now c.self.view_is c.self.invariant.bounded
    (omega (arith, c.if-line-len.false, c.len.ensures, c.self.inside.leads.ok.0)) c.index.result.now c.index.ensures _
    (ap (between (c.args.line * c.self.inside.each) (c.args.line * c.self.inside.each + c.index.result.now.used)) c.deref.ensures.value) c.args.timer
    c.in_ok-place.place c.in_ok-place.ensures.within c.in_ok-place.ensures.there
