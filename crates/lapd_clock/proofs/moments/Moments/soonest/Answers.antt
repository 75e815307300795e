-- The least of the moments of all lines.
use Rattle.std.proofs.Common.{nat_lt, length, arith, subst, sym}
use Rattle.std.specs.List.{IsFirstBest}
use Rattle.lapd_clock.specs.Bounds.{AreNoEarlier}
use Rattle.lapd_clock.proofs.Keeping.{none-earlier}
use Rattle.lapd_clock.proofs.Soonest.{none-at-all, none-runs, soonest-is}
use Rattle.lapd_clock.proofs.moments.Moments.soonest.Goals as goal

pub returns-then-len-eq0 : goal.returns-then-len-eq0
returns-then-len-eq0 c =
    none-at-all c.self.inside.each c.self.inside.bounds.items c.self.inside.leads.items c.self.inside.places.items c.args.self.now c.self.view_is c.self.invariant.bounded (omega (arith, c.if-len-eq0.true, c.len.ensures, c.self.inside.bounds.ok.0))

pub first_line-line-requires-clause-kept : goal.first_line-line-requires-clause-kept
first_line-line-requires-clause-kept c =
    subst (AreNoEarlier c.self.inside.not_before c.self.inside.found) (sym c.deref.ensures.value)
    (none-earlier c.self.inside.not_before c.self.inside.found c.self.inside.each c.self.inside.bounds.items c.self.inside.leads.items c.self.inside.places.items c.self.invariant)

pub returns-then-moment : goal.returns-then-moment
returns-then-moment c =
    none-runs c.self.inside.each c.first_line-line.result c.index-moment.result.now c.index-moment.result.now c.self.inside.bounds.items c.self.inside.leads.items c.self.inside.places.items c.args.self.now c.self.view_is c.self.invariant.bounded
    (subst (λ xs. IsFirstBest nat_lt xs (length xs) c.first_line-line.result) c.deref.ensures.value c.first_line-line.ensures) c.index-moment.ensures c.if-moment.true

pub returns : goal.returns
returns c =
    soonest-is c.self.inside.each c.first_line-line.result c.index-moment.result.now c.index-moment.result.now c.self.inside.bounds.items c.self.inside.leads.items c.self.inside.places.items c.args.self.now c.self.view_is c.self.invariant.bounded
    (subst (λ xs. IsFirstBest nat_lt xs (length xs) c.first_line-line.result) c.deref.ensures.value c.first_line-line.ensures) c.index-moment.ensures c.if-moment.false (omega arith)
