-- The place of the line with the least bound.
use Rattle.std.proofs.Common.{refl, arith}
use Rattle.lapd_clock.proofs.Bounds.{least-before, lead-first, found-at, some-lead}
use Rattle.lapd_clock.proofs.moments.look.look.Goals as goal

pub returns-then-end-bound-clause-moment : goal.returns-then-end-bound-clause-moment
returns-then-end-bound-clause-moment c =
    least-before _ c.args.each c.args.line c.args.bounds.now c.args.leads.now c.args.places.now c.requires.bounded c.requires.least refl

pub returns-then-bound-lead-clause-moment : goal.returns-then-bound-lead-clause-moment
returns-then-bound-lead-clause-moment c =
    least-before _ c.args.each c.args.line c.args.bounds.now c.args.leads.now c.args.places.now c.requires.bounded c.requires.least refl

pub returns-then-bound-lead-clause-first : goal.returns-then-bound-lead-clause-first
returns-then-bound-lead-clause-first c =
    found-at c.args.each c.args.line _ c.args.end c.args.bounds.now c.args.leads.now c.args.places.now c.requires.bounded c.requires.least
    (lead-first c.args.each c.args.line c.args.bounds.now c.args.leads.now c.args.places.now some-lead c.requires.bounded c.requires.least.0 (omega (arith, c.if-bound-lead.true)))
    (omega (arith, c.if-end-bound.false))

pub returns-clause-moment : goal.returns-clause-moment
returns-clause-moment c =
    least-before _ c.args.each c.args.line c.args.bounds.now c.args.leads.now c.args.places.now c.requires.bounded c.requires.least refl

pub returns-clause-first : goal.returns-clause-first
returns-clause-first c =
    found-at c.args.each c.args.line c.first_of_line.result c.args.end c.args.bounds.now c.args.leads.now c.args.places.now c.requires.bounded c.requires.least c.first_of_line.ensures (omega (arith, c.if-end-bound.false))
