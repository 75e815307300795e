-- What a look finds.
use Rattle.std.proofs.Common.{◌∙◌, nat_lt, length, ap, sym, subst}
use Rattle.std.specs.List.{IsFirstBest}
use Rattle.std.specs.Prelude.{IfSome}
use Rattle.lapd_clock.specs.Bounds.{AreNoEarlier, IsFoundAt}
use Rattle.lapd_clock.specs.OwnPlaces.{expiries_of, AreNotBefore}
use Rattle.lapd_clock.proofs.Bounds.{later-than, first-until, none-until}
use Rattle.lapd_clock.proofs.Keeping.{none-earlier}
use Rattle.lapd_clock.proofs.moments.Moments.first.Goals as goal

pub invariant_of-self : goal.invariant_of-self
invariant_of-self c = record {
  bounded = c.self.invariant.bounded;
  later = λ k before there. later-than c.self.inside.bounds.items c.deref-2.result.now c.first_line-line.result c.look-moment.result.0 c.deref-2.ensures.value
      (subst (λ xs. IsFirstBest nat_lt xs (length xs) c.first_line-line.result) (c.deref.ensures.value ∙ sym c.deref-2.ensures.value) c.first_line-line.ensures) c.look-moment.ensures.bound k before there;
  none_before = subst (λ ps. AreNotBefore c.look-moment.result.0 (expiries_of ps)) c.deref-4.ensures.value c.look-moment.ensures.moment;
}

pub returns-clause-none : goal.returns-clause-none
returns-clause-none c =
    none-until c.look-moment.result.1 c.look-moment.result.0 c.args.end c.deref-4.result.now c.args.self.now (ap expiries_of c.deref-4.ensures.value ∙ c.self.view_is) c.look-moment.ensures.moment c.look-moment.ensures.none

pub returns-clause-first : goal.returns-clause-first
returns-clause-first c =
    first-until c.look-moment.result.1 c.look-moment.result.0 c.args.end c.self.inside.places.items c.args.self.now c.self.view_is c.requires.end
    (subst (λ ps. IfSome c.look-moment.result.1 (λ place. IsFoundAt place c.look-moment.result.0 c.args.end ps)) c.deref-4.ensures.value c.look-moment.ensures.first)

pub first_line-line-requires-clause-kept : goal.first_line-line-requires-clause-kept
first_line-line-requires-clause-kept c =
    subst (AreNoEarlier c.self.inside.not_before c.self.inside.found) (sym c.deref.ensures.value)
    (none-earlier c.self.inside.not_before c.self.inside.found c.self.inside.each c.self.inside.bounds.items c.self.inside.leads.items c.self.inside.places.items c.self.invariant)
