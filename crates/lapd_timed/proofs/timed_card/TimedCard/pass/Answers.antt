-- The time has come to a moment, and nothing is due.
use Rattle.std.proofs.Common.{ap, refl, sym, subst}
use Rattle.std.specs.Prelude.{◌≤◌, ◌<◌, ◌^◌, is_some}
use Rattle.lapd_timed.specs.Stands.{moment_of, TimersStandIn}
use Rattle.lapd_timed.proofs.MarkedSteps.{still-marked}
use Rattle.lapd_timed.proofs.Steps.{time-steps}
use Rattle.lapd_timed.proofs.timed_card.TimedCard.pass.Goals as goal

pub returns-in-Some-clause-passed : goal.returns-in-Some-clause-passed
returns-in-Some-clause-passed c = λ is. record {
  timed = ap is_some c.in-Some.is;
  may = subst (λ o. (moment_of o ≤ c.args.moment) × (c.args.moment < 2 ^ 63)) (sym c.in-Some.is) (c.pass.ensures.later is);
  went = record {
    card = refl;
    now = λ keeps. c.pass.ensures.now is;
    after = time-steps c.args.moment c.args.self.now _ refl (λ m k stood. (c.pass.ensures.passed is m k (subst (λ o. TimersStandIn o m k) c.in-Some.is stood)).3)
        (λ m marks stood. still-marked c.in-Some.is c.pass.new.self m marks c.pass.ensures.lines c.pass.ensures.terminals c.pass.ensures.changes stood);
    timed = sym (ap is_some c.in-Some.is);
  };
  none = λ m k stood. let passed = c.pass.ensures.passed is m k (subst (λ o. TimersStandIn o m k) c.in-Some.is stood) in (passed.0, passed.1, passed.2);
}
