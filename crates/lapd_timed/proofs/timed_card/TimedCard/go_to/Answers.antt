-- The time has come to a moment, with the card as it is.
use Rattle.std.proofs.Common.{◌∙◌, ap, refl, sym, subst}
use Rattle.std.proofs.lemmas.Bool.{false≢true}
use Rattle.std.specs.Prelude.{is_some}
use Rattle.lapd_timed.specs.Stands.{TimersStandIn}
use Rattle.lapd_timed.proofs.MarkedSteps.{still-marked}
use Rattle.lapd_timed.proofs.Steps.{none-steps, time-steps}
use Rattle.lapd_timed.proofs.timed_card.TimedCard.go_to.Goals as goal

pub returns-then-go_to-clause-went : goal.returns-then-go_to-clause-went
returns-then-go_to-clause-went c = record {
  card = refl;
  now = λ keeps. c.go_to.ensures.now c.if-go_to.true;
  after = time-steps c.args.moment c.args.self.now _ refl (λ m k stood. (c.go_to.ensures.gone c.if-go_to.true m k (subst (λ o. TimersStandIn o m k) c.in-Some.is stood)).1)
      (λ m marks stood. still-marked c.in-Some.is c.go_to.new.self m marks c.go_to.ensures.lines c.go_to.ensures.terminals c.go_to.ensures.changes stood);
  timed = sym (ap is_some c.in-Some.is);
}

pub returns-else-moment-gt-LAST_MOMENT-clause-went : goal.returns-else-moment-gt-LAST_MOMENT-clause-went
returns-else-moment-gt-LAST_MOMENT-clause-went c = record {
  card = refl;
  now = λ keeps. absurd (false≢true (sym (ap is_some c.in_default.is) ∙ keeps));
  after = none-steps c.args.self.now _ c.in_default.is;
  timed = refl;
}
