-- Where there are orders, the timers obey them.
use Rattle.std.proofs.Common.{◌≡◌, length, ap, refl, sym, subst, arith}
use Rattle.std.specs.Prelude.{is_some}
use Rattle.lapd_card.specs.Kinds.{frames_of, shelf_of}
use Rattle.lapd_timed.specs.Carried.{AreCarriedOut}
use Rattle.lapd_timed.specs.Stands.{AreLeftIn, HasLedTo}
use Rattle.lapd_timed.proofs.Events.{no-orders, nothing-ordered}
use Rattle.lapd_timed.proofs.MarkedSteps.{still-marked}
use Rattle.lapd_timed.proofs.timed_card.TimedCard.carry_out.Goals as goal

pub returns-in-Some-clause-carried : goal.returns-in-Some-clause-carried
returns-in-Some-clause-carried c = record {
  there = sym (ap is_some c.in-Some.is);
  after = λ e m k led is left. c.obey.ensures.after e m k (subst (λ f. HasLedTo shelf_of f c.args.line e m) (sym c.frames.ensures.card) led) is (subst (λ o. AreLeftIn e o m k) c.in-Some.is left);
}

pub returns-in-Some-clause-none : goal.returns-in-Some-clause-none
returns-in-Some-clause-none c = λ e. let none : length c.args.orders.now ≡ 0 = ap length e in absurd (grind arith)

pub returns-in-Some-clause-still : goal.returns-in-Some-clause-still
returns-in-Some-clause-still c = λ m marks stood.
    still-marked c.in-Some.is c.obey.new.self m marks c.obey.ensures.lines c.obey.ensures.terminals c.obey.ensures.changes stood

pub returns-in_default-clause-carried : goal.returns-in_default-clause-carried
returns-in_default-clause-carried c = record { there = refl; after = λ e m k led is left. absurd (subst (λ o. AreLeftIn e o m k) c.in_default.is left) }

pub returns-then-is_empty-clause-carried : goal.returns-then-is_empty-clause-carried
returns-then-is_empty-clause-carried c =
    let none : length c.args.orders.now ≡ 0 = grind arith in
    subst (λ os. AreCarriedOut (frames_of c.args.self.now.card) c.args.line os c.args.self.now.timers c.args.self.now.timers) (sym (no-orders c.args.orders.now none))
    (nothing-ordered (frames_of c.args.self.now.card) c.args.line c.args.self.now.timers)
