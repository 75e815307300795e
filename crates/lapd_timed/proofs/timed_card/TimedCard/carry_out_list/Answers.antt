-- Where there are orders, the timers obey them.
use Rattle.std.proofs.Common.{◌≡◌, [], ap, sym, subst}
use Rattle.std.proofs.lemmas.Bool.{false≢true}
use Rattle.std.specs.Prelude.{is_some}
use Rattle.lapd_card.specs.Kinds.{frames_of, shelf_of}
use Rattle.lapd_frame.specs.ShortLists.{listed}
use Rattle.lapd_timed.specs.Carried.{AreCarriedOut}
use Rattle.lapd_timed.specs.Stands.{AreLeftIn, HasLedTo}
use Rattle.lapd_timed.proofs.Events.{nothing-ordered}
use Rattle.lapd_timed.proofs.MarkedSteps.{still-marked}
use Rattle.lapd_timed.proofs.timed_card.TimedCard.carry_out_list.Goals.{in-None, in_default}
use Rattle.lapd_timed.proofs.timed_card.TimedCard.carry_out_list.Goals as goal

pub returns-in-Some-clause-carried : goal.returns-in-Some-clause-carried
returns-in-Some-clause-carried c = record {
  there = sym (ap is_some c.in-Some.is);
  after = λ e m k led is left. c.obey_list.ensures.after e m k (subst (λ f. HasLedTo shelf_of f c.args.line e m) (sym c.frames.ensures.card) led) is (subst (λ o. AreLeftIn e o m k) c.in-Some.is left);
}

pub returns-in-Some-clause-still : goal.returns-in-Some-clause-still
returns-in-Some-clause-still c = λ m marks stood.
    still-marked c.in-Some.is c.obey_list.new.self m marks c.obey_list.ensures.lines c.obey_list.ensures.terminals c.obey_list.ensures.changes stood

pub returns-then-matches-clause-carried : goal.returns-then-matches-clause-carried
returns-then-matches-clause-carried c =
    let none : listed c.args.orders.now ≡ [] = elim c.match-matches.branch [
      | in-None w ↦ ap listed w.in-None.is
      | in_default w ↦ absurd (false≢true cc)
    ] in
    subst (λ os. AreCarriedOut (frames_of c.args.self.now.card) c.args.line os c.args.self.now.timers c.args.self.now.timers) (sym none)
    (nothing-ordered (frames_of c.args.self.now.card) c.args.line c.args.self.now.timers)
