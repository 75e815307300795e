-- The states of the links are noted.
use Rattle.std.proofs.Common.{◌∙◌, ap, sym, subst}
use Rattle.std.specs.Prelude.{is_some}
use Rattle.lapd_card.specs.FrameStands.{FrameStands}
use Rattle.lapd_card.specs.Kinds.{shelf_of}
use Rattle.model_timed.specs.Changes.{noted}
use Rattle.model_timed.specs.RunTheSame.{as_they_are}
use Rattle.lapd_timed.specs.Stands.{AreKept, ChangesStand, ChangesStandIn, HeldTimers, TimersStandIn}
use Rattle.lapd_timed.proofs.timed_card.TimedCard.note.Goals as goal

pub returns-in-Some-clause-noted : goal.returns-in-Some-clause-noted
returns-in-Some-clause-noted c = record {
  there = sym (ap is_some c.in-Some.is);
  stand = λ m k stood. subst (λ h. AreKept as_they_are h m k) (sym c.note.ensures.held) (subst (λ o. TimersStandIn o m k) c.in-Some.is stood);
  noted = λ old new k marks stands but timed stood.
      subst (λ now. ChangesStand c.note.new.self new (noted now new marks)) (sym (ap (λ (h : HeldTimers). h.now) c.note.ensures.held) ∙ sym timed.clock_is.now)
      (c.note.ensures.noted old new marks (subst (λ f. FrameStands shelf_of f new) (sym c.frames.ensures.card) stands) (but _ _) (subst (λ o. ChangesStandIn o old marks) c.in-Some.is stood));
}
