-- What is due expires, and the orders of this are carried out.
use Rattle.std.proofs.Common.{◌≢◌, ◌∙◌, ◌<◌, Some, sym, ap, subst}
use Rattle.lapd_card.proofs.OneOctet.{expiry_passes}
use Rattle.lapd_card.specs.Kinds.{frames_of, line_count, AnyStands, Machine}
use Rattle.model_card.specs.Card.{Card}
use Rattle.model_line.specs.Event.{expiry}
use Rattle.model_line.specs.Laws.{orders_in}
use Rattle.model_line.specs.Line.{Line}
use Rattle.model_line.specs.Machine as lines
use Rattle.model_line.specs.declared.config.Config.{Config}
use Rattle.model_timed.specs.Changes.{inside, itself, marked, Marks}
use Rattle.model_timed.specs.Clock.{without_first}
use Rattle.model_timed.specs.Frames.{frames}
use Rattle.model_timed.specs.Octets.{octets}
use Rattle.lapd_timed.specs.Carried.{AreNoted}
use Rattle.lapd_timed.specs.Stands.{ChangesStandIn, TimersStandIn}
use Rattle.lapd_timed.specs.TimedStands.{AreFrames, AreOctets}
use Rattle.lapd_timed.proofs.EventKeeps.{expiry-keeps}
use Rattle.lapd_timed.proofs.Events.{carried-too}
use Rattle.lapd_timed.proofs.MarkedSteps.{noted-again, still-marked}
use Rattle.lapd_timed.proofs.Steps.{both-frames, both-octets, fell, lines-are, marked-frames, marked-octets, none-steps, rested}
use Rattle.lapd_timed.proofs.Touching.{KeepsOthers}
use Rattle.lapd_timed.proofs.timed_card.TimedCard.fall_due.Goals as goal

-- nothing is due
pub returns-in_default-clause-after : goal.returns-in_default-clause-after
returns-in_default-clause-after c = none-steps c.args.self.now _ c.in_default.is

pub returns-in_default-due-clause-after : goal.returns-in_default-due-clause-after
returns-in_default-due-clause-after c =
    let same = ap Some c.in_default-due.ensures.none ∙ sym c.in-Some.is in record {
      octets = λ t s. rested octets t (AreOctets _ _) (c.in_default-due.ensures.due t.card.card t.clock (subst (λ o. TimersStandIn o t.card.card t.clock) c.in-Some.is s.timers_stand))
          (record { card_stands = s.card_stands; timers_stand = subst (λ o. TimersStandIn o t.card.card t.clock) (sym same) s.timers_stand });
      frames = λ t s. rested frames t (AreFrames _ _) (c.in_default-due.ensures.due t.card t.clock (subst (λ o. TimersStandIn o t.card t.clock) c.in-Some.is s.timers_stand))
          (record { card_stands = s.card_stands; timers_stand = subst (λ o. TimersStandIn o t.card t.clock) (sym same) s.timers_stand });
      octets_marked = λ t marks s stood.
          rested octets t (λ u. ChangesStandIn (Some c.due.new.self) u.card.card (marked inside u marks)) (c.in_default-due.ensures.due t.card.card t.clock (subst (λ o. TimersStandIn o t.card.card t.clock) c.in-Some.is s.timers_stand))
          (noted-again (Some c.due.new.self) t.card.card t.clock.now marks (subst (λ o. ChangesStandIn o t.card.card marks) (sym same) stood));
      frames_marked = λ t marks s stood.
          rested frames t (λ u. ChangesStandIn (Some c.due.new.self) u.card (marked itself u marks)) (c.in_default-due.ensures.due t.card t.clock (subst (λ o. TimersStandIn o t.card t.clock) c.in-Some.is s.timers_stand))
          (noted-again (Some c.due.new.self) t.card t.clock.now marks (subst (λ o. ChangesStandIn o t.card marks) (sym same) stood));
    }

pub returns-clause-after : goal.returns-clause-after
returns-clause-after c =
    let line = c.in-Some-due.line in
    let passes = expiry_passes c.in-Some-due.timer in
    let within : line < line_count c.args.self.now.card = subst (λ n. line < n) (lines-are c.in-Some.is c.args.self.now.same_lines) c.in-Some-due.ensures.line in
    let be = c.note.ensures.card ∙ c.carry_out.ensures.card in
    let are_noted = subst (λ k. AreNoted (frames_of k) line c.tei_of_timer.result c.carry_out.new.self.timers c.note.new.self.timers) c.carry_out.ensures.card c.note.ensures.noted in
    let carried = carried-too _ _ _ _ _ _ _ _ c.carry_out.ensures.carried are_noted in
    let keeps = subst (λ n. (d : Config) (l : Line) → KeepsOthers n d l (lines.after d (expiry c.in-Some-due.timer) l)) (sym c.tei_of_timer.ensures) (expiry-keeps c.in-Some-due.timer) in
    let still = λ (m : Card) (marks : Marks) (stood : ChangesStandIn c.args.self.now.timers m marks). still-marked c.in-Some.is c.due.new.self m marks c.in-Some-due.ensures.lines c.in-Some-due.ensures.terminals c.in-Some-due.ensures.changes stood in
    let says = λ (m : Machine) (on : AnyStands c.args.self.now.card m). c.orders.ensures ∙ ap orders_in (c.expire.ensures.called.answers m on) in
    record {
      octets = λ t s.
          let stood = subst (λ o. TimersStandIn o t.card.card t.clock) c.in-Some.is s.timers_stand in
          fell octets t (AreOctets _ _) (line, c.in-Some-due.timer) (c.in-Some-due.ensures.due t.card.card t.clock stood)
          (both-octets passes line c.args.self.now.card c.expire.new.self c.note.new.self.card be c.expire.ensures.called.leads within (Some c.due.new.self) c.note.new.self.timers c.orders.result.now carried says t.card
          (without_first t.clock) s.card_stands (c.in-Some-due.ensures.left t.card.card t.clock stood));
      frames = λ t s.
          let stood = subst (λ o. TimersStandIn o t.card t.clock) c.in-Some.is s.timers_stand in
          fell frames t (AreFrames _ _) (line, c.in-Some-due.timer) (c.in-Some-due.ensures.due t.card t.clock stood)
          (both-frames passes line c.args.self.now.card c.expire.new.self c.note.new.self.card be c.expire.ensures.called.leads within (Some c.due.new.self) c.note.new.self.timers c.orders.result.now carried says t.card
          (without_first t.clock) s.card_stands (c.in-Some-due.ensures.left t.card t.clock stood));
      octets_marked = λ t marks s noted.
          let stood = subst (λ o. TimersStandIn o t.card.card t.clock) c.in-Some.is s.timers_stand in
          fell octets t (λ u. ChangesStandIn c.note.new.self.timers u.card.card (marked inside u marks)) (line, c.in-Some-due.timer) (c.in-Some-due.ensures.due t.card.card t.clock stood)
          (marked-octets passes line c.args.self.now.card c.expire.new.self c.note.new.self.card be c.expire.ensures.called.leads within (Some c.due.new.self) c.note.new.self.timers c.orders.result.now carried says
          c.carry_out.new.self.timers c.carry_out.ensures.still c.tei_of_timer.result keeps are_noted t.card (without_first t.clock) marks s.card_stands (c.in-Some-due.ensures.left t.card.card t.clock stood) (still t.card.card marks noted));
      frames_marked = λ t marks s noted.
          let stood = subst (λ o. TimersStandIn o t.card t.clock) c.in-Some.is s.timers_stand in
          fell frames t (λ u. ChangesStandIn c.note.new.self.timers u.card (marked itself u marks)) (line, c.in-Some-due.timer) (c.in-Some-due.ensures.due t.card t.clock stood)
          (marked-frames passes line c.args.self.now.card c.expire.new.self c.note.new.self.card be c.expire.ensures.called.leads within (Some c.due.new.self) c.note.new.self.timers c.orders.result.now carried says
          c.carry_out.new.self.timers c.carry_out.ensures.still c.tei_of_timer.result keeps are_noted t.card (without_first t.clock) marks s.card_stands (c.in-Some-due.ensures.left t.card t.clock stood) (still t.card marks noted));
    }
