-- The next frame is given, and what it orders is carried out.
use Rattle.std.proofs.Common.{◌∙◌, [], ap, refl, sym}
use Rattle.lapd_frame.specs.ShortLists.{listed}
use Rattle.lapd_line.specs.Reports.{gave_in}
use Rattle.model_card.specs.Event.{at}
use Rattle.model_line.specs.Event.{next}
use Rattle.model_line.specs.Laws.{orders_in}
use Rattle.lapd_timed.proofs.Events.{nothing-ordered}
use Rattle.lapd_timed.proofs.Touched.{next-stays}
use Rattle.lapd_timed.proofs.Steps.{frames-called-still}
use Rattle.lapd_timed.proofs.timed_card.TimedCard.next_frame.Goals as goal

pub returns-in-Some-clause-called : goal.returns-in-Some-clause-called
returns-in-Some-clause-called c =
    frames-called-still c.args.line (at c.args.line next) refl tt c.args.self.now c.carry_out_list.new.self c.in-Frames.card c.next_frame.new.self c.in-Frames.is c.carry_out_list.ensures.card c.in_ok-given.ensures.called
    c.requires.within _ c.carry_out_list.ensures.carried (ap listed c.order_list.ensures ∙ ap (λ o. orders_in (gave_in c.next_frame.new.out o)) (sym c.in-Some.is)) c.carry_out_list.ensures.still
    (λ m reached here number. next-stays m reached c.args.line here number)

pub returns-in_default-given-clause-called : goal.returns-in_default-given-clause-called
returns-in_default-given-clause-called c =
    frames-called-still c.args.line (at c.args.line next) refl tt c.args.self.now _ c.in-Frames.card c.next_frame.new.self c.in-Frames.is refl c.in_ok-given.ensures.called
    c.requires.within [] (nothing-ordered c.next_frame.new.self c.args.line c.args.self.now.timers) (ap (λ o. orders_in (gave_in c.next_frame.new.out o)) (sym c.in_default-given.is)) (λ m marks stood. stood)
    (λ m reached here number. next-stays m reached c.args.line here number)
