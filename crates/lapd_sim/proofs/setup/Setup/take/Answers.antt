-- Hand-written answers for `Setup::take`.
use Rattle.lapd_sim.proofs.Vocabulary.{◌≡◌, take, refl, sym, subst, None, Some, at, next, after_next, Puts, on, SetupStands, gave_in, frame_text, nothing_text}
use Rattle.lapd_sim.proofs.Boards.{else_of, led_frames, timed_frames, told_frames, told_on}
use Rattle.lapd_sim.proofs.Scenes.{there_frames, obeyed}
use Rattle.model_card.specs.Event as frame_event
use Rattle.model_card.specs.Machine as frame_machine
use Rattle.model_line.specs.Event as line_event
use Rattle.lapd_sim.proofs.setup.Setup.take.Goals as goal

pub returns-in-Ok-Some : goal.returns-in-Ok-Some
returns-in-Ok-Some g c = λ m h.
    let s = c.args.self.now in
    let line = c.in_ok-number.number in
    let kind = c.in_ok-for_frames.ensures in
    obeyed c.put_frame.result _ c.written.ensures _ _ (SetupStands _) _ _
    (there_frames s m h c.in_ok-number.ensures.0 c.in_ok-number.ensures.1 after_next kind)
    (told_on (at line next) s _ (led_frames line next line_event.next refl s.timed.card c.next_frame.new.self.card c.in-Ok-Some.ensures.called.leads) refl refl refl refl m (else_of s m h)
    c.put_frame.result _ _ _
    (told_frames line next line_event.next refl s.timed.card m.board h.board kind (gave_in c.next_frame.new.out (Some c.in-Ok-Some.next))
    (λ n k. subst (λ x. gave_in c.next_frame.new.out x ≡ frame_machine.answer (frame_event.at line line_event.next) n) c.in-Ok-Some.field-0-is (c.in-Ok-Some.ensures.called.answers n k)))
    (timed_frames line next line_event.next refl s.timed c.next_frame.new.self c.in-Ok-Some.ensures.called.after c.in-Ok-Some.ensures.called.marked kind m.board h.board m.clock m.marks h.timers)
    (subst (λ n. Puts c.put_frame.result (on g.T.Target.taken c.args.page.now) (on g.T.Target.taken c.put_frame.new.self) (frame_text n (take c.in-Ok-Some.next.length c.next_frame.new.out))) (sym c.in_ok-number.ensures.0) c.put_frame.ensures))

pub returns-in-Ok-None : goal.returns-in-Ok-None
returns-in-Ok-None g c = λ m h.
    let s = c.args.self.now in
    let line = c.in_ok-number.number in
    let kind = c.in_ok-for_frames.ensures in
    obeyed c.put_nothing.result _ c.written-in-Ok-None.ensures _ _ (SetupStands _) _ _
    (there_frames s m h c.in_ok-number.ensures.0 c.in_ok-number.ensures.1 after_next kind)
    (told_on (at line next) s _ (led_frames line next line_event.next refl s.timed.card c.next_frame.new.self.card c.in-Ok-None.ensures.called.leads) refl refl refl refl m (else_of s m h)
    c.put_nothing.result _ _ _
    (told_frames line next line_event.next refl s.timed.card m.board h.board kind (gave_in c.next_frame.new.out None)
    (λ n k. subst (λ x. gave_in c.next_frame.new.out x ≡ frame_machine.answer (frame_event.at line line_event.next) n) c.in-Ok-None.field-0-is (c.in-Ok-None.ensures.called.answers n k)))
    (timed_frames line next line_event.next refl s.timed c.next_frame.new.self c.in-Ok-None.ensures.called.after c.in-Ok-None.ensures.called.marked kind m.board h.board m.clock m.marks h.timers)
    (subst (λ n. Puts c.put_nothing.result (on g.T.Target.taken c.args.page.now) (on g.T.Target.taken c.put_nothing.new.self) (nothing_text n)) (sym c.in_ok-number.ensures.0) c.put_nothing.ensures))
