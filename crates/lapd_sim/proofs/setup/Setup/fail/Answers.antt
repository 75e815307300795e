-- Hand-written answers for `Setup::fail`.
use Rattle.lapd_sim.proofs.Vocabulary.{None, refl, at, hears, told, told_beside, dropped, cause_of, SetupStands, after_failed}
use Rattle.lapd_sim.proofs.Boards.{else_of, led_frames, timed_frames, told_frames, told_on}
use Rattle.lapd_sim.proofs.Scenes.{there_frames, obeyed}
use Rattle.model_line.specs.Event as line_event
use Rattle.lapd_sim.proofs.setup.Setup.fail.Goals as goal

pub returns : goal.returns
returns g c = λ m h.
    let s = c.args.self.now in
    let line = c.in_ok-line.line in
    let e = dropped (cause_of c.args.fault) in
    let kind = c.in_ok-for_frames.ensures in
    obeyed c.tell.result _ c.written.ensures _ _ (SetupStands _) _ _
    (there_frames s m h c.in_ok-line.ensures.0 c.in_ok-line.ensures.1 (λ n. after_failed n c.args.fault) kind)
    (told_on (at line (hears e)) s _ (led_frames line (hears e) (line_event.hears e) refl s.timed.card c.failed.new.self.card c.failed.ensures.called.leads) refl refl refl refl m (else_of s m h)
    c.tell.result _ _ (told (told_beside None c.failed.new.report))
    (told_frames line (hears e) (line_event.hears e) refl s.timed.card m.board h.board kind (line_event.told (told_beside None c.failed.new.report)) c.failed.ensures.called.answers)
    (timed_frames line (hears e) (line_event.hears e) refl s.timed c.failed.new.self c.failed.ensures.called.after c.failed.ensures.called.marked kind m.board h.board m.clock m.marks h.timers) c.tell.ensures)
