-- A frame is heard, and contents that it delivers are lent from its octets.
use Rattle.std.proofs.Common.{Some, ap, ◌∙◌}
use Rattle.lapd_card.specs.Kinds.{config_of}
use Rattle.lapd_line.specs.Reports.{delivered_in, octets_of, told_beside}
use Rattle.model_card.specs.Event.{at}
use Rattle.model_line.specs.Came.{came}
use Rattle.model_line.specs.Event.{hears, told}
use Rattle.model_timed.specs.Timed.{happens}
use Rattle.laws_promises.specs.TimedDrive.{of_frames}
use Rattle.laws_promises.specs.TimedReply.{answered}
use Rattle.laws_promises.proofs.TimedKinds.{frame-happened, frames-driven}
use Rattle.laws_promises.proofs.TimedServing.{led-by-event, serves}
use Rattle.lapd_timed.proofs.Led.{frames-led}
use Rattle.laws_promises.proofs.timed_call.hear.Goals as goal

pub returns : goal.returns
returns g c =
    let e = at c.args.line (hears (came (config_of c.args.card.now.card).n201 c.args.octets.now)) in
    let led = frames-led e c.args.card.now.card c.frame.new.self.card c.frame.ensures.called.leads in
    let report = c.frame.new.report in
    let same = ap (λ h. h.config.n201) c.frames.ensures.card ∙ ap (λ k. (config_of k).n201) c.card.ensures ∙ ap (λ d. d.n201) led.config in
    let lent = c.contents-contents.ensures ∙ ap (λ n. delivered_in (octets_of (Some (came n c.args.octets.now))) report) same in
    serves of_frames frames-driven (happens e) c.args.card.now c.frame.new.self c.args.sink.now c.take.new.self c.take.result c.now.result (answered c.args.line (told _))
    (led-by-event of_frames e _ c.args.card.now c.frame.new.self c.now.result
    (frame-happened e _ _ c.args.card.now c.frame.new.self (ap told (c.of.ensures ∙ ap (λ k. told_beside k report) lent)) c.frame.ensures.called) c.frame.ensures.called.after c.frame.ensures.called.marked c.now.ensures)
    c.take.ensures.taken c.take.ensures.none_failed c.take.ensures.missed c.take.ensures.failed
