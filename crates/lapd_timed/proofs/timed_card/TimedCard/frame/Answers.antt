-- A frame is heard, and what it orders is carried out.
use Rattle.std.proofs.Common.{◌≡◌, ◌∙◌, Some, ap, refl, sym, subst}
use Rattle.lapd_card.specs.Called.{Called}
use Rattle.lapd_card.specs.Kinds.{config_of, frames_of, shelf_of}
use Rattle.lapd_line.specs.Reports.{octets_of, told_in}
use Rattle.model_card.specs.Event.{at}
use Rattle.model_line.specs.Came.{came}
use Rattle.model_line.specs.Event.{hears, told}
use Rattle.model_line.specs.declared.config.Config.{Config}
use Rattle.lapd_timed.specs.Carried.{AreNoted}
use Rattle.lapd_timed.proofs.EventKeeps.{frame-keeps}
use Rattle.lapd_timed.proofs.Events.{carried-too}
use Rattle.lapd_timed.proofs.Steps.{frames-called-noted}
use Rattle.lapd_timed.proofs.timed_card.TimedCard.frame.Goals as goal

pub returns-clause-called : goal.returns-clause-called
returns-clause-called c =
    let same : c.in-Frames.card.config ≡ config_of c.args.self.now.card = sym (ap config_of c.in-Frames.is) in
    let called = subst (λ (d : Config). Called shelf_of (at c.args.line (hears (came d.n201 c.args.octets.now))) (told (told_in (octets_of (Some (came d.n201 c.args.octets.now))) c.frame-is_quiet.new.report)) c.in-Frames.card c.frame-is_quiet.new.self) same
    c.frame-is_quiet.ensures.called in
    let noted = subst (λ k. AreNoted (frames_of k) c.args.line c.tei_of_frame.result c.carry_out_list.new.self.timers c.note.new.self.timers) c.carry_out_list.ensures.card c.note.ensures.noted in
    frames-called-noted c.args.line (at c.args.line (hears (came (config_of c.args.self.now.card).n201 c.args.octets.now))) refl tt c.args.self.now c.note.new.self c.in-Frames.card c.frame-is_quiet.new.self c.in-Frames.is
    (c.note.ensures.card ∙ c.carry_out_list.ensures.card) called c.requires.within _ (carried-too _ _ _ _ _ _ _ _ c.carry_out_list.ensures.carried noted) refl
    c.carry_out_list.new.self.timers c.carry_out_list.ensures.still c.tei_of_frame.result (frame-keeps (config_of c.args.self.now.card).n201 c.args.octets.now c.tei_of_frame.result c.tei_of_frame.ensures) noted
