-- Hand-written answers for `lapd_frame`: the frame is heard by the configuration of the machine.
use Rattle.lapd_c.proofs.Vocabulary.{◌≤◌, ℕ, length, Some, refl, sym, ap, subst, ◌∙◌, Config, told, Event, answer, frame_comes, Shows, contents_or_none, alone}
use Rattle.lapd_card.specs.Kinds.{config_of, frames_of}
use Rattle.lapd_line.proofs.Quiet.{quiet_told}
use Rattle.lapd_line.specs.Reports.{delivered_in, octets_of, told_beside, told_in}
use Rattle.lapd_timed.specs.Called.{CalledOfFrames}
use Rattle.lapd_timed.proofs.Led.{frames-led}
use Rattle.model_line.specs.Came.{came}
use Rattle.lapd_c.proofs.Reopening.{orders_seen_by, settled_answered}
use Rattle.lapd_c.proofs.WholeFrames.{comes_at}
use Rattle.lapd_c.specs.Asked.{frame_asked}
use Rattle.lapd_c.specs.CalledBy.{inside}
use Rattle.lapd_c.proofs.Calling.{is_called, never_refused_heard, served_at, shown_given}
use Rattle.lapd_c.proofs.Served.{frames_stand, served_frames, shown_told, there}
use Rattle.std.proofs.Common.{rules}
use Rattle.lapd_c.proofs.frames.lapd_frame.Goals as goal

-- all of it is shown
pub returns-clause-called : goal.returns-clause-called
returns-clause-called c = is_called (frame_asked c.args.line c.args.octets.now) _ _ _ _ _ (search rules) (λ m s w.
    let on = there c.in-Some.ensures.card (alone m) s in
    let t = frames_stand _ (alone m) on in
    let e = frame_comes c.args.line c.args.octets.now m in
    let called = subst (λ (e : Event). CalledOfFrames e (told (told_in (octets_of (Some (came (config_of c.in-Some.value.now.timed.card).n201 c.args.octets.now))) c.frame.new.report)) c.in-Some.value.now.timed c.frame.new.self) (comes_at c.args.line c.args.octets.now _ m t) c.frame.ensures.called in
    let n201 = ap (λ (d : Config). d.n201) (ap (λ f. f.config) c.frames.ensures.card ∙ ap (λ k. (frames_of k).config) c.card-3.ensures ∙ (frames-led e _ _ called.leads).config) in
    let octets = λ (n : ℕ). octets_of (Some (came n c.args.octets.now)) in
    served_at (frame_asked c.args.line c.args.octets.now) _ _ _ _ (alone m) (inside e) refl (never_refused_heard c.args.line (came m.config.n201 c.args.octets.now) m)
    (served_frames _ _ c.in-Some.ensures.card refl c.frame.new.self c.settle.ensures.settles.timed c.settle.new.report called m on
    (shown_given _ c.settle.new.report _ (answer e m) (settled_answered _ c.settle.new.report c.show_delivered.new.report _ c.settle.ensures.rest
    (shown_told m e _ c.show_delivered.new.report t.reached.config (called.answers m on)
    (subst (λ (n : ℕ). length (contents_or_none (delivered_in (octets n) c.frame.new.report)) ≤ 260
    → Shows c.show_delivered.new.report (told_beside (delivered_in (octets n) c.frame.new.report) c.frame.new.report)) n201 c.show_delivered.ensures)))))) (λ not_ok. absurd (not_ok refl))

-- orders alone are
pub returns-then-frame-clause-called : goal.returns-then-frame-clause-called
returns-then-frame-clause-called c = is_called (frame_asked c.args.line c.args.octets.now) _ _ _ _ _ (search rules) (λ m s w.
    let on = there c.in-Some.ensures.card (alone m) s in
    let e = frame_comes c.args.line c.args.octets.now m in
    let called = subst (λ (e : Event). CalledOfFrames e (told (told_in (octets_of (Some (came (config_of c.in-Some.value.now.timed.card).n201 c.args.octets.now))) c.frame.new.report)) c.in-Some.value.now.timed c.frame.new.self) (comes_at c.args.line c.args.octets.now _ m (frames_stand _ (alone m) on)) c.frame.ensures.called in
    served_at (frame_asked c.args.line c.args.octets.now) _ _ _ _ (alone m) (inside e) refl (never_refused_heard c.args.line (came m.config.n201 c.args.octets.now) m)
    (served_frames _ _ c.in-Some.ensures.card refl c.frame.new.self c.settle_orders.ensures.settles.timed c.settle_orders.new.report called m on
    (shown_given _ c.settle_orders.new.report _ (answer e m)
    (orders_seen_by _ c.settle_orders.new.report _ _ (ap told (sym (quiet_told (octets_of (Some (came (config_of c.in-Some.value.now.timed.card).n201 c.args.octets.now))) c.frame.new.report (c.frame.ensures.quiet c.if-frame.true))) ∙ called.answers m on)
    c.settle_orders.ensures.shown)))) (λ not_ok. absurd (not_ok refl))
