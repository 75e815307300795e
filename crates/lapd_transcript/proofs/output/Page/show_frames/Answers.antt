-- Hand-written answers for `Page::show_frames`.
use Rattle.lapd_transcript.proofs.Vocabulary.{◌≡◌, [], ◌∷◌, ◌++◌, ◌+◌, take, drop, get_or, sym, ap, ◌∙◌, subst, option_to_list, take_more, take-append-drop, flat_map, latest_of, heard_of, found, IsPut, IsStuck, on, frame_text}
use Rattle.lapd_transcript.proofs.Known.{leaves}
use Rattle.lapd_transcript.proofs.Listeners.{events_text, Shown, shown_on, shown_in_vain, frame_told, frame_in_vain, nothing_told}
use Rattle.lapd_transcript.proofs.output.Page.show_frames.Goals.{in-Frame+in_ok-put_frame, in_default}
use Rattle.lapd_transcript.proofs.output.Page.show_frames.Goals as goal

pub returns-in_err-put_frame-clause-told : goal.returns-in_err-put_frame-clause-told
returns-in_err-put_frame-clause-told g c = λ past h.
    let i = c.loop-octet.octet-index in
    let octets = c.args.octets.now in
    let s = c.loop-octet.invariant past h in
    let before = on g.T.Target.taken c.args.self.now in
    let after = on g.T.Target.taken c.loop-octet.self in
    let last = on g.T.Target.taken c.put_frame.new.self in
    let split : (take i octets ++ get_or octets i 0 ∷ []) ++ drop (i + 1) octets ≡ octets =
    ap (λ front. front ++ drop (i + 1) octets) (sym (take_more octets i 0 c.loop-octet-test.true)) ∙ take-append-drop (i + 1) octets in
    leaves c.from_residual.result _ _ _ c.from_residual.ensures.0
    (subst (λ all. IsStuck before last (flat_map (frame_text c.args.line) (found past all))) split
    (shown_in_vain c.args.line c.loop-octet.listener c.step.new.self before after last past (take i octets) (get_or octets i 0) (latest_of c.step.new.self) s
    (c.step.ensures.heard 1024 (past ++ take i octets) s.hears) (drop (i + 1) octets) c.in_err-put_frame.field-0.0
    (frame_in_vain c.args.line after last _ c.in-Frame.frame (ap heard_of (sym c.in-Frame.is) ∙ c.latest.ensures.lent) c.in_err-put_frame.ensures)))

pub loop-octet-preserved : goal.loop-octet-preserved
loop-octet-preserved g c = λ past h.
    let i = c.loop-octet.octet-index in
    let octets = c.args.octets.now in
    let s = c.loop-octet.invariant past h in
    let before = on g.T.Target.taken c.args.self.now in
    let after = on g.T.Target.taken c.loop-octet.self in
    let last = on g.T.Target.taken c.match-latest.self in
    let event = latest_of c.step.new.self in
    let written : IsPut after last (events_text c.args.line (option_to_list event)) = elim c.match-latest.branch [
      | in-Frame+in_ok-put_frame w ↦
          subst (λ page. IsPut after (on g.T.Target.taken page) (events_text c.args.line (option_to_list event))) (sym w.self-is)
          (frame_told c.args.line after (on g.T.Target.taken w.put_frame.new.self) event w.in-Frame.frame (ap heard_of (sym w.in-Frame.is) ∙ c.latest.ensures.lent) w.in_ok-put_frame.ensures)
      | in_default w ↦
          subst (λ page. IsPut after (on g.T.Target.taken page) (events_text c.args.line (option_to_list event))) (sym w.self-is)
          (nothing_told c.args.line after c.latest.result event c.latest.ensures.lent w.in_default.not-Frame)
    ] in
    subst (λ front. Shown c.args.line c.step.new.self before last past front) (sym (take_more octets i 0 c.loop-octet-test.true))
    (shown_on c.args.line c.loop-octet.listener c.step.new.self before after last past (take i octets) (get_or octets i 0) event s
    (c.step.ensures.heard 1024 (past ++ take i octets) s.hears) (c.step.ensures.after 1024 (past ++ take i octets) s.hears) written)
