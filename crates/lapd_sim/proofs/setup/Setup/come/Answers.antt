-- Hand-written answers for `Setup::come`.
use Rattle.lapd_sim.proofs.Vocabulary.{[], ◌≡◌, ◌<◌, ◌∙◌, Some, ap, length, refl, sym, subst, arith, option_copied, Config, config_of, frames_of, came, at, hears, told, told_beside, terminal_at, after_sending, with_event, with_terminal, after_rx, scene, kind_of, on, Tells, SetupStands, Sends, delivered_in, octets_of}
use Rattle.model_card.specs.declared.kinds.CardKind.TheVariants as kind
use Rattle.lapd_sim.proofs.Boards.{else_of, frames_config, led_frames, timed_frames, told_frames, told_on}
use Rattle.lapd_sim.proofs.Eachs.{each_at, each_set}
use Rattle.lapd_sim.proofs.Scenes.{into_is, is_frame_is, moved_to, obeyed}
use Rattle.model_line.specs.Event as line_event
use Rattle.lapd_sim.proofs.setup.Setup.come.Goals as goal

pub returns-in-Frames : goal.returns-in-Frames
returns-in-Frames g c = λ m h.
    let s = c.args.self.now in
    let line = c.in_ok-line.line in
    let frame = c.args.frame.now in
    let e = came (config_of s.timed.card).n201 frame in
    let report = c.frame.new.report in
    let of_frames : kind_of s.timed.card ≡ kind.Frames = ap kind_of (sym c.card.ensures ∙ c.in-Frames.is) in
    let same : config_of s.timed.card ≡ m.board.config = s.same_config ∙ sym h.config in
    let lent = c.contents-contents.ensures ∙ ap (λ f. delivered_in (octets_of (Some (came f.config.n201 frame))) report) (c.frames.ensures.card ∙ ap frames_of c.card-in-Frames.ensures)
    ∙ ap (λ (d : Config). delivered_in (octets_of (Some (came d.n201 frame))) report) (frames_config line (line_event.hears e) s.timed.card c.frame.new.self.card c.frame.ensures.called.leads) in
    obeyed c.tell.result _ c.written.ensures _ _ (SetupStands _) _ _
    (moved_to _ _ _ (into_is s m h c.in_ok-line.ensures.0 c.in_ok-line.ensures.1 kind.Frames frame of_frames refl)
    (ap (λ (d : Config). with_event (scene m) (at line (hears (came d.n201 frame)))) (sym same)))
    (told_on (at line (hears e)) s _ (led_frames line (hears e) (line_event.hears e) refl s.timed.card c.frame.new.self.card c.frame.ensures.called.leads) refl refl refl refl m (else_of s m h)
    c.tell.result _ _ (told (told_beside (option_copied c.contents-contents.result) report))
    (told_frames line (hears e) (line_event.hears e) refl s.timed.card m.board h.board of_frames (line_event.told (told_beside (option_copied c.contents-contents.result) report))
    (λ n k. ap (λ x. line_event.told (told_beside x report)) lent ∙ c.frame.ensures.called.answers n k))
    (timed_frames line (hears e) (line_event.hears e) refl s.timed c.frame.new.self c.frame.ensures.called.after c.frame.ensures.called.marked of_frames m.board h.board m.clock m.marks h.timers) c.tell.ensures)

pub returns-else-frame-gt-LONGEST_FRAME : goal.returns-else-frame-gt-LONGEST_FRAME
returns-else-frame-gt-LONGEST_FRAME g c = λ m h.
    let s = c.args.self.now in
    let line = c.in_ok-line.line in
    let frame = c.args.frame.now in
    let t = terminal_at line m in
    let bound : line < length s.terminals.items = omega (arith, s.terminals.ok.0, s.each_sends, c.in_ok-line.ensures.1) in
    let sends = subst (λ d. Sends d t) (sym c.index_mut.ensures.value) (each_at Sends s.terminals.items m.terminals line c.index_mut.result.now (record { items = []; given = 0 }) bound h.terminals) in
    let sent = c.send-octets.ensures t sends in
    let moved = with_terminal line (after_sending frame t) m in
    obeyed c.hear.result _ c.written-in-Octets.ensures _ _ (SetupStands _) _ _
    (into_is s m h c.in_ok-line.ensures.0 c.in_ok-line.ensures.1 kind.Octets frame (ap kind_of (sym c.card.ensures ∙ c.in-Octets.is))
    (is_frame_is frame (omega (arith, c.if-frame-lt-SHORTEST_FRAME.false)) (omega (arith, c.if-frame-gt-LONGEST_FRAME.false))))
    (subst (λ octets. Tells c.hear.result (on g.T.Target.taken c.args.page.now) (on g.T.Target.taken c.hear.new.page) (SetupStands c.hear.new.self) (after_rx line octets (scene moved))) (c.as_slice.ensures.value ∙ sent.0)
    (c.hear.ensures moved (record {
      config = h.config;
      board = h.board;
      counters = h.counters;
      timers = h.timers;
      terminals = each_set Sends s.terminals.items m.terminals line c.send-octets.new.self (after_sending frame t) sent.1 h.terminals;
      listeners = h.listeners;
      losses = h.losses;
    })))
