-- Hand-written answers for `drive_frames`.
use Rattle.laws_promises.proofs.Vocabulary.{◌≡◌, ◌+◌, ◌<◌, length, [], Card, refl, sym, ap, subst, arith, ◌∙◌, take, get_or, take_all, length-map, slice_get-get_or, one_more, run, moments, moment_of, moment_counted, all_counted, counters_in, FrameStands, Leads, Taken}
use Rattle.model_card.specs.Machine.{answer}
use Rattle.lapd_card.proofs.Taken.{Taken-more, one-further, run-more, moments-count, at_ok, at_err, missed_one}
use Rattle.laws_promises.specs.FrameDrive.{event_of, events_of}
use Rattle.lapd_card.specs.Sink.{MissesNext, one_failure_more}
use Rattle.model_card.specs.Run.{Run}
use Rattle.laws_promises.specs.declared.frame_events.FrameEvent.TheVariants.{Frame}
use Rattle.laws_promises.proofs.FrameLaws.{laws_of}
use Rattle.laws_promises.proofs.frame_call.drive_frames.Goals as goal

pub loop-at-init : goal.loop-at-init
unfolding moments
loop-at-init g c = record { config = refl; none_failed = refl; ran = λ m s. s; counted = λ m s. refl; taken = λ m s. refl }

pub loop-at-preserved : goal.loop-at-preserved
loop-at-preserved g c =
    let is = slice_get-get_or c.args.events.now c.loop-at.at (Frame 0 (record { ref_ptr = (0, 0); now = [] })) c.loop-at-test.true in
    let no = sym c.is_err.ensures.value ∙ c.if-is_err.false in
    let same = ap (λ d. d.n201) c.loop-at.invariant.config in
    let leads : Leads g.S.Shelf.store (event_of c.args.card.now.config.n201 (get_or c.args.events.now c.loop-at.at (Frame 0 (record { ref_ptr = (0, 0); now = [] })))) c.loop-at.card c.answer.new.card = subst (λ n. Leads g.S.Shelf.store (event_of n (get_or c.args.events.now c.loop-at.at (Frame 0 (record { ref_ptr = (0, 0); now = [] })))) c.loop-at.card c.answer.new.card) same c.answer.ensures.leads in
    record {
      config = leads.config ∙ c.loop-at.invariant.config;
      none_failed = at_ok c.answer.result _ no c.answer.ensures.hands.not_failed ∙ c.loop-at.invariant.none_failed;
      ran = λ m s. subst (λ r. FrameStands g.S.Shelf.store c.answer.new.card r.card) (sym (one-further (event_of c.args.card.now.config.n201) (run m) (λ es e. one_more (run m es) e) (run-more m) c.args.events.now c.loop-at.at _ is)) (leads.stands _ (c.loop-at.invariant.ran m s));
      counted = λ m s. leads.counted _ (c.loop-at.invariant.ran m s) ∙ ap (λ k. moment_counted k (moment_of (run m (take c.loop-at.at (events_of c.args.card.now.config.n201 c.args.events.now))).card ((event_of c.args.card.now.config.n201) (get_or c.args.events.now c.loop-at.at (Frame 0 (record { ref_ptr = (0, 0); now = [] })))))) (c.loop-at.invariant.counted m s) ∙ (sym (one-further (event_of c.args.card.now.config.n201) (λ es. all_counted (counters_in c.args.card.now.lines) (moments m es)) (λ es e. moment_counted (all_counted (counters_in c.args.card.now.lines) (moments m es)) (moment_of (run m es).card e)) (moments-count (counters_in c.args.card.now.lines) m) c.args.events.now c.loop-at.at _ is));
      taken = λ m s. subst (λ r. Taken g.K.FrameSink.takes c.args.sink.now r.replies c.answer.new.sink) (sym (one-further (event_of c.args.card.now.config.n201) (run m) (λ es e. one_more (run m es) e) (run-more m) c.args.events.now c.loop-at.at _ is)) (Taken-more g.K.FrameSink.takes c.args.sink.now c.loop-at.sink c.answer.new.sink _ _ _ (c.loop-at.invariant.taken m s) (subst (λ n. g.K.FrameSink.takes c.loop-at.sink (event_of n (get_or c.args.events.now c.loop-at.at (Frame 0 (record { ref_ptr = (0, 0); now = [] })))).line (answer (event_of n (get_or c.args.events.now c.loop-at.at (Frame 0 (record { ref_ptr = (0, 0); now = [] })))) (run m (take c.loop-at.at (events_of c.args.card.now.config.n201 c.args.events.now))).card) c.answer.new.sink) same (at_ok c.answer.result _ no c.answer.ensures.hands.taken _ (c.loop-at.invariant.ran m s))));
    }

pub returns-then-is_err : goal.returns-then-is_err
returns-then-is_err g c =
    let is = slice_get-get_or c.args.events.now c.loop-at.at (Frame 0 (record { ref_ptr = (0, 0); now = [] })) c.loop-at-test.true in
    let yes = sym c.is_err.ensures.value ∙ c.if-is_err.true in
    let same = ap (λ d. d.n201) c.loop-at.invariant.config in
    let leads : Leads g.S.Shelf.store (event_of c.args.card.now.config.n201 (get_or c.args.events.now c.loop-at.at (Frame 0 (record { ref_ptr = (0, 0); now = [] })))) c.loop-at.card c.answer.new.card = subst (λ n. Leads g.S.Shelf.store (event_of n (get_or c.args.events.now c.loop-at.at (Frame 0 (record { ref_ptr = (0, 0); now = [] })))) c.loop-at.card c.answer.new.card) same c.answer.ensures.leads in
    let stopped : (m : Card) → FrameStands g.S.Shelf.store c.args.card.now m → FrameStands g.S.Shelf.store c.answer.new.card (run m (take (c.loop-at.at + 1) (events_of c.args.card.now.config.n201 c.args.events.now))).card = λ m s. subst (λ r. FrameStands g.S.Shelf.store c.answer.new.card r.card) (sym (one-further (event_of c.args.card.now.config.n201) (run m) (λ es e. one_more (run m es) e) (run-more m) c.args.events.now c.loop-at.at _ is)) (leads.stands _ (c.loop-at.invariant.ran m s)) in
    let missed : (m : Card) → FrameStands g.S.Shelf.store c.args.card.now m → MissesNext g.K.FrameSink.takes g.K.FrameSink.misses (run m (take c.loop-at.at (events_of c.args.card.now.config.n201 c.args.events.now))).replies (run m (take (c.loop-at.at + 1) (events_of c.args.card.now.config.n201 c.args.events.now))).replies c.args.sink.now c.answer.new.sink = λ m s. record { line = _; reply = _; next = ap (λ (r : Run). r.replies) (one-further (event_of c.args.card.now.config.n201) (run m) (λ es e. one_more (run m es) e) (run-more m) c.args.events.now c.loop-at.at _ is); before = c.loop-at.sink; taken = c.loop-at.invariant.taken m s; missed = subst (λ n. g.K.FrameSink.misses c.loop-at.sink (event_of n (get_or c.args.events.now c.loop-at.at (Frame 0 (record { ref_ptr = (0, 0); now = [] })))).line (answer (event_of n (get_or c.args.events.now c.loop-at.at (Frame 0 (record { ref_ptr = (0, 0); now = [] })))) (run m (take c.loop-at.at (events_of c.args.card.now.config.n201 c.args.events.now))).card) c.answer.new.sink) same (at_err c.answer.result _ yes c.answer.ensures.hands.not_taken _ (c.loop-at.invariant.ran m s)) } in
    let counters : (m : Card) → FrameStands g.S.Shelf.store c.args.card.now m → counters_in c.answer.new.card.lines ≡ all_counted (counters_in c.args.card.now.lines) (moments m (take (c.loop-at.at + 1) (events_of c.args.card.now.config.n201 c.args.events.now))) = λ m s. leads.counted _ (c.loop-at.invariant.ran m s) ∙ ap (λ k. moment_counted k (moment_of (run m (take c.loop-at.at (events_of c.args.card.now.config.n201 c.args.events.now))).card ((event_of c.args.card.now.config.n201) (get_or c.args.events.now c.loop-at.at (Frame 0 (record { ref_ptr = (0, 0); now = [] })))))) (c.loop-at.invariant.counted m s) ∙ (sym (one-further (event_of c.args.card.now.config.n201) (λ es. all_counted (counters_in c.args.card.now.lines) (moments m es)) (λ es e. moment_counted (all_counted (counters_in c.args.card.now.lines) (moments m es)) (moment_of (run m es).card e)) (moments-count (counters_in c.args.card.now.lines) m) c.args.events.now c.loop-at.at _ is)) in
    let before : c.loop-at.at < length (events_of c.args.card.now.config.n201 c.args.events.now) = omega (arith, c.loop-at-test.true, length-map c.args.events.now (event_of c.args.card.now.config.n201)) in
    let failed : g.K.FrameSink.failures c.answer.new.sink ≡ one_failure_more (g.K.FrameSink.failures c.args.sink.now) = at_err c.answer.result _ yes c.answer.ensures.hands.failed ∙ ap one_failure_more c.loop-at.invariant.none_failed in
    record {
      run = record { config = leads.config ∙ c.loop-at.invariant.config; runs = missed_one (record { at = c.loop-at.at }) before failed stopped missed counters };
      laws = laws_of g.S.Shelf.store c.args.card.now c.args.events.now c.requires;
    }

pub returns : goal.returns
returns g c =
    let all = take_all c.loop-at.at (events_of c.args.card.now.config.n201 c.args.events.now) (omega (arith, c.loop-at-test.false, length-map c.args.events.now (event_of c.args.card.now.config.n201))) in
    let ran : (m : Card) → FrameStands g.S.Shelf.store c.args.card.now m → FrameStands g.S.Shelf.store c.loop-at.card (run m (events_of c.args.card.now.config.n201 c.args.events.now)).card = λ m s. subst (λ es. FrameStands g.S.Shelf.store c.loop-at.card (run m es).card) all (c.loop-at.invariant.ran m s) in
    let taken : (m : Card) → FrameStands g.S.Shelf.store c.args.card.now m → Taken g.K.FrameSink.takes c.args.sink.now (run m (events_of c.args.card.now.config.n201 c.args.events.now)).replies c.loop-at.sink = λ m s. subst (λ es. Taken g.K.FrameSink.takes c.args.sink.now (run m es).replies c.loop-at.sink) all (c.loop-at.invariant.taken m s) in
    let counters : (m : Card) → FrameStands g.S.Shelf.store c.args.card.now m → counters_in c.loop-at.card.lines ≡ all_counted (counters_in c.args.card.now.lines) (moments m (events_of c.args.card.now.config.n201 c.args.events.now)) = λ m s. c.loop-at.invariant.counted m s ∙ ap (λ es. all_counted (counters_in c.args.card.now.lines) (moments m es)) all in
    record {
      run = record {
        config = c.loop-at.invariant.config;
        runs = record {
          ok = sym (length-map c.args.events.now (event_of c.args.card.now.config.n201));
          at = _;
          failed = _;
          not_failed = c.loop-at.invariant.none_failed;
          ran = ran;
          taken = taken;
          counters = counters;
          stopped = _;
          taken_before = _;
          counters_before = _;
        };
      };
      laws = laws_of g.S.Shelf.store c.args.card.now c.args.events.now c.requires;
    }
