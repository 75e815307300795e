-- Hand-written answers for `drive_timed`.
use Rattle.std.proofs.Common.{◌∙◌, arith, get_or, sym, ap, subst}
use Rattle.std.proofs.lemmas.List.{length-map, take_all}
use Rattle.std.proofs.lemmas.List.Elements.{All-get_or}
use Rattle.std.proofs.lemmas.Option.{slice_get-get_or}
use Rattle.lapd_card.specs.Kinds.{config_of, kind_of, line_count}
use Rattle.model_card.specs.declared.kinds.CardKind.{CardKind}
use Rattle.model_line.specs.declared.config.Config.{Config}
use Rattle.laws_promises.specs.TimedDrive.{frame_step, frame_steps, octet_step, octet_steps, of_frames, of_octets, MayHappen}
use Rattle.laws_promises.specs.TimedRun.{Serves}
use Rattle.laws_promises.specs.declared.timed_events.TimedEvent.TheVariants.{Time}
use Rattle.laws_promises.proofs.TimedKinds.{frames-driven, octets-driven}
use Rattle.laws_promises.proofs.TimedLaws.{timed-laws}
use Rattle.laws_promises.proofs.TimedServing.{SoFar, all-served, missed-here, none-yet, served-here}
use Rattle.laws_promises.proofs.timed_call.drive_timed.Goals as goal

pub loop-at-init : goal.loop-at-init
loop-at-init g c = record { frames = none-yet of_frames frames-driven c.args.card.now c.args.sink.now; octets = none-yet of_octets octets-driven c.args.card.now c.args.sink.now }

-- each event may happen at the card, whose kind and whose lines stay
pub serve-requires : goal.serve-requires
serve-requires g c =
    let e = get_or c.args.events.now c.loop-at.at (Time 0) in
    subst (λ (d : Config). MayHappen (kind_of c.loop-at.card.card) d.lines e) (sym c.loop-at.invariant.frames.config)
    (subst (λ (k : CardKind). MayHappen k (line_count c.args.card.now.card) e) (sym c.loop-at.invariant.frames.kind)
    (All-get_or (MayHappen (kind_of c.args.card.now.card) (line_count c.args.card.now.card)) c.args.events.now c.loop-at.at (Time 0) c.loop-at-test.true c.requires))

pub loop-at-preserved : goal.loop-at-preserved
loop-at-preserved g c =
    let old = c.args.card.now in
    let before = c.args.sink.now in
    let events = c.args.events.now in
    let e = get_or events c.loop-at.at (Time 0) in
    let is = slice_get-get_or events c.loop-at.at (Time 0) c.loop-at-test.true in
    let took = sym c.is_err.ensures.value ∙ c.if-is_err.false in
    let frames = subst (λ n. Serves of_frames g.K.TimedSink.takes g.K.TimedSink.misses g.K.TimedSink.failures (frame_step n e) c.loop-at.card c.serve.new.card c.loop-at.sink c.serve.new.sink c.serve.result)
    (ap (λ (d : Config). d.n201) c.loop-at.invariant.frames.config) c.serve.ensures.frames in
    record {
      frames = served-here of_frames frames-driven old before (frame_step (config_of old.card).n201) events c.loop-at.at e is c.loop-at.card c.serve.new.card c.loop-at.sink c.serve.new.sink c.serve.result c.loop-at.invariant.frames frames took;
      octets = served-here of_octets octets-driven old before octet_step events c.loop-at.at e is c.loop-at.card c.serve.new.card c.loop-at.sink c.serve.new.sink c.serve.result c.loop-at.invariant.octets c.serve.ensures.octets took;
    }

pub returns-then-is_err : goal.returns-then-is_err
returns-then-is_err g c =
    let old = c.args.card.now in
    let before = c.args.sink.now in
    let events = c.args.events.now in
    let n201 = (config_of old.card).n201 in
    let e = get_or events c.loop-at.at (Time 0) in
    let is = slice_get-get_or events c.loop-at.at (Time 0) c.loop-at-test.true in
    let missed = sym c.is_err.ensures.value ∙ c.if-is_err.true in
    let frames = subst (λ n. Serves of_frames g.K.TimedSink.takes g.K.TimedSink.misses g.K.TimedSink.failures (frame_step n e) c.loop-at.card c.serve.new.card c.loop-at.sink c.serve.new.sink c.serve.result)
    (ap (λ (d : Config). d.n201) c.loop-at.invariant.frames.config) c.serve.ensures.frames in
    record {
      run = record {
        kind = frames.kind ∙ c.loop-at.invariant.frames.kind;
        config = frames.config ∙ c.loop-at.invariant.frames.config;
        frames = missed-here of_frames frames-driven old before (frame_step n201) events c.loop-at.at e is c.loop-at.card c.serve.new.card c.loop-at.sink c.serve.new.sink c.serve.result c.loop-at.invariant.frames frames
            (omega (arith, c.loop-at-test.true, length-map events (frame_step n201))) missed;
        octets = missed-here of_octets octets-driven old before octet_step events c.loop-at.at e is c.loop-at.card c.serve.new.card c.loop-at.sink c.serve.new.sink c.serve.result c.loop-at.invariant.octets c.serve.ensures.octets
            (omega (arith, c.loop-at-test.true, length-map events octet_step)) missed;
      };
      laws = timed-laws old events c.requires;
    }

pub returns : goal.returns
returns g c =
    let old = c.args.card.now in
    let before = c.args.sink.now in
    let events = c.args.events.now in
    let n201 = (config_of old.card).n201 in
    let all-frames = take_all c.loop-at.at (frame_steps old events) (omega (arith, c.loop-at-test.false, length-map events (frame_step n201))) in
    let all-octets = take_all c.loop-at.at (octet_steps events) (omega (arith, c.loop-at-test.false, length-map events octet_step)) in
    record {
      run = record {
        kind = c.loop-at.invariant.frames.kind;
        config = c.loop-at.invariant.frames.config;
        frames = all-served of_frames frames-driven old before c.loop-at.card c.loop-at.sink (frame_steps old events) _ (sym (length-map events (frame_step n201)))
            (subst (SoFar of_frames g.K.TimedSink.takes g.K.TimedSink.failures old c.loop-at.card before c.loop-at.sink) all-frames c.loop-at.invariant.frames);
        octets = all-served of_octets octets-driven old before c.loop-at.card c.loop-at.sink (octet_steps events) _ (sym (length-map events octet_step))
            (subst (SoFar of_octets g.K.TimedSink.takes g.K.TimedSink.failures old c.loop-at.card before c.loop-at.sink) all-octets c.loop-at.invariant.octets);
      };
      laws = timed-laws old events c.requires;
    }
