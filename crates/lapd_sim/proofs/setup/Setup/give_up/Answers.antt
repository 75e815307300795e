-- Hand-written answers for `Setup::give_up`.
use Rattle.lapd_sim.proofs.Vocabulary.{[], ◌∷◌, Ok, Err, subst, take, take_all, get_or, flat_map, flat_map-append, ◌∙◌, at, request, deactivations, with_events, on, scene, SetupSays, SetupStands, WriteFailed, Call, Packet, Deactivate, Down}
use Rattle.lapd_sim.proofs.OneByOne.{breaks_off, broken_after, leaves_told, tells_after, tells_more}
use Rattle.lapd_sim.proofs.setup.Setup.give_up.Goals as goal

pub returns-in_err-ask : goal.returns-in_err-ask
returns-in_err-ask g c = λ m h.
    let tei = get_or c.args.teis.now c.loop-tei.tei-index 0 in
    let n = (with_events (flat_map (deactivations c.args.line) (take c.loop-tei.tei-index c.args.teis.now)) (scene m)).setup in
    let before = c.loop-tei.invariant.1 m h in
    leaves_told c.from_residual.result _ _ _ _ c.from_residual.ensures.0
    (broken_after _ _ (flat_map (deactivations c.args.line) c.args.teis.now) (at c.args.line (request Down) ∷ []) m
    (breaks_off (flat_map (deactivations c.args.line)) (flat_map-append (deactivations c.args.line)) c.args.teis.now c.loop-tei.tei-index c.loop-tei-test.true _ _ _ (SetupStands c.ask.new.self) m before.0
    (broken_after _ _ (at c.args.line (request (Deactivate Call tei)) ∷ []) (at c.args.line (request (Deactivate Packet tei)) ∷ []) n (c.in_err-ask.ensures.told _ before.1))))

pub returns-in_err-ask-2 : goal.returns-in_err-ask-2
returns-in_err-ask-2 g c = λ m h.
    let tei = get_or c.args.teis.now c.loop-tei.tei-index 0 in
    let n = (with_events (flat_map (deactivations c.args.line) (take c.loop-tei.tei-index c.args.teis.now)) (scene m)).setup in
    let before = c.loop-tei.invariant.1 m h in
    let call = c.in_ok-ask.ensures.told _ before.1 in
    leaves_told c.from_residual-in_err-ask-2.result _ _ _ _ c.from_residual-in_err-ask-2.ensures.0
    (broken_after _ _ (flat_map (deactivations c.args.line) c.args.teis.now) (at c.args.line (request Down) ∷ []) m
    (breaks_off (flat_map (deactivations c.args.line)) (flat_map-append (deactivations c.args.line)) c.args.teis.now c.loop-tei.tei-index c.loop-tei-test.true _ _ _ (SetupStands c.ask-in-loop-tei.new.self) m before.0
    (tells_after (Err (record {})) _ _ _ (SetupStands c.ask-in-loop-tei.new.self) (at c.args.line (request (Deactivate Call tei)) ∷ []) (at c.args.line (request (Deactivate Packet tei)) ∷ []) n call.0 (c.in_err-ask-2.ensures.told _ call.1))))

pub loop-tei-preserved : goal.loop-tei-preserved
loop-tei-preserved g c = (
  c.in_ok-ask-2.ensures.config ∙ c.in_ok-ask.ensures.config ∙ c.loop-tei.invariant.0,
  λ m h.
      let tei = get_or c.args.teis.now c.loop-tei.tei-index 0 in
      let n = (with_events (flat_map (deactivations c.args.line) (take c.loop-tei.tei-index c.args.teis.now)) (scene m)).setup in
      let before = c.loop-tei.invariant.1 m h in
      let call = c.in_ok-ask.ensures.told _ before.1 in
      tells_more (flat_map (deactivations c.args.line)) (flat_map-append (deactivations c.args.line)) c.args.teis.now c.loop-tei.tei-index c.loop-tei-test.true _ _ _ (SetupStands c.ask-in-loop-tei.new.self) m before.0
      (tells_after (Ok tt) _ _ _ (SetupStands c.ask-in-loop-tei.new.self) (at c.args.line (request (Deactivate Call tei)) ∷ []) (at c.args.line (request (Deactivate Packet tei)) ∷ []) n call.0 (c.in_ok-ask-2.ensures.told _ call.1)),
)

pub returns : goal.returns
returns g c = λ m h.
    let before = subst (λ teis. SetupSays {E = WriteFailed} (Ok tt) c.args.self.now c.loop-tei.self (on g.T.Target.taken c.args.page.now) (on g.T.Target.taken c.loop-tei.page) (with_events (flat_map (deactivations c.args.line) teis)))
    (take_all _ _ c.loop-tei-test.false) c.loop-tei.invariant.1 m h in
    tells_after c.ask-2.result _ _ _ (SetupStands c.ask-2.new.self) (flat_map (deactivations c.args.line) c.args.teis.now) (at c.args.line (request Down) ∷ []) m before.0 (c.ask-2.ensures.told _ before.1)
