-- Two cards that face each other as a call leaves them are at rest.
use Rattle.laws_order.proofs.Vocabulary.{◌≡◌, ◌∙◌, ℕ, List, [], map, refl, sym, ap, subst, arith, All, Service, frame_of, is_multiple_frame, Config, terms, CanCall, Face, Speaks, Endpoint, IsStill, calls-face, Wire, length, drop, length-drop, ◌-◌, said_by, AreOfStep, IsInStep, FaceInStep, Circuit, OctetStepAt, IsTalk, HasAllGone, window, AreSilent, FaceAtRest, CallsComeToRest, HasReceived}
use Rattle.laws_order.proofs.Vocabulary.{as_noisy_endpoint, is-established, is-sound, is-quiet}
use Rattle.laws_order.proofs.OfCircuit.Ran.{sound}
use Rattle.laws_order.proofs.Beginning.{within-window, Pasts, past-same, past-all, past-calling, link_known, up-here, from-links}
use Rattle.laws_order.proofs.Pairs.{link_here}
use Rattle.laws_order.proofs.OfCircuit.Projected.{as_wire, doings_meant}
use Rattle.laws_order.proofs.OfCircuit.Through as through

-- An end from where nothing is on its way.
abbrev rested : Endpoint → Endpoint
rested s = record { card = s.card; line = s.line; way = []; granted = []; told = [] }

-- That of a call in which all has gone, of which nothing waits.
rests : (service : Service) (tei : ℕ) (s u : Endpoint) → Speaks service tei s u → Speaks service tei u s → said_by service tei (rested s) (link_known service tei s) ≡ [] → IsInStep service tei (rested s) (link_known service tei s) (link_known service tei u)
rests service tei s u h k none =
    let l = link_here service tei s in
    let its = is-sound service tei s u h in
    let all : (link_here service tei u).r ≡ l.s = h.received in
    let got : l.r ≡ (link_here service tei u).s = k.received in
    let few : length (drop l.a l.contents) ≡ length l.contents - l.a = length-drop l.a l.contents in
    record {
      up = up-here service tei (rested s) ∙ ap is_multiple_frame (is-established service tei s u h);
      said = subst (AreOfStep (window s.card.config service) (link_known service tei s) (link_here service tei u).a) (sym none) (omega (arith, got, (is-sound service tei u s k).ordered));
      kept =
          within-window (link_here service tei u).r l.a (window s.card.config service) (drop l.a l.contents) (omega (arith, all, few, its.ordered, its.accepted))
          (omega (arith, all, its.within));
    }

module _ (service : Service) (c d : Config) (line other tei : ℕ) (ds : List OctetStepAt) (can : CanCall c line d other tei) (talk : All (IsTalk service tei) ds) where
  abbrev last : Circuit
  last = through.last service c d line other tei ds can talk

  faces : HasAllGone last → Face service tei (as_wire (through.done service c d line other tei ds can talk).there' (through.done service c d line other tei ds can talk).back' last)
  faces gone =
      let done = through.done service c d line other tei ds can talk in
      let led = through.led service c d line other tei ds can talk in
      let still = through.still service c d line other tei ds can talk gone in
      subst (Face service tei) led (calls-face service c d line other tei (doings_meant ds (through.begun service c d line other tei ds can talk)) can done.talk (subst IsStill (sym led) still))

  -- each end has a past
  abbrev there : Wire
  there = as_wire (through.done service c d line other tei ds can talk).there' (through.done service c d line other tei ds can talk).back' last

  pasts : Pasts there
  pasts =
      subst Pasts (through.led service c d line other tei ds can talk)
      (past-all (doings_meant ds (through.begun service c d line other tei ds can talk)) _ (past-calling service tei c line d other can.near.0 can.near.1 can.far.0 can.far.1))

  at-rest : Face service tei there → FaceAtRest service tei (record { near = rested there.near; far = rested there.far })
  at-rest h =
      let w : Wire = record { near = rested there.near; far = rested there.far } in
      let near = (ap (map (frame_of (terms there.near.card.config service tei))) (is-quiet service tei there.near there.far h.0)) in
      let far = (ap (map (frame_of (terms there.far.card.config service tei))) (is-quiet service tei there.far there.near h.1)) in
      let p = past-same there.near [] [] [] pasts.near in
      let q = past-same there.far [] [] [] pasts.far in
      let up = ap is_multiple_frame (is-established service tei there.near there.far h.0) in
      let others = ap is_multiple_frame (is-established service tei there.far there.near h.1) in
      let step : FaceInStep service tei w (link_known service tei w.near) (link_known service tei w.far) =
      (rests service tei there.near there.far h.0 h.1 near, rests service tei there.far there.near h.1 h.0 far, h.2.0) in (
        p,
        q,
        (
          from-links service tei w p q up others (FaceInStep service tei w) step,
          from-links service tei w p q up others (AreSilent service tei w) (near, far),
        ),
      )

  -- what came is what the ports have received
  received-near : HasReceived (as_noisy_endpoint last.near)
  received-near = record { received = refl; ports = (sound c can.near.0 last.near (through.done service c d line other tei ds can talk).follows.near).count }

  received-far : HasReceived (as_noisy_endpoint last.far)
  received-far = record { received = refl; ports = (sound d can.far.0 last.far (through.done service c d line other tei ds can talk).follows.far).count }

pub calls-come-to-rest : CallsComeToRest
calls-come-to-rest service c d line other tei ds can talk gone = (
  at-rest service c d line other tei ds can talk (faces service c d line other tei ds can talk gone),
  received-near service c d line other tei ds can talk,
  received-far service c d line other tei ds can talk,
)
