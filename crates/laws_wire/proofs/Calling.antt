-- An establishment between two links, before both are up: SABME waits and goes, then UA; behind it I-frames may be on their way.
use Rattle.laws_wire.proofs.Vocabulary.{◌≡◌, ℕ, true, false, cond, List, [], ◌∷◌, ◌++◌, None, Some, ap, subst, arith, nat_lt, lt-ltb, Sabme, Ua, Parts, T203, ControlFrame, Terms, Link, fresh, frame_of, received, requested, offer, course, IsInRange, begun, LinkEndpoint, with_sent, command, response, sound-after, sound-fresh, Steady, Pair, T200, after, refusal, IsSound, indicated}
use Rattle.model_link.specs.declared.states.State.TheVariants as state
use Rattle.model_link.specs.Counts.{none_counted, with_establishment}
use Rattle.model_link.specs.Events.{frame, Establish, Data}
use Rattle.laws_wire.proofs.Speaking.{said_by}

abbrev pub sabme : Terms → Parts
sabme t = frame_of t (command (Sabme true))

abbrev pub ua : Terms → Parts
ua t = frame_of t (response (Ua true))

-- The link that was asked to establish: SABME waits, went, and was answered.
abbrev pub asked : Link
asked = record fresh { state = state.AwaitingEstablishment; asked = true; running = Some T200; waiting = command (Sabme true) ∷ [] }

abbrev pub awaiting : Link
awaiting = record asked { waiting = [] }

abbrev pub caller : Link
caller = record fresh { state = state.Established; asked = true; running = Some T203; counts = with_establishment none_counted }

-- The other link: UA waits, and went.
abbrev pub answering : Link
answering = record fresh { state = state.Established; running = Some T203; waiting = response (Ua true) ∷ []; counts = with_establishment none_counted }

abbrev pub called : Link
called = record answering { waiting = [] }

module _ (t : Terms) (ranges : IsInRange t) where
  room : nat_lt 0 t.control ≡ true
  room = let low = ranges.control_low in lt-ltb 0 t.control (omega (arith, low))

  pub asks-establish : after t (requested Establish false) fresh ≡ asked
  asks-establish = ap (λ b. record asked { waiting = cond b ([] ++ command (Sabme true) ∷ []) [] }) room

  -- the frame may have the terms of the other end
  pub takes-sabme : (u : Terms) → after t (received (frame (sabme u))) fresh ≡ answering
  takes-sabme u = ap (λ b. record answering { waiting = cond b ([] ++ response (Ua true) ∷ []) [] }) room

  pub told-of-sabme : (u : Terms) → said_by (course t (received (frame (sabme u))) fresh) ≡ indicated t.service t.tei ∷ []
  told-of-sabme u = ap (λ b. said_by (record (begun fresh) { notes = Rattle.lapd_frame.specs.declared.notes.Note.TheVariants.EstablishIndication t.service t.tei ∷ []; lost = cond {A = ℕ} b 0 1 })) room

  sound-awaiting : IsSound t awaiting
  sound-awaiting = sound-after t ranges offer asked (subst (IsSound t) asks-establish (sound-after t ranges (requested Establish false) fresh (sound-fresh t ranges)))

  pub sound-caller : IsSound t caller
  sound-caller = sound-after t ranges (received (frame (ua t))) awaiting sound-awaiting

  sound-answering : IsSound t answering
  sound-answering = subst (IsSound t) (takes-sabme t) (sound-after t ranges (received (frame (sabme t))) fresh (sound-fresh t ranges))

  pub sound-called : IsSound t called
  sound-called = sound-after t ranges offer answering sound-answering

abbrev pub end : Terms → Link → List Parts → LinkEndpoint
end t l way = record { terms = t; link = l; way = way; delivered = [] }

-- no contents are granted before a link is up
pub none-granted-asked : (t : Terms) (octets : List ℕ) → refusal t asked false (Data octets) ≡ None → ⊥
none-granted-asked t octets e = cc e

pub none-granted-awaiting : (t : Terms) (octets : List ℕ) → refusal t awaiting false (Data octets) ≡ None → ⊥
none-granted-awaiting t octets e = cc e

pub none-granted-fresh : (t : Terms) (octets : List ℕ) → refusal t fresh false (Data octets) ≡ None → ⊥
none-granted-fresh t octets e = cc e

-- the pair as both are up
pub first-pair : (t u : Terms) → IsInRange t → IsInRange u → Pair (record { near = end t caller []; far = end u called [] })
first-pair t u rt ru = grind arith

abbrev pub its_ua : ControlFrame
its_ua = response (Ua true)

-- The end that answers, with its UA in the ring, and on its way before all else.
abbrev pub with_ua_waiting : LinkEndpoint → LinkEndpoint
with_ua_waiting n = record n { link = record n.link { waiting = its_ua ∷ [] } }

abbrev pub with_ua_first : LinkEndpoint → LinkEndpoint
with_ua_first n = record n { way = ua n.terms ∷ n.way }

pub sends-ua : (n : LinkEndpoint) → Steady n → n.way ≡ [] → with_sent (with_ua_waiting n) ≡ with_ua_first n
sends-ua n h none = grind arith
