-- A worked link is at rest, and T203 runs on: so after 72 beats more all is told that is granted then. And its SABME comes in nine beats.
use Rattle.laws_time.proofs.Vocabulary.{All, All-cons, All-nil, AreInRange, AreOpposite, AreShort, AsksData, Begins, Call, Clocked, Config, Establish, Expiry, FrameEndpoint as Endpoint, HasReceived, IsCalmSince, IsClean, IsOfLink, IsSoundCard as IsSound, IsTalk, IsToldSince, RunsOn, Some, TimedEndpoint, [], after, ap, arith, as_frames, begins, calls, clean, config}
use Rattle.laws_time.proofs.Vocabulary.{control_of, distance_of, exchanged, fall_due, false, far_clock, frame, frames_among, frames_at, granted_in, header_of, idle, is_busy, its_line, length, line_of, longest, low_bits, map, most_turns, named, near_clock, network, own_frames_at, own_link, plain, port_of, reading as read_by, refl, replicate, rested, runs_until, seq, sound, state_of, subst, suc}
use Rattle.laws_time.proofs.Vocabulary.{supervisory_of, sym, unnumbered_of, user, zero, ℕ, ◌*◌, ◌++◌, ◌+◌, ◌-◌, ◌<◌, ◌∙◌, ◌∷◌, ◌≡◌, ◌≤◌}
use Rattle.lapd_frame.specs.Reading.{reading}
use Rattle.model_teis.specs.network.Events as teis
use Rattle.model_line.specs.Machine as lines
use Rattle.model_card.specs.ports.Card as ports
use Rattle.model_bits.specs.Stream as stream
use Rattle.laws_wire.specs.Facing.{Face, Speaks}
use Rattle.laws_time.proofs.OfCircuit.InBeatsFrames.{frames-come-in-beats}
use Rattle.laws_time.proofs.OfCircuit.AgainRan.{Both, both-all, both-begin}
use Rattle.laws_time.proofs.OfCircuit.InBeats.{can, sends, asks-one}
use Rattle.laws_time.proofs.OfCircuit.Led.{plain-clean}
use Rattle.laws_time.proofs.OfCircuit.Rested.{messages-come-in-time}

in-range : AreInRange its_line.lengths
in-range = record { t200 = omega arith; t203 = omega arith; t201 = omega arith; t202 = omega arith; t200_most = omega arith; t203_most = omega arith; t201_most = omega arith; t202_most = omega arith }

fit : Begins its_line
fit = record { call = can; some = omega arith; lengths = (in-range, in-range) }

rings-talk : IsTalk its_line (calls its_line plain)
rings-talk = (All-cons (IsOfLink Call 0) (Establish Call 0) [] (refl, refl) (All-nil (IsOfLink Call 0)), All-nil (IsOfLink Call 0))

plain-talk : (n : ℕ) → All (IsTalk its_line) (replicate n plain)
plain-talk zero = All-nil (IsTalk its_line)
plain-talk (suc n) = All-cons (IsTalk its_line) plain (replicate n plain) (All-nil (IsOfLink Call 0), All-nil (IsOfLink Call 0)) (plain-talk n)

ends : Both its_line can rested
ends = both-all its_line can ((calls its_line plain) ∷ replicate 19 plain) (All-cons (IsTalk its_line) (calls its_line plain) (replicate 19 plain) rings-talk (plain-talk 19)) (begins its_line) (both-begin its_line can)

-- What is seen at the two ends.
record AreSeen (s u : Endpoint) : Type 0 where
  state : state_of Call 0 (line_of s) ≡ Some 7
  free : is_busy (own_link Call 0 s) ≡ false
  alone : frames_at s ≡ own_frames_at Call 0 s
  received : (own_link Call 0 u).r ≡ (own_link Call 0 s).s
  acknowledged : (own_link Call 0 s).a ≡ (own_link Call 0 s).s
  sent : most_turns Call 0 s ≡ 0

near-seen : AreSeen (as_frames rested.near) (as_frames rested.far)
unfolding lines.after lines.answer lines.takes_slot exchanged read_by reading header_of control_of unnumbered_of supervisory_of teis.course teis.refusal seq distance_of named low_bits ports.after ports.answer ports.meant fall_due
near-seen = record { state = refl; free = refl; alone = refl; received = refl; acknowledged = refl; sent = refl }

far-seen : AreSeen (as_frames rested.far) (as_frames rested.near)
unfolding lines.after lines.answer lines.takes_slot exchanged read_by reading header_of control_of unnumbered_of supervisory_of teis.course teis.refusal seq distance_of named low_bits ports.after ports.answer ports.meant fall_due
far-seen = record { state = refl; free = refl; alone = refl; received = refl; acknowledged = refl; sent = refl }

configs : (rested.near.at.card.card.config ≡ user) × (rested.far.at.card.card.config ≡ network)
configs = (config user can.near.0 rested.near.at ends.near.ran, config network can.far.0 rested.far.at ends.far.ran)

speaks : (c : Config) (s u : Endpoint) → IsSound s.card → s.card.config ≡ c → s.line < c.lines → AreSeen s u → Speaks Call 0 s u
speaks c s u sound_card is within h = grind arith

faces : Face Call 0 (record { near = as_frames rested.near; far = as_frames rested.far })
faces =
    let opposite = can.opposite in (
      speaks user (as_frames rested.near) (as_frames rested.far) (sound user can.near.0 rested.near.at ends.near.ran).card configs.0 ends.near.ran.within near-seen,
      speaks network (as_frames rested.far) (as_frames rested.near) (sound network can.far.0 rested.far.at ends.far.ran).card configs.1 ends.far.ran.within far-seen,
      subst (λ k. AreOpposite k rested.far.at.card.card.config) (sym configs.0) (subst (AreOpposite user) (sym configs.1) opposite),
    )

-- SABME and UA went, and flags.
near-items : (port_of rested.near.at).items ≡ (frame (0x00 ∷ 0x01 ∷ 0x7F ∷ []) ∷ replicate 13 idle)
unfolding lines.after lines.answer lines.takes_slot exchanged read_by reading header_of control_of unnumbered_of supervisory_of teis.course teis.refusal seq distance_of named low_bits ports.after ports.answer ports.meant fall_due
near-items = refl

far-items : (port_of rested.far.at).items ≡ (replicate 7 idle ++ (frame (0x00 ∷ 0x01 ∷ 0x73 ∷ []) ∷ replicate 6 idle))
unfolding lines.after lines.answer lines.takes_slot exchanged read_by reading header_of control_of unnumbered_of supervisory_of teis.course teis.refusal seq distance_of named low_bits ports.after ports.answer ports.meant fall_due
far-items = refl

far-received : (port_of rested.far.at).received ≡ (0x7E ∷ 0x00 ∷ 0x01 ∷ 0xDF ∷ 0xC8 ∷ 0xA8 ∷ replicate 14 0xFC)
unfolding lines.after lines.answer lines.takes_slot exchanged read_by reading header_of control_of unnumbered_of supervisory_of teis.course teis.refusal seq distance_of named low_bits ports.after ports.answer ports.meant fall_due
far-received = refl

near-received : (port_of rested.near.at).received ≡ (replicate 8 0x7E ++ (0x00 ∷ 0x01 ∷ 0x73 ∷ 0x08 ∷ 0x9E ∷ replicate 7 0x7E))
unfolding lines.after lines.answer lines.takes_slot exchanged read_by reading header_of control_of unnumbered_of supervisory_of teis.course teis.refusal seq distance_of named low_bits ports.after ports.answer ports.meant fall_due
near-received = refl

sabme-heard : map (λ octets. stream.frame octets) (frames_among (frame (0x00 ∷ 0x01 ∷ 0x7F ∷ []) ∷ replicate 13 idle)) ≡ stream.heard_in 8 (0x7E ∷ 0x00 ∷ 0x01 ∷ 0xDF ∷ 0xC8 ∷ 0xA8 ∷ replicate 14 0xFC)
unfolding low_bits
sabme-heard = refl

ua-heard : map (λ octets. stream.frame octets) (frames_among (replicate 7 idle ++ (frame (0x00 ∷ 0x01 ∷ 0x73 ∷ []) ∷ replicate 6 idle))) ≡ stream.heard_in 8 (replicate 8 0x7E ++ (0x00 ∷ 0x01 ∷ 0x73 ∷ 0x08 ∷ 0x9E ∷ replicate 7 0x7E))
unfolding low_bits
ua-heard = refl

near-arrived : map (λ octets. stream.frame octets) (frames_among (port_of rested.near.at).items) ≡ stream.heard_in 8 (port_of rested.far.at).received
near-arrived = ap (λ items. map (λ octets. stream.frame octets) (frames_among items)) near-items ∙ sabme-heard ∙ sym (ap (stream.heard_in 8) far-received)

far-arrived : map (λ octets. stream.frame octets) (frames_among (port_of rested.far.at).items) ≡ stream.heard_in 8 (port_of rested.near.at).received
far-arrived = ap (λ items. map (λ octets. stream.frame octets) (frames_among items)) far-items ∙ ua-heard ∙ sym (ap (stream.heard_in 8) near-received)

-- One content is granted then.
one-granted : granted_in (after 1 (sends ∷ []) rested) - granted_in rested ≡ 1
unfolding lines.after lines.answer lines.takes_slot exchanged read_by reading header_of control_of unnumbered_of supervisory_of teis.course teis.refusal seq distance_of named low_bits ports.after ports.answer ports.meant fall_due
one-granted = refl

-- T203 of either end, which runs then, falls due later than 73 beats from there.
late : (moment : ℕ) → 93 ≤ moment → (s : TimedEndpoint) → s.clock ≡ runs_until moment → All (λ (x : Expiry). rested.beats + 73 ≤ x.moment * 1) s.clock.running
late moment long s is = grind arith

calm : IsCalmSince its_line (calls its_line plain) (replicate 19 plain) (sends ∷ [])
calm =
    let is : longest 8 ≡ 18 = refl in
    record {
      calm = record {
        begins = fit;
        data_alone = All-cons (AsksData its_line) sends [] asks-one (All-nil (AsksData its_line));
        are_clean = All-cons IsClean sends [] (refl, refl) (All-nil IsClean);
        t200 = (omega (arith, is), omega (arith, is));
      };
      talk = All-cons (IsTalk its_line) (calls its_line plain) (replicate 19 plain) rings-talk (plain-talk 19);
      clean_before = All-cons IsClean (calls its_line plain) (replicate 19 plain) (refl, refl) (plain-clean 19);
      rest = record { face = faces; near = record { received = near-arrived; sent = near-seen.sent }; far = record { received = far-arrived; sent = far-seen.sent } };
    }

runs-on : RunsOn its_line (calls its_line plain) (replicate 19 plain) (sends ∷ []) 72
runs-on = record { calm = calm; t203 = (late 10013 (omega arith) rested.near near_clock, late 10007 (omega arith) rested.far far_clock) }

told-then : IsToldSince its_line rested (clean 1 72 (after 1 (sends ∷ []) rested))
told-then =
    let law = messages-come-in-time its_line (calls its_line plain) (replicate 19 plain) (sends ∷ []) 72 runs-on in
    law.1 (subst (λ g. 2 * g * (longest 8 + (longest 8 + 0)) ≤ 72) (sym one-granted) (omega arith))

-- ---- SABME comes

-- After three beats SABME is on the line, and nine beats later it was received.
abbrev rung : Clocked
rung = after 1 ((calls its_line plain) ∷ replicate 2 plain) (begins its_line)

rung-items : ((port_of rung.near.at).items ≡ frame (0x00 ∷ 0x01 ∷ 0x7F ∷ []) ∷ []) × ((port_of rung.far.at).items ≡ idle ∷ idle ∷ [])
unfolding lines.after lines.answer lines.takes_slot exchanged read_by reading header_of control_of unnumbered_of supervisory_of teis.course teis.refusal seq distance_of named low_bits ports.after ports.answer ports.meant fall_due
rung-items = (refl, refl)

short : AreShort 0 rung.near × AreShort 0 rung.far
short = grind (arith, length, frames_among, rung-items)

sabme-comes : HasReceived its_line rung.near (clean 1 9 rung).far × HasReceived its_line rung.far (clean 1 9 rung).near
sabme-comes =
    frames-come-in-beats its_line (calls its_line plain) (replicate 2 plain) (replicate 9 plain) 0 fit (All-cons (IsTalk its_line) (calls its_line plain) (replicate 2 plain) rings-talk (plain-talk 2)) (plain-talk 9)
    (All-cons IsClean (calls its_line plain) (replicate 2 plain) (refl, refl) (plain-clean 2)) (plain-clean 9) (omega arith) short.0 short.1
