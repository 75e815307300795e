-- The frames sent are linear in the octets received.
use Rattle.model_card.proofs.OfPorts.Vocabulary.{◌≡◌, ℕ, ◌+◌, ◌*◌, ◌≤◌, ◌<◌, Bool, List, [], ◌∷◌, refl, sym, subst, arith, length-replicate, All, count_by, sum_by, sum_by-cons, sum_by-replicate, mul-le-mul_left, IsInRange, Config, is_frame, is_long_frame, Event, FramesLinear, AreAtLines, Port, after_all, fresh, fresh_port, meant_all, HasSevenOctetsAReject, HasSixOctetsAFrame, IsLinear, accepted}
use Rattle.model_card.proofs.OfPorts.Vocabulary.{expired, heard, hears_frame, hears_long_frame, may_send, moments_meant, rejected, sent, window}
use Rattle.std.specs.Prelude.{true, false, cond, max}
use Rattle.model_bits.specs.Stream as stream
use Rattle.model_line.specs.Counts.{brought}
use Rattle.model_line.specs.Line.{is_terminal}
use Rattle.model_card.specs.ports.Promises.{worth}
use Rattle.model_line.specs.Event as line
use Rattle.model_card.specs.Run as runs
use Rattle.model_card.proofs.Amortised.{frames_amortised_from_zero, rejects_are_long}
use Rattle.model_card.specs.ports.Counts.{octets_of_port, octets_received}
use Rattle.model_card.proofs.OfPorts.Codec.{meant_at_lines}
use Rattle.model_card.proofs.OfPorts.Heard.{IsOfHeard, in_port, in_ports, is_counted, run_counted}
use Rattle.model_card.proofs.OfPorts.Octets.{frames_within, long_frames_within}

-- frames take their octets
ports_within : (f g : Port → ℕ) (n : ℕ) (ports : List Port) → ((p : Port) → n * f p ≤ g p) → n * sum_by f ports ≤ sum_by g ports
ports_within f g n [] h = omega arith
ports_within f g n (p ∷ ports) h = rw (sum_by-cons f p ports) (omega (arith, h p, ports_within f g n ports h, sum_by-cons g p ports))

frame_heard : IsOfHeard is_frame hears_frame
frame_heard = record { hears = λ e. refl; expiry = λ timer. refl; request = λ r. refl; next = refl }

long_frame_heard : IsOfHeard is_long_frame hears_long_frame
long_frame_heard = record { hears = λ e. refl; expiry = λ timer. refl; request = λ r. refl; next = refl }

-- what is counted of a run from a fresh card on
abbrev Fresh : (Config → List Event → Type 0) → Type 0
Fresh P = (c : Config) (events : List Event) → IsInRange c → AreAtLines (fresh c) events → P c events

from_none : (p : stream.Event → Bool) (q : line.Event → Bool) → IsOfHeard p q → (c : Config) (events : List Event) → AreAtLines (fresh c) events
    → in_ports p c.n201 (after_all (fresh c) events).ports ≡ count_by (is_counted q) (moments_meant c events)
from_none p q h c events within =
    let all = subst (λ n. All (λ (e : Event). e.line < n) events) (sym (length-replicate c.lines fresh_port)) within in
    omega (arith, run_counted p q h c.n201 (fresh c) events refl all, sum_by-replicate (in_port p c.n201) c.lines fresh_port)

six_octets : Fresh HasSixOctetsAFrame
six_octets c events ranged within =
    let ports = (after_all (fresh c) events).ports in
    let all = ports_within (in_port is_frame c.n201) octets_of_port 6 ports (λ p. frames_within c.n201 p.received) in
    omega (arith, all, from_none is_frame hears_frame frame_heard c events within)

seven_octets : Fresh HasSevenOctetsAReject
seven_octets c events ranged within =
    let ports = (after_all (fresh c) events).ports in
    let all = ports_within (in_port is_long_frame c.n201) octets_of_port 7 ports (λ p. long_frames_within c.n201 p.received) in
    omega (
      arith,
      all,
      from_none is_long_frame hears_long_frame long_frame_heard c events within,
      rejects_are_long (fresh c).card (meant_all (fresh c) events),
    )

-- what frames bring is worth their octets
is_worth : (c : Config) (f o : ℕ) → 6 * f ≤ o → 21 * (brought c * f) ≤ worth c * o
is_worth c f o frames =
    elim (is_terminal c) as (λ b. 21 * (cond b (max 2 c.terminals) 2 * f) ≤ cond b (4 * cond b (max 2 c.terminals) 2) 7 * o) [
      | true ↦ omega (arith, mul-le-mul_left (4 * max 2 c.terminals) frames)
      | false ↦ omega (arith, frames)
    ]

bound : (b v s w f a x j k o : ℕ) → s + w ≤ b * f + a + (k + 1) * x + k * j → 21 * (b * f) ≤ v * o → 7 * j ≤ o
    → 21 * s ≤ (v + 3 * k) * o + 21 * a + 21 * (k + 1) * x
bound b v s w f a x j k o amortised frames rejects =
    let scaled = mul-le-mul_left (3 * k) rejects in
    omega (arith, amortised, frames, scaled)

linear : Fresh IsLinear
linear c events ranged within =
    let ms = moments_meant c events in
    let meant = meant_all (fresh c) events in
    bound (brought c) (worth c) (sent ms) (may_send (runs.after_all (fresh c).card meant)) (heard ms) (accepted ms) (expired ms) (rejected ms) (window c)
    (octets_received (after_all (fresh c) events))
    (frames_amortised_from_zero c meant ranged (meant_at_lines (fresh c) events within)) (is_worth c (heard ms) (octets_received (after_all (fresh c) events)) (six_octets c events ranged within)) (seven_octets c events ranged within)

pub frames_linear : FramesLinear
frames_linear = record { frames = six_octets; rejects = seven_octets; linear = linear }
