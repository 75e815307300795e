-- A link is read from an image.
use Rattle.std.proofs.Common.{arith, ◌≡◌, ℕ, ◌+◌, ◌*◌, ◌<◌, ◌≤◌, ◌==◌, Bool, true, false, List, ◌++◌, length, slice_index, Option, Some, None, refl, sym, ap, ◌∙◌, if◌then◌else◌}
use Rattle.std.specs.Prelude.{All}
use Rattle.std.proofs.lemmas.List.{append_cancel_left}
use Rattle.std.proofs.lemmas.List.Elements.{All-drop}
use Rattle.std.proofs.lemmas.Option.{same_Some}
use Rattle.lapd_frame.specs.declared.controls.Control.{Control}
use Rattle.lapd_frame.specs.Grammar.{row}
use Rattle.lapd_frame.specs.Reading.{control_of}
use Rattle.lapd_frame.proofs.ControlField.{control-again}
use Rattle.model_bits.specs.Bits.{bit_value, low_bits, number_of}
use Rattle.model_bits.proofs.BitLemmas.{low_bits-number_of}
use Rattle.model_link.specs.declared.counts.LinkCounts.{LinkCounts}
use Rattle.model_link.specs.declared.frames.ControlFrame.{ControlFrame}
use Rattle.model_link.specs.declared.states.State.{State}
use Rattle.model_link.specs.declared.states.State.TheVariants.{TeiAssigned, AwaitingEstablishment, AwaitingRelease, Established, TimerRecovery}
use Rattle.model_link.specs.declared.timers.LinkTimer.{LinkTimer}
use Rattle.model_link.specs.declared.timers.LinkTimer.TheVariants.{T200, T203}
use Rattle.model_link.specs.Link.{Link, state_number, queue_of}
use Rattle.model_link.specs.Told.{runs}
use Rattle.lapd_image.specs.Numbers.{number, list_of, contents}
use Rattle.model_link.specs.Image.{control_frame, link_flags, state_octet, counted_of, counts, link}
use Rattle.model_link.specs.Same.{IsSameLink}
use Rattle.lapd_image.proofs.Reading.{heads, tails, split, Reads, number-read, equal-read, list-read, contents-read, all-unit}

-- a bit
bit-read : (a b : Bool) → bit_value a ≡ bit_value b → a ≡ b
bit-read true true e = refl
bit-read true false e = absurd (omega (arith, e))
bit-read false true e = absurd (omega (arith, e))
bit-read false false e = refl

-- a control frame, whose control field says how long it is
pub frame-read : Reads (λ (f : ControlFrame). Unit {0}) (λ (f g : ControlFrame). f ≡ g) control_frame
frame-read f g r s small below e =
    let command : f.command ≡ g.command = bit-read f.command g.command (heads e) in
    let fields : (row f.control).field ++ r ≡ (row g.control).field ++ s = tails e in
    let found : Some f.control ≡ Some g.control =
    sym (control-again f.control r) ∙ ap (λ (l : List ℕ). control_of (slice_index l 0) (slice_index l 1)) fields ∙ control-again g.control s in
    let control : f.control ≡ g.control = same_Some f.control g.control found in
    let others : (row g.control).field ++ r ≡ (row g.control).field ++ s = sym (ap (λ (c : Control). (row c).field ++ r) control) ∙ fields in
    ((λ i. record { command = command i; control = control i }), append_cancel_left (row g.control).field r s others)

-- a state by its number
abbrev state_from : ℕ → State
state_from n =
    if n == 4 then TeiAssigned else if n == 5 then AwaitingEstablishment else if n == 6 then AwaitingRelease
    else if n == 7 then Established else TimerRecovery

state-back : (state : State) → state_from (state_number state) ≡ state
state-back TeiAssigned = refl
state-back AwaitingEstablishment = refl
state-back AwaitingRelease = refl
state-back Established = refl
state-back TimerRecovery = refl

-- the state and the release that is owed share an octet
state-low : (state : State) → state_number state ≤ 8
state-low state = grind arith

bit-low : (b : Bool) → bit_value b ≤ 1
bit-low true = omega arith
bit-low false = omega arith

record ShareAnOctet (l m : Link) : Type 0 where
  state : l.state ≡ m.state
  owed : l.owed ≡ m.owed

state-read : (l m : Link) → state_octet l ≡ state_octet m → ShareAnOctet l m
state-read l m e =
    let number : state_number l.state ≡ state_number m.state = omega (arith, e, state-low l.state, state-low m.state, bit-low l.owed, bit-low m.owed) in
    let bit : bit_value l.owed ≡ bit_value m.owed = omega (arith, e, state-low l.state, state-low m.state, bit-low l.owed, bit-low m.owed) in
    record { state = sym (state-back l.state) ∙ ap state_from number ∙ state-back m.state; owed = bit-read l.owed m.owed bit }

-- the timer that runs, by two flags
abbrev timer_from : Bool → Bool → Option LinkTimer
timer_from true other = Some T200
timer_from false true = Some T203
timer_from false false = None

timer-back : (timer : Option LinkTimer) → timer_from (runs T200 timer) (runs T203 timer) ≡ timer
timer-back None = refl
timer-back (Some T200) = refl
timer-back (Some T203) = refl

-- the contents that it keeps are not too long, and what was counted has 16 bits
pub record HasSmall (l : Link) : Type 0 where
  pub queue : All (λ (c : List ℕ). length c < 65536) (queue_of l)
  pub counts : All (λ (n : ℕ). n < 65536) (counted_of l.counts)

pub small : (l : Link) (n : ℕ) → n ≤ 260 → All (λ (c : List ℕ). length c ≤ n) l.contents → All (λ (n : ℕ). n ≤ 65535) (counted_of l.counts) → HasSmall l
small l n most sizes counted = record {
  queue = All-drop (λ (c : List ℕ). length c < 65536) l.a l.contents (λ k d h. omega (arith, most, sizes k d h));
  counts = λ k d h. omega (arith, counted k d h);
}

-- what was counted
counts-read : Reads (λ (c : LinkCounts). All (λ (n : ℕ). n < 65536) (counted_of c)) (λ (c d : LinkCounts). c ≡ d) counts
counts-read c d r s few also e =
    let read : (counted_of c ≡ counted_of d) × (r ≡ s) = equal-read (λ (n : ℕ). n < 65536) (number 2) (number-read 2) (counted_of c) (counted_of d) r s refl few also e in
    let e1 = tails read.0 in
    let e2 = tails e1 in
    let e3 = tails e2 in
    let e4 = tails e3 in
    let sent : c.sent_again ≡ d.sent_again = heads read.0 in
    let expired : c.t200_expired ≡ d.t200_expired = heads e1 in
    let rejects : c.rejects_sent ≡ d.rejects_sent = heads e2 in
    let received : c.rejects_received ≡ d.rejects_received = heads e3 in
    let established : c.established ≡ d.established = heads e4 in
    ((λ i. record { sent_again = sent i; t200_expired = expired i; rejects_sent = rejects i; rejects_received = received i; established = established i }), read.1)

-- the flags
record HaveSameFlags (l m : Link) : Type 0 where
  peer_busy : l.peer_busy ≡ m.peer_busy
  own_busy : l.own_busy ≡ m.own_busy
  rejecting : l.rejecting ≡ m.rejecting
  pending : l.pending ≡ m.pending
  asked : l.asked ≡ m.asked
  running : l.running ≡ m.running

flags-read : (l m : Link) → number_of (link_flags l) ≡ number_of (link_flags m) → HaveSameFlags l m
flags-read l m same =
    let e : link_flags l ≡ link_flags m = sym (low_bits-number_of (link_flags l)) ∙ ap (λ (n : ℕ). low_bits 7 n) same ∙ low_bits-number_of (link_flags m) in
    let e1 = tails e in
    let e2 = tails e1 in
    let e3 = tails e2 in
    let e4 = tails e3 in
    let e5 = tails e4 in
    let e6 = tails e5 in
    let t200 : runs T200 l.running ≡ runs T200 m.running = heads e5 in
    let t203 : runs T203 l.running ≡ runs T203 m.running = heads e6 in
    record {
      peer_busy = heads e;
      own_busy = heads e1;
      rejecting = heads e2;
      pending = heads e3;
      asked = heads e4;
      running = sym (timer-back l.running) ∙ (λ i. timer_from (t200 i) (t203 i)) ∙ timer-back m.running;
    }

pub link-read : Reads HasSmall IsSameLink link
link-read l m r s few also e =
    let e1 = tails e in
    let e2 = tails e1 in
    let e3 = tails e2 in
    let e4 = tails e3 in
    let e5 = tails e4 in
    let e6 = tails e5 in
    let counted : (l.counts ≡ m.counts) × ((list_of contents (queue_of l) ++ list_of control_frame l.waiting) ++ r ≡ (list_of contents (queue_of m) ++ list_of control_frame m.waiting) ++ s) =
    counts-read l.counts m.counts _ _ few.counts also.counts (split (counts l.counts) (list_of contents (queue_of l) ++ list_of control_frame l.waiting) (counts m.counts) (list_of contents (queue_of m) ++ list_of control_frame m.waiting) r s (tails e6)) in
    let shared : ShareAnOctet l m = state-read l m (heads e) in
    let flags : HaveSameFlags l m = flags-read l m (heads e1) in
    let queue : (queue_of l ≡ queue_of m) × (list_of control_frame l.waiting ++ r ≡ list_of control_frame m.waiting ++ s) =
    list-read (λ (c : List ℕ). length c < 65536) contents contents-read (queue_of l) (queue_of m) _ _ few.queue also.queue (split (list_of contents (queue_of l)) (list_of control_frame l.waiting) (list_of contents (queue_of m)) (list_of control_frame m.waiting) r s counted.1) in
    let ring : (l.waiting ≡ m.waiting) × (r ≡ s) =
    list-read (λ (f : ControlFrame). Unit {0}) control_frame frame-read l.waiting m.waiting r s (all-unit l.waiting) (all-unit m.waiting) queue.1 in (
      record {
        state = shared.state;
        va = heads e3;
        sent = heads e4;
        vr = heads e5;
        again = heads e6;
        queue = queue.0;
        peer_busy = flags.peer_busy;
        own_busy = flags.own_busy;
        rejecting = flags.rejecting;
        pending = flags.pending;
        asked = flags.asked;
        owed = shared.owed;
        repeats = heads e2;
        running = flags.running;
        waiting = ring.0;
        counts = counted.0;
      },
      ring.1,
    )
