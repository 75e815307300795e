-- The frames sent are linear in the octets of the frames that came.
use Rattle.laws_promises.proofs.Vocabulary.{◌≡◌, ℕ, ◌+◌, ◌*◌, ◌≤◌, Bool, false, List, [], ◌∷◌, length, map, take, sym, subst, cond, arith, count_by, All, leb-true, All-nil, All-cons, All-head, All-tail, All-weaker, sum_by-cons, mul-le-mul_left, Short, came, hears_frame, hears_long_frame, is_frame, is_long_frame, Card, may_send, window, sent, heard, long_heard, accepted, expired}
use Rattle.laws_promises.proofs.Vocabulary.{rejected, after, answer, Moment, after_all, IsSound, frames_amortised, rejects_are_long}
use Rattle.lapd_frame.specs.Faults.{is_short}
use Rattle.std.specs.Prelude.{true, max}
use Rattle.model_line.specs.Counts.{brought}
use Rattle.model_line.specs.Line.{is_terminal}
use Rattle.model_line.specs.declared.config.Config.{Config}
use Rattle.model_card.specs.ports.Promises.{worth}
use Rattle.model_bits.specs.Stream as stream
use Rattle.model_line.specs.Event as line
use Rattle.model_card.specs.Event.{Event}
use Rattle.model_card.specs.Run.{AreAtLines}
unfoldable use Rattle.model_card.specs.Run.{moments}
use Rattle.laws_promises.specs.FrameDrive.{event_of}
use Rattle.laws_promises.specs.declared.frame_events.FrameEvent as rust
use Rattle.laws_promises.specs.Linear.{octets_taken, octets_of, octets_heard, IsLinear}

-- ---- each frame takes its octets

pub record TakesItsOctets (n201 : ℕ) (e : Event) : Type 0 where
  pub six : 6 * cond (hears_frame e.what) 1 0 ≤ octets_of n201 e
  pub seven : 7 * cond (hears_long_frame e.what) 1 0 ≤ octets_of n201 e

three : (octets : List ℕ) → is_short octets ≡ false → 3 ≤ length octets
three octets = grind arith

abbrev heard_as : ℕ → List ℕ → Bool → Bool → stream.Event
heard_as n201 octets short long = cond short (stream.dropped Short) (cond long (stream.overlong (take 4 octets)) (stream.frame octets))

frame_six : (n201 : ℕ) (octets : List ℕ) → 6 * cond (is_frame (came n201 octets)) 1 0 ≤ octets_taken n201 (came n201 octets)
frame_six n201 octets = grind (arith, three)

frame_seven : (n201 : ℕ) (octets : List ℕ) → 7 * cond (is_long_frame (came n201 octets)) 1 0 ≤ octets_taken n201 (came n201 octets)
frame_seven n201 octets = grind (arith, leb-true)

pub takes : (n201 : ℕ) (e : rust.FrameEvent) → TakesItsOctets n201 (event_of n201 e)
takes n201 e = grind (arith, frame_six, frame_seven)

pub all_take : (n201 : ℕ) (events : List rust.FrameEvent) → All (TakesItsOctets n201) (map (event_of n201) events)
all_take n201 [] = All-nil (TakesItsOctets n201)
all_take n201 (e ∷ events) = All-cons (TakesItsOctets n201) (event_of n201 e) (map (event_of n201) events) (takes n201 e) (all_take n201 events)

-- ---- over a whole list

-- events that pass a test, each worth so many octets, are so many moments
counted : (n n201 : ℕ) (p : line.Event → Bool) (m : Card) (events : List Event) → All (λ e. n * cond (p e.what) 1 0 ≤ octets_of n201 e) events
    → n * count_by (λ (x : Moment). p x.event.what) (moments m events) ≤ octets_heard n201 events
unfolding moments
counted n n201 p m [] all = omega arith
counted n n201 p m (e ∷ events) all =
    let P = λ (x : Event). n * cond (p x.what) 1 0 ≤ octets_of n201 x in
    let q = λ (x : Moment). p x.event.what in
    let one : Moment = record { card = m; event = e; answer = answer e m } in
    by_sum (cond (p e.what) 1 0) (count_by q (moments (after e m) events)) (count_by q (one ∷ moments (after e m) events))
    (sum_by-cons (λ x. cond (q x) 1 0) one (moments (after e m) events)) (sum_by-cons (octets_of n201) e events)
    (All-head P e events all) (counted n n201 p (after e m) events (All-tail P e events all))
  where
    by_sum : (first rest total : ℕ) → total ≡ first + rest → octets_heard n201 (e ∷ events) ≡ octets_of n201 e + octets_heard n201 events
        → n * first ≤ octets_of n201 e → n * rest ≤ octets_heard n201 events → n * total ≤ octets_heard n201 (e ∷ events)
    by_sum first rest total is sum one more = subst (λ k. n * k ≤ octets_heard n201 (e ∷ events)) (sym is) (omega (arith, sum, one, more))

-- what frames bring is worth their octets
is_worth : (c : Config) (f o : ℕ) → 6 * f ≤ o → 21 * (brought c * f) ≤ worth c * o
is_worth c f o frames =
    elim (is_terminal c) as (λ b. 21 * (cond b (max 2 c.terminals) 2 * f) ≤ cond b (4 * cond b (max 2 c.terminals) 2) 7 * o) [
      | true ↦ omega (arith, mul-le-mul_left (4 * max 2 c.terminals) frames)
      | false ↦ omega (arith, frames)
    ]

by_numbers : (b v s w f a x j k o before : ℕ) → s + w ≤ before + b * f + a + (k + 1) * x + k * j → 21 * (b * f) ≤ v * o → 7 * j ≤ o
    → 21 * (s + w) ≤ 21 * before + (v + 3 * k) * o + 21 * a + 21 * (k + 1) * x
by_numbers b v s w f a x j k o before bound frames seven =
    let scaled = mul-le-mul_left (3 * k) seven in
    omega (arith, bound, frames, scaled)

pub is_linear : (m : Card) (events : List Event) → IsSound m → AreAtLines m events → All (TakesItsOctets m.config.n201) events → IsLinear m events
is_linear m events s within all =
    let n201 = m.config.n201 in
    let ms = moments m events in
    let six = counted 6 n201 hears_frame m events (All-weaker (TakesItsOctets n201) (λ e. 6 * cond (hears_frame e.what) 1 0 ≤ octets_of n201 e) (λ e h. h.six) events all) in
    let seven = counted 7 n201 hears_long_frame m events (All-weaker (TakesItsOctets n201) (λ e. 7 * cond (hears_long_frame e.what) 1 0 ≤ octets_of n201 e) (λ e h. h.seven) events all) in
    let long : rejected ms ≤ long_heard ms = rejects_are_long m events in
    by_numbers (brought m.config) (worth m.config) (sent ms) (may_send (after_all m events)) (heard ms) (accepted ms) (expired ms) (rejected ms) (window m.config)
    (octets_heard n201 events) (may_send m) (frames_amortised m events s within) (is_worth m.config (heard ms) (octets_heard n201 events) six) (omega (arith, seven, long))
