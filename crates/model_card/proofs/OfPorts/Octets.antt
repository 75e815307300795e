-- Frames that are heard take their octets of the stream.
use Rattle.model_card.proofs.OfPorts.Vocabulary.{◌≡◌, ℕ, ◌+◌, ◌*◌, ◌≤◌, Bool, List, [], ◌∷◌, length, nat_le, cond, arith, count_by, sum_by, leb-true, length-take-le, sum_by-cons, room_for, IsWeight, weight_of_heard, judged_as, is_frame, is_long_frame}
use Rattle.model_bits.specs.Stream as stream
use Rattle.model_bits.specs.Stream.{Event}

scaled_sum : (p : Event → Bool) (n : ℕ) (es : List Event) → n * count_by p es ≡ sum_by (λ e. cond (p e) n 0) es
scaled_sum p n [] = omega arith
scaled_sum p n (e ∷ es) =
    rw (sum_by-cons (λ x. cond (p x) 1 0) e es, sum_by-cons (λ x. cond (p x) n 0) e es) (go (p e) (scaled_sum p n es))
  where
    go : (b : Bool) → n * count_by p es ≡ sum_by (λ x. cond (p x) n 0) es → n * (cond b 1 0 + count_by p es) ≡ cond b n 0 + sum_by (λ x. cond (p x) n 0) es
    go b rest = grind arith

frame_weight : (n201 : ℕ) → IsWeight (room_for n201) (λ e. cond (is_frame e) 6 0)
frame_weight n201 = grind (arith, judged_as)

long_weight : (n201 : ℕ) → IsWeight (room_for n201) (λ e. cond (is_long_frame e) 7 0)
long_weight n201 = grind (arith, judged_as, nat_le, leb-true, length-take-le)

pub frames_within : (n201 : ℕ) (octets : List ℕ) → 6 * count_by is_frame (stream.heard_in n201 octets) ≤ length octets
frames_within n201 octets =
    omega (arith, scaled_sum is_frame 6 (stream.heard_in n201 octets), weight_of_heard n201 (λ e. cond (is_frame e) 6 0) (frame_weight n201) octets)

pub long_frames_within : (n201 : ℕ) (octets : List ℕ) → 7 * count_by is_long_frame (stream.heard_in n201 octets) ≤ length octets
long_frames_within n201 octets =
    omega (arith, scaled_sum is_long_frame 7 (stream.heard_in n201 octets), weight_of_heard n201 (λ e. cond (is_long_frame e) 7 0) (long_weight n201) octets)
