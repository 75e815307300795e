-- What is heard takes room in the stream: each frame its octets, its check and one flag.
use Rattle.model_bits.proofs.Vocabulary.{◌≡◌, ℕ, suc, ◌+◌, ◌*◌, ◌≤◌, ◌<◌, Bool, true, false, ◌||◌, ◌-◌, List, [], ◌∷◌, length, reverse, drop, take, Option, Some, None, option_map, option_to_list, option_and_then, nat_lt, refl, ap, sym, subst, arith, cond, length-drop, sum_by, All, ltb-false, ltb-true, or_parts, length-reverse, length-take-le, All-nil, All-append, sum_by-append, bits}
use Rattle.model_bits.proofs.Vocabulary.{stuffed, octets_sent, Event, overlong, dropped, ends_flag, has_abort, since_flag, is_short, judged, text_event, gap_event, closed_by_flag, given_up, heard_at, heard_until, heard_in, room_for, octets_taken, IsWhole, HeardWithinStream, Cause}
use Rattle.model_bits.specs.Stream.{frame}
use Rattle.model_bits.proofs.BitLemmas.{length-bits}
use Rattle.model_bits.proofs.StuffingOctets.{octets_are_those_sent}

-- a text is no shorter than what it was made of
length-stuffed : (b : List Bool) → length b ≤ length (stuffed b)
length-stuffed [] = omega arith
length-stuffed (true ∷ true ∷ true ∷ true ∷ true ∷ b) = omega (arith, length-stuffed b)
length-stuffed (x ∷ b) = omega (arith, length-stuffed b)

octets_within_text : (text : List Bool) (octets : List ℕ) → octets_sent text ≡ Some octets → 8 * length octets ≤ length text
octets_within_text text octets e =
    let s = (octets_are_those_sent text octets).0 e in
    let same : length text ≡ length (stuffed (bits octets)) = ap length s.0 in
    omega (arith, same, length-stuffed (bits octets), length-bits octets)

-- a flag has eight bits
flag_length : (b : Bool) (past : List Bool) → ends_flag (b ∷ past) ≡ true → 7 ≤ length past
flag_length b past e = grind arith

-- a frame that is not short has five octets with its check, or more
not_short : (octets : List ℕ) → is_short octets ≡ false → 5 ≤ length octets
not_short octets h = grind (arith, nat_lt, or_parts, ltb-false)

-- how octets are judged, by its four outcomes
pub judged_as : (P : Event → Type 0) (room : ℕ) (octets : List ℕ)
    → ((cause : Cause) → P (dropped cause))
    → (5 ≤ length octets → room < length octets → P (overlong (take 4 octets)))
    → (5 ≤ length octets → P (frame (take (length octets - 2) octets)))
    → P (judged room octets)
judged_as P room octets drops long whole = grind (arith, nat_lt, ltb-true, not_short)

-- ---- sums over what is heard

-- A weight of events, at most the octets that were judged and a flag.
pub record IsWeight (room : ℕ) (w : Event → ℕ) : Type 0 where
  pub free : (cause : Cause) → w (dropped cause) ≡ 0
  pub within : (octets : List ℕ) → w (judged room octets) ≤ length octets + 1

module _ (room : ℕ) (w : Event → ℕ) (is : IsWeight room w) where
  text_weight : (text : List Bool) (o : Option (List ℕ)) → octets_sent text ≡ o → 8 * w (text_event room o) ≤ length text + 8
  text_weight text o e = grind (arith, octets_within_text)

  -- what a flag closes weighs no more than the gap and the flag's last bit
  closed_weight : (g : List Bool) → 8 * sum_by w (option_to_list (closed_by_flag room g)) ≤ length g + 1
  closed_weight g = go (nat_lt (length g) 8 || has_abort g) refl
    where
      go : (b : Bool) → (nat_lt (length g) 8 || has_abort g) ≡ b
          → 8 * sum_by w (option_to_list (cond b None (Some (gap_event room (reverse (drop 7 g)))))) ≤ length g + 1
      go true e = omega arith
      go false e =
          let long : 8 ≤ length g = ltb-false (length g) 8 (or_parts (nat_lt (length g) 8) (has_abort g) e).0 in
          let text = reverse (drop 7 g) in
          omega (arith, long, text_weight text (octets_sent text) refl, length-reverse (drop 7 g), length-drop 7 g)

  -- an abort weighs nothing
  given_up_weight : (g : List Bool) → sum_by w (option_to_list (given_up g)) ≡ 0
  given_up_weight g = grind (arith, nat_lt, option_to_list)

  -- what was heard fits before the flag that the open gap follows
  abbrev Fits : Option (List Bool) → ℕ → ℕ → Type 0
  Fits None s n = s ≡ 0
  Fits (Some g) s n = 8 * s + length g + 8 ≤ n

  one_bit : (b : Bool) (flag : Bool) (o : Option (List Bool)) (s n : ℕ) → (flag ≡ true → 7 ≤ n) → Fits o s n
      → Fits (cond flag (Some []) (option_map (λ g. b ∷ g) o))
      (s + sum_by w (option_to_list (cond flag (option_and_then (closed_by_flag room) o) (option_and_then (λ g. given_up (b ∷ g)) o)))) (suc n)
  one_bit b flag o s n long x = grind (arith, closed_weight, given_up_weight)

  heard_fits : (past : List Bool) → Fits (since_flag past) (sum_by w (heard_until room past)) (length past)
  heard_fits [] = refl
  heard_fits (b ∷ past) =
      subst (λ s. Fits (since_flag (b ∷ past)) s (suc (length past)))
      (sym (sum_by-append w (heard_until room past) (option_to_list (heard_at room (b ∷ past)))))
      (one_bit b (ends_flag (b ∷ past)) (since_flag past) (sum_by w (heard_until room past)) (length past)
      (λ e. flag_length b past e) (heard_fits past))

  within_fits : (o : Option (List Bool)) (s n : ℕ) → Fits o s n → 8 * s ≤ n
  within_fits o s n x = grind arith

-- the sum of a weight over what is heard in octets
pub weight_of_heard : (n201 : ℕ) (w : Event → ℕ) → IsWeight (room_for n201) w → (octets : List ℕ)
    → sum_by w (heard_in n201 octets) ≤ length octets
weight_of_heard n201 w is octets =
    let past = reverse (bits octets) in
    let room = room_for n201 in
    let eight = within_fits room w is (since_flag past) (sum_by w (heard_until room past)) (length past) (heard_fits room w is past) in
    omega (arith, eight, length-reverse (bits octets), length-bits octets)

-- ---- the law

taken_is_weight : (n201 : ℕ) → IsWeight (room_for n201) (octets_taken (room_for n201))
taken_is_weight n201 = grind (arith, judged_as, length-take-le)

judged_whole : (room : ℕ) (octets : List ℕ) → IsWhole (judged room octets)
judged_whole room octets = grind (arith, judged_as, length-take-le)

text_whole : (room : ℕ) (o : Option (List ℕ)) → IsWhole (text_event room o)
text_whole room o = grind (arith, judged_whole)

closed_whole : (room : ℕ) (g : List Bool) → All IsWhole (option_to_list (closed_by_flag room g))
closed_whole room g = grind (arith, nat_lt, option_to_list, text_whole)

given_up_whole : (g : List Bool) → All IsWhole (option_to_list (given_up g))
given_up_whole g = grind (arith, nat_lt, option_to_list)

heard_at_whole : (room : ℕ) (b : Bool) (flag : Bool) (o : Option (List Bool))
    → All IsWhole (option_to_list (cond flag (option_and_then (closed_by_flag room) o) (option_and_then (λ g. given_up (b ∷ g)) o)))
heard_at_whole room b true None = All-nil IsWhole
heard_at_whole room b true (Some g) = closed_whole room g
heard_at_whole room b false None = All-nil IsWhole
heard_at_whole room b false (Some g) = given_up_whole (b ∷ g)

heard_whole : (room : ℕ) (past : List Bool) → All IsWhole (heard_until room past)
heard_whole room [] = All-nil IsWhole
heard_whole room (b ∷ past) =
    All-append IsWhole (heard_until room past) (option_to_list (heard_at room (b ∷ past))) (heard_whole room past)
    (heard_at_whole room b (ends_flag (b ∷ past)) (since_flag past))

pub heard_within_stream : HeardWithinStream
heard_within_stream = record {
  within = λ n201 octets. weight_of_heard n201 (octets_taken (room_for n201)) (taken_is_weight n201) octets;
  whole = λ n201 octets. heard_whole (room_for n201) (reverse (bits octets));
}
