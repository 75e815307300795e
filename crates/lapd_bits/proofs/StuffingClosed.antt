-- Unstuffing that runs on into a closing flag: a receiver takes the flag's first seven bits in before its
-- last bit tells that they are a flag.
use Rattle.lapd_bits.proofs.Vocabulary.{◌≡◌, refl, ◌+◌, ◌↔◌, ℕ, ◌<◌, ◌≤◌, Bool, true, false, List, [], ◌∷◌, ◌++◌, Some, ap, sym, ◌∙◌, subst, arith, ⊎_elim, append_assoc, length, ◌*◌, drop, None, cond, length-append, cases_Bool, false≢true, lt-ltb, le-ltb, cases_lt, drop_at, append_cancel_right, bits, same_bits, stuffed, unstuffed, octets_sent, AreOctets, flag_front, ones_after, unstuffed_after}
use Rattle.lapd_bits.proofs.Vocabulary.{NoSix, unstuffed-counted, ones_after-append, unstuffed_after-append, ones_after-unstuffed_after, ones_after-stuffed, stuffed-unstuffed, unstuffed-stuffed, octets_are_those_sent, none_where_none_sent, length-bits, same_from_test, same_bits_self}

-- a flag without its first bit and its last
abbrev pub six_ones : List Bool
six_ones = true ∷ true ∷ true ∷ true ∷ true ∷ true ∷ []

-- a closing flag's first 0 is kept where the text does not end in five 1s, and taken out where it does
pub unstuffed-flag_front : (text : List Bool) → ones_after 0 text < 5 → unstuffed (text ++ flag_front) ≡ unstuffed text ++ flag_front
unstuffed-flag_front text h = grind (arith, unstuffed-counted, unstuffed_after-append, unstuffed_after, ones_after, lt-ltb)

pub unstuffed-flag_taken : (text : List Bool) → 5 ≤ ones_after 0 text → unstuffed (text ++ flag_front) ≡ unstuffed text ++ six_ones
unstuffed-flag_taken text h = grind (arith, unstuffed-counted, unstuffed_after-append, unstuffed_after, ones_after, le-ltb)

-- bits that end in 0 are not those of a text that ends in five 1s
not_a_zero_last : (text b : List Bool) → 5 ≤ ones_after 0 text → unstuffed text ≡ b ++ false ∷ [] → ⊥
not_a_zero_last text b h e =
    let more = ones_after-unstuffed_after 0 0 text (omega arith) in
    let none = ap (ones_after 0) (sym (unstuffed-counted text) ∙ e) ∙ ones_after-append 0 b (false ∷ []) in
    omega arith

-- What is unstuffed up to a flag's last bit is some bits and the front of a flag exactly where the text
-- before the flag is what a sender makes of these bits.
pub closed_where_stuffed : (text b : List Bool) → NoSix 0 text → (unstuffed (text ++ flag_front) ≡ b ++ flag_front) ↔ (text ≡ stuffed b)
closed_where_stuffed text b p = (
  λ e.
      ⊎_elim
      (λ below.
      let same : unstuffed text ≡ b = append_cancel_right (unstuffed text) b flag_front (sym (unstuffed-flag_front text below) ∙ e) in
      sym (stuffed-unstuffed text p below) ∙ ap stuffed same)
      (λ at.
      let longer : unstuffed text ++ six_ones ≡ (b ++ false ∷ []) ++ six_ones =
      sym (unstuffed-flag_taken text at) ∙ e ∙ sym (append_assoc b (false ∷ []) six_ones) in
      absurd (not_a_zero_last text b at (append_cancel_right (unstuffed text) (b ++ false ∷ []) six_ones longer)))
      (cases_lt (ones_after 0 text) 5),
  λ e.
      let below = subst (λ t. ones_after 0 t < 5) (sym e) (ones_after-stuffed b) in
      unstuffed-flag_front text below ∙ ap (λ t. unstuffed t ++ flag_front) e ∙ ap (λ u. u ++ flag_front) (unstuffed-stuffed b),
)

-- The same for octets: the assembly of a receiver stands at whole octets and the front of a flag exactly
-- where a sender makes the text before the flag of these octets.
pub closed_where_sent : (text : List Bool) (octets : List ℕ) → NoSix 0 text → AreOctets octets → (unstuffed (text ++ flag_front) ≡ bits octets ++ flag_front) ↔ (octets_sent text ≡ Some octets)
closed_where_sent text octets p h = grind (arith, octets_are_those_sent, closed_where_stuffed)

-- octets and fewer than eight bits more have one way to be read
one_rest : (a b : List ℕ) (r s : List Bool) → length r < 8 → length s < 8 → bits a ++ r ≡ bits b ++ s → r ≡ s
one_rest a b r s p q e =
    let sizes : 8 * length a + length r ≡ 8 * length b + length s =
    ap (λ n. n + length r) (sym (length-bits a)) ∙ sym (length-append (bits a) r) ∙ ap length e
    ∙ length-append (bits b) s ∙ ap (λ n. n + length s) (length-bits b) in
    let same : length (bits b) ≡ length (bits a) = omega (arith, length-bits a, length-bits b) in
    sym (drop_at (bits a) r (length (bits a)) refl) ∙ ap (drop (length (bits a))) e ∙ drop_at (bits b) s (length (bits a)) same

-- What the assembly tells at a closing flag: its whole octets are those sent where the front of a flag is left
-- over, and there are none where anything else is.
pub octets_sent-assembled : (text : List Bool) (octets : List ℕ) (over : List Bool) → NoSix 0 text → AreOctets octets → length over < 8 → unstuffed (text ++ flag_front) ≡ bits octets ++ over → octets_sent text ≡ cond (same_bits over flag_front) (Some octets) None
octets_sent-assembled text octets over p h short e =
    ⊎_elim
    (λ yes.
    let left : over ≡ flag_front = same_from_test over flag_front yes in
    rw yes ((closed_where_sent text octets p h).0 (e ∙ ap (λ r. bits octets ++ r) left)))
    (λ no.
    rw no
    ((none_where_none_sent text).1
    (λ others are sent.
    let front = (closed_where_stuffed text (bits others) p).1 sent in
    let left : over ≡ flag_front = one_rest octets others over flag_front short (omega arith) (sym e ∙ front) in
    false≢true (sym no ∙ ap (λ r. same_bits r flag_front) left ∙ same_bits_self flag_front))))
    (cases_Bool (same_bits over flag_front))
