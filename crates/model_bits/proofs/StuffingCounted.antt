-- Stuffing and its inverse with the contiguous 1s counted: the same as by patterns of five 1s, and how
-- they go over lists that are appended.
use Rattle.model_bits.proofs.Vocabulary.{◌≡◌, ℕ, suc, zero, ◌<◌, ◌≤◌, Bool, true, false, List, [], ◌∷◌, ◌++◌, if◌then◌else◌, nat_lt, replicate, refl, ap, sym, ◌∙◌, arith, ⊎_elim, append_assoc, lt-ltb, le-ltb, cases_lt, stuffed, unstuffed}

-- the contiguous 1s at the end of a text, where `ones` of them stand before it
abbrev pub ones_after : ℕ → List Bool → ℕ
ones_after ones [] = ones
ones_after ones (false ∷ text) = ones_after 0 text
ones_after ones (true ∷ text) = ones_after (suc ones) text

-- what a receiver keeps of a 0, after `ones` contiguous 1s
abbrev pub kept_zero : ℕ → List Bool
kept_zero ones = if nat_lt ones 5 then false ∷ [] else []

-- what a receiver makes of a text, after `ones` contiguous 1s
abbrev pub unstuffed_after : ℕ → List Bool → List Bool
unstuffed_after ones [] = []
unstuffed_after ones (false ∷ text) = kept_zero ones ++ unstuffed_after 0 text
unstuffed_after ones (true ∷ text) = true ∷ unstuffed_after (suc ones) text

-- what a sender puts on a line before its next bit, after `ones` contiguous 1s
abbrev pub stuffed_zero : ℕ → List Bool
stuffed_zero ones = if nat_lt ones 5 then [] else false ∷ []

-- the contiguous 1s after that
abbrev pub ones_left : ℕ → ℕ
ones_left ones = if nat_lt ones 5 then ones else 0

-- what a sender makes of bits, after `ones` contiguous 1s: at most five, of which the fifth has no 0 after
-- it yet
abbrev pub stuffed_after : ℕ → List Bool → List Bool
stuffed_after ones [] = stuffed_zero ones
stuffed_after ones (false ∷ b) = stuffed_zero ones ++ false ∷ stuffed_after 0 b
stuffed_after ones (true ∷ b) = stuffed_zero ones ++ true ∷ stuffed_after (suc (ones_left ones)) b

-- the counted text after five 1s begins with the stuffed 0
stuffed_after_five : (b : List Bool) → stuffed_after 5 b ≡ false ∷ stuffed_after 0 b
stuffed_after_five [] = refl
stuffed_after_five (false ∷ b) = refl
stuffed_after_five (true ∷ b) = refl

-- Stuffing by patterns is stuffing by the count, also with 1s before.
pub stuffed_alike : (n : ℕ) (b : List Bool) → n < 5 → stuffed (replicate n true ++ b) ≡ replicate n true ++ stuffed_after n b
stuffed_alike (suc (suc (suc (suc (suc n))))) b h = absurd (omega arith)
stuffed_alike (suc (suc (suc (suc zero)))) (true ∷ b) h =
    ap (λ t. true ∷ true ∷ true ∷ true ∷ true ∷ t) (ap (λ t. false ∷ t) (stuffed_alike 0 b (omega arith)) ∙ sym (stuffed_after_five b))
stuffed_alike n (true ∷ b) h = stuffed_alike (suc n) b (omega arith)
stuffed_alike n (false ∷ b) h = ap (λ t. replicate n true ++ false ∷ t) (stuffed_alike 0 b (omega arith))
stuffed_alike n [] h = refl

pub stuffed-counted : (b : List Bool) → stuffed b ≡ stuffed_after 0 b
stuffed-counted b = stuffed_alike 0 b (omega arith)

-- after five 1s or more a receiver takes out one 0, however many they are
pub unstuffed_past_five : (m n : ℕ) (text : List Bool) → 5 ≤ m → 5 ≤ n → unstuffed_after m text ≡ unstuffed_after n text
unstuffed_past_five m n [] p q = refl
unstuffed_past_five m n (false ∷ text) p q = rw (le-ltb m 5 p, le-ltb n 5 q) refl
unstuffed_past_five m n (true ∷ text) p q =
    ap (λ t. true ∷ t) (unstuffed_past_five (suc m) (suc n) text (omega arith) (omega arith))

-- The same for a receiver, with up to five 1s before.
unstuffed_alike : (n : ℕ) (t : List Bool) → n < 6 → unstuffed (replicate n true ++ t) ≡ replicate n true ++ unstuffed_after n t
unstuffed_alike (suc (suc (suc (suc (suc (suc n)))))) t h = absurd (omega arith)
unstuffed_alike (suc (suc (suc (suc (suc zero))))) (true ∷ t) h =
    ap (λ u. true ∷ u) (unstuffed_alike 5 t (omega arith))
    ∙ ap (λ u. true ∷ true ∷ true ∷ true ∷ true ∷ true ∷ u) (unstuffed_past_five 5 6 t (omega arith) (omega arith))
unstuffed_alike n (true ∷ t) h = unstuffed_alike (suc n) t (omega arith)
unstuffed_alike n (false ∷ t) h = ap (λ u. replicate n true ++ (kept_zero n ++ u)) (unstuffed_alike 0 t (omega arith))
unstuffed_alike n [] h = refl

pub unstuffed-counted : (t : List Bool) → unstuffed t ≡ unstuffed_after 0 t
unstuffed-counted t = unstuffed_alike 0 t (omega arith)

-- The count and the unstuffed bits of a text in two parts.
pub ones_after-append : (ones : ℕ) (s t : List Bool) → ones_after ones (s ++ t) ≡ ones_after (ones_after ones s) t
ones_after-append ones [] t = refl
ones_after-append ones (false ∷ s) t = ones_after-append 0 s t
ones_after-append ones (true ∷ s) t = ones_after-append (suc ones) s t

pub unstuffed_after-append : (ones : ℕ) (s t : List Bool) → unstuffed_after ones (s ++ t) ≡ unstuffed_after ones s ++ unstuffed_after (ones_after ones s) t
unstuffed_after-append ones [] t = refl
unstuffed_after-append ones (false ∷ s) t =
    ap (λ u. kept_zero ones ++ u) (unstuffed_after-append 0 s t) ∙ sym (append_assoc (kept_zero ones) _ _)
unstuffed_after-append ones (true ∷ s) t = ap (λ u. true ∷ u) (unstuffed_after-append (suc ones) s t)

-- unstuffing gives stuffed bits back
pub unstuffed_after-stuffed_after : (ones : ℕ) (b : List Bool) → ones ≤ 5 → unstuffed_after ones (stuffed_after ones b) ≡ b
unstuffed_after-stuffed_after ones [] h =
    ⊎_elim (λ below. simp (lt-ltb ones 5 below)) (λ at. simp (le-ltb ones 5 at)) (cases_lt ones 5)
unstuffed_after-stuffed_after ones (false ∷ b) h =
    let again = ap (λ u. false ∷ u) (unstuffed_after-stuffed_after 0 b (omega arith)) in
    ⊎_elim (λ below. simp (lt-ltb ones 5 below) again) (λ at. simp (le-ltb ones 5 at) again) (cases_lt ones 5)
unstuffed_after-stuffed_after ones (true ∷ b) h =
    ⊎_elim
    (λ below. simp (lt-ltb ones 5 below) (ap (λ u. true ∷ u) (unstuffed_after-stuffed_after (suc ones) b (omega arith))))
    (λ at. simp (le-ltb ones 5 at) (ap (λ u. true ∷ u) (unstuffed_after-stuffed_after 1 b (omega arith))))
    (cases_lt ones 5)

-- after five 1s a stuffed text goes on with a 0
pub stuffed_after_fifth : (ones : ℕ) (b : List Bool) → 5 ≤ ones → stuffed_after ones b ≡ false ∷ stuffed_after 0 b
stuffed_after_fifth ones [] h = simp (le-ltb ones 5 h)
stuffed_after_fifth ones (false ∷ b) h = simp (le-ltb ones 5 h)
stuffed_after_fifth ones (true ∷ b) h = simp (le-ltb ones 5 h)

-- No six contiguous 1s stand in a text, where `ones` of them stand before it.
abbrev pub NoSix : ℕ → List Bool → Type 0
NoSix ones [] = Unit {0}
NoSix ones (false ∷ text) = NoSix 0 text
NoSix ones (true ∷ text) = (ones < 5) × NoSix (suc ones) text

-- the same in two parts
pub NoSix-append : (ones : ℕ) (s t : List Bool) → NoSix ones s → NoSix (ones_after ones s) t → NoSix ones (s ++ t)
NoSix-append ones [] t p q = q
NoSix-append ones (false ∷ s) t p q = NoSix-append 0 s t p q
NoSix-append ones (true ∷ s) t p q = (p.0, NoSix-append (suc ones) s t p.1 q)

pub NoSix_back : (ones : ℕ) (s t : List Bool) → NoSix ones (s ++ t) → NoSix (ones_after ones s) t
NoSix_back ones [] t p = p
NoSix_back ones (false ∷ s) t p = NoSix_back 0 s t p
NoSix_back ones (true ∷ s) t p = NoSix_back (suc ones) s t p.1

-- a stuffed text holds no six contiguous 1s, and does not end in five
pub stuffed_after-shape : (ones : ℕ) (b : List Bool) → ones ≤ 5 → NoSix ones (stuffed_after ones b) × (ones_after ones (stuffed_after ones b) < 5)
stuffed_after-shape ones [] h =
    ⊎_elim (λ below. simp (lt-ltb ones 5 below) (tt, below)) (λ at. simp (le-ltb ones 5 at) (tt, omega arith)) (cases_lt ones 5)
stuffed_after-shape ones (false ∷ b) h =
    let again = stuffed_after-shape 0 b (omega arith) in
    ⊎_elim (λ below. simp (lt-ltb ones 5 below) again) (λ at. simp (le-ltb ones 5 at) again) (cases_lt ones 5)
stuffed_after-shape ones (true ∷ b) h =
    ⊎_elim
    (λ below. let again = stuffed_after-shape (suc ones) b (omega arith) in simp (lt-ltb ones 5 below) ((below, again.0), again.1))
    (λ at. let again = stuffed_after-shape 1 b (omega arith) in simp (le-ltb ones 5 at) ((omega arith, again.0), again.1))
    (cases_lt ones 5)

-- a text of which both hold is what a sender makes of its unstuffed bits
pub stuffed_after-unstuffed_after : (ones : ℕ) (text : List Bool) → ones ≤ 5 → NoSix ones text → ones_after ones text < 5 → stuffed_after ones (unstuffed_after ones text) ≡ text
stuffed_after-unstuffed_after ones [] h p q = simp (lt-ltb ones 5 q)
stuffed_after-unstuffed_after ones (false ∷ text) h p q =
    let again = ap (λ u. false ∷ u) (stuffed_after-unstuffed_after 0 text (omega arith) p q) in
    ⊎_elim
    (λ below. simp (lt-ltb ones 5 below) again)
    (λ at. simp (le-ltb ones 5 at) (stuffed_after_fifth ones (unstuffed_after 0 text) at ∙ again))
    (cases_lt ones 5)
stuffed_after-unstuffed_after ones (true ∷ text) h p q =
    simp (lt-ltb ones 5 p.0) (ap (λ u. true ∷ u) (stuffed_after-unstuffed_after (suc ones) text (omega arith) p.1 q))

-- unstuffing does not shorten the 1s at the end
pub ones_after-unstuffed_after : (m n : ℕ) (text : List Bool) → m ≤ n → ones_after m text ≤ ones_after n (unstuffed_after m text)
ones_after-unstuffed_after m n [] h = h
ones_after-unstuffed_after m n (false ∷ text) h =
    ⊎_elim
    (λ below. simp (lt-ltb m 5 below) (ones_after-unstuffed_after 0 0 text (omega arith)))
    (λ at. simp (le-ltb m 5 at) (ones_after-unstuffed_after 0 n text (omega arith)))
    (cases_lt m 5)
ones_after-unstuffed_after m n (true ∷ text) h = ones_after-unstuffed_after (suc m) (suc n) text (omega arith)
