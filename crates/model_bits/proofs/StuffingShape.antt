-- The texts that a sender makes: no six contiguous 1s, and no five at the end.
use Rattle.model_bits.proofs.Vocabulary.{◌≡◌, ℕ, zero, suc, ◌+◌, ◌-◌, ◌<◌, ◌≤◌, ◌⊎◌, Bool, true, false, List, [], ◌∷◌, ◌++◌, replicate, refl, ap, sym, ◌∙◌, subst, arith, inl, inr, ⊎_elim, append_assoc, cases_lt, replicate-append-replicate, stuffed, unstuffed, HasSixOnes, EndsInFiveOnes, StuffedBitsComeBack, OneTextEach, StuffedTexts}
use Rattle.std.proofs.lemmas.List.{append-nil}
use Rattle.model_bits.proofs.StuffingCounted.{ones_after, unstuffed_after, NoSix, NoSix_back, stuffed-counted, unstuffed-counted, ones_after-append, unstuffed_after-stuffed_after, stuffed_after-shape, stuffed_after-unstuffed_after}

pub unstuffed-stuffed : StuffedBitsComeBack
unstuffed-stuffed b = grind (arith, unstuffed-counted, unstuffed_after, stuffed-counted, unstuffed_after-stuffed_after)

pub stuffed_once : OneTextEach
stuffed_once a b e = sym (unstuffed-stuffed a) ∙ ap unstuffed e ∙ unstuffed-stuffed b

-- a stuffed text by the count
pub NoSix-stuffed : (b : List Bool) → NoSix 0 (stuffed b)
NoSix-stuffed b = subst (NoSix 0) (sym (stuffed-counted b)) (stuffed_after-shape 0 b (omega arith)).0

pub ones_after-stuffed : (b : List Bool) → ones_after 0 (stuffed b) < 5
ones_after-stuffed b =
    subst (λ t. ones_after 0 t < 5) (sym (stuffed-counted b)) (stuffed_after-shape 0 b (omega arith)).1

pub stuffed-unstuffed : (text : List Bool) → NoSix 0 text → ones_after 0 text < 5 → stuffed (unstuffed text) ≡ text
stuffed-unstuffed text p q = grind (arith, unstuffed-counted, stuffed-counted, unstuffed_after, stuffed_after-unstuffed_after)

-- a 1 at the end of a run of them or before its other bits
pub one_further : (n : ℕ) (text : List Bool) → replicate (suc n) true ++ text ≡ replicate n true ++ true ∷ text
one_further zero text = refl
one_further (suc n) text = ap (λ t. true ∷ t) (one_further n text)

-- six 1s are among those before a text and its own, or there are none
six_or_none : (ones : ℕ) (text : List Bool) → ones ≤ 5 → NoSix ones text ⊎ HasSixOnes (replicate ones true ++ text)
six_or_none ones [] h = inl tt
six_or_none ones (false ∷ text) h =
    ⊎_elim
    (λ p. inl p)
    (λ w. inr (replicate ones true ++ false ∷ w.0, w.1, ap (λ t. replicate ones true ++ false ∷ t) w.2 ∙ sym (append_assoc (replicate ones true) (false ∷ w.0) _)))
    (six_or_none 0 text (omega arith))
six_or_none ones (true ∷ text) h =
    ⊎_elim
    (λ below.
    ⊎_elim
    (λ p. inl (below, p))
    (λ w. inr (w.0, w.1, sym (one_further ones text) ∙ w.2))
    (six_or_none (suc ones) text (omega arith)))
    (λ at. let e : ones ≡ 5 = omega arith in inr ([], text, ap (λ n. replicate n true ++ true ∷ text) e))
    (cases_lt ones 5)

pub NoSix-from_none : (text : List Bool) → (¬ HasSixOnes text) → NoSix 0 text
NoSix-from_none text h = ⊎_elim (λ p. p) (λ w. absurd (h w)) (six_or_none 0 text (omega arith))

pub none-from_NoSix : (text : List Bool) → NoSix 0 text → ¬ HasSixOnes text
none-from_NoSix text p w = grind (arith, NoSix_back, NoSix)

-- the 1s before a text and its own end in as many as are counted
ends_in_count : (ones : ℕ) (text : List Bool) → (front : List Bool) × (replicate ones true ++ text ≡ front ++ replicate (ones_after ones text) true)
ends_in_count ones [] = ([], append-nil (replicate ones true))
ends_in_count ones (false ∷ text) =
    let w = ends_in_count 0 text in
    (replicate ones true ++ false ∷ w.0, ap (λ t. replicate ones true ++ false ∷ t) w.1 ∙ sym (append_assoc (replicate ones true) (false ∷ w.0) _))
ends_in_count ones (true ∷ text) =
    let w = ends_in_count (suc ones) text in
    (w.0, sym (one_further ones text) ∙ w.1)

pub EndsInFiveOnes-from_count : (text : List Bool) → 5 ≤ ones_after 0 text → EndsInFiveOnes text
EndsInFiveOnes-from_count text h =
    let w = ends_in_count 0 text in
    let n = ones_after 0 text in
    let e : n ≡ (n - 5) + 5 = omega arith in (
      w.0 ++ replicate (n - 5) true,
      w.1 ∙ ap (λ k. w.0 ++ replicate k true) e
          ∙ ap (λ t. w.0 ++ t) (sym (replicate-append-replicate (n - 5) 5 true))
          ∙ sym (append_assoc w.0 _ _),
    )

pub count-from_EndsInFiveOnes : (text : List Bool) → EndsInFiveOnes text → 5 ≤ ones_after 0 text
count-from_EndsInFiveOnes text w = grind (arith, ones_after, ones_after-append)

pub stuffed_where_shaped : StuffedTexts
stuffed_where_shaped text = (
  λ w. (
    none-from_NoSix text (subst (NoSix 0) (sym w.1) (NoSix-stuffed w.0)),
    λ five. let below = subst (λ t. ones_after 0 t < 5) (sym w.1) (ones_after-stuffed w.0) in
        omega (arith, below, count-from_EndsInFiveOnes text five),
  ),
  λ h. (
    unstuffed text,
    sym (stuffed-unstuffed text (NoSix-from_none text h.0)
        (⊎_elim (λ below. below) (λ at. absurd (h.1 (EndsInFiveOnes-from_count text at))) (cases_lt (ones_after 0 text) 5))),
  ),
)
