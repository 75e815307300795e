-- Octets that are written one part after the other.
use Rattle.lapd_frame.proofs.Vocabulary.{◌≡◌, ℕ, ◌+◌, ◌≤◌, List, ◌++◌, length, take, drop, ap, sym, ◌∙◌, arith, take-append_seam, drop-append-drop}

-- a head of s octets, then the information
pub written : (s : ℕ) (head info old middle new front : List ℕ) → take s head ≡ front → length front ≡ s
    → middle ≡ take s head ++ drop s old → new ≡ take s middle ++ info ++ drop (s + length info) middle
    → new ≡ front ++ info ++ drop (s + length info) old
written s head info old middle new front e count first second =
    let first_is : middle ≡ front ++ drop s old = first ∙ ap (λ l. l ++ drop s old) e in
    let before : take s middle ≡ front = ap (take s) first_is ∙ ap (λ n. take n (front ++ drop s old)) (sym count) ∙ take-append_seam front (drop s old) in
    let more : s ≤ s + length info = omega arith in
    let after : drop (s + length info) middle ≡ drop (s + length info) old = ap (drop (s + length info)) first_is ∙ drop-append-drop s old front (s + length info) more count in
    second ∙ ap (λ l. l ++ info ++ drop (s + length info) middle) before ∙ ap (λ l. front ++ info ++ l) after

-- the front of octets that begin so
pub front-of : (n : ℕ) (new front back : List ℕ) → new ≡ front ++ back → length front ≡ n → take n new ≡ front
front-of n new front back e count = ap (take n) e ∙ ap (λ k. take k (front ++ back)) (sym count) ∙ take-append_seam front back
