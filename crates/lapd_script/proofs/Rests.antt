-- What stands behind the octets that a word is read into.
use Rattle.lapd_script.proofs.Vocabulary.{◌≡◌, ℕ, ◌+◌, ◌-◌, ◌/◌, ◌≤◌, List, [], ◌∷◌, length, drop, Bor, sym, ap, ◌∙◌, arith, All, drop-drop}

-- what is equal from one place on is equal from a later one on
kept_further : (i j : ℕ) (a b : List ℕ) → i ≤ j → drop i a ≡ drop i b → drop j a ≡ drop j b
kept_further i j a b le same =
    let by : i + (j - i) ≡ j = omega (arith, le) in
    ap (λ n. drop n a) (sym by) ∙ sym (drop-drop (j - i) i a) ∙ ap (λ l. drop (j - i) l) same ∙ drop-drop (j - i) i b ∙ ap (λ n. drop n b) by

half_le : (m n : ℕ) → m ≤ n → m / 2 ≤ n / 2
half_le m n h = omega (arith, h)

kept : (word : List ℕ) (n : ℕ) (old new : List ℕ) → length word ≤ n → drop (length word / 2) new ≡ drop (length word / 2) old → drop (n / 2) new ≡ drop (n / 2) old
kept word n old new h same = kept_further (length word / 2) (n / 2) new old (half_le (length word) n h) same

-- the octets of the second word, and of the third
abbrev Within : ℕ → Bor (List ℕ) → Type 0
Within n word = length word.now ≤ n

pub second_kept : (words : List (Bor (List ℕ))) (first second : Bor (List ℕ)) (n : ℕ) (old new : List ℕ) → words ≡ first ∷ second ∷ [] → All (λ word. length word.now ≤ n) words
    → drop (length second.now / 2) new ≡ drop (length second.now / 2) old → drop (n / 2) new ≡ drop (n / 2) old
second_kept words first second n old new is all same = grind (arith, kept)

pub third_kept : (words : List (Bor (List ℕ))) (first second third : Bor (List ℕ)) (n : ℕ) (old new : List ℕ) → words ≡ first ∷ second ∷ third ∷ [] → All (λ word. length word.now ≤ n) words
    → drop (length third.now / 2) new ≡ drop (length third.now / 2) old → drop (n / 2) new ≡ drop (n / 2) old
third_kept words first second third n old new is all same = grind (arith, kept)
