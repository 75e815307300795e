-- How words are split off.
use Rattle.lapd_script.proofs.Vocabulary.{◌≡◌, ℕ, ◌+◌, ◌≤◌, Bool, true, false, cond, ltb, List, [], ◌∷◌, ◌++◌, length, take, drop, Some, None, sym, ◌∙◌, arith, eqb, subst, append_assoc, Bor, take_all, ◌-◌, length-drop, length-append, position, position_or_len, slice_split_first, slice_split_none, position_or_len_is, fails_before_first, position-Some, map-append, length-map, take-append_seam}
use Rattle.lapd_script.proofs.Vocabulary.{common_steps, words_of, texts}

abbrev is_space : ℕ → Bool
is_space octet = eqb octet 32

-- the first word ends at the first space,
pub words_split : (rest : List ℕ) (end : ℕ) → Some end ≡ position is_space rest → words_of rest ≡ take end rest ∷ words_of (take (length rest - (end + 1)) (drop (end + 1) rest))
words_split rest end e = grind (arith, take_all, length-drop, position-Some, position_or_len_is, slice_split_first)

none_before : (n : ℕ) (rest : List ℕ) → cond (ltb n (length rest)) (Some n) None ≡ None → length rest ≤ n
none_before n rest e = grind (arith, common_steps)

-- and where there is no space, there is one word
pub words_unsplit : (rest : List ℕ) → None ≡ position is_space rest → words_of rest ≡ rest ∷ []
words_unsplit rest e =
    slice_split_none is_space rest (λ k d h. fails_before_first is_space rest k d (omega (arith, h, none_before (position_or_len is_space rest) rest (sym e))))

-- one word more
pub texts_push : (words : List (Bor (List ℕ))) (word : Bor (List ℕ)) (more : List (List ℕ)) → texts (words ++ word ∷ []) ++ more ≡ texts words ++ word.now ∷ more
texts_push words word more = rw map-append (append_assoc (texts words) (word.now ∷ []) more)

length-texts : (words : List (Bor (List ℕ))) → length (texts words) ≡ length words
length-texts words = length-map words (λ (word : Bor (List ℕ)). word.now)

-- where seventeen words are taken, those past them are left out,
pub texts_full : (words : List (Bor (List ℕ))) (more all : List (List ℕ)) → texts words ++ more ≡ all → length words ≡ 17 → texts words ≡ take 17 all
texts_full words more all e n =
    subst (λ list. texts words ≡ take 17 list) e
    (subst (λ (k : ℕ). texts words ≡ take k (texts words ++ more)) (length-texts words ∙ n) (sym (take-append_seam (texts words) more)))

-- and where there are fewer, all of them are taken
pub texts_all : (words : List (Bor (List ℕ))) (all : List (List ℕ)) → texts words ≡ all → length words ≤ 17 → texts words ≡ take 17 all
texts_all words all e short = subst (λ list. texts words ≡ take 17 list) e (sym (take_all 17 (texts words) (rw length-texts short)))

pub seventeen : (n : ℕ) → true ≡ eqb n 17 → n ≡ 17
seventeen n h = grind (arith, h)

pub fewer : (words : List (Bor (List ℕ))) (word : Bor (List ℕ)) → false ≡ eqb (length words) 17 → length words ≤ 17 → length (words ++ word ∷ []) ≤ 17
fewer words word h fits = rw length-append (grind (arith, h, fits))

pub texts_last : (words : List (Bor (List ℕ))) (word : Bor (List ℕ)) → texts (words ++ word ∷ []) ≡ texts words ++ word.now ∷ []
texts_last words word = map-append (λ (one : Bor (List ℕ)). one.now) words (word ∷ [])
