-- What is read of words that stand in references, and of lines with too many.
use Rattle.lapd_script.proofs.Vocabulary.{◌≡◌, ℕ, Bool, true, false, cond, List, [], ◌∷◌, length, take, get_or, Ok, Err, Result, Option, refl, sym, ap, ◌∙◌, Bor, arith, IsErr, IsErrAnd, false≢true, FaultKind, BadNumberOfWords, Config, Word, Ask, texts, word_named, carries_octets}
use Rattle.std.specs.Prelude.{◌≤◌, ◌-◌, ◌&&◌, nat_le, bytes_eq, codes, zero, suc}
use Rattle.lapd_script.specs.declared.word.Word.TheVariants.{Card}
use Rattle.lapd_script.specs.declared.kind.FaultKind.TheVariants.{UnknownWord}
use Rattle.lapd_script.specs.Meaning.{card}
use Rattle.lapd_script.specs.Read.{card_numbers, for_annex_b, for_sapi, more_numbers, names_annex_b, names_sapi, nine_numbers, numbered, read_after, read_as, read_words, sapi_numbers, side_numbers, three_numbers, ◌>>=◌}

abbrev pub nowhere : Bor (List ℕ)
nowhere = record { ref_ptr = (0, 0); now = [] }

abbrev pub at : List (Bor (List ℕ)) → ℕ → List ℕ
at words i = (get_or words i nowhere).now

-- words in references, counted and parted
pub texts_at : (words : List (Bor (List ℕ))) (i : ℕ) → get_or (texts words) i [] ≡ at words i
texts_at [] i = refl
texts_at (w ∷ words) zero = refl
texts_at (w ∷ words) (suc i) = texts_at words i

pub texts_length : (words : List (Bor (List ℕ))) → length (texts words) ≡ length words
texts_length [] = refl
texts_length (w ∷ words) = ap suc (texts_length words)

pub texts_front : (n : ℕ) (words : List (Bor (List ℕ))) → take n (texts words) ≡ texts (take n words)
texts_front zero words = refl
texts_front (suc n) [] = refl
texts_front (suc n) (w ∷ words) = ap (λ rest. w.now ∷ rest) (texts_front n words)

is_named : (n count : ℕ) (name : Bool) → n ≤ count → name ≡ true → (nat_le n count && name) ≡ true
is_named n count name some is = grind (arith, some, is)

-- the last word but one of a card line may be `sapi`, with a number behind it
pub sapi_given : (words : List (Bor (List ℕ))) (count : ℕ) → count ≡ length words
    → sapi_numbers (texts words) ≡ cond (nat_le 2 count && bytes_eq (at words (count - 2)) (codes "sapi"))
    (for_sapi (side_numbers (texts (take (count - 2) words))) (at words (count - 1))) (side_numbers (texts words))
sapi_given words count is =
    ap (λ n. cond (nat_le 2 n && bytes_eq (get_or (texts words) (n - 2) []) (codes "sapi"))
    (for_sapi (side_numbers (take (n - 2) (texts words))) (get_or (texts words) (n - 1) [])) (side_numbers (texts words))) (texts_length words ∙ sym is)
    ∙ ap (λ word. cond (nat_le 2 count && bytes_eq word (codes "sapi"))
    (for_sapi (side_numbers (take (count - 2) (texts words))) (get_or (texts words) (count - 1) [])) (side_numbers (texts words))) (texts_at words (count - 2))
    ∙ ap (λ front. cond (nat_le 2 count && bytes_eq (at words (count - 2)) (codes "sapi"))
    (for_sapi (side_numbers front) (get_or (texts words) (count - 1) [])) (side_numbers (texts words))) (texts_front (count - 2) words)
    ∙ ap (λ last. cond (nat_le 2 count && bytes_eq (at words (count - 2)) (codes "sapi"))
    (for_sapi (side_numbers (texts (take (count - 2) words))) last) (side_numbers (texts words))) (texts_at words (count - 1))

-- where it is so
pub sapi_read : (words : List (Bor (List ℕ))) (count : ℕ) → count ≡ length words → 2 ≤ count → bytes_eq (at words (count - 2)) (codes "sapi") ≡ true
    → for_sapi (side_numbers (texts (take (count - 2) words))) (at words (count - 1)) ≡ sapi_numbers (texts words)
sapi_read words count is some named =
    sym (sapi_given words count is
    ∙ ap (λ test. cond test (for_sapi (side_numbers (texts (take (count - 2) words))) (at words (count - 1))) (side_numbers (texts words))) (is_named 2 count _ some named))

-- and the last one `annex-b`
pub annex_b_given : (words : List (Bor (List ℕ))) (count : ℕ) → count ≡ length words
    → card_numbers (texts words) ≡ cond (nat_le 1 count && bytes_eq (at words (count - 1)) (codes "annex-b"))
    (for_annex_b (sapi_numbers (texts (take (count - 1) words)))) (sapi_numbers (texts words))
annex_b_given words count is =
    ap (λ n. cond (nat_le 1 n && bytes_eq (get_or (texts words) (n - 1) []) (codes "annex-b"))
    (for_annex_b (sapi_numbers (take (n - 1) (texts words)))) (sapi_numbers (texts words))) (texts_length words ∙ sym is)
    ∙ ap (λ word. cond (nat_le 1 count && bytes_eq word (codes "annex-b"))
    (for_annex_b (sapi_numbers (take (count - 1) (texts words)))) (sapi_numbers (texts words))) (texts_at words (count - 1))
    ∙ ap (λ front. cond (nat_le 1 count && bytes_eq (at words (count - 1)) (codes "annex-b"))
    (for_annex_b (sapi_numbers front)) (sapi_numbers (texts words))) (texts_front (count - 1) words)

-- where it is so
pub annex_b_read : (words : List (Bor (List ℕ))) (count : ℕ) → count ≡ length words → 1 ≤ count → bytes_eq (at words (count - 1)) (codes "annex-b") ≡ true
    → for_annex_b (sapi_numbers (texts (take (count - 1) words))) ≡ card_numbers (texts words)
annex_b_read words count is some named =
    sym (annex_b_given words count is
    ∙ ap (λ test. cond test (for_annex_b (sapi_numbers (texts (take (count - 1) words)))) (sapi_numbers (texts words))) (is_named 1 count _ some named))

abbrev grouped : Result (ℕ × ℕ × ℕ) FaultKind → Result (ℕ × ℕ × ℕ) FaultKind → Result (ℕ × ℕ × ℕ) FaultKind → Result Config FaultKind
grouped ra rb rc = do
  a ← ra
  b ← rb
  c ← rc
  Ok (numbered a b c)

-- nine words,
pub nine_given : (words : List (Bor (List ℕ))) → length words ≡ 9
    → nine_numbers (texts words) ≡ grouped (three_numbers (at words 0) (at words 1) (at words 2)) (three_numbers (at words 3) (at words 4) (at words 5)) (three_numbers (at words 6) (at words 7) (at words 8))
nine_given (a ∷ b ∷ c ∷ d ∷ e ∷ f ∷ g ∷ h ∷ i ∷ []) n = refl
nine_given _ n = absurd (omega (arith, n))

pub nine_grouped : (words : List (Bor (List ℕ))) (ra rb rc : Result (ℕ × ℕ × ℕ) FaultKind) → length words ≡ 9
    → ra ≡ three_numbers (at words 0) (at words 1) (at words 2) → rb ≡ three_numbers (at words 3) (at words 4) (at words 5) → rc ≡ three_numbers (at words 6) (at words 7) (at words 8)
    → grouped ra rb rc ≡ nine_numbers (texts words)
nine_grouped words ra rb rc n ea eb ec = grind (arith, nine_given)

-- ten, eleven and twelve words: nine, and what stands after them;
pub with_tenth : (words : List (Bor (List ℕ))) → length words ≡ 10
    → more_numbers (texts (take 9 words)) (at words 9 ∷ []) ≡ side_numbers (texts words)
with_tenth (a ∷ b ∷ c ∷ d ∷ e ∷ f ∷ g ∷ h ∷ i ∷ j ∷ []) n = refl
with_tenth _ n = absurd (omega (arith, n))

pub with_eleventh : (words : List (Bor (List ℕ))) → length words ≡ 11
    → more_numbers (texts (take 9 words)) (at words 9 ∷ at words 10 ∷ []) ≡ side_numbers (texts words)
with_eleventh (a ∷ b ∷ c ∷ d ∷ e ∷ f ∷ g ∷ h ∷ i ∷ j ∷ k ∷ []) n = refl
with_eleventh _ n = absurd (omega (arith, n))

pub with_twelfth : (words : List (Bor (List ℕ))) → length words ≡ 12
    → more_numbers (texts (take 9 words)) (at words 9 ∷ at words 10 ∷ at words 11 ∷ []) ≡ side_numbers (texts words)
with_twelfth (a ∷ b ∷ c ∷ d ∷ e ∷ f ∷ g ∷ h ∷ i ∷ j ∷ k ∷ l ∷ []) n = refl
with_twelfth _ n = absurd (omega (arith, n))

-- and else they are nine numbers, or too few, or too many.
pub without : (words : List (Bor (List ℕ))) → (length words ≡ 10 → ⊥) → (length words ≡ 11 → ⊥) → (length words ≡ 12 → ⊥) → nine_numbers (texts words) ≡ side_numbers (texts words)
without (a ∷ b ∷ c ∷ d ∷ e ∷ f ∷ g ∷ h ∷ i ∷ j ∷ []) n m o = absurd (n refl)
without (a ∷ b ∷ c ∷ d ∷ e ∷ f ∷ g ∷ h ∷ i ∷ j ∷ k ∷ []) n m o = absurd (m refl)
without (a ∷ b ∷ c ∷ d ∷ e ∷ f ∷ g ∷ h ∷ i ∷ j ∷ k ∷ l ∷ []) n m o = absurd (o refl)
without _ n m o = refl

either : {A : Type 0} (t : Bool) (x : A) → cond t x x ≡ x
either true x = refl
either false x = refl

-- so many words are too many for a card line, without `annex-b`,
too_many_numbers : (a b c d e f g h i j k l m n o : List ℕ) (more : List (List ℕ))
    → sapi_numbers (a ∷ b ∷ c ∷ d ∷ e ∷ f ∷ g ∷ h ∷ i ∷ j ∷ k ∷ l ∷ m ∷ n ∷ o ∷ more) ≡ Err BadNumberOfWords
too_many_numbers a b c d e f g h i j k l m n o more = go (names_sapi words)
  where
    words : List (List ℕ)
    words = a ∷ b ∷ c ∷ d ∷ e ∷ f ∷ g ∷ h ∷ i ∷ j ∷ k ∷ l ∷ m ∷ n ∷ o ∷ more

    shorter : length words - 2 ≡ suc (suc (suc (suc (suc (suc (suc (suc (suc (suc (suc (suc (suc (length more)))))))))))))
    shorter = omega arith

    go : (b : Bool) → cond b (for_sapi (side_numbers (take (length words - 2) words)) (get_or words (length words - 1) [])) (side_numbers words) ≡ Err BadNumberOfWords
    go true = ap (λ n. for_sapi (side_numbers (take n words)) (get_or words (length words - 1) [])) shorter
    go false = refl

-- so many are for each first word, and so are more
too_many : (word : Word) (a b c d e f g h i j k l m n o p : List ℕ) (more : List (List ℕ))
    → read_as word (a ∷ b ∷ c ∷ d ∷ e ∷ f ∷ g ∷ h ∷ i ∷ j ∷ k ∷ l ∷ m ∷ n ∷ o ∷ p ∷ more) ≡ Err BadNumberOfWords
too_many (Ask what) a b c d e f g h i j k l m n o p more = either (carries_octets what) (Err BadNumberOfWords)
too_many (Card kind) a b c d e f g h i j k l m n o p more = go (names_annex_b words)
  where
    words : List (List ℕ)
    words = a ∷ b ∷ c ∷ d ∷ e ∷ f ∷ g ∷ h ∷ i ∷ j ∷ k ∷ l ∷ m ∷ n ∷ o ∷ p ∷ more

    shorter : length words - 1 ≡ suc (suc (suc (suc (suc (suc (suc (suc (suc (suc (suc (suc (suc (suc (suc (length more)))))))))))))))
    shorter = omega arith

    go : (b : Bool) → (cond b (for_annex_b (sapi_numbers (take (length words - 1) words))) (sapi_numbers words) >>= (λ numbers. Ok (card kind numbers))) ≡ Err BadNumberOfWords
    go true =
        ap (λ n. for_annex_b (sapi_numbers (take n words)) >>= (λ numbers. Ok (card kind numbers))) shorter
        ∙ ap (λ read. for_annex_b read >>= (λ numbers. Ok (card kind numbers))) (too_many_numbers a b c d e f g h i j k l m n o (take (length more) (p ∷ more)))
    go false = ap (λ read. read >>= (λ numbers. Ok (card kind numbers))) (too_many_numbers a b c d e f g h i j k l m n o (p ∷ more))
too_many _ a b c d e f g h i j k l m n o p more = refl

pub taken_words : (word : Word) (words : List (List ℕ)) → read_as word (take 16 words) ≡ read_as word words
taken_words word (a ∷ b ∷ c ∷ d ∷ e ∷ f ∷ g ∷ h ∷ i ∷ j ∷ k ∷ l ∷ m ∷ n ∷ o ∷ p ∷ more) = too_many word a b c d e f g h i j k l m n o p [] ∙ sym (too_many word a b c d e f g h i j k l m n o p more)
taken_words word _ = refl

abbrev first_word : List (List ℕ) → List ℕ
first_word [] = []
first_word (name ∷ more) = name

-- where the first seventeen words are these, they say what all the words say
pub read_taken : (all : List (List ℕ)) (name : List ℕ) (words : List (List ℕ)) (word : Option Word) → name ∷ words ≡ take 17 all → word ≡ word_named name → read_after word words ≡ read_words all
read_taken all name words word e w = grind (arith, taken_words)

-- where there are no words, the first one is unknown
pub read_nothing : (words : List (Bor (List ℕ))) (all : List (List ℕ)) → length words ≡ 0 → texts words ≡ take 17 all → Err UnknownWord ≡ read_words all
read_nothing [] [] none e = refl
read_nothing [] (name ∷ more) none e = absurd (omega (arith, ap length e))
read_nothing (w ∷ words) all none e = absurd (omega (arith, none))

-- the exit of a `?`
pub err_is : {A : Type 0} (r : Result A FaultKind) (kind : FaultKind) → IsErr r × IsErrAnd r (λ why. why ≡ kind) → r ≡ Err kind
err_is (Ok a) kind h = absurd (false≢true h.0)
err_is (Err why) kind h = ap (λ one. Err one) h.1
