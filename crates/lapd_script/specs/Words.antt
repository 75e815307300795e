-- The words of a line.
use Rattle.std.specs.Prelude.{ℕ, ◌==◌, List, [], ◌∷◌, map, Result, Ok, Err}
use Rattle.std.specs.List.{slice_split}
use Rattle.std.specs.Borrow.{Bor}
use Rattle.lapd_script.specs.declared.kind.FaultKind.{FaultKind}
use Rattle.lapd_script.specs.declared.kind.FaultKind.TheVariants.{BadNumberOfWords}

-- each space (octet 32) separates two words, which may be empty
abbrev pub words_of : List ℕ → List (List ℕ)
words_of line = slice_split (λ octet. octet == 32) line

-- what references to words refer to
abbrev pub texts : List (Bor (List ℕ)) → List (List ℕ)
texts words = map (λ (word : Bor (List ℕ)). word.now) words

-- the words after the first one, where a line has so many
abbrev pub no_words : List (List ℕ) → Result Unit FaultKind
no_words [] = Ok tt
no_words (a ∷ more) = Err BadNumberOfWords

abbrev pub one_word : List (List ℕ) → Result (List ℕ) FaultKind
one_word (a ∷ []) = Ok a
one_word _ = Err BadNumberOfWords

abbrev pub two_words : List (List ℕ) → Result (List ℕ × List ℕ) FaultKind
two_words (a ∷ b ∷ []) = Ok (a, b)
two_words _ = Err BadNumberOfWords

abbrev pub three_words : List (List ℕ) → Result (List ℕ × List ℕ × List ℕ) FaultKind
three_words (a ∷ b ∷ c ∷ []) = Ok (a, b, c)
three_words _ = Err BadNumberOfWords
