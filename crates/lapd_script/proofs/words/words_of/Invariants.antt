-- The invariants of the loops of `words_of`.
use Rattle.lapd_script.proofs.Vocabulary.{◌≡◌, ◌≤◌, ◌++◌, List, ℕ, Bor, length, All, words_of, texts}
use Rattle.lapd_script.proofs.words.words_of.Given as goal

-- the words so far, and those of the rest, are those of the line
abbrev pub invariant-loop-word : goal.invariant-loop-word
invariant-loop-word l = record {
  words : texts l.words.items ++ words_of l.rest ≡ words_of l.fn.line;
  short : All (λ (word : Bor (List ℕ)). length word.now ≤ length l.fn.line) l.words.items;
  rest : length l.rest ≤ length l.fn.line;
}

abbrev pub decreases-loop-word : goal.decreases-loop-word
decreases-loop-word l = length l.rest
