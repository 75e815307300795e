-- Hand-written answers for `words_of`.
use Rattle.lapd_script.proofs.Vocabulary.{ℕ, ◌≤◌, ◌++◌, List, [], ◌∷◌, length, Bor, arith, ap, sym, ◌∙◌, All-push, words_of, texts}
use Rattle.lapd_script.proofs.WordLemmas.{texts_push, texts_last, texts_full, texts_all, seventeen, fewer}
use Rattle.lapd_script.proofs.words.words_of.Goals as goal

pub returns-then-is_full-clause-words : goal.returns-then-is_full-clause-words
returns-then-is_full-clause-words c = texts_full c.loop-word.words.items _ _ c.loop-word.invariant.words (seventeen _ c.if-is_full.ensures.value)

pub loop-word-preserved : goal.loop-word-preserved
loop-word-preserved c = record {
  words = rw c.push.ensures.items
      (texts_push c.loop-word.words.items c.in-Some.word (words_of c.in-Some.more.now)
      ∙ ap (λ (more : List (List ℕ)). texts c.loop-word.words.items ++ more) (sym c.in-Some.ensures.split)
      ∙ c.loop-word.invariant.words);
  short = rw c.push.ensures.items
      (All-push (λ (word : Bor (List ℕ)). length word.now ≤ length c.args.line.now) c.loop-word.words.items c.in-Some.word
      c.loop-word.invariant.short (omega (arith, c.in-Some.ensures.shorter, c.loop-word.invariant.rest)));
  rest = omega (arith, c.in-Some.ensures.shorter, c.loop-word.invariant.rest);
}

pub returns-then-is_full-2-clause-words : goal.returns-then-is_full-2-clause-words
returns-then-is_full-2-clause-words c = texts_full c.loop-word.words.items _ _ c.loop-word.invariant.words (seventeen _ c.if-is_full-2.ensures.value)

pub returns-clause-words : goal.returns-clause-words
returns-clause-words c = rw c.push-2.ensures.items
    (texts_all (c.loop-word.words.items ++ c.loop-word.rest ∷ []) _
    (texts_last c.loop-word.words.items c.loop-word.rest
    ∙ ap (λ (more : List (List ℕ)). texts c.loop-word.words.items ++ more) (sym c.in_default.ensures.last)
    ∙ c.loop-word.invariant.words)
    (fewer c.loop-word.words.items c.loop-word.rest c.if-is_full-2.ensures.value c.is_full-2.ensures.fits))

pub returns-clause-short : goal.returns-clause-short
returns-clause-short c = rw c.push-2.ensures.items
    (All-push (λ (word : Bor (List ℕ)). length word.now ≤ length c.args.line.now) c.loop-word.words.items c.loop-word.rest
    c.loop-word.invariant.short c.loop-word.invariant.rest)
