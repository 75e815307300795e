-- Scripts and transcripts in memory.
use Rattle.std.proofs.Common.{inl}
use Rattle.lapd_sim.proofs.Vocabulary.{◌∷◌, inr, refl, pieces_of, played, ◌≡◌, ℕ, ◌++◌, true, List, [], Option, Some, Result, Err, subst, arith, append-nil, Appends, Taken, PlayFault, OutOfMemory, reads_failed_by, Plays, PlaysOctets}

-- what has been appended to a list that is known
appended : (a b : Option (List ℕ)) (old new text : List ℕ) → a ≡ Some old → b ≡ Some new → Appends a b text → new ≡ old ++ text
appended a b old new text e f h = subst (λ y. Appends (Some old) y text) f (subst (λ x. Appends x b text) e h)

pub in_memory : (r : Result Unit PlayFault) (text : List ℕ) (remaining : Option (List ℕ)) (a b : Taken) (old new : List ℕ) → a.contents ≡ Some old → b.contents ≡ Some new → b.leaves_out ≡ true
    → 0 ≡ reads_failed_by r 0 → Plays r text remaining a b → PlaysOctets r text old new
in_memory (Err OutOfMemory) text remaining a b old new e f out steady (inl h) = ([], pieces_of text, refl, appended a.contents b.contents old new [] e f h.0.whole)
in_memory (Err OutOfMemory) text remaining a b old new e f out steady (inr h) =
    (h.before, h.piece ∷ pieces_of h.after, h.pieces, appended a.contents b.contents old new (played h.before).written e f h.answered.written.whole)
in_memory r text remaining a b old new e f out steady h = grind (arith, appended, append-nil)
