-- I-frames of which none is missing between V(R) of the one end and V(S) of the other, and N(R) of which the last is V(R).
use Rattle.laws_wire.proofs.Vocabulary.{◌≡◌, ℕ, ◌+◌, ◌%◌, ◌<◌, ◌≤◌, Bool, true, List, [], ◌∷◌, ◌++◌, refl, sym, ap, ◌⊎◌, arith, Parts, seq, seq-value, Means, Rising, rising-low, Kind, numbered, enquiry, answer, report, rejection, alien, Every, Calm, Beyond}

-- The numbers are lo, lo + 1 and so on, up to below hi.
abbrev pub Dense : ℕ → ℕ → List Kind → Type 0
Dense lo hi [] = lo ≡ hi
Dense lo hi (numbered ns ∷ xs) = (ns ≡ seq lo) × Dense (lo + 1) hi xs
Dense lo hi (enquiry ∷ xs) = Dense lo hi xs
Dense lo hi (answer nr ∷ xs) = Dense lo hi xs
Dense lo hi (report ∷ xs) = Dense lo hi xs
Dense lo hi (rejection nr ∷ xs) = Dense lo hi xs
Dense lo hi (alien ∷ xs) = Dense lo hi xs

pub dense-push : (lo hi : ℕ) (xs : List Kind) (y : Kind) → Calm y → Dense lo hi xs → Dense lo hi (xs ++ y ∷ [])
dense-push lo hi [] (numbered ns) calm h = absurd calm
dense-push lo hi [] alien calm h = absurd calm
dense-push lo hi (numbered ns ∷ xs) y calm h = (h.0, dense-push (lo + 1) hi xs y calm h.1)
dense-push lo hi (enquiry ∷ xs) y calm h = dense-push lo hi xs y calm h
dense-push lo hi (answer nr ∷ xs) y calm h = dense-push lo hi xs y calm h
dense-push lo hi (report ∷ xs) y calm h = dense-push lo hi xs y calm h
dense-push lo hi (rejection nr ∷ xs) y calm h = dense-push lo hi xs y calm h
dense-push lo hi (alien ∷ xs) y calm h = dense-push lo hi xs y calm h
dense-push lo hi [] other calm h = h

pub dense-next : (lo hi : ℕ) (xs : List Kind) → Dense lo hi xs → Dense lo (hi + 1) (xs ++ numbered (seq hi) ∷ [])
dense-next lo hi [] h = (ap seq (sym h), ap (λ x. x + 1) h)
dense-next lo hi (numbered ns ∷ xs) h = (h.0, dense-next (lo + 1) hi xs h.1)
dense-next lo hi (enquiry ∷ xs) h = dense-next lo hi xs h
dense-next lo hi (answer nr ∷ xs) h = dense-next lo hi xs h
dense-next lo hi (report ∷ xs) h = dense-next lo hi xs h
dense-next lo hi (rejection nr ∷ xs) h = dense-next lo hi xs h
dense-next lo hi (alien ∷ xs) h = dense-next lo hi xs h

pub calm-dense : (r : ℕ) (xs : List Kind) → Every Calm xs → Dense r r xs
calm-dense r [] h = refl
calm-dense r (numbered ns ∷ xs) h = absurd h.0
calm-dense r (enquiry ∷ xs) h = calm-dense r xs h.1
calm-dense r (answer nr ∷ xs) h = calm-dense r xs h.1
calm-dense r (report ∷ xs) h = calm-dense r xs h.1
calm-dense r (rejection nr ∷ xs) h = calm-dense r xs h.1
calm-dense r (alien ∷ xs) h = absurd h.0

-- so the next one comes, and REJ is not on its way
pub dense-beyond : (r s : ℕ) (xs : List Kind) → r < s → Dense r s xs → Every (Beyond r) xs → ⊥
dense-beyond r s [] less h all = omega (arith, less, h)
dense-beyond r s (numbered ns ∷ xs) less h all =
    let one : ns.value ≡ all.0.0 % 128 = seq-value ns all.0.0 all.0.1 in
    let two : ns.value ≡ r % 128 = seq-value ns r h.0 in
    grind arith
dense-beyond r s (enquiry ∷ xs) less h all = dense-beyond r s xs less h all.1
dense-beyond r s (answer nr ∷ xs) less h all = dense-beyond r s xs less h all.1
dense-beyond r s (report ∷ xs) less h all = dense-beyond r s xs less h all.1
dense-beyond r s (rejection nr ∷ xs) less h all = dense-beyond r s xs less h all.1
dense-beyond r s (alien ∷ xs) less h all = dense-beyond r s xs less h all.1

-- The N(R) rise, and the last is r.
abbrev pub Reaches : ℕ → ℕ → List Parts → Type 0
Reaches a r [] = a ≡ r
Reaches a r (f ∷ fs) = (m : ℕ) × (a ≤ m) × Means m f.control × Reaches m r fs

pub reaches-low : (a r : ℕ) (fs : List Parts) → Reaches a r fs → a ≤ r
reaches-low a r [] h = omega (arith, h)
reaches-low a r (f ∷ fs) (m, up, means, rest) = let more : m ≤ r = reaches-low m r fs rest in omega (arith, up, more)

pub reaches-flat : (a r : ℕ) (fs : List Parts) → a ≡ r → Rising a r fs → Reaches a r fs
reaches-flat a r [] e h = e
reaches-flat a r (f ∷ fs) e (m, up, means, rest) = grind (arith, reaches-flat m r fs, rising-low)

pub reaches-push : (a r : ℕ) (fs : List Parts) (f : Parts) → Means r f.control → Rising a r fs → Reaches a r (fs ++ f ∷ [])
reaches-push a r [] f means h = (r, h, means, refl)
reaches-push a r (x ∷ fs) f means (m, up, its, rest) = (m, up, its, reaches-push m r fs f means rest)

-- An acknowledgement is owed, or what is acknowledged comes to V(R).
abbrev pub Owed : ℕ → ℕ → Bool → List Parts → Type 0
Owed a r owes fs = (owes ≡ true) ⊎ Reaches a r fs

-- What an end says by the way: nothing, or one frame more that has its V(R).
abbrev pub Replies : ℕ → Bool → Bool → List Parts → List Parts → Type 0
Replies r owes owes' fs fs' = ((owes' ≡ owes) × (fs' ≡ fs)) ⊎ ((f : Parts) × (fs' ≡ fs ++ f ∷ []) × Means r f.control)
