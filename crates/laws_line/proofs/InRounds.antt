-- Where a link stands in the round: each frame that is taken brings its turn nearer.
use Rattle.laws_line.proofs.Vocabulary.{◌≡◌, ℕ, ◌+◌, ◌-◌, ◌<◌, ◌≤◌, List, ◌∷◌, ◌++◌, length, drop, get_or, ap, ◌∙◌, ◌⊎◌, inl, inr, ⊎_elim, arith, length-append, nat_le, range_with_len, leb-true, leb-false, cases_lt, get_or_append_left, get_or-drop, get_or-take, length-take-le, get_or-range_with_len, length-range_with_len, get_or-append_seam, get_or-append_right, round_from, All, length-drop}
use Rattle.laws_line.proofs.Vocabulary.{way_round}

-- the numbers of a round that begins at turn
abbrev IsAtPlace : ℕ → ℕ → ℕ → ℕ → Type 0
IsAtPlace count turn i number = ((turn + i < count) × (number ≡ turn + i)) ⊎ ((count ≤ turn + i) × (number + count ≡ turn + i))

module _ (count turn : ℕ) (low : turn ≤ count) where
  abbrev numbers : List ℕ
  numbers = range_with_len 0 count

  abbrev ns : List ℕ
  ns = round_from turn numbers

  size : length numbers ≡ count
  size = length-range_with_len 0 count

  dropped : length (drop turn numbers) ≡ count - turn
  dropped = length-drop turn numbers ∙ ap (λ n. n - turn) size

  whole : length ns ≡ count
  whole = grind (arith, length-append, dropped, length-take-le, size)

  -- by places
  in-first : (i : ℕ) → turn + i < count → get_or ns i 0 ≡ turn + i
  in-first i less = grind (arith, dropped, get_or_append_left, get_or-drop, get_or-range_with_len)

  in-second : (i : ℕ) → count ≤ turn + i → i < count → get_or ns i 0 + count ≡ turn + i
  in-second i more few = grind (arith, dropped, get_or-append_right, get_or-take, get_or-range_with_len)

  at-place : (i : ℕ) → i < count → IsAtPlace count turn i (get_or ns i 0)
  at-place i few = ⊎_elim (λ less. inl (less, in-first i less)) (λ more. inr (omega (arith, more), in-second i (omega (arith, more)) few)) (cases_lt (turn + i) count)

  -- the place of a number
  place-is : (number : ℕ) → number < count → get_or ns (way_round count turn number) 0 ≡ number
  place-is number few = grind (arith, nat_le, leb-true, in-first, leb-false, in-second)

  -- the turn of the link behind one that comes before it
  nearer : (number other j : ℕ) → number < count → IsAtPlace count turn j other → j < way_round count turn number → way_round count (other + 1) number + 1 ≤ way_round count turn number
  nearer number other j few at less = grind (arith, nat_le, leb-true, leb-false)

  -- The link that is served comes no later in the round than one that has something to give.
  pub comes-first : (P : ℕ → Type 0) (number other : ℕ) (before behind : List ℕ) → number < count → ns ≡ before ++ other ∷ behind → All P before → (P number → ⊥)
      → (other ≡ number) ⊎ (way_round count (other + 1) number + 1 ≤ way_round count turn number)
  comes-first P number other before behind few place passed not =
      let at : get_or ns (length before) 0 ≡ other = ap (λ xs. get_or xs (length before) 0) place ∙ get_or-append_seam before other behind 0 in
      let total : length ns ≡ length before + length (other ∷ behind) = ap length place ∙ length-append before (other ∷ behind) in
      let small : length before < count = omega (arith, total, whole) in
      let mine = place-is number few in
      grind (arith, at-place, get_or_append_left, nearer, cases_lt)
