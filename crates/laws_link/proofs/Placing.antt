-- Frames that are put one after the other wait as far as there is room, and the others are lost.
use Rattle.laws_link.proofs.Vocabulary.{◌≡◌, ℕ, zero, suc, ◌+◌, ◌-◌, ◌≤◌, false, List, [], ◌∷◌, ◌++◌, length, take, drop, refl, sym, ◌∙◌, arith, append-nil, append_assoc, length-append, nat_lt, cases_lt, lt-ltb, le-ltb, ControlFrame}
use Rattle.laws_link.proofs.Columns.{queued, unplaced}

module _ (most : ℕ) where
  -- no room
  full : (fs ws : List ControlFrame) (n : ℕ) → nat_lt (length ws) most ≡ false → (queued most ws fs ≡ ws) × (unplaced most ws n fs ≡ n + length fs)
  full [] ws n e = (refl, omega arith)
  full (f ∷ fs) ws n e = grind (arith, (full fs ws (n + 1) e))

  no-room : (fs ws : List ControlFrame) (n : ℕ) → nat_lt (length ws) most ≡ false
      → (queued most ws fs ≡ ws ++ take zero fs) × (unplaced most ws n fs ≡ n + length (drop zero fs))
  no-room fs ws n e = let x = full fs ws n e in (x.0 ∙ none fs, x.1 ∙ all fs)
    where
      none : (fs : List ControlFrame) → ws ≡ ws ++ take zero fs
      none fs = grind (arith, append-nil)

      all : (fs : List ControlFrame) → n + length fs ≡ n + length (drop zero fs)
      all fs = grind arith

  -- room for m
  partly : (m : ℕ) (fs ws : List ControlFrame) (n : ℕ) → length ws + m ≡ most
      → (queued most ws fs ≡ ws ++ take m fs) × (unplaced most ws n fs ≡ n + length (drop m fs))
  partly zero fs ws n e = no-room fs ws n (le-ltb (length ws) most (omega (arith, e)))
  partly (suc m) [] ws n e = (sym (append-nil ws), omega arith)
  partly (suc m) (f ∷ fs) ws n e = grind (arith, lt-ltb, length-append, append_assoc, (partly m fs (ws ++ f ∷ []) n))

  -- from none on, that were lost before
  from-none : (m : ℕ) (fs ws : List ControlFrame) → (queued most ws fs ≡ ws ++ take m fs) × (unplaced most ws 0 fs ≡ 0 + length (drop m fs))
      → (queued most ws fs ≡ ws ++ take m fs) × (unplaced most ws 0 fs ≡ length (drop m fs))
  from-none m fs ws x = grind arith

  pub placed : (fs ws : List ControlFrame)
      → (queued most ws fs ≡ ws ++ take (most - length ws) fs) × (unplaced most ws 0 fs ≡ length (drop (most - length ws) fs))
  placed fs ws = grind (arith, from-none, partly, none, cases_lt)
    where
      none : most ≤ length ws → (m : ℕ) → zero ≡ m → (queued most ws fs ≡ ws ++ take m fs) × (unplaced most ws 0 fs ≡ length (drop m fs))
      none more m e = grind (arith, queued, unplaced, from-none, no-room, le-ltb)
