-- The frames between two ends, oldest first: those on the way, and then those that wait.
use Rattle.model_link.proofs.Vocabulary.{◌≡◌, ℕ, zero, suc, ◌+◌, ◌<◌, ◌≤◌, List, [], ◌∷◌, ◌++◌, Some, arith, slice_get, Seq, seq, Control, Information, ReceiveReady, ReceiveNotReady, Reject, Parts}

-- An I-frame carries contents number i of the sender, which its N(S) means for a receiver whose V(R) is at most
-- i + 127.
pub record Carries (contents : List (List ℕ)) (high r top : ℕ) (ns : Seq) (octets : List ℕ) : Type 0 where
  pub number : ℕ
  pub is_seq : ns ≡ seq number
  pub near : r ≤ number + 127
  pub below : number < high
  pub same : slice_get contents number ≡ Some octets
  pub next : number + 1 ≤ top

-- What goes between two established links: I-frames and supervisory frames.
abbrev pub Piece : List (List ℕ) → ℕ → ℕ → ℕ → List ℕ → Control → Type 0
Piece contents high r top octets (Information ns nr p) = Carries contents high r top ns octets
Piece contents high r top octets (ReceiveReady nr pf) = Unit {0}
Piece contents high r top octets (ReceiveNotReady nr pf) = Unit {0}
Piece contents high r top octets (Reject nr pf) = Unit {0}
Piece contents high r top octets other = ⊥

-- The receiver's V(R) is r, and rises along the line to at most high.
abbrev pub Carried : List (List ℕ) → ℕ → ℕ → List Parts → Type 0
Carried contents high r [] = r ≤ high
Carried contents high r (f ∷ fs) = (top : ℕ) × (r ≤ top) × Piece contents high r top f.info f.control × Carried contents high top fs

-- An N(R) means m.
abbrev pub Means : ℕ → Control → Type 0
Means m (Information ns nr p) = nr ≡ seq m
Means m (ReceiveReady nr pf) = nr ≡ seq m
Means m (ReceiveNotReady nr pf) = nr ≡ seq m
Means m (Reject nr pf) = nr ≡ seq m
Means m other = ⊥

-- The N(R) along a line rise from a to the V(R) of its sender.
abbrev pub Rising : ℕ → ℕ → List Parts → Type 0
Rising a r [] = a ≤ r
Rising a r (f ∷ fs) = (m : ℕ) × (a ≤ m) × Means m f.control × Rising m r fs

-- Lines stay so.
pub carried-higher : (contents : List (List ℕ)) (high high' r : ℕ) (fs : List Parts) → high ≤ high' → Carried contents high r fs → Carried contents high' r fs
carried-higher contents high high' r [] le h = omega arith
carried-higher contents high high' r (f ∷ fs) le (top, up, piece, rest) =
    (top, up, (grind arith), carried-higher contents high high' top fs le rest)

slice_get-append : (xs ys : List (List ℕ)) (i : ℕ) (x : List ℕ) → slice_get xs i ≡ Some x → slice_get (xs ++ ys) i ≡ Some x
slice_get-append [] ys i x e = absurd (cc)
slice_get-append (y ∷ xs) ys zero x e = e
slice_get-append (y ∷ xs) ys (suc i) x e = slice_get-append xs ys i x e

piece-more : (contents more : List (List ℕ)) (high r top : ℕ) (octets : List ℕ) (control : Control)
    → Piece contents high r top octets control → Piece (contents ++ more) high r top octets control
piece-more contents more high r top octets control h = grind (arith, slice_get-append)

pub carried-more : (contents more : List (List ℕ)) (high r : ℕ) (fs : List Parts) → Carried contents high r fs → Carried (contents ++ more) high r fs
carried-more contents more high r [] h = h
carried-more contents more high r (f ∷ fs) (top, up, piece, rest) =
    (top, up, piece-more contents more high r top f.info f.control piece, carried-more contents more high top fs rest)

pub carried-lower : (contents : List (List ℕ)) (high r r' : ℕ) (fs : List Parts) → r' ≤ r → Carried contents high r fs → Carried contents high r' fs
carried-lower contents high r r' [] le h = omega arith
carried-lower contents high r r' (f ∷ fs) le (top, up, piece, rest) = grind arith

-- one frame more at the end
pub carried-push : (contents : List (List ℕ)) (high r : ℕ) (fs : List Parts) (f : Parts)
    → ((r' : ℕ) → r' ≤ high → Piece contents high r' high f.info f.control) → Carried contents high r fs → Carried contents high r (fs ++ f ∷ [])
carried-push contents high r [] f piece h = (high, h, piece r h, omega arith)
carried-push contents high r (g ∷ fs) f piece (top, up, here, rest) = (top, up, here, carried-push contents high top fs f piece rest)

pub rising-higher : (a r r' : ℕ) (fs : List Parts) → r ≤ r' → Rising a r fs → Rising a r' fs
rising-higher a r r' [] le h = omega arith
rising-higher a r r' (f ∷ fs) le (m, up, means, rest) = (m, up, means, rising-higher m r r' fs le rest)

pub rising-lower : (a a' r : ℕ) (fs : List Parts) → a' ≤ a → Rising a r fs → Rising a' r fs
rising-lower a a' r [] le h = omega arith
rising-lower a a' r (f ∷ fs) le (m, up, means, rest) = (m, omega arith, means, rest)

pub rising-push : (a r : ℕ) (fs : List Parts) (f : Parts) → Means r f.control → Rising a r fs → Rising a r (fs ++ f ∷ [])
rising-push a r [] f means h = (r, h, means, omega arith)
rising-push a r (g ∷ fs) f means (m, up, here, rest) = (m, up, here, rising-push m r fs f means rest)

-- what the ends of a line say of its beginning
pub carried-high : (contents : List (List ℕ)) (high r : ℕ) (fs : List Parts) → Carried contents high r fs → r ≤ high
carried-high contents high r [] h = h
carried-high contents high r (f ∷ fs) (top, up, piece, rest) = let top-high = carried-high contents high top fs rest in omega arith

pub rising-low : (a r : ℕ) (fs : List Parts) → Rising a r fs → a ≤ r
rising-low a r [] h = h
rising-low a r (f ∷ fs) (m, up, means, rest) = let more = rising-low m r fs rest in omega arith
