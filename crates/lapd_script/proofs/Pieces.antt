-- The pieces of a text.
use Rattle.lapd_script.proofs.Vocabulary.{◌≡◌, ◌≢◌, ℕ, ◌+◌, ◌<◌, ◌≤◌, false, eqb, List, [], ◌∷◌, ◌++◌, length, suc, inl, inr, refl, ap, subst, arith, All, ne_eqb, eqb_tells, pieces_of, with_octet, line_in}

-- No octet is a line feed.
abbrev pub IsOpen : List ℕ → Type 0
IsOpen octets = All (λ octet. octet ≢ 10) octets

open_head : (octet : ℕ) (more : List ℕ) → IsOpen (octet ∷ more) → eqb octet 10 ≡ false
open_head octet more h = ne_eqb octet 10 (h 0 0 (omega arith))

open_tail : (octet : ℕ) (more : List ℕ) → IsOpen (octet ∷ more) → IsOpen more
open_tail octet more h = λ k d within. h (suc k) d (omega arith)

-- the piece of a line feed's line,
pub piece_ended : (front rest : List ℕ) → IsOpen front → pieces_of (front ++ 10 ∷ rest) ≡ (front ++ 10 ∷ []) ∷ pieces_of rest
piece_ended [] rest h = refl
piece_ended (octet ∷ front) rest h =
    rw (open_head octet front h) (ap (with_octet octet) (piece_ended front rest (open_tail octet front h)))

pub line_ended : (front rest : List ℕ) → IsOpen front → line_in (front ++ 10 ∷ rest) ≡ front
line_ended [] rest h = refl
line_ended (octet ∷ front) rest h =
    rw (open_head octet front h) (ap (λ (more : List ℕ). octet ∷ more) (line_ended front rest (open_tail octet front h)))

-- and of one without
pub piece_last : (front : List ℕ) → 0 < length front → IsOpen front → pieces_of front ≡ front ∷ []
piece_last [] some h = absurd (omega arith)
piece_last (octet ∷ []) some h = rw (open_head octet [] h) refl
piece_last (octet ∷ next ∷ front) some h =
    rw (open_head octet (next ∷ front) h) (ap (with_octet octet) (piece_last (next ∷ front) (omega arith) (open_tail octet (next ∷ front) h)))

pub line_last : (front : List ℕ) → IsOpen front → line_in front ≡ front
line_last [] h = refl
line_last (octet ∷ front) h =
    rw (open_head octet front h) (ap (λ (more : List ℕ). octet ∷ more) (line_last front (open_tail octet front h)))

-- A text has a first piece, whose line has this many octets at least.
pub record HasPiece (text : List ℕ) (least : ℕ) : Type 0 where
  pub piece : List ℕ
  pub more : List ℕ
  pub pieces : pieces_of text ≡ piece ∷ pieces_of more
  pub long : least ≤ length (line_in piece)

piece_single : (octet : ℕ) → octet ≢ 10 → HasPiece (octet ∷ []) 1
piece_single octet h = record {
  piece = octet ∷ [];
  more = [];
  pieces = rw (ne_eqb octet 10 h) refl;
  long = rw (ne_eqb octet 10 h) (omega arith);
}

piece_more : (octet least : ℕ) (text : List ℕ) → octet ≢ 10 → HasPiece text least → HasPiece (octet ∷ text) (least + 1)
piece_more octet least text h first = record {
  piece = octet ∷ first.piece;
  more = first.more;
  pieces = rw (ne_eqb octet 10 h) (ap (with_octet octet) first.pieces);
  long = rw (ne_eqb octet 10 h) (omega (arith, first.long));
}

piece_any : (octet : ℕ) (text : List ℕ) → HasPiece (octet ∷ text) 0
piece_any octet [] = elim (eqb_tells octet 10) [
  | inl h ↦ record { piece = octet ∷ []; more = []; pieces = rw h.0 refl; long = omega arith }
  | inr h ↦ record { piece = octet ∷ []; more = []; pieces = rw h.0 refl; long = omega arith }
]
piece_any octet (next ∷ text) = elim (eqb_tells octet 10) [
  | inl h ↦ record { piece = octet ∷ []; more = next ∷ text; pieces = rw h.0 refl; long = omega arith }
  | inr h ↦ let first = piece_any next text in
      record { piece = octet ∷ first.piece; more = first.more; pieces = rw h.0 (ap (with_octet octet) first.pieces); long = omega arith }
]

piece_one : (octet : ℕ) (text : List ℕ) → octet ≢ 10 → HasPiece (octet ∷ text) 1
piece_one octet [] h = piece_single octet h
piece_one octet (next ∷ text) h = piece_more octet 0 (next ∷ text) h (piece_any next text)

-- a text that begins with octets without a line feed
pub piece_long : (front rest : List ℕ) → 0 < length front → IsOpen front → HasPiece (front ++ rest) (length front)
piece_long [] rest some h = absurd (omega arith)
piece_long (octet ∷ []) rest some h = piece_one octet rest (h 0 0 (omega arith))
piece_long (octet ∷ next ∷ front) rest some h =
    subst (λ (least : ℕ). HasPiece (octet ∷ next ∷ (front ++ rest)) least) (omega arith)
    (piece_more octet (length (next ∷ front)) (next ∷ (front ++ rest)) (h 0 0 (omega arith)) (piece_long (next ∷ front) rest (omega arith) (open_tail octet (next ∷ front) h)))
