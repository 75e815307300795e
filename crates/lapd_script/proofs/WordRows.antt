-- A table of words is gone through row by row.
use Rattle.lapd_script.proofs.Vocabulary.{◌≡◌, ℕ, ◌+◌, ◌<◌, ◌≤◌, Bool, true, false, cond, List, length, get_or, drop, Some, None, sym, ap, ◌∙◌, Bor, bytes_eq, drop_all, drop_more, Word}
use Rattle.std.specs.Prelude.{map}
use Rattle.lapd_script.specs.Word.{named_in, row}

module _ (name : List ℕ) (rows : List (Bor (List ℕ) × Word)) (i : ℕ) where
  at_row : (d : Bor (List ℕ) × Word) → i < length rows
      → named_in name (map row (drop i rows)) ≡ cond (bytes_eq name (get_or rows i d).0.now) (Some (get_or rows i d).1) (named_in name (map row (drop (i + 1) rows)))
  at_row d more = ap (λ (l : List (Bor (List ℕ) × Word)). named_in name (map row l)) (drop_more rows i d more)

  -- a row has another name,
  pub row_passed : (d : Bor (List ℕ) × Word) → i < length rows → false ≡ bytes_eq name (get_or rows i d).0.now
      → named_in name (map row (drop i rows)) ≡ named_in name (map row (drop (i + 1) rows))
  row_passed d more other =
      at_row d more ∙ ap (λ (t : Bool). cond t (Some (get_or rows i d).1) (named_in name (map row (drop (i + 1) rows)))) (sym other)

  -- or this one,
  pub row_found : (d : Bor (List ℕ) × Word) → i < length rows → true ≡ bytes_eq name (get_or rows i d).0.now
      → named_in name (map row (drop i rows)) ≡ Some (get_or rows i d).1
  row_found d more this =
      at_row d more ∙ ap (λ (t : Bool). cond t (Some (get_or rows i d).1) (named_in name (map row (drop (i + 1) rows)))) (sym this)

  -- and there is no other.
  pub rows_passed : length rows ≤ i → named_in name (map row (drop i rows)) ≡ None
  rows_passed all = ap (λ (l : List (Bor (List ℕ) × Word)). named_in name (map row l)) (drop_all i rows all)
