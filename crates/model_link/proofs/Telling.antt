-- What an event tells: at most two notes, and a note of data exactly where contents are delivered.
pub use Rattle.model_link.proofs.Kept.{Purse, no_more, another}
unfoldable pub use Rattle.model_link.proofs.Kept.{how_many}
use Rattle.model_link.proofs.Vocabulary.{◌≡◌, ℕ, ◌+◌, ◌≤◌, false, List, [], ◌∷◌, ◌++◌, length, Option, None, Some, is_some, arith, length-append, list_any, list_any-append, Note, Terms, Course, is_data, is_unit}
use Rattle.std.proofs.Math.Bool.{or-false, or-true}
use Rattle.model_link.proofs.Kept.{two, Kept}

pub record Tells (total : ℕ) (p : Purse) (notes : List Note) (delivered unit : Option (List ℕ)) : Type 0 where
  pub count : length notes + how_many p ≤ total
  pub data_told : list_any is_data notes ≡ is_some delivered
  pub no_unit : unit ≡ None
  pub no_note : list_any is_unit notes ≡ false

abbrev pub Telling : ℕ → Purse → Course → Type 0
Telling total p c = Tells total p c.notes c.delivered c.unit

-- What is wanted in the end.
pub record ToldWithin (total : ℕ) (notes : List Note) (delivered unit : Option (List ℕ)) : Type 0 where
  pub count : length notes ≤ total
  pub data_told : list_any is_data notes ≡ is_some delivered
  pub no_unit : unit ≡ None
  pub no_note : list_any is_unit notes ≡ false

abbrev pub HasTold : ℕ → Course → Type 0
HasTold total c = ToldWithin total c.notes c.delivered c.unit

module _ (total : ℕ) (p : Purse) where
  -- a note that is of no data, and one that is of contents
  pub note-told : (n : Note) (ns : List Note) (d u : Option (List ℕ)) → is_data n ≡ false → is_unit n ≡ false
      → Tells total (another p) ns d u → Tells total p (ns ++ n ∷ []) d u
  unfolding how_many
  note-told n ns d u other plain h = grind (arith, how_many, length-append, list_any-append, or-false)

  contents-told : (t : Terms) (octets : List ℕ) (ns : List Note) (d u : Option (List ℕ))
      → Tells total (another p) ns d u → Tells total p (ns ++ Note.Data t.service t.tei ∷ []) (Some octets) u
  unfolding how_many
  contents-told t octets ns d u h = grind (arith, how_many, length-append, list_any-append, or-true, or-false)

  -- a note that is not told
  pub untold : (ns : List Note) (d u : Option (List ℕ)) → Tells total (another p) ns d u → Tells total p ns d u
  unfolding how_many
  untold ns d u h = grind (arith, how_many)

  pub enough : (ns : List Note) (d u : Option (List ℕ)) → Tells total p ns d u → ToldWithin total ns d u
  enough ns d u h = record { count = omega (arith, h.count); data_told = h.data_told; no_unit = h.no_unit; no_note = h.no_note }

-- Every word but those of UI tells at most one note.
none-told : (octets : List ℕ) (ns : List Note) (d : Option (List ℕ)) → ⊥ → ToldWithin 2 ns d (Some octets)
none-told octets ns d may = absurd may

pub words : (t : Terms) → Kept t ⊥ (Unit {0}) (Unit {0}) (Telling 2 two) (λ p q c. Telling 2 q c) (HasTold 2)
words t = search (note-told, contents-told, untold, enough, none-told) depth 12 fits 4000
