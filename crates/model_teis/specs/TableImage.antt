-- The table of a line's TEIs in an image of its card.
use Rattle.std.specs.Prelude.{◌≡◌, ℕ, List, [], ◌∷◌, length, map, Option, Some, None}
use Rattle.model_teis.specs.Table.{Places, IsSoundTable}

-- A place of the table in one octet: its TEI, or 255 if it is free. And the table: its places in order.
abbrev pub place : Option ℕ → ℕ
place None = 255
place (Some tei) = tei

abbrev pub one_place : Option ℕ → List ℕ
one_place own = place own ∷ []

abbrev pub table : Places → List ℕ
table places = map place places

-- A table that may be saved, of so many places.
pub record IsTableOf (like places : Places) : Type 0 where
  pub sound : IsSoundTable places
  pub size : length places ≡ length like
