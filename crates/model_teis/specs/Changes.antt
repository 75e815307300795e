-- The changes of a line's TEIs.
use Rattle.std.specs.Prelude.{◌≡◌, ℕ, ◌≤◌, ◌<◌, false, length, set, get_or, Option, Some, None}
use Rattle.model_teis.specs.Table.{Places, is_on, free_place, IsAt}
pub use Rattle.model_teis.specs.declared.changes.Change.{Change}
pub use Rattle.model_teis.specs.declared.changes.Change.TheVariants.{Gained, Left}

abbrev pub left : ℕ → ℕ → Change
left tei place = Left tei place

-- What a change says of the table before and after: a TEI that was not on the line has taken the lowest free place; a
-- TEI has left its place free; or the table stays as it was.
pub record HasJoined (old new : Places) (tei place : ℕ) : Type 0 where
  pub lowest : free_place old ≡ Some place
  pub within : place < length old
  pub was_free : get_or old place None ≡ None
  pub was_off : is_on tei old ≡ false
  pub range : tei ≤ 126
  pub is_there : new ≡ set old place (Some tei)

pub record HasLeft (old new : Places) (tei place : ℕ) : Type 0 where
  pub within : place < length old
  pub was_there : IsAt old place tei
  pub is_free : new ≡ set old place None

abbrev pub Moves : Places → Option Change → Places → Type 0
Moves old None new = new ≡ old
Moves old (Some (Gained tei place)) new = HasJoined old new tei place
Moves old (Some (Left tei place)) new = HasLeft old new tei place
