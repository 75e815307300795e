-- The TEIs of a line, each at a place of a table.
use Rattle.std.specs.Prelude.{◌≡◌, ℕ, ◌≤◌, Bool, true, false, not, ◌==◌, ◌||◌, List, [], ◌∷◌, get_or, set, Option, Some, None, if◌then◌else◌}
use Rattle.std.specs.List.{filter_map, find, position, list_any, range_with_len}

-- the TEI at each place, `None` where the place is free
abbrev pub Places : Type 0
Places = List (Option ℕ)

abbrev pub is_free : Option ℕ → Bool
is_free None = true
is_free (Some own) = false

-- this TEI is at the place
abbrev pub has : ℕ → Option ℕ → Bool
has tei None = false
has tei (Some own) = own == tei

abbrev pub is_on : ℕ → Places → Bool
is_on tei places = list_any (has tei) places

-- A TEI is in use while it is on the line; 127, which means all TEIs, while any is (clause 5.3.4).
abbrev pub means : ℕ → Option ℕ → Bool
means tei None = false
means tei (Some own) = tei == 127 || own == tei

abbrev pub is_in_use : ℕ → Places → Bool
is_in_use tei places = list_any (means tei) places

-- the place of a TEI, `None` where it is not on the line
abbrev pub place_of : ℕ → Places → Option ℕ
place_of tei places = position (has tei) places

-- the lowest place that is free
abbrev pub free_place : Places → Option ℕ
free_place places = position is_free places

-- The TEIs that the network assigns: 64 to 126 (clause 3.3.4.2).
abbrev pub automatic : List ℕ
automatic = range_with_len 64 63

abbrev pub is_off : Places → ℕ → Bool
is_off places tei = not (is_on tei places)

-- the lowest of them that is not on the line
abbrev pub free_tei : Places → Option ℕ
free_tei places = find (is_off places) automatic

-- The TEIs on the line, by their places, and those that an Ai names (clause 5.3.6): each by 127, or this one, if it is on the
-- line.
abbrev pub itself : Option ℕ → Option ℕ
itself tei = tei

abbrev pub teis_on : Places → List ℕ
teis_on places = filter_map itself places

abbrev pub named : ℕ → Places → List ℕ
named tei places = if tei == 127 then teis_on places else if is_on tei places then tei ∷ [] else []

-- the TEI at a place, if there is one
abbrev pub tei_at : Places → Option ℕ → Option ℕ
tei_at places None = None
tei_at places (Some place) = get_or places place None

-- the table once the TEI at a place, if there is one, has left
abbrev pub freed : Places → Option ℕ → Places
freed places None = places
freed places (Some place) = set places place None

-- the TEI is at the place
abbrev pub IsAt : Places → ℕ → ℕ → Type 0
IsAt places place tei = get_or places place None ≡ Some tei

-- No TEI stands twice in the table, and each is one that a terminal can have.
pub record IsSoundTable (places : Places) : Type 0 where
  pub once : (i j tei : ℕ) → IsAt places i tei → IsAt places j tei → i ≡ j
  pub range : (i tei : ℕ) → IsAt places i tei → tei ≤ 126
