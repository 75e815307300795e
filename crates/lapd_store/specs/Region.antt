-- What a contract says of a region: a list with an entry for each octet, its value where it was written, else `None`.
use Rattle.std.specs.Prelude.{◌≡◌, ◌⊎◌, ℕ, ◌+◌, ◌<◌, ◌≤◌, List, length, get_or, slice_get, Option, None}

-- from this place on, these octets were written
abbrev pub Holds : List (Option ℕ) → ℕ → List ℕ → Type 0
Holds region from octets = (k : ℕ) → k < length octets → get_or region (from + k) None ≡ slice_get octets k

-- the regions are of one size, and alike before the place and from so many octets after it on
pub record SameOutside (old new : List (Option ℕ)) (from len : ℕ) : Type 0 where
  pub size : length new ≡ length old
  pub octets : (p : ℕ) → (p < from) ⊎ (from + len ≤ p) → get_or new p None ≡ get_or old p None
