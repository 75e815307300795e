-- What it means that octets are written into a room.
use Rattle.std.specs.Prelude.{◌≡◌, ℕ, ◌≤◌, List, ◌++◌, length, take, drop}

-- Octets are written from a place on: in front of the place after them stands what stood before the first, and then they, as far as
-- the room goes. So if there is room for all, all are there. What stood after them stands there still.
pub record Puts (octets : List ℕ) (at : ℕ) (old : List ℕ) (end : ℕ) (new : List ℕ) : Type 0 where
  pub room : length new ≡ length old
  pub within : end ≤ length new
  pub front : take end new ≡ take (length old) (take at old ++ octets)
  pub after : drop end new ≡ drop end old
