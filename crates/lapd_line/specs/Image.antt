-- A line in an image of its card.
use Rattle.std.specs.Prelude.{◌≡◌, ℕ, ◌+◌, ◌≤◌, List, ◌++◌}
use Rattle.lapd_image.specs.Reads.{IsReadAs}
use Rattle.lapd_line.specs.Stands.{LineStands, config_of}
use Rattle.lapd_line.specs.declared.frame_line.FrameLine.{FrameLine}
use Rattle.lapd_store.specs.Ownership.{Owned}
use Rattle.lapd_store.specs.Store.{Store, used_slots}
use Rattle.model_line.specs.Image.{line, IsWhole}
use Rattle.model_line.specs.Line as machine
use Rattle.model_line.specs.Stored.{slots_of}

-- A line that began stands for this one now, beside whatever others own.
pub record Becomes (m : machine.Line) (old : FrameLine) (s : Store) (new : FrameLine) (t : Store) : Type 0 where
  pub stands : (others : List Owned) → LineStands old s others (machine.fresh_line (config_of old)) → LineStands new t others m

-- A line of these octets was read.
abbrev pub Restores : List ℕ → List ℕ → FrameLine → Store → FrameLine → Store → Type 0
Restores front rest old s new t =
    (m : machine.Line) × IsReadAs (line (config_of old)) (IsWhole (config_of old)) m front rest × Becomes m old s new t

-- No line whose contents find room in so many slots stands at the front.
abbrev pub HasNoLine : ℕ → List ℕ → FrameLine → Store → Type 0
HasNoLine slots front old s =
    (m : machine.Line) (rest : List ℕ) → IsWhole (config_of old) m → used_slots s + slots_of (config_of old) m ≤ slots
    → front ≡ line (config_of old) m ++ rest → ⊥
