-- What it means that a part of an image is read.
use Rattle.std.specs.Prelude.{◌≡◌, ℕ, ◌<◌, List, ◌++◌, length}
use Rattle.lapd_image.specs.Numbers.{contents}

-- What stood at the front is the image of this value, which is one that may be saved; and the rest follows.
pub record IsReadAs {A : Type 0} (image : A → List ℕ) (IsSaved : A → Type 0) (value : A) (old new : List ℕ) : Type 0 where
  pub saved : IsSaved value
  pub octets : old ≡ image value ++ new

-- The image of no value that may be saved stands at the front.
abbrev pub HasNone : {A : Type 0} → (A → List ℕ) → (A → Type 0) → List ℕ → Type 0
HasNone image IsSaved octets = (value : _) (rest : List ℕ) → IsSaved value → octets ≡ image value ++ rest → ⊥

abbrev pub HasNoContents : List ℕ → Type 0
HasNoContents front = (octets rest : List ℕ) → length octets < 65536 → front ≡ contents octets ++ rest → ⊥
