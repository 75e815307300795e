-- Which of up to 64 numbers are marked.
use Rattle.std.specs.Prelude.{◌≡◌, ◌≢◌, ℕ, ◌≤◌, ◌<◌, Bool, true, if◌then◌else◌}
use Rattle.std.specs.Int.{bit_at}
use Rattle.lapd_line.specs.declared.marks.Marks.{Marks}

-- A number is marked, or not.
abbrev pub digit : Bool → ℕ
digit marked = if marked then 1 else 0

abbrev pub IsMark : Marks → ℕ → Bool → Type 0
IsMark m number marked = bit_at m.bits number ≡ digit marked

-- Those are marked for which a test holds.
abbrev pub AreMarked : Marks → (ℕ → Bool) → Type 0
AreMarked m test = (number : ℕ) → number < 64 → IsMark m number (test number)

-- One is marked, or its mark is taken away; all others stay as they were.
pub record Sets (number : ℕ) (marked : Bool) (old new : Marks) : Type 0 where
  pub here : IsMark new number marked
  pub others : (other : ℕ) → other < 64 → other ≢ number → bit_at new.bits other ≡ bit_at old.bits other

-- The lowest bit of a number that is 1, from one on; and that there is none.
abbrev pub IsLowestFrom : ℕ → ℕ → ℕ → Type 0
IsLowestFrom bits from place = (from ≤ place) × (bit_at bits place ≡ 1) × ((other : ℕ) → from ≤ other → other < place → bit_at bits other ≡ 0)

abbrev pub NoneFrom : ℕ → ℕ → Type 0
NoneFrom bits from = (other : ℕ) → from ≤ other → bit_at bits other ≡ 0

-- It is one of those from a number on and below another, and is marked.
abbrev pub IsMarkedAmong : Marks → ℕ → ℕ → ℕ → Type 0
IsMarkedAmong m from to number = (from ≤ number) × (number < to) × IsMark m number true
