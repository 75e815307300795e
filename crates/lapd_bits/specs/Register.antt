-- What the register of the frame check holds. No public call names this.
--
-- The check goes by tables, eight octets a step (`check.rt`): what the long division leaves of an octet, and of an
-- octet with one to seven octets of 0s after it. These tables and those of Unstuffer and FlagEnd are proved by
-- computing: each is the list of what the definition gives for every octet, so one wrong entry is refused.
use Rattle.std.specs.Prelude.{◌≡◌, ℕ, Bool, List}
use Rattle.model_bits.specs.Bits.{low_bits}
use Rattle.model_bits.specs.Check.{remainder, dividend}

-- A register of 16 bits holds the division over bits: its lowest bit is the highest power of the remainder.
abbrev pub HoldsDivision : ℕ → List Bool → Type 0
HoldsDivision register d = low_bits 16 register ≡ remainder (dividend d)
