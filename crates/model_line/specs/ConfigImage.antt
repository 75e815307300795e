-- A configuration in an image of its card.
use Rattle.std.specs.Prelude.{ℕ, Bool, true, false, List, [], ◌∷◌, ◌++◌, not, Option, None, Some, is_some}
use Rattle.lapd_frame.specs.declared.readings.Reading.{Reading}
use Rattle.lapd_frame.specs.declared.readings.Reading.TheVariants.{Profile, AnnexB}
use Rattle.lapd_image.specs.Numbers.{number}
use Rattle.model_bits.specs.Bits.{number_of}
use Rattle.model_line.specs.declared.config.Config.{Config}
use Rattle.model_line.specs.Sides.{is_network}

abbrev pub is_annex_b : Reading → Bool
is_annex_b Profile = false
is_annex_b AnnexB = true

-- Bit 1: the user's side. Bit 2: there is a seed. Bit 3: the tables are read by annex B.
abbrev pub config_flags : Config → List Bool
config_flags c = not (is_network c.side) ∷ is_some c.seed ∷ is_annex_b c.reading ∷ []

-- The seed, in two octets, if there is one.
abbrev pub seed : Option ℕ → List ℕ
seed None = []
seed (Some n) = number 2 n

-- One octet each: the flags, LINES, TERMINALS, K, K16, QUEUE, UNIT_QUEUE, CONTROL, N200 and the SAPI of packet links. Two
-- octets each: SLOTS and N201, and the seed.
abbrev pub config : Config → List ℕ
config c =
    number_of (config_flags c) ∷ c.lines ∷ c.terminals ∷ c.k ∷ c.k16 ∷ c.queue ∷ c.unit_queue ∷ c.control ∷ c.n200 ∷ c.sapi
    ∷ (number 2 c.slots ++ (number 2 c.n201 ++ seed c.seed))
