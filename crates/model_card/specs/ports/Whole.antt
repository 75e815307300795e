-- The octets in which a whole frame stands on an idle line, and those in which a fault stands that a controller tells
-- (Q.921 clauses 2.2, 2.6, 2.7, 2.9 and 2.10).
use Rattle.std.specs.Prelude.{◌≡◌, ℕ, ◌+◌, ◌-◌, ◌%◌, true, List, [], ◌∷◌, ◌++◌, length, replicate, reverse, None}
use Rattle.model_bits.specs.Bits.{bits, flag, octets_of}
use Rattle.model_bits.specs.Sent.{frame_text}
use Rattle.model_bits.specs.OpenGap.{run_of, open_gap}
use Rattle.model_line.specs.declared.faults.Fault.{Fault}
use Rattle.model_line.specs.declared.faults.Fault.TheVariants.{Fcs, Abort, Ragged, Short}

-- A line is idle after these octets: seven contiguous 1s came last, or no 0 ever, and nothing has begun since.
pub record IsIdle (octets : List ℕ) : Type 0 where
  pub ones : run_of (reverse (bits octets)) ≡ 7
  pub no_gap : open_gap (reverse (bits octets)) ≡ None

-- The octets in which a frame stands, between its flags, which has these octets from its address to its information. Behind it come
-- the 1s of an idle line: seven at least, and as many as fill the last octet.
abbrev pub line_octets : List ℕ → List ℕ
line_octets octets = let text = flag ++ (frame_text octets ++ flag) in octets_of (text ++ replicate (14 - (length text + 6) % 8) true)

-- The octets in which a fault stands, beginning with a flag: six zeros before a flag, which have no good check; an octet
-- before eight 1s; four bits before a flag; an octet before a flag. Then 1s.
abbrev pub fault_octets : Fault → List ℕ
fault_octets Fcs = 0x7E ∷ 0x00 ∷ 0x00 ∷ 0x00 ∷ 0x00 ∷ 0x00 ∷ 0x00 ∷ 0x7E ∷ 0xFF ∷ []
fault_octets Abort = 0x7E ∷ 0x00 ∷ 0xFF ∷ []
fault_octets Ragged = 0x7E ∷ 0xE0 ∷ 0xF7 ∷ 0xFF ∷ []
fault_octets Short = 0x7E ∷ 0x00 ∷ 0x7E ∷ 0xFF ∷ []
