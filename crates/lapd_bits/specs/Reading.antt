-- What is read back of a stuffed text that lies in a buffer. No public call names this but `FramerFields`.
use Rattle.std.specs.Prelude.{ℕ, Bool, true, List, ◌++◌, take, drop, replicate}
use Rattle.model_bits.specs.Bits.{bits, octets_of}
use Rattle.model_bits.specs.Stuffing.{unstuffed}
use Rattle.lapd_bits.specs.declared.reading.Reading.{Reading}

-- what a receiver makes of bits, where the latest `ones` bits received are 1s
abbrev pub bits_after : ℕ → List Bool → List Bool
bits_after ones b = drop ones (unstuffed (replicate ones true ++ b))

-- the bits of a text from one on, and what is still to be read there
abbrev pub bits_from : Reading → List ℕ → List Bool
bits_from reading text = drop reading.bit (bits (drop reading.at text))

abbrev pub left_to_read : Reading → List ℕ → List Bool
left_to_read reading text = bits_after reading.ones (bits_from reading text)

-- The octets of a frame whose text begins in the first octet of a buffer, after so many bits that are of what went before.
abbrev pub text_behind : ℕ → ℕ → List ℕ → List Bool
text_behind lead end octets = drop lead (bits (take end octets))

abbrev pub octets_behind : ℕ → ℕ → List ℕ → List ℕ
octets_behind lead end octets = octets_of (unstuffed (text_behind lead end octets))
