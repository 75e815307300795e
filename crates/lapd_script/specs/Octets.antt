-- Words that stand for octets.
use Rattle.std.specs.Prelude.{ℕ, if◌then◌else◌, List, [], codes, bytes_eq, Result, Ok, Err}
use Rattle.hex.specs.Hex.{decode_of}
use Rattle.hex.specs.declared.error.FromHexError.{FromHexError}
use Rattle.lapd_script.specs.declared.kind.FaultKind.{FaultKind}
use Rattle.lapd_script.specs.declared.kind.FaultKind.TheVariants.{BadOctets}

abbrev pub or_bad : Result (List ℕ) FromHexError → Result (List ℕ) FaultKind
or_bad (Ok octets) = Ok octets
or_bad (Err why) = Err BadOctets

-- an even number of hexadecimal digits, two for each octet, the high four bits first; or `-` for no octets
abbrev pub octets : List ℕ → Result (List ℕ) FaultKind
octets word = if bytes_eq word (codes "-") then Ok [] else or_bad (decode_of word)
