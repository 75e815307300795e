-- Words that stand for numbers.
use Rattle.std.specs.Prelude.{ℕ, nat_lt, nat_le, ◌&&◌, if◌then◌else◌, List, length, Option, None, Some, Result, Ok, Err}
use Rattle.std.specs.List.{list_all}
use Rattle.std.specs.Char.{is_ascii_digit}
use Rattle.std.specs.Str.Parse.{digits_value}
use Rattle.lapd_script.specs.declared.kind.FaultKind.{FaultKind}
use Rattle.lapd_script.specs.declared.kind.FaultKind.TheVariants.{BadNumber}

-- One decimal digit or more, whose value is in the range; zeros may stand in front.
abbrev pub number : ℕ → ℕ → List ℕ → Result ℕ FaultKind
number low high word =
    if nat_lt 0 (length word) && list_all is_ascii_digit word && nat_le low (digits_value 10 word) && nat_le (digits_value 10 word) high
    then Ok (digits_value 10 word) else Err BadNumber

-- the same of a value, where a word has one of 32 bits
abbrev pub within : ℕ → ℕ → Option ℕ → Result ℕ FaultKind
within low high None = Err BadNumber
within low high (Some value) = if nat_le low value && nat_le value high then Ok value else Err BadNumber
