-- What octets say in words, or the status that says why nothing is told.
use Rattle.std.specs.Prelude.{ℕ, nat_lt, List, length, Result, Ok, Err, if◌then◌else◌}
use Rattle.lapd_text.specs.Told.{told_text}
use Rattle.lapd_c.specs.Config.{side_in}
use Rattle.lapd_c.specs.Statuses.{bad_side, wrong_length}

-- They are not too many, the side is one, and there is room.
abbrev pub that_fits : ℕ → List ℕ → Result (List ℕ) ℕ
that_fits room said = if nat_lt room (length said) then Err wrong_length else Ok said

abbrev pub text_of : List ℕ → ℕ → ℕ → Result (List ℕ) ℕ
text_of octets side room =
    if nat_lt 1028 (length octets) then Err wrong_length
    else if nat_lt 2 side then Err bad_side
    else that_fits room (told_text (side_in side) octets)
