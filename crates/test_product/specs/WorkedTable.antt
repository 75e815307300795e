-- Table 5 of Q.921 as its bits stand there: every first octet of a control field is read as it says, of commands and of
-- responses of the user, at lengths 2 to 9. Each is a fact that computes.
use Rattle.std.specs.Prelude.{◌≡◌, ℕ, ◌/◌, ◌%◌, ◌&&◌, ◌||◌, Bool, true, false, if◌then◌else◌, ◌==◌, List, [], ◌∷◌, map, flat_map, take, drop, length, reverse, Option, Some, None, Result, Ok, Err, nat_lt, refl}
use Rattle.std.specs.List.{range_with_len}
use Rattle.lapd_seq.specs.declared.numbers.Seq.{Seq}
use Rattle.lapd_seq.specs.Numbers.{seq}
use Rattle.lapd_frame.specs.declared.addresses.Address.{Address}
use Rattle.lapd_frame.specs.declared.addresses.Side.TheVariants.{User}
use Rattle.lapd_frame.specs.declared.controls.Control.{Control}
use Rattle.lapd_frame.specs.declared.controls.Control.TheVariants.{Information, ReceiveReady, ReceiveNotReady, Reject, Sabme, Disc, Ui, Ua, Dm, Frmr, Xid}
use Rattle.lapd_frame.specs.declared.faults.ReadFault.{ReadFault}
use Rattle.lapd_frame.specs.declared.faults.ReadFault.TheVariants.{Undefined, WrongSize, Short}
use Rattle.lapd_frame.specs.Grammar.{Parts}
use Rattle.lapd_frame.specs.Reading.{supervisory_of, unnumbered_of, control_of, header_of, reading}

-- a bit that is 0, that is 1, of N(S), and P/F
data Bit : Type 0 where
  o : Bit
  l : Bit
  n : Bit
  p : Bit

-- a row: bits 8 to 1, whether there is a command and a response, the least and greatest length, and what is read
record Row : Type 0 where
  bits : List Bit
  is_command : Bool
  is_response : Bool
  least : ℕ
  greatest : ℕ
  control : ℕ → ℕ → Control

abbrev numbered : (Seq → Bool → Control) → ℕ → ℕ → Control
numbered control first second = control (seq (second / 2)) (second % 2 == 1)

abbrev unnumbered : (Bool → Control) → ℕ → ℕ → Control
unnumbered control first second = control (first / 16 % 2 == 1)

abbrev row : List Bit → Bool → Bool → ℕ → ℕ → (ℕ → ℕ → Control) → Row
row bits is_command is_response least greatest control = record { bits = bits; is_command = is_command; is_response = is_response; least = least; greatest = greatest; control = control }

abbrev table : List Row
table =
    row (n ∷ n ∷ n ∷ n ∷ n ∷ n ∷ n ∷ o ∷ []) true false 4 99 (λ first. numbered (Information (seq (first / 2))) first)
    ∷ row (o ∷ o ∷ o ∷ o ∷ o ∷ o ∷ o ∷ l ∷ []) true true 4 4 (numbered ReceiveReady)
    ∷ row (o ∷ o ∷ o ∷ o ∷ o ∷ l ∷ o ∷ l ∷ []) true true 4 4 (numbered ReceiveNotReady)
    ∷ row (o ∷ o ∷ o ∷ o ∷ l ∷ o ∷ o ∷ l ∷ []) true true 4 4 (numbered Reject)
    ∷ row (o ∷ l ∷ l ∷ p ∷ l ∷ l ∷ l ∷ l ∷ []) true false 3 3 (unnumbered Sabme)
    ∷ row (o ∷ o ∷ o ∷ p ∷ l ∷ l ∷ l ∷ l ∷ []) false true 3 3 (unnumbered Dm)
    ∷ row (o ∷ o ∷ o ∷ p ∷ o ∷ o ∷ l ∷ l ∷ []) true false 3 99 (unnumbered Ui)
    ∷ row (o ∷ l ∷ o ∷ p ∷ o ∷ o ∷ l ∷ l ∷ []) true false 3 3 (unnumbered Disc)
    ∷ row (o ∷ l ∷ l ∷ p ∷ o ∷ o ∷ l ∷ l ∷ []) false true 3 3 (unnumbered Ua)
    ∷ row (l ∷ o ∷ o ∷ p ∷ o ∷ l ∷ l ∷ l ∷ []) false true 8 8 (unnumbered Frmr)
    ∷ row (l ∷ o ∷ l ∷ p ∷ l ∷ l ∷ l ∷ l ∷ []) true true 3 99 (unnumbered Xid)
    ∷ []

abbrev is_bit : Bit → ℕ → Bool
is_bit o bit = bit == 0
is_bit l bit = bit == 1
is_bit n bit = true
is_bit p bit = true

-- bits 1 to 8
abbrev has_bits : List Bit → ℕ → Bool
has_bits [] octet = true
has_bits (b ∷ bits) octet = is_bit b (octet % 2) && has_bits bits (octet / 2)

abbrev row_of : List Row → Bool → ℕ → Option Row
row_of [] command octet = None
row_of (r ∷ rows) command octet =
    if (if command then r.is_command else r.is_response) && has_bits (reverse r.bits) octet
    then Some r
    else row_of rows command octet

abbrev by_row : Address → List ℕ → ℕ → ℕ → Option Row → Result Parts ReadFault
by_row address octets first second None = Err (Undefined address)
by_row address octets first second (Some r) =
    if nat_lt (length octets) r.least || nat_lt r.greatest (length octets) then Err (WrongSize address)
    else Ok (record { address = address; control = r.control first second; info = drop (if first % 4 == 3 then 3 else 4) octets })

abbrev by_table : Bool → List ℕ → ℕ → ℕ → Result Parts ReadFault
by_table command octets first second =
    if nat_lt (length octets) (if first % 4 == 3 then 3 else 4) then Err Short
    else by_row (record { sapi = 0; command = command; tei = 64 }) octets first second (row_of table command first)

-- an octet of a control field and one behind it, of this side's command or response, whose first octet of the address this is,
-- at each length: what is read, and what stands in the table
abbrev each : (ℕ → ℕ → List ℕ → Result Parts ReadFault) → ℕ → ℕ → List (Result Parts ReadFault)
each f address first = flat_map (λ second. map (λ len. f first second (take len (address ∷ 0x81 ∷ first ∷ second ∷ 1 ∷ 2 ∷ 3 ∷ 4 ∷ 5 ∷ 6 ∷ 7 ∷ 8 ∷ []))) (range_with_len 2 8)) (0x05 ∷ 0xFE ∷ [])

abbrev all : (ℕ → ℕ → List ℕ → Result Parts ReadFault) → ℕ → List (Result Parts ReadFault)
all f address = flat_map (each f address) (range_with_len 0 256)

commands_are_read : all (λ first second. reading User) 0x00 ≡ all (λ first second octets. by_table true octets first second) 0x00
unfolding reading header_of control_of supervisory_of unnumbered_of seq
commands_are_read = refl

responses_are_read : all (λ first second. reading User) 0x02 ≡ all (λ first second octets. by_table false octets first second) 0x02
unfolding reading header_of control_of supervisory_of unnumbered_of seq
responses_are_read = refl
