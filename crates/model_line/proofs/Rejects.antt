-- An REJ is a frame of four octets, and frames take their octets of the stream.
use Rattle.model_line.proofs.Vocabulary.{◌≡◌, ℕ, ◌%◌, Bool, List, [], ◌∷◌, slice_index, Option, Some, None, Result, Ok, Err, cond, arith, ne_eqb, Address, Side, Sender, Control, ReadFault, Parts, reading, side_reading, named, header_of, control_of, unnumbered_of, completed, sized, reject_number}
use Rattle.std.proofs.lemmas.Bool.{eqb-true}

-- what is read is no REJ
abbrev pub NoReject : Result Parts ReadFault → Type 0
NoReject (Ok parts) = reject_number parts.control ≡ None
NoReject (Err fault) = ℕ

abbrev NoRejectControl : Option Control → Type 0
NoRejectControl None = ℕ
NoRejectControl (Some k) = reject_number k ≡ None

either : (b : Bool) (k : Control) (o : Option Control) → reject_number k ≡ None → NoRejectControl o → NoRejectControl (cond b (Some k) o)
either b k o here rest = grind arith

unnumbered_no_reject : (octet : ℕ) → NoRejectControl (unnumbered_of octet)
unfolding unnumbered_of
unnumbered_no_reject octet = grind (arith, either)

-- three octets that are no short frame end in a control octet of an unnumbered frame
field_of_three : (third fourth : ℕ) → third % 4 ≡ 3 → control_of third fourth ≡ unnumbered_of third
unfolding control_of
field_of_three third fourth e = grind (arith, ne_eqb)

sized_no_reject : (address : Address) (k : Control) (info : List ℕ) → reject_number k ≡ None → NoReject (sized address k info)
sized_no_reject address k info h = grind arith

header_no_reject : (side : Side) (octets : List ℕ) (first second third fourth : ℕ) → third % 4 ≡ 3 → NoReject (completed octets (header_of side first second third fourth))
unfolding header_of
header_no_reject side octets first second third fourth e = grind (arith, sized_no_reject, field_of_three, unnumbered_no_reject)

three_by_side : (side : Side) (first second third : ℕ) → NoReject (side_reading side (first ∷ second ∷ third ∷ []))
unfolding side_reading
three_by_side side first second third = grind (arith, slice_index, header_no_reject, eqb-true)

named_no_reject : (own : ℕ) (r : Result Parts ReadFault) → NoReject r → NoReject (named own r)
named_no_reject own (Ok parts) h = h
named_no_reject own (Err fault) h = h

pub three_no_reject : (sender : Sender) (first second third : ℕ) → NoReject (reading sender (first ∷ second ∷ third ∷ []))
unfolding reading
three_no_reject sender first second third = named_no_reject sender.sapi _ (three_by_side sender.side first second third)
