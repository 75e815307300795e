-- Whose frames a card hears, and whose it sends: the law.
use Rattle.laws_trace.proofs.Vocabulary.{arith, ◌≡◌, ℕ, ◌==◌, true, List, slice_index, Result, Ok, ap, subst, IfOk, Address, Side, Network, User, ReadFault, Parts, cr_bit, other_side, header_of, completed, side_reading, reading, Sender, named-ok, own_side, heard_side, Control}
use Rattle.laws_trace.specs.OtherSide.{bit_in, TheOtherSideIsHeard}

-- A frame that is read is a command by its C/R bit.
module _ (side : Side) (octets : List ℕ) where
  abbrev first : ℕ
  first = slice_index octets 0

  abbrev IsTold : Address → Type 0
  IsTold a = a.command ≡ (bit_in octets == cr_bit side true)

  abbrev Reads : Result Parts ReadFault → Type 0
  Reads r = IfOk r (λ frame. IsTold frame.address)

  abbrev Begins : Result (Address × Control) ReadFault → Type 0
  Begins r = IfOk r (λ h. IsTold h.0)

  whole : (r : Result (Address × Control) ReadFault) → Begins r → Reads (completed octets r)
  whole r told = grind arith

  header-told : (second third fourth : ℕ) → Begins (header_of side first second third fourth)
  unfolding header_of
  header-told second third fourth = grind arith

  told : Reads (side_reading side octets)
  unfolding side_reading
  told = grind (arith, slice_index, whole, header-told)

  pub by-bit : (frame : Parts) → side_reading side octets ≡ Ok frame → frame.address.command ≡ (bit_in octets == cr_bit side true)
  by-bit frame read = subst Reads read told

-- That of commands, by the side whose frames are read.
of-side : (sender : Sender) (is : Side) (octets : List ℕ) (frame : Parts) → sender.side ≡ is → reading sender octets ≡ Ok frame → frame.address.command ≡ (bit_in octets == cr_bit is true)
unfolding reading
of-side sender is octets frame same read = grind (arith, by-bit, named-ok)

pub the-other-side-is-heard : TheOtherSideIsHeard
the-other-side-is-heard = record {
  by_network = λ c octets frame side read. of-side (heard_side c) User octets frame (ap other_side side) read;
  by_user = λ c octets frame side read. of-side (heard_side c) Network octets frame (ap other_side side) read;
  of_network = λ c octets frame side read. of-side (own_side c) Network octets frame side read;
  of_user = λ c octets frame side read. of-side (own_side c) User octets frame side read;
}
