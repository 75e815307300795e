-- Which SAPI a service has on a line: the law.
use Rattle.laws_trace.proofs.Vocabulary.{arith, ◌≡◌, ℕ, ◌≤◌, ◌==◌, cond, List, slice_index, Result, Ok, Err, sym, ap, ◌∙◌, subst, IfSome, Address, Side, Sender, ReadFault, Parts, Control, refl, header_of, completed, exchanged, exchanged-back, side_reading, reading, named_by, renamed, Config, IsInRange, heard_side, own_side, le-leb, ranges_of}
use Rattle.std.proofs.lemmas.Bool.{eq-eqb, ne_eqb}
use Rattle.std.proofs.lemmas.Bool.Decides.{eqb_tells}
use Rattle.lapd_frame.specs.declared.overlong.Long.{Long}
use Rattle.lapd_frame.specs.Reading.{long_of_header, long_reading as side_long_reading}
use Rattle.lapd_frame.specs.Senders.{packet_sapi, long_reading, long_named}
use Rattle.laws_trace.specs.Sapis.{sapi_in, address_in, address_of_long, IsNamed, ServicesHaveTheirSapis}

-- An address that is read has the SAPI of the first octet.
module _ (side : Side) (octets : List ℕ) where
  abbrev first : ℕ
  first = slice_index octets 0

  abbrev Has : Address → Type 0
  Has a = a.sapi ≡ sapi_in octets

  abbrev Faulty : ReadFault → Type 0
  Faulty fault = IfSome (address_in fault) Has

  abbrev Reads : Result Parts ReadFault → Type 0
  Reads (Ok frame) = Has frame.address
  Reads (Err fault) = Faulty fault

  abbrev Begins : Result (Address × Control) ReadFault → Type 0
  Begins (Ok h) = Has h.0
  Begins (Err fault) = Faulty fault

  whole : (r : Result (Address × Control) ReadFault) → Begins r → Reads (completed octets r)
  whole r told = grind arith

  header-has : (second third fourth : ℕ) → Begins (header_of side first second third fourth)
  unfolding header_of
  header-has second third fourth = grind arith

  pub has : Reads (side_reading side octets)
  unfolding side_reading
  has = grind (arith, slice_index, whole, header-has)

  abbrev IsLong : Result Long ReadFault → Type 0
  IsLong r = IfSome (address_of_long r) Has

  long-has : (r : Result (Address × Control) ReadFault) → Begins r → IsLong (long_of_header r)
  long-has r told = grind arith

  pub has-long : IsLong (side_long_reading side octets)
  has-long = long-has (header_of side first (slice_index octets 1) (slice_index octets 2) (slice_index octets 3)) (header-has (slice_index octets 1) (slice_index octets 2) (slice_index octets 3))

-- Two numbers that change places, of which the one is in range.
abbrev swapped : ℕ → ℕ → ℕ
swapped p s = cond (s == p) 16 (cond (s == 16) p s)

record Named (p s : ℕ) : Type 0 where
  call : (s == 0) ≡ (swapped p s == 0)
  packet : (s == 16) ≡ (swapped p s == p)
  management : (s == 63) ≡ (swapped p s == 63)

named-so : (p s : ℕ) → 1 ≤ p → p ≤ 62 → Named p s
named-so p s least most = grind (arith, eqb_tells, eq-eqb, ne_eqb)

in-range : (own : ℕ) → 1 ≤ own → own ≤ 62 → packet_sapi own ≡ own
in-range own least most = grind (arith, le-leb)

-- So an address is named by its service, in whatever it stands.
module _ (c : Config) (ranged : IsInRange c) (octets : List ℕ) where
  address : (a : Address) → a.sapi ≡ sapi_in octets → IsNamed c octets (renamed c.sapi a)
  unfolding exchanged
  address a has =
      let range = (ranges_of c ranged).sapi in
      let s = exchanged c.sapi a.sapi in
      let sapi : swapped c.sapi s ≡ sapi_in octets =
      ap (λ p. swapped p s) (sym (in-range c.sapi range.least range.most)) ∙ exchanged-back c.sapi a.sapi ∙ has in
      let x = named-so c.sapi s range.least range.most in
      record {
        call = x.call ∙ ap (λ n. n == 0) sapi;
        packet = x.packet ∙ ap (λ n. n == c.sapi) sapi;
        management = x.management ∙ ap (λ n. n == 63) sapi;
      }

  abbrev IsFrame : Result Parts ReadFault → Type 0
  IsFrame (Ok frame) = IsNamed c octets frame.address
  IsFrame (Err fault) = IfSome (address_in fault) (IsNamed c octets)

  frames : (side : Side) (r : Result Parts ReadFault) → Reads side octets r → IsFrame (named_by c.sapi r)
  frames side r told = grind (arith, address)

  frame-read : (sender : Sender) → sender.sapi ≡ c.sapi → IsFrame (reading sender octets)
  unfolding reading
  frame-read sender same =
      subst (λ own. IsFrame (named_by own (side_reading sender.side octets))) (sym same) (frames sender.side (side_reading sender.side octets) (has sender.side octets))

  abbrev IsLongFrame : Result Long ReadFault → Type 0
  IsLongFrame r = IfSome (address_of_long r) (IsNamed c octets)

  longs : (side : Side) (r : Result Long ReadFault) → IsLong side octets r → IsLongFrame (long_named c.sapi r)
  longs side r h = grind (arith, address)

  long-read : IsLongFrame (long_reading (heard_side c) octets)
  long-read = longs (heard_side c).side (side_long_reading (heard_side c).side octets) (has-long (heard_side c).side octets)

pub services-have-their-sapis : ServicesHaveTheirSapis
services-have-their-sapis = record {
  heard = λ c octets frame ranged read. subst (IsFrame c ranged octets) read (frame-read c ranged octets (heard_side c) refl);
  sent = λ c octets frame ranged read. subst (IsFrame c ranged octets) read (frame-read c ranged octets (own_side c) refl);
  malformed = λ c octets fault ranged read. subst (IsFrame c ranged octets) read (frame-read c ranged octets (heard_side c) refl);
  long = λ c head ranged. long-read c ranged head;
}
