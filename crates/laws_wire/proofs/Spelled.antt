-- A frame that a sound link gives comes as it is, and is read again.
use Rattle.laws_wire.proofs.Vocabulary.{◌≡◌, ℕ, ◌+◌, ◌≤◌, false, nat_lt, List, length, Ok, refl, sym, ap, ◌∙◌, arith, le-ltb, Side, Sender, Config, own_side, heard_side, Parts, IsFrame, spelling, other_side, reading, reading-again, came, IsNotShort, not-short, is_short, Means, length-append}
use Rattle.lapd_frame.specs.Grammar.{spelling as side_spelling}
use Rattle.lapd_frame.specs.Senders.{parts_named}
use Rattle.model_bits.specs.Stream.{frame}

-- A frame that is neither too short nor too long comes as it is.
whole-field : (octets : List ℕ) → IsNotShort octets → is_short octets ≡ false
whole-field octets o = grind arith

pub came-whole : (n201 : ℕ) (octets : List ℕ) → IsNotShort octets → length octets ≤ n201 + 4 → came n201 octets ≡ frame octets
came-whole n201 octets not-short few = grind (arith, nat_lt, whole-field, le-ltb)

-- A frame of this side that comes to the other as it is, and that the other reads as what it is.
pub record Carries (sender : Sender) (n201 : ℕ) (f : Parts) (octets : List ℕ) : Type 0 where
  pub whole : came n201 octets ≡ frame octets
  pub read : reading sender octets ≡ Ok f

pub carries : (sender : Sender) (n201 : ℕ) (f : Parts) → IsFrame f → length (spelling sender f) ≤ n201 + 4 → Carries sender n201 f (spelling sender f)
carries sender n201 f is few = record {
  whole = came-whole n201 (spelling sender f) (not-short sender f.address f.control f.info) few;
  read = reading-again sender f (spelling sender f) (record { is_frame = is; octets_are = refl });
}

-- A frame that has an N(R), or is an I-frame, has four octets before its information: of the latter at most N201 come as they are.
kept-short : (n201 : ℕ) (octets : List ℕ) → came n201 octets ≡ frame octets → length octets ≤ n201 + 4
kept-short n201 octets whole = grind (arith, nat_lt)

spelled-long : (side : Side) (f : Parts) (m : ℕ) → Means m f.control → length (side_spelling side f) ≡ length f.info + 4
spelled-long side f m means = grind (arith, length-append)

pub carried-short : (sender : Sender) (n201 : ℕ) (f : Parts) (m : ℕ) → Means m f.control → Carries sender n201 f (spelling sender f) → length f.info ≤ n201
carried-short sender n201 f m means h =
    let few = kept-short n201 (spelling sender f) h.whole in
    let all = spelled-long sender.side (parts_named sender.sapi f) m means in
    omega (arith, few, all)

pub twice-other : (side : Side) → other_side (other_side side) ≡ side
twice-other side = grind arith

-- What two ends send and hear, from the other one.
abbrev turned_round : Sender → Sender
turned_round sender = record { side = other_side sender.side; sapi = sender.sapi }

turned-twice : (sender : Sender) → turned_round (turned_round sender) ≡ sender
turned-twice sender = ap (λ (side : Side). record { side = side; sapi = sender.sapi }) (twice-other sender.side)

pub sides-turned : (c d : Config) → own_side d ≡ heard_side c → own_side c ≡ heard_side d
sides-turned c d e = sym (ap turned_round e ∙ turned-twice (own_side c))
