-- What a deframer holds of the octets that a line has brought so far.
--
-- A deframer keeps no past: `DeframerStands` says what its fields are after these octets. At the start `ones` is 7: with no
-- bit before, no flag can be on its way.
--
-- The bits of the flag that closes a gap are taken in as they come, since a flag is known only at its last bit. So
-- at that bit the bits over are exactly the first seven of a flag if and only if the gap was whole octets, stuffed
-- as a sender does. This one test decides `Ragged`, also where the closing flag's first 0 could be taken for a
-- stuffed one.
--
-- A caller keeps in its own invariant that the deframer stands for the octets of its line so far, beginning with
-- none. Each call of `octet` takes that from `past` to `past ++ octet ∷ []`, and its clause `heard` adds the answer
-- to what was heard. So the answers that are events are, in order, `heard_in` of all octets, however the calls are
-- grouped.
use Rattle.std.specs.Prelude.{◌≡◌, ℕ, ◌<◌, Bool, List, [], ◌∷◌, ◌++◌, length, take, reverse, min, All, Option, Some, None, IfSome, is_some, option_to_list, nat_lt}
use Rattle.model_bits.specs.Bits.{low_bits, bits}
use Rattle.model_bits.specs.Stuffing.{unstuffed}
use Rattle.lapd_bits.specs.Register.{HoldsDivision}
use Rattle.model_bits.specs.OpenGap.{run_of, open_gap}
use Rattle.model_bits.specs.Stream.{Event, heard_in, room_for}
use Rattle.lapd_bits.specs.Ended.{event_in}
use Rattle.lapd_bits.specs.declared.gap.Gap.{Gap}
use Rattle.lapd_bits.specs.declared.deframer.Deframer.{Deframer}

-- A gap's whole octets are kept in `octets` as far as there is room. Once more have come, a register holds the division
-- over all of them.
pub record Keeps (octets : List ℕ) (count : ℕ) (beyond : Option ℕ) (whole : List ℕ) : Type 0 where
  pub counted : count ≡ min (length octets) (length whole)
  pub kept : take count octets ≡ take count whole
  pub too_many : is_some beyond ≡ nat_lt (length octets) (length whole)
  pub divided : IfSome beyond (λ register. HoldsDivision register (bits whole))

abbrev pub KeepsIn : List ℕ → Gap → List ℕ → Type 0
KeepsIn octets gap whole = Keeps octets gap.count gap.beyond whole

-- A gap's bits, stuffed 0s taken out, are its whole octets and fewer than eight bits more.
pub record Assembles (octets : List ℕ) (count : ℕ) (beyond : Option ℕ) (partial filled : ℕ) (text : List Bool) : Type 0 where
  pub whole : List ℕ
  pub are_octets : All (λ octet. octet < 256) whole
  pub keeps : Keeps octets count beyond whole
  pub assembled : text ≡ bits whole ++ low_bits filled partial

abbrev pub AssemblesIn : List ℕ → Gap → List Bool → Type 0
AssemblesIn octets gap text = Assembles octets gap.count gap.beyond gap.partial gap.filled text

-- A gap stands for bits, the latest first.
pub record HoldsBits (octets : List ℕ) (since count : ℕ) (beyond : Option ℕ) (partial filled : ℕ) (g : List Bool) : Type 0 where
  pub counted : since ≡ min 8 (length g)
  pub assembles : Assembles octets count beyond partial filled (unstuffed (reverse g))

-- Open or not, what is held of the gap is that of the gap that is open.
abbrev pub HoldsGap : List ℕ → Option Gap → Option (List Bool) → Type 0
HoldsGap octets None None = Unit {0}
HoldsGap octets (Some gap) (Some g) =
    HoldsBits octets gap.since gap.count gap.beyond gap.partial gap.filled g
HoldsGap octets None (Some g) = ⊥
HoldsGap octets (Some gap) None = ⊥

-- A deframer's fields stand for the bits of a line so far, the latest first.
pub record HoldsPast (octets : List ℕ) (ones : ℕ) (gap : Option Gap) (past : List Bool) : Type 0 where
  pub run : ones ≡ run_of past
  pub open_is : HoldsGap octets gap (open_gap past)

-- What a deframer lends until its next octet: what the latest octet ended.
abbrev pub latest_of : Deframer → Option Event
latest_of deframer = event_in deframer.octets.items deframer.ended

-- A deframer for information fields of `n201` octets stands for the octets that a line has brought so far, and
-- still has what the latest of them brought.
pub record DeframerStands (n201 : ℕ) (deframer : Deframer) (octets : List ℕ) : Type 0 where
  pub room : length deframer.octets.items ≡ room_for n201
  pub holds : HoldsPast deframer.octets.items deframer.ones deframer.gap (reverse (bits octets))
  pub latest : (past : List ℕ) (octet : ℕ) → octets ≡ past ++ octet ∷ []
      → heard_in n201 octets ≡ heard_in n201 past ++ option_to_list (latest_of deframer)
