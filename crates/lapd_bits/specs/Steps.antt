-- What a deframer's private calls say of one bit more, or of an octet: what it makes of the open gap, and what it ends.
use Rattle.std.specs.Prelude.{◌≡◌, ◌≢◌, ℕ, ◌+◌, ◌<◌, Bool, List, ◌∷◌, ◌++◌, length, reverse, Option, IfSome, option_map, option_to_list}
use mathlib.Core.List.{reverse_aux}
use Rattle.model_bits.specs.Bits.{low_bits}
use Rattle.model_bits.specs.Stuffing.{unstuffed}
use Rattle.model_bits.specs.OpenGap.{run_of, open_gap}
use Rattle.model_bits.specs.Stream.{heard_at, heard_until}
use Rattle.lapd_bits.specs.Deframer.{HoldsPast}
use Rattle.lapd_bits.specs.Ended.{event_in}
use Rattle.lapd_bits.specs.declared.gap.Gap.{Gap}
use Rattle.lapd_bits.specs.declared.ended.Ended.{Ended}
use Rattle.lapd_bits.specs.declared.ended.Ended.TheVariants.{Nothing}
use Rattle.lapd_bits.specs.declared.deframer.Deframer.{Deframer}

-- a stream, the latest bit first, with more bits, and with the `n` low bits of a number
abbrev pub onto : List Bool → List Bool → List Bool
onto = reverse_aux

abbrev pub with_bits : ℕ → ℕ → List Bool → List Bool
with_bits n octet = onto (low_bits n octet)

-- of a text that goes on the open gap, this content goes on what stays of it where stuffed 0s are taken out
abbrev pub IsJoined : List Bool → List Bool → Option (List Bool) → Type 0
IsJoined text content gap = IfSome gap (λ g. unstuffed (reverse (onto text g)) ≡ unstuffed (reverse g) ++ content)

-- the gap, if one is open, has had fewer than `n` bits
abbrev pub IsYoung : ℕ → Option Gap → Type 0
IsYoung n gap = IfSome gap (λ g. g.since < n)

-- A deframer hears one bit more: it stands for the stream with that bit, and has told what the bit brings. A gap ages by
-- it, and a young one ends nothing and leaves the octets as they were, so that what ended before it in the same octet can
-- still be lent; what ends leaves a new gap or none.
pub record Hears (bit : Bool) (before after : Deframer) (ended : Ended) : Type 0 where
  pub room : length after.octets.items ≡ length before.octets.items
  pub stands : (past : List Bool) → HoldsPast before.octets.items before.ones before.gap past
      → HoldsPast after.octets.items after.ones after.gap (bit ∷ past)
  pub told : (past : List Bool) → HoldsPast before.octets.items before.ones before.gap past
      → event_in after.octets.items ended ≡ heard_at (length before.octets.items) (bit ∷ past)
  pub quiet : IsYoung 7 before.gap → ended ≡ Nothing
  pub untouched : IsYoung 7 before.gap → after.octets.items ≡ before.octets.items
  pub grows : (n : ℕ) → IsYoung n before.gap → IsYoung (n + 1) after.gap
  pub anew : ended ≢ Nothing → IsYoung 1 after.gap

-- A deframer takes an octet: it stands for the stream with its bits, and has told what these bring.
pub record Takes (octet : ℕ) (before after : Deframer) (ended : Ended) : Type 0 where
  pub room : length after.octets.items ≡ length before.octets.items
  pub stands : (past : List Bool) → HoldsPast before.octets.items before.ones before.gap past
      → HoldsPast after.octets.items after.ones after.gap (with_bits 8 octet past)
  pub told : (past : List Bool) → HoldsPast before.octets.items before.ones before.gap past
      → heard_until (length before.octets.items) (with_bits 8 octet past)
      ≡ heard_until (length before.octets.items) past ++ option_to_list (event_in after.octets.items ended)

-- At the end of this text a 0 is a flag's last bit. All the text goes on the open gap, and none of it is a stuffed 0.
pub record EndsFlag (text past : List Bool) : Type 0 where
  pub six : run_of (onto text past) ≡ 6
  pub grown : open_gap (onto text past) ≡ option_map (onto text) (open_gap past)
  pub joined : IsJoined text text (open_gap past)
