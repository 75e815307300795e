-- How a deframer's fields follow the bits of an open gap: octets are put together and kept.
use Rattle.lapd_bits.proofs.Vocabulary.{◌≡◌, ◌≢◌, ℕ, ◌-◌, ◌^◌, ◌<◌, ◌≤◌, Bool, true, false, List, [], ◌∷◌, ◌++◌, length, take, Option, Some, None, is_some, nat_lt, refl, ap, sym, ◌∙◌, arith, length-append, lt-ltb, le-ltb, ltb-true, ltb-false, eq-eqb, ne_eqb, false_from_ne_true, take-append-le, take-take, All-nil, take-length, bits, low_bits, same_bits, is_good, HoldsDivision, Event, overlong}
use Rattle.lapd_bits.proofs.Vocabulary.{dropped, is_short, judged, flag_front, closing_event, Keeps, Assembles, Ragged, Short, Fcs, length-low_bits, bits-push, same_from_low_bits, same_from_test}
use Rattle.model_bits.specs.Stream.{frame}
use Rattle.lapd_bits.proofs.Division.Holds.{HoldsDivision_good}

-- ---- octets that are kept

-- of no octets none are kept
pub Keeps-none : (octets : List ℕ) → Keeps octets 0 None []
Keeps-none octets = grind (arith, le-ltb)

-- and bits alone make no octets
pub Assembles_begun : (octets : List ℕ) (partial filled : ℕ) → Assembles octets 0 None partial filled (low_bits filled partial)
Assembles_begun octets partial filled =
    record { whole = []; are_octets = All-nil (λ x. x < 256); keeps = Keeps-none octets; assembled = refl }

-- an octet more that there is no room for
pub Keeps_beyond : (octets whole : List ℕ) (count register o : ℕ) (beyond : Option ℕ) → count ≡ length octets → Keeps octets count beyond whole → HoldsDivision register (bits whole ++ low_bits 8 o) → Keeps octets count (Some register) (whole ++ o ∷ [])
Keeps_beyond octets whole count register o beyond full k d = grind (arith, length-append, take-append-le, lt-ltb, bits-push)

-- while none are beyond, all are kept
pub Keeps-all : (octets whole : List ℕ) (count : ℕ) (beyond : Option ℕ) → is_some beyond ≡ false → Keeps octets count beyond whole → (take count octets ≡ whole) × (count ≡ length whole)
Keeps-all octets whole count beyond none k = grind (arith, ltb-false, take-length)

-- once some are, as many as there is room for
pub Keeps-full : (octets whole : List ℕ) (count : ℕ) (beyond : Option ℕ) → is_some beyond ≡ true → Keeps octets count beyond whole → (count ≡ length octets) × (count < length whole)
Keeps-full octets whole count beyond some k = grind (arith, ltb-true)

-- ---- what a closing flag ends

-- what is over is no flag's front where it is not seven bits, or not those
pub over_by_count : (filled partial : ℕ) → filled ≢ 7 → same_bits (low_bits filled partial) flag_front ≡ false
over_by_count filled partial h =
    false_from_ne_true (same_bits (low_bits filled partial) flag_front)
    (λ same. h (sym (length-low_bits filled partial) ∙ ap length (same_from_test (low_bits filled partial) flag_front same)))

pub over_by_value : (filled partial : ℕ) → partial < 2 ^ filled → filled ≡ 7 → partial ≢ 126 → same_bits (low_bits filled partial) flag_front ≡ false
unfolding low_bits
over_by_value filled partial below seven h = grind (arith, false_from_ne_true, same_from_test, same_from_low_bits)

pub closing-ragged : (room : ℕ) (whole : List ℕ) (over : List Bool) → same_bits over flag_front ≡ false → closing_event room whole over ≡ dropped Ragged
closing-ragged room whole over h = rw h refl

-- a frame of seven octets or more is not short
long_enough : (whole : List ℕ) → 5 < length whole → is_short whole ≡ false
long_enough whole h = rw (le-ltb (length whole) 5 (omega arith), ne_eqb (length whole) 5 (omega arith)) refl

-- what is kept is short where the whole is: neither is, once there are too many
short_is : (octets whole : List ℕ) (count : ℕ) (beyond : Option ℕ) → 6 ≤ length octets → Keeps octets count beyond whole → is_short (take count octets) ≡ is_short whole
short_is octets whole count beyond room k = grind (arith, is_some, Keeps-all, Keeps-full, take-length, long_enough)

-- what is told of a gap's octets before a flag, in the order of the tests
module _
    (octets whole : List ℕ) (count filled partial : ℕ) (beyond : Option ℕ) (room : 6 ≤ length octets)
    (k : Keeps octets count beyond whole) (seven : filled ≡ 7) (value : partial ≡ 126) where
  closing : (e : Event) → judged (length octets) whole ≡ e → Some e ≡ Some (closing_event (length octets) whole (low_bits filled partial))
  unfolding low_bits
  closing e is = grind arith

  pub told-short : is_short (take count octets) ≡ true → Some (dropped Short) ≡ Some (closing_event (length octets) whole (low_bits filled partial))
  told-short h = closing (dropped Short) (rw (sym (short_is octets whole count beyond room k) ∙ h) refl)

  module _ (long : is_short (take count octets) ≡ false) where
    long_whole : is_short whole ≡ false
    long_whole = sym (short_is octets whole count beyond room k) ∙ long

    pub told-wrong : is_good (bits whole) ≡ false → Some (dropped Fcs) ≡ Some (closing_event (length octets) whole (low_bits filled partial))
    told-wrong g = closing (dropped Fcs) (rw (long_whole, g) refl)

    pub told-overlong : is_good (bits whole) ≡ true → is_some beyond ≡ true
        → Some (overlong (take 4 octets)) ≡ Some (closing_event (length octets) whole (low_bits filled partial))
    told-overlong g some = grind (arith, Keeps-full, nat_lt, long_whole, closing, take-take)

    pub told-frame : is_good (bits whole) ≡ true → is_some beyond ≡ false
        → Some (frame (take (count - 2) octets)) ≡ Some (closing_event (length octets) whole (low_bits filled partial))
    told-frame g none = search (arith, Keeps-all, nat_lt, long_whole, closing, take-take)

-- and what the register tells of the check
pub no_error : (register : ℕ) (d : List Bool) → register < 2 ^ 16 → HoldsDivision register d → register ≡ 0xF0B8 → is_good d ≡ true
no_error register d small holds e = sym (HoldsDivision_good register d small holds) ∙ eq-eqb _ _ e

pub an_error : (register : ℕ) (d : List Bool) → register < 2 ^ 16 → HoldsDivision register d → register ≢ 0xF0B8 → is_good d ≡ false
an_error register d small holds e = sym (HoldsDivision_good register d small holds) ∙ ne_eqb _ _ e

-- all that a closing flag tells
pub ruleset told_rules = (no_error, an_error, over_by_count, over_by_value, closing-ragged, told-short, told-wrong, told-overlong, told-frame)
