-- Which configurations the laws speak of, and which field the check of another names.
use Rattle.std.specs.Prelude.{◌≡◌, ◌≤◌, ◌↔◌, ℕ, nat_le, max, Bool, not, ◌&&◌, List, [], ◌∷◌, Option, None, Some, if◌then◌else◌, refl}
use Rattle.std.proofs.Common.{arith, lit≤}
use Rattle.model_line.specs.declared.config.Config.{Config}
use Rattle.model_line.specs.declared.config.Field.{Field}
use Rattle.model_line.specs.declared.config.Field.TheVariants as field
use Rattle.model_line.specs.Config.{first_fault, sapi_fault}
use Rattle.model_line.specs.Sound.{IsInRange}
use Rattle.laws_line.specs.card.Worked.{usual}

-- The ranges of a configuration (profile; the windows, N201 and N200 by Q.921 clause 5.9).
pub record HasRanges (c : Config) : Type 0 where
  pub lines : (1 ≤ c.lines) × (c.lines ≤ 64)
  pub terminals : (1 ≤ c.terminals) × (c.terminals ≤ 8)
  pub k : (1 ≤ c.k) × (c.k ≤ 127)
  pub k16 : (1 ≤ c.k16) × (c.k16 ≤ 127)
  pub queue : (c.k ≤ c.queue) × (c.k16 ≤ c.queue) × (c.queue ≤ 127)
  pub unit_queue : (1 ≤ c.unit_queue) × (c.unit_queue ≤ 16)
  pub control : (2 ≤ c.control) × (c.control ≤ 16)
  pub slots : (1 ≤ c.slots) × (c.slots ≤ 8192)
  pub n201 : (8 ≤ c.n201) × (c.n201 ≤ 260)
  pub n200 : c.n200 ≤ 10
  pub sapi : (1 ≤ c.sapi) × (c.sapi ≤ 62)

-- A card starts with each configuration within them, as far as its shelf and memory allow, and with no other: no fault is
-- found in it.
abbrev pub RangesAreServed : Type 0
RangesAreServed = (c : Config) → HasRanges c ↔ IsInRange c

-- Of the fields that are out of range the first is named; none is exactly if each value is within its range (profile; the windows,
-- N201 and N200 by Q.921 clause 5.9).
abbrev pub is_out : ℕ → ℕ → ℕ → Bool
is_out low high n = not (nat_le low n && nat_le n high)

abbrev pub first_of : {X : Type 0} → List (Bool × X) → Option X
first_of [] = None
first_of (one ∷ others) = if one.0 then Some one.1 else first_of others

abbrev pub fields : Config → List (Bool × Field)
fields c =
    (is_out 1 64 c.lines, field.Lines) ∷ (is_out 1 8 c.terminals, field.Terminals) ∷ (is_out 1 127 c.k, field.K) ∷ (is_out 1 127 c.k16, field.K16)
    ∷ (is_out (max c.k c.k16) 127 c.queue, field.Queue) ∷ (is_out 1 16 c.unit_queue, field.UnitQueue) ∷ (is_out 2 16 c.control, field.Control)
    ∷ (is_out 1 8192 c.slots, field.Slots) ∷ (is_out 8 260 c.n201, field.N201) ∷ (is_out 0 10 c.n200, field.N200) ∷ (is_out 1 62 c.sapi, field.Sapi) ∷ []

abbrev pub FirstFaultsAreNamed : Type 0
FirstFaultsAreNamed = (c : Config) → first_fault c ≡ first_of (fields c)

-- The usual one is, and one with a window of 128 is not.
usual_has_ranges : HasRanges usual
usual_has_ranges = record {
  lines = (lit≤ tt, lit≤ tt);
  terminals = (lit≤ tt, lit≤ tt);
  k = (lit≤ tt, lit≤ tt);
  k16 = (lit≤ tt, lit≤ tt);
  queue = (lit≤ tt, lit≤ tt, lit≤ tt);
  unit_queue = (lit≤ tt, lit≤ tt);
  control = (lit≤ tt, lit≤ tt);
  slots = (lit≤ tt, lit≤ tt);
  n201 = (lit≤ tt, lit≤ tt);
  n200 = lit≤ tt;
  sapi = (lit≤ tt, lit≤ tt);
}

usual_starts : first_fault usual ≡ None
unfolding sapi_fault
usual_starts = refl

too_wide : HasRanges (record usual { k = 128; queue = 127 }) → ⊥
too_wide h = let most : 128 ≤ 127 = h.k.1 in omega (arith, most)

is_told : first_fault (record usual { k = 128; queue = 127 }) ≡ Some field.K
is_told = refl
