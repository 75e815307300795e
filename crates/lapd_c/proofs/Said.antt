-- What a C program's numbers say.
use Rattle.std.specs.Prelude.{◌≢◌, ◌==◌, ◌&&◌, zero, suc, true, false, List, [], ◌∷◌, get_or}
use Rattle.lapd_c.proofs.Vocabulary.{◌≡◌, ◌≤◌, ℕ, Bool, Option, None, Some, refl, ap, ◌∙◌, cond, option_map, option_or}
use Rattle.std.proofs.lemmas.Bool.{le-ltb, lt-ltb, ne_eqb}
use Rattle.model_line.specs.declared.config.Field.{Field}
use Rattle.model_line.specs.Config.{first_fault}
use Rattle.lapd_c.specs.Config.{config_fault, config_in, reading_fault, reading_in, sapi_in, seed_in, side_fault, side_in}
use Rattle.lapd_c.specs.Reserved.{is_unused, reserve_fault}
use Rattle.lapd_c.specs.Said.{AreAllZero, ConfigurationIsGiven, ConfigurationIsServed, ConfigurationsAreGiven}
use Rattle.lapd_c.specs.Statuses.{bad_reading, bad_reserved, bad_side, field_status}
use Rattle.lapd_c.specs.declared.plain.config.PlainConfig.{PlainConfig}

-- a SAPI other than 0 stays
sapi-given : (sapi : ℕ) → sapi ≢ 0 → sapi_in sapi ≡ sapi
sapi-given sapi other = ap (λ b. cond b 16 sapi) (ne_eqb sapi 0 other)

given_by : (p : PlainConfig) → ConfigurationIsGiven p
given_by p = record {
  lines = refl;
  terminals = refl;
  k = refl;
  k16 = refl;
  queue = refl;
  unit_queue = refl;
  control = refl;
  slots = refl;
  n201 = refl;
  n200 = refl;
  network = λ is. (ap side_in is, ap (λ s. seed_in s p.seed) is);
  trunk = λ is. (ap side_in is, ap (λ s. seed_in s p.seed) is);
  terminal = λ is. (ap side_in is, ap (λ s. seed_in s p.seed) is);
  sapi = λ other. sapi-given p.sapi other;
  usual_sapi = λ is. ap sapi_in is;
  profile = λ is. ap reading_in is;
  annex_b = λ is. ap reading_in is;
}

and-false : (b : Bool) → (b && false) ≡ false
and-false true = refl
and-false false = refl

-- what is not all 0
pub not_unused : (places : List ℕ) (place : ℕ) → get_or places place 0 ≢ 0 → reserve_fault places ≡ Some bad_reserved
not_unused places place other = ap (λ (b : Bool). cond b None (Some bad_reserved)) (some_used places place other)
  where
    some_used : (places : List ℕ) (place : ℕ) → get_or places place 0 ≢ 0 → is_unused places ≡ false
    some_used [] place other = absurd (other refl)
    some_used (n ∷ places) zero other = ap (λ (b : Bool). b && is_unused places) (ne_eqb n 0 other)
    some_used (n ∷ places) (suc place) other = ap (λ (b : Bool). (n == 0) && b) (some_used places place other) ∙ and-false (n == 0)

pub all_unused : (places : List ℕ) → AreAllZero places → reserve_fault places ≡ None
all_unused places zeros = ap (λ (b : Bool). cond b None (Some bad_reserved)) (go places zeros)
  where
    go : (places : List ℕ) → AreAllZero places → is_unused places ≡ true
    go [] zeros = refl
    go (n ∷ places) zeros = ap (λ (n : ℕ). (n == 0) && is_unused places) (zeros 0) ∙ go places (λ place. zeros (suc place))

-- the first fault of a card's own fields, and then those of the side, of the reading, and of what is for a later version
abbrev others : PlainConfig → Option ℕ
others p = option_or (reading_fault p) (reserve_fault p.reserved)

no_own : (p : PlainConfig) → first_fault (config_in p) ≡ None → config_fault p ≡ option_or (side_fault p) (others p)
no_own p none = ap (λ (o : Option Field). option_or (option_map field_status o) (option_or (side_fault p) (others p))) none

good_side : (p : PlainConfig) → p.side ≤ 2 → option_or (side_fault p) (others p) ≡ others p
good_side p few = ap (λ (b : Bool). option_or (cond b (Some bad_side) None) (others p)) (le-ltb 2 p.side few)

good_reading : (p : PlainConfig) → p.reading ≤ 1 → others p ≡ reserve_fault p.reserved
good_reading p small = ap (λ (b : Bool). option_or (cond b (Some bad_reading) None) (reserve_fault p.reserved)) (le-ltb 1 p.reading small)

served_by : (p : PlainConfig) → ConfigurationIsServed p
served_by p = record {
  bad_field = λ f is. ap (λ (o : Option Field). option_or (option_map field_status o) (option_or (side_fault p) (others p))) is;
  bad_side = λ none over. no_own p none ∙ ap (λ (b : Bool). option_or (cond b (Some bad_side) None) (others p)) (lt-ltb 2 p.side over);
  bad_reading = λ none few over. no_own p none ∙ good_side p few ∙ ap (λ (b : Bool). option_or (cond b (Some bad_reading) None) (reserve_fault p.reserved)) (lt-ltb 1 p.reading over);
  used = λ place none few small other. no_own p none ∙ good_side p few ∙ good_reading p small ∙ not_unused p.reserved place other;
  in_range = λ none few small zeros. no_own p none ∙ good_side p few ∙ good_reading p small ∙ all_unused p.reserved zeros;
}

pub configurations_are_given_by : ConfigurationsAreGiven
configurations_are_given_by p = (given_by p, served_by p)
