-- A configuration is read, octet by octet.
use Rattle.lapd_card.proofs.Vocabulary.{◌≡◌, ℕ, zero, suc, ◌+◌, ◌*◌, ◌≤◌, ◌<◌, Bool, true, false, List, [], ◌∷◌, ◌++◌, map, length, get_or, None, Some, IfSome, is_some, none-some, refl, sym, ap, ◌∙◌, arith, Config, Field, first_fault, ranges_of}
use Rattle.std.proofs.lemmas.Grind.{same_number_lists}
use Rattle.std.proofs.lemmas.List.FromFn.{get_or-map-range_with_len, length-map-range_with_len}
use Rattle.std.specs.List.{range_with_len}
use Rattle.std.specs.Prelude.{◌/◌, ◌%◌, not, nat_eq}
use Rattle.lapd_image.proofs.Reading.{front-read}
use Rattle.lapd_image.specs.Numbers.{number}
use Rattle.lapd_image.specs.Reads.{IsReadAs, HasNone}
use Rattle.model_bits.specs.Bits.{bit_value, number_of}
use Rattle.model_line.proofs.ConfigRead.{HasFitting, config-read}
use Rattle.model_line.specs.ConfigImage.{config, config_flags, is_annex_b, seed}
use Rattle.model_line.specs.Sides.{is_network}
use Rattle.lapd_card.specs.Image.{IsSavedConfig, IsSeed}

-- a list is its members, one by one
listed : (xs : List ℕ) (n : ℕ) → length xs ≡ n → xs ≡ map (λ i. get_or xs i 0) (range_with_len 0 n)
listed xs n is = same_number_lists xs _ (is ∙ sym (length-map-range_with_len (λ i. get_or xs i 0) 0 n))
    (λ k within. sym (get_or-map-range_with_len (λ i. get_or xs i 0) 0 n k k 0 (omega (arith, within, is)) (omega arith)))

-- the flags: three bits, of which the second says whether there is a seed
bit_is : (n : ℕ) → n < 2 → bit_value (nat_eq n 1) ≡ n
bit_is zero small = refl
bit_is (suc zero) small = refl
bit_is (suc (suc n)) small = absurd (omega (arith, small))

pub flags_are : {flags : ℕ} (a b c : Bool) → flags ≤ 7 → bit_value a ≡ flags % 2 → b ≡ nat_eq (flags / 2 % 2) 1 → bit_value c ≡ flags / 4 → flags ≡ number_of (a ∷ b ∷ c ∷ [])
flags_are {flags} a b c few first second third = omega (arith, few, first, ap bit_value second ∙ bit_is (flags / 2 % 2) (omega arith), third)

second_bit : (a b c : Bool) → nat_eq (number_of (a ∷ b ∷ c ∷ []) / 2 % 2) 1 ≡ b
second_bit true true true = refl
second_bit true true false = refl
second_bit true false true = refl
second_bit true false false = refl
second_bit false true true = refl
second_bit false true false = refl
second_bit false false true = refl
second_bit false false false = refl

-- The 14 octets of a configuration before its seed.
abbrev front : Config → List ℕ
front c =
    number_of (config_flags c) ∷ c.lines ∷ c.terminals ∷ c.k ∷ c.k16 ∷ c.queue ∷ c.unit_queue ∷ c.control ∷ c.n200 ∷ c.sapi
    ∷ (number 2 c.slots ++ number 2 c.n201)

front_long : (c : Config) → length (front c) ≡ 14
unfolding number
front_long c = refl

seed_after : (c : Config) (rest : List ℕ) → config c ++ rest ≡ front c ++ (seed c.seed ++ rest)
unfolding number
seed_after c rest = refl

-- what is put, octet by octet
pub config_put : (c : Config) {flags slots n201 : ℕ} {last : List ℕ} → flags ≡ number_of (config_flags c) → slots ≡ c.slots → n201 ≡ c.n201 → last ≡ seed c.seed
    → (flags ∷ c.lines ∷ c.terminals ∷ c.k ∷ c.k16 ∷ c.queue ∷ c.unit_queue ∷ c.control ∷ c.n200 ∷ c.sapi ∷ []) ++ (number 2 slots ++ (number 2 n201 ++ last)) ≡ config c
config_put c flags slots n201 last = λ i.
    flags i ∷ c.lines ∷ c.terminals ∷ c.k ∷ c.k16 ∷ c.queue ∷ c.unit_queue ∷ c.control ∷ c.n200 ∷ c.sapi ∷ (number 2 (slots i) ++ (number 2 (n201 i) ++ last i))

pub two_octets : {low high l h : ℕ} → l ≡ low → h ≡ high → low < 256 → high < 256 → number 2 (l + 256 * h) ≡ low ∷ high ∷ []
unfolding number
two_octets {low} {high} {l} {h} is_low is_high small few =
    let first : (l + 256 * h) % 256 ≡ low = omega (arith, is_low, is_high, small) in
    let second : (l + 256 * h) / 256 % 256 ≡ high = omega (arith, is_low, is_high, small, few) in
    λ i. first i ∷ second i ∷ []

-- Octets are those of a configuration.
pub record IsFront (octets : List ℕ) (c : Config) : Type 0 where
  pub flags : get_or octets 0 0 ≡ number_of (config_flags c)
  pub lines : get_or octets 1 0 ≡ c.lines
  pub terminals : get_or octets 2 0 ≡ c.terminals
  pub k : get_or octets 3 0 ≡ c.k
  pub k16 : get_or octets 4 0 ≡ c.k16
  pub queue : get_or octets 5 0 ≡ c.queue
  pub unit_queue : get_or octets 6 0 ≡ c.unit_queue
  pub control : get_or octets 7 0 ≡ c.control
  pub n200 : get_or octets 8 0 ≡ c.n200
  pub sapi : get_or octets 9 0 ≡ c.sapi
  pub slots : get_or octets 10 0 ∷ get_or octets 11 0 ∷ [] ≡ number 2 c.slots
  pub n201 : get_or octets 12 0 ∷ get_or octets 13 0 ∷ [] ≡ number 2 c.n201

front_is : (octets : List ℕ) (c : Config) → length octets ≡ 14 → IsFront octets c → octets ≡ front c
front_is octets c long is =
    listed octets 14 long
    ∙ (λ i. is.flags i ∷ is.lines i ∷ is.terminals i ∷ is.k i ∷ is.k16 i ∷ is.queue i ∷ is.unit_queue i ∷ is.control i ∷ is.n200 i ∷ is.sapi i ∷ (is.slots i ++ is.n201 i))

-- ---- what is read is this one

module _ (octets next rest : List ℕ) {old : List ℕ} (c : Config) (long : length octets ≡ 14) (read : old ≡ octets ++ next) (seeds : next ≡ seed c.seed ++ rest) (is : IsFront octets c) where
  config_is : old ≡ config c ++ rest
  config_is = read ∙ (λ i. front_is octets c long is i ++ seeds i) ∙ sym (seed_after c rest)

  pub config_read : first_fault c ≡ None → IfSome c.seed (λ n. n < 65536) → IsReadAs config IsSavedConfig c old rest
  config_read none few = record { saved = record { range = none; seed = few }; octets = config_is }

  -- and so none is, if it is out of range
  pub out_of_range : {f : Field} → first_fault c ≡ Some f → c.slots < 65536 → c.n201 < 65536 → IfSome c.seed (λ n. n < 65536) → HasNone config IsSavedConfig old
  out_of_range {f} fault slots n201 few d end saved e =
      let r = ranges_of d saved.range in
      let fits : HasFitting d = record { slots = omega (arith, r.slots.most); n201 = omega (arith, r.n201.most); seed = saved.seed } in
      let same = (config-read c d rest end (record { slots = slots; n201 = n201; seed = few }) fits (sym config_is ∙ e)).0 in
      none-some f (sym saved.range ∙ sym (ap first_fault same) ∙ fault)

-- ---- where none is read

pub none_of_seed : {old : List ℕ} → length old < 2 → HasNone seed (IsSeed true) old
unfolding number
none_of_seed short None rest saved e = absurd (cc)
none_of_seed short (Some n) rest saved e = omega (arith, short, ap length e)

pub none_short : {old : List ℕ} → length old < 14 → HasNone config IsSavedConfig old
unfolding number
none_short short c rest saved e = omega (arith, short, ap length e)

module _ (octets next : List ℕ) {old : List ℕ} (long : length octets ≡ 14) (read : old ≡ octets ++ next) where
  meant : (c : Config) (rest : List ℕ) → old ≡ config c ++ rest → (octets ≡ front c) × (next ≡ seed c.seed ++ rest)
  meant c rest e = front-read octets (front c) next (seed c.seed ++ rest) (long ∙ sym (front_long c)) (sym read ∙ e ∙ seed_after c rest)

  pub none_seeded : HasNone seed (IsSeed (nat_eq (get_or octets 0 0 / 2 % 2) 1)) next → HasNone config IsSavedConfig old
  none_seeded none c rest saved e =
      let flag = ap (λ l. nat_eq (get_or l 0 0 / 2 % 2) 1) (meant c rest e).0 ∙ second_bit (not (is_network c.side)) (is_some c.seed) (is_annex_b c.reading) in
      none c.seed rest (record { given = sym flag; few = saved.seed }) (meant c rest e).1
