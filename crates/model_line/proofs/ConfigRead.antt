-- A configuration is read from an image.
use Rattle.std.proofs.Common.{◌≡◌, ℕ, ◌<◌, Bool, true, false, not, List, ◌++◌, Option, Some, None, is_some, refl, sym, ap, ◌∙◌}
use Rattle.std.specs.Prelude.{IfSome}
use Rattle.lapd_frame.specs.declared.addresses.Side.{Side}
use Rattle.lapd_frame.specs.declared.addresses.Side.TheVariants.{User, Network}
use Rattle.lapd_frame.specs.declared.readings.Reading.{Reading}
use Rattle.lapd_frame.specs.declared.readings.Reading.TheVariants.{Profile, AnnexB}
use Rattle.model_line.specs.declared.config.Config.{Config}
use Rattle.model_line.specs.Sides.{is_network}
use Rattle.lapd_image.specs.Numbers.{number}
use Rattle.model_line.specs.ConfigImage.{is_annex_b, config_flags, seed, config}
use Rattle.lapd_image.proofs.Reading.{heads, tails, split, Reads, number-read}
use Rattle.model_teis.proofs.OfNetwork.ImageRead.{bits-read}

-- a side, and a reading, by their bits
abbrev side_from : Bool → Side
side_from true = User
side_from false = Network

side-back : (s : Side) → side_from (not (is_network s)) ≡ s
side-back User = refl
side-back Network = refl

abbrev reading_from : Bool → Reading
reading_from true = AnnexB
reading_from false = Profile

reading-back : (r : Reading) → reading_from (is_annex_b r) ≡ r
reading-back Profile = refl
reading-back AnnexB = refl

-- a seed
seed-read : (o p : Option ℕ) (r s : List ℕ) → is_some o ≡ is_some p → IfSome o (λ n. n < 65536) → IfSome p (λ n. n < 65536) → seed o ++ r ≡ seed p ++ s → (o ≡ p) × (r ≡ s)
seed-read None None r s there few also e = (refl, e)
seed-read None (Some n) r s there few also e = absurd (cc)
seed-read (Some n) None r s there few also e = absurd (cc)
seed-read (Some n) (Some m) r s there few also e =
    let same : (n ≡ m) × (r ≡ s) = number-read 2 n m r s few also e in
    (ap (λ (k : ℕ). Some k) same.0, same.1)

-- the numbers of two octets are not greater
pub record HasFitting (c : Config) : Type 0 where
  pub slots : c.slots < 65536
  pub n201 : c.n201 < 65536
  pub seed : IfSome c.seed (λ n. n < 65536)

pub config-read : Reads HasFitting (λ (c d : Config). c ≡ d) config
config-read c d r s few also e =
    let e1 = tails e in
    let e2 = tails e1 in
    let e3 = tails e2 in
    let e4 = tails e3 in
    let e5 = tails e4 in
    let e6 = tails e5 in
    let e7 = tails e6 in
    let e8 = tails e7 in
    let e9 = tails e8 in
    let bits : config_flags c ≡ config_flags d = bits-read (config_flags c) (config_flags d) refl (heads e) in
    let side_bit : not (is_network c.side) ≡ not (is_network d.side) = heads bits in
    let reading_bit : is_annex_b c.reading ≡ is_annex_b d.reading = heads (tails (tails bits)) in
    let side : c.side ≡ d.side = sym (side-back c.side) ∙ ap side_from side_bit ∙ side-back d.side in
    let reading : c.reading ≡ d.reading = sym (reading-back c.reading) ∙ ap reading_from reading_bit ∙ reading-back d.reading in
    let lines : c.lines ≡ d.lines = heads e1 in
    let terminals : c.terminals ≡ d.terminals = heads e2 in
    let k : c.k ≡ d.k = heads e3 in
    let k16 : c.k16 ≡ d.k16 = heads e4 in
    let queue : c.queue ≡ d.queue = heads e5 in
    let unit_queue : c.unit_queue ≡ d.unit_queue = heads e6 in
    let control : c.control ≡ d.control = heads e7 in
    let n200 : c.n200 ≡ d.n200 = heads e8 in
    let sapi : c.sapi ≡ d.sapi = heads e9 in
    let slots : (c.slots ≡ d.slots) × _ = number-read 2 c.slots d.slots _ _ few.slots also.slots (split (number 2 c.slots) _ (number 2 d.slots) _ r s (tails e9)) in
    let n201 : (c.n201 ≡ d.n201) × _ = number-read 2 c.n201 d.n201 _ _ few.n201 also.n201 (split (number 2 c.n201) _ (number 2 d.n201) _ r s slots.1) in
    let last : (c.seed ≡ d.seed) × (r ≡ s) = seed-read c.seed d.seed r s (heads (tails bits)) few.seed also.seed n201.1 in (
      (λ i. record {
        lines = lines i;
        terminals = terminals i;
        k = k i;
        k16 = k16 i;
        queue = queue i;
        unit_queue = unit_queue i;
        control = control i;
        slots = slots.0 i;
        n201 = n201.0 i;
        n200 = n200 i;
        side = side i;
        sapi = sapi i;
        seed = last.0 i;
        reading = reading i;
      }),
      last.1,
    )
