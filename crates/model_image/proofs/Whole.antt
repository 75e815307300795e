-- A whole image is read.
use Rattle.std.proofs.Common.{arith, lit<, ◌≡◌, ℕ, ◌^◌, ◌<◌, ◌≤◌, Bool, List, [], ◌∷◌, ◌++◌, length, Option, Some, None, is_some, refl, sym, ap, ◌∙◌, subst, append-nil}
use Rattle.std.proofs.lemmas.List.Elements.{All-cons, All-nil, AllZip-get_or}
use Rattle.std.proofs.Math.Nat.{pow-le-pow_right}
use Rattle.model_bits.specs.Bits.{number_of}
use Rattle.model_bits.proofs.BitLemmas.{number_of-lt}
use Rattle.std.specs.List.{AllZip}
use Rattle.std.specs.Prelude.{All, IfSome, flat_map}
use Rattle.model_line.specs.Line.{Line, fresh_line, link_count}
use Rattle.model_line.specs.Sound as line_sound
use Rattle.model_line.specs.declared.config.Config.{Config}
use Rattle.model_line.proofs.Ranges.{ranges_of}
use Rattle.model_card.specs.Card.{Card, line_at}
use Rattle.model_card.proofs.Steps.{has_lines, line_sound as sound_line}
use Rattle.model_timed.specs.Clock.{Clock}
use Rattle.lapd_image.specs.Numbers.{number}
use Rattle.model_line.specs.ConfigImage.{config}
use Rattle.lapd_count.specs.Image.{counters}
use Rattle.model_line.specs.Image.{line, IsSavedLine}
use Rattle.model_image.specs.Clocks.{clock}
use Rattle.model_image.specs.Images.{Saved, marks, changes}
use Rattle.model_image.specs.Laws.{ImagesAreRead}
use Rattle.model_line.specs.Same.{IsSameLine}
use Rattle.model_image.specs.Same.{AreSameClocks}
use Rattle.lapd_count.specs.Image.{IsCounted}
use Rattle.model_image.specs.Sound.{AreMarks, IsClockOf, AreMoments, AreChanges, IsSaved}
use Rattle.lapd_image.proofs.Reading.{heads, tails, Reads, all-read, equal-read, number-read}
use Rattle.model_teis.proofs.OfNetwork.ImageRead.{bits-read}
use Rattle.model_line.proofs.ConfigRead.{HasFitting, config-read}
use Rattle.model_line.proofs.ImageRead.{IsWhole, line-read, counters-read}
use Rattle.model_image.proofs.Clocks.{clock-read}

-- the numbers of a configuration fit
fitting : (s : Saved) → IsSaved s → HasFitting s.card.config
fitting s sound =
    let r = ranges_of s.card.config sound.card.config in
    record { slots = omega (arith, r.slots.most); n201 = omega (arith, r.n201.most); seed = sound.seed }

-- what holds of each of two kinds holds of both
pub all-both : {A : Type 0} (P Q : A → Type 0) (xs : List A) → All P xs → All Q xs → All (λ (x : A). P x × Q x) xs
all-both P Q xs p q k d h = (p k d h, q k d h)

-- which links of a line wait, of at most eight TEIs
HasLinks : ℕ → List Bool → Type 0
HasLinks count waits = (length waits ≡ count) × (count ≤ 16)

marks-read : (count : ℕ) → Reads (HasLinks count) (λ (xs ys : List Bool). xs ≡ ys) marks
unfolding HasLinks
marks-read count xs ys r s few also e =
    let same : (number_of xs ≡ number_of ys) × (r ≡ s) = number-read 2 (number_of xs) (number_of ys) r s (small xs few) (small ys also) e in
    (bits-read xs ys (few.0 ∙ sym also.0) same.0, same.1)
  where
    small : (bs : List Bool) → (length bs ≡ count) × (count ≤ 16) → number_of bs < 256 ^ 2
    small bs h = let less : number_of bs < 2 ^ length bs = number_of-lt bs in
        let most : 2 ^ length bs ≤ 2 ^ 16 = pow-le-pow_right (lit< tt) (subst (λ (n : ℕ). n ≤ 16) (sym h.0) h.1) in
        omega (arith, less, most)

as-many : (c : Config) (ls : List Line) (xs : List (List Bool)) → AllZip (AreMarks c) ls xs → length ls ≡ length xs
as-many c [] [] all = refl
as-many c [] (x ∷ xs) all = absurd all
as-many c (l ∷ ls) [] all = absurd all
as-many c (l ∷ ls) (x ∷ xs) all = let rest : length ls ≡ length xs = as-many c ls xs all.1 in omega (arith, rest)

all-marks : (c : Config) (few : link_count c ≤ 16) (ls : List Line) (xs : List (List Bool)) → AllZip (AreMarks c) ls xs → All (HasLinks (link_count c)) xs
unfolding HasLinks
all-marks c few [] [] all = All-nil (λ (x : List Bool). (length x ≡ link_count c) × (link_count c ≤ 16))
all-marks c few [] (x ∷ xs) all = absurd all
all-marks c few (l ∷ ls) [] all = absurd all
all-marks c few (l ∷ ls) (x ∷ xs) all = All-cons (λ (x : List Bool). (length x ≡ link_count c) × (link_count c ≤ 16)) x xs (all.0.each, few) (all-marks c few ls xs all.1)

-- the clocks, if there are any
clocks-read : (a b : Card) (config : a.config ≡ b.config) (same : (number : ℕ) → number < a.config.lines → IsSameLine a.config (line_at number a) (line_at number b))
    (places : (number : ℕ) → number < a.config.lines → length (line_at number a).management.places ≡ a.config.terminals) (c d : Option Clock) (r s : List ℕ)
    → is_some c ≡ is_some d → IfSome c (IsClockOf a) → IfSome d (IsClockOf b) → clock a c ++ r ≡ clock b d ++ s → AreSameClocks a.config.lines c d × (r ≡ s)
clocks-read a b config same places None None r s there sound also e = (tt, e)
clocks-read a b config same places None (Some d) r s there sound also e = absurd (cc)
clocks-read a b config same places (Some c) None r s there sound also e = absurd (cc)
clocks-read a b config same places (Some c) (Some d) r s there sound also e = clock-read a b config same places c d r s sound also e

-- when the states of links changed: at moments of 64 bits
record AreFew (c : Config) (moments : List ℕ) : Type 0 where
  each : length moments ≡ link_count c
  few : All (λ (n : ℕ). n < 256 ^ 8) moments

few-rows : (c : Config) (now : ℕ) (rows : List (List ℕ)) → now < 2 ^ 63 → All (AreMoments c now) rows → All (AreFew c) rows
few-rows c now rows small all = λ k d h. record { each = (all k d h).each; few = λ i m within. omega (arith, (all k d h).past i m within, small) }

moments-read : (c : Config) → Reads (AreFew c) (λ (xs ys : List ℕ). xs ≡ ys) changes
moments-read c xs ys r s few also e = equal-read (λ (n : ℕ). n < 256 ^ 8) (number 8) (number-read 8) xs ys r s (few.each ∙ sym also.each) few.few also.few e

changes-read : (a b : Card) (c : Config) (o p : Option Clock) (xs ys : List (List ℕ)) → is_some o ≡ is_some p → IfSome o (IsClockOf a) → IfSome p (IsClockOf b) → AreChanges c o xs → AreChanges c p ys
    → flat_map changes xs ≡ flat_map changes ys → xs ≡ ys
changes-read a b c None None xs ys there one too few also e = few ∙ sym also
changes-read a b c None (Some d) xs ys there one too few also e = absurd (cc)
changes-read a b c (Some clock) None xs ys there one too few also e = absurd (cc)
changes-read a b c (Some clock) (Some d) xs ys there one too few also e =
    (equal-read (AreFew c) changes (moments-read c) xs ys [] [] (few.0 ∙ sym also.0) (few-rows c clock.now xs one.now few.1) (few-rows c d.now ys too.now also.1) (append-nil (flat_map changes xs) ∙ e ∙ sym (append-nil (flat_map changes ys)))).0

pub images_are_read : ImagesAreRead
images_are_read s t sound also e =
    let after_head = tails (tails (tails (tails (tails e)))) in
    let bits = bits-read (s.of_octets ∷ is_some s.clock ∷ []) (t.of_octets ∷ is_some t.clock ∷ []) refl (heads after_head) in
    let of_config : (s.card.config ≡ t.card.config) × _ = config-read s.card.config t.card.config _ _ (fitting s sound) (fitting t also) (tails after_head) in
    let c : Config = s.card.config in
    let same_config : s.card.config ≡ t.card.config = of_config.0 in
    let short : c.n201 ≤ 260 = (ranges_of c sound.card.config).n201.most in
    let count : length s.card.lines ≡ length t.card.lines = sound.card.count ∙ ap (λ (x : Config). x.lines) same_config ∙ sym also.card.count in
    let whole : All (IsWhole c short) s.card.lines = all-both (line_sound.IsSound c) (IsSavedLine c) s.card.lines sound.card.lines sound.lines in
    let whole_too : All (IsWhole c short) t.card.lines =
    all-both (line_sound.IsSound c) (IsSavedLine c) t.card.lines
    (subst (λ (x : Config). All (line_sound.IsSound x) t.card.lines) (sym same_config) also.card.lines)
    (subst (λ (x : Config). All (IsSavedLine x) t.card.lines) (sym same_config) also.lines) in
    let lines : AllZip (IsSameLine c) s.card.lines t.card.lines × _ =
    all-read (IsWhole c short) (IsSameLine c) (line c) (line-read c short) s.card.lines t.card.lines _ _ count whole whole_too
    (of_config.1 ∙ ap (λ (x : Config). flat_map (line x) t.card.lines ++ (flat_map counters t.counted ++ (flat_map marks t.waits ++ (clock t.card t.clock ++ flat_map changes t.changed)))) (sym same_config)) in
    let counted_many : length s.counted ≡ length t.counted = sound.each_counted ∙ ap (λ (x : Config). x.lines) same_config ∙ sym also.each_counted in
    let counted : (s.counted ≡ t.counted) × _ = equal-read IsCounted counters counters-read s.counted t.counted _ _ counted_many sound.counted also.counted lines.1 in
    let waits_many : length s.waits ≡ length t.waits = sym (as-many c s.card.lines s.waits sound.waits) ∙ count ∙ as-many t.card.config t.card.lines t.waits also.waits in
    let links : link_count c ≤ 16 = omega (arith, (ranges_of c sound.card.config).terminals.most) in
    let marked : All (HasLinks (link_count c)) s.waits = all-marks c links s.card.lines s.waits sound.waits in
    let marked_too : All (HasLinks (link_count c)) t.waits = all-marks c links t.card.lines t.waits (subst (λ (x : Config). AllZip (AreMarks x) t.card.lines t.waits) (sym same_config) also.waits) in
    let waits : (s.waits ≡ t.waits) × _ = equal-read (HasLinks (link_count c)) marks (marks-read (link_count c)) s.waits t.waits _ _ waits_many marked marked_too counted.1 in
    let at_number : (number : ℕ) → number < c.lines → IsSameLine c (line_at number s.card) (line_at number t.card) =
    λ number h. AllZip-get_or (IsSameLine c) s.card.lines t.card.lines number (fresh_line s.card.config) (fresh_line t.card.config) lines.0 (subst (λ (n : ℕ). number < n) (sym sound.card.count) h) in
    let clocks : AreSameClocks c.lines s.clock t.clock × _ =
    clocks-read s.card t.card same_config at_number (λ number h. (sound_line s.card number (has_lines s.card sound.card) h).places)
    s.clock t.clock _ _ (heads (tails bits)) sound.clock also.clock waits.1 in
    record {
      kind = heads bits;
      config = same_config;
      lines = lines.0;
      counted = counted.0;
      waits = waits.0;
      clock = clocks.0;
      changed = changes-read s.card t.card c s.clock t.clock s.changed t.changed (heads (tails bits)) sound.clock also.clock sound.changed
          (subst (λ (x : Config). AreChanges x t.clock t.changed) (sym same_config) also.changed) clocks.1;
    }
