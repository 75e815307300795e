-- No timers are at the front, part by part.
use Rattle.std.proofs.Common.{arith, ◌≡◌, ℕ, ◌+◌, ◌*◌, ◌^◌, ◌<◌, ◌≤◌, List, [], ◌∷◌, ◌++◌, length, refl, sym, subst, ap, ◌∙◌, append_assoc, length-append, Some}
use Rattle.std.specs.Result.{IsErrAnd}
use Rattle.std.specs.Prelude.{All, IfErr, Ok, Err, Result, flat_map}
use Rattle.std.proofs.Math.Nat.{suc-mul}
use Rattle.std.proofs.lemmas.List.Elements.{All-append, All-head, All-nil, All-tail}
use Rattle.std.specs.List.{range_with_len}
use Rattle.std.specs.Option.{unwrap_or}
use Rattle.lapd_clock.specs.Moments.{moment_of}
use Rattle.lapd_clock.specs.Timer.{Lengths, AreInRange}
use Rattle.lapd_image.specs.Numbers.{number}
use Rattle.lapd_image.specs.Reads.{HasNone, IsReadAs}
use Rattle.lapd_image.proofs.Reading.{front-read, length-each, length-number, number-read}
use Rattle.lapd_timed.specs.MomentsRead.{lines_part, FallsUntil, Passes}
use Rattle.lapd_timed.proofs.InImage.{flat-flat}
use Rattle.model_card.specs.Card.{Card, line_at}
use Rattle.model_image.specs.Clocks.{lengths, moment, moments, moments_at}
use Rattle.model_line.specs.Image.{timers}
use Rattle.model_image.specs.Images.{changes}
use Rattle.model_image.specs.Sound.{AreChanges, AreMoments, IsClockOf}
use Rattle.model_line.specs.Line.{link_count}
use Rattle.model_timed.specs.Clock.{Clock}
use Rattle.lapd_timed.specs.Image.{timers_part, HasNoTimers}
use Rattle.lapd_timed.specs.Marked.{ArePast}
use Rattle.lapd_timed.proofs.ChangesRead.{length-changes}
use Rattle.lapd_timed.proofs.LengthsRead.{sixteen}

-- what holds of each fault holds of that of a result
pub if_err : {T E : Type 0} (P : E → Type 0) (r : Result T E) → ((e : E) → P e) → IfErr r P
if_err P (Ok x) each = tt
if_err P (Err e) each = each e

-- and what follows for the fault of one that has failed
pub if_err_and : {T E : Type 0} {P Q : E → Type 0} (r : Result T E) → IsErrAnd r P → ((e : E) → P e → Q e) → IfErr r Q
if_err_and (Ok x) known each = tt
if_err_and (Err e) known each = each e known

-- the parts of what an image has of timers
parts : (m : Card) (c : Clock) (changed : List (List ℕ)) (rest : List ℕ)
    → timers_part m c changed ++ rest ≡ lengths c.lengths ++ (number 8 c.now ++ (moments m c ++ (flat_map changes changed ++ rest)))
parts m c changed rest =
    append_assoc (lengths c.lengths ++ (number 8 c.now ++ moments m c)) (flat_map changes changed) rest
    ∙ append_assoc (lengths c.lengths) (number 8 c.now ++ moments m c) (flat_map changes changed ++ rest)
    ∙ ap (λ x. lengths c.lengths ++ x) (append_assoc (number 8 c.now) (moments m c) (flat_map changes changed ++ rest))

-- the octets of all changes of so many links of so many lines
length-rows : (links : ℕ) (rows : List (List ℕ)) → All (λ row. length row ≡ links) rows → length (flat_map changes rows) ≡ 8 * (length rows * links)
length-rows links [] each = omega arith
length-rows links (row ∷ rows) each =
    let both = length-append (changes row) (flat_map changes rows) in
    let own = All-head (λ r. length r ≡ links) row rows each in
    let later = length-rows links rows (All-tail (λ r. length r ≡ links) row rows each) in
    omega (arith, both, length-changes row, own, later, suc-mul (length rows) links)

-- all moments of some rows, one row after the other
abbrev concat : List (List ℕ) → List ℕ
concat rows = flat_map (λ row. row) rows

all-joined : (P : ℕ → Type 0) (rows : List (List ℕ)) → All (All P) rows → All P (concat rows)
all-joined P [] all = All-nil P
all-joined P (row ∷ rows) all = All-append P row (concat rows) (All-head (All P) row rows all) (all-joined P rows (All-tail (All P) row rows all))

module _ (m : Card) (l : Lengths) (now : ℕ) (front after_lengths after_now : List ℕ)
    (one : IsReadAs lengths AreInRange l front after_lengths) (two : IsReadAs (number 8) (λ (n : ℕ). n < 2 ^ 63) now after_lengths after_now) where
  -- what follows the lengths, and the moment
  beyond-lengths : (c : Clock) (changed : List (List ℕ)) (rest : List ℕ) → front ≡ timers_part m c changed ++ rest → after_lengths ≡ number 8 c.now ++ (moments m c ++ (flat_map changes changed ++ rest))
  beyond-lengths c changed rest e =
      (front-read (lengths l) (lengths c.lengths) _ _ (sixteen l ∙ sym (sixteen c.lengths)) (sym one.octets ∙ e ∙ parts m c changed rest)).1

  beyond-now : (c : Clock) (changed : List (List ℕ)) (rest : List ℕ) → front ≡ timers_part m c changed ++ rest → after_now ≡ moments m c ++ (flat_map changes changed ++ rest)
  beyond-now c changed rest e =
      (front-read (number 8 now) (number 8 c.now) _ _ (length-number 8 now ∙ sym (length-number 8 c.now)) (sym two.octets ∙ beyond-lengths c changed rest e)).1

  -- the moment is that of the clock, if one is there
  same-now : (c : Clock) (changed : List (List ℕ)) (rest : List ℕ) → IsClockOf m c → front ≡ timers_part m c changed ++ rest → c.now ≡ now
  same-now c changed rest of e =
      let small : now < 2 ^ 63 = two.saved in
      sym (number-read 8 now c.now _ _ (omega (arith, small)) (omega (arith, of.now)) (sym two.octets ∙ beyond-lengths c changed rest e)).0

  in-time : (c : Clock) (changed : List (List ℕ)) (rest : List ℕ) → IsClockOf m c → front ≡ timers_part m c changed ++ rest → FallsUntil (now + 3600000) c
  in-time c changed rest of e = subst (λ n. FallsUntil (n + 3600000) c) (same-now c changed rest of e) of.moments

  pub none-of-lines : HasNone (lines_part m m.config.lines) (FallsUntil (now + 3600000)) after_now → HasNoTimers m front
  none-of-lines none c changed rest may e = none c (flat_map changes changed ++ rest) (in-time c changed rest may.clock e) (beyond-now c changed rest e)

  pub none-of-changes : (after_lines : List ℕ) (count : ℕ) → Passes (lines_part m m.config.lines) (FallsUntil (now + 3600000)) after_now after_lines → count ≡ m.config.lines * link_count m.config
      → HasNone changes (ArePast count now) after_lines → HasNoTimers m front
  none-of-changes after_lines count passes is none c changed rest may e =
      let here = passes c (flat_map changes changed ++ rest) (in-time c changed rest may.clock e) (beyond-now c changed rest e) in
      let rows : All (λ row. length row ≡ link_count m.config) changed = λ k d h. (may.rows.1 k d h).each in
      let size = length-rows (link_count m.config) changed rows ∙ ap (λ n. 8 * (n * link_count m.config)) may.rows.0 in
      let joined : changes (concat changed) ≡ flat_map changes changed = flat-flat (number 8) (λ row. row) changed in
      none (concat changed) rest
      (record {
        each = omega (arith, size, ap (λ n. 8 * n) is, ap (λ octets. length octets) joined, length-changes (concat changed));
        past = all-joined (λ moment. moment ≤ now) changed (subst (λ n. All (λ row. All (λ moment. moment ≤ n) row) changed) (same-now c changed rest may.clock e) (λ k d h. (may.rows.1 k d h).past));
      })
      (here ∙ ap (λ octets. octets ++ rest) (sym joined))

pub none-of-moment : (m : Card) (l : Lengths) (front after_lengths : List ℕ) → IsReadAs lengths AreInRange l front after_lengths → HasNone (number 8) (λ (n : ℕ). n < 2 ^ 63) after_lengths → HasNoTimers m front
none-of-moment m l front after_lengths one none c changed rest may e =
    none c.now (moments m c ++ (flat_map changes changed ++ rest)) may.clock.now
    ((front-read (lengths l) (lengths c.lengths) _ _ (sixteen l ∙ sym (sixteen c.lengths)) (sym one.octets ∙ e ∙ parts m c changed rest)).1)

-- The timers of a card take as many octets at each clock.
same-lengths : (f g : ℕ → List ℕ) → ((n : ℕ) → length (f n) ≡ length (g n)) → (ns : List ℕ) → length (flat_map f ns) ≡ length (flat_map g ns)
same-lengths f g same [] = refl
same-lengths f g same (n ∷ ns) = omega (arith, length-append (f n) (flat_map f ns), length-append (g n) (flat_map g ns), same n, same-lengths f g same ns)

pub same-size : (m : Card) (c d : Clock) (xs ys : List (List ℕ)) → AreChanges m.config (Some c) xs → AreChanges m.config (Some d) ys → length (timers_part m c xs) ≡ length (timers_part m d ys)
same-size m c d xs ys rows also =
    let of_line : (k : Clock) (n : ℕ) → length (moments_at m k n) ≡ length (timers m.config (line_at n m)) * 8 =
    λ k n. length-each (moment k n) 8 (λ t. length-number 8 (unwrap_or (moment_of n t k.running) 0)) (timers m.config (line_at n m)) in
    let lines : length (moments m c) ≡ length (moments m d) = same-lengths (moments_at m c) (moments_at m d) (λ n. of_line c n ∙ sym (of_line d n)) (range_with_len 0 m.config.lines) in
    let of_rows : (now : ℕ) (zs : List (List ℕ)) → All (AreMoments m.config now) zs → length (flat_map changes zs) ≡ 8 * (length zs * link_count m.config) =
    λ now zs all. length-rows (link_count m.config) zs (λ k d h. (all k d h).each) in
    let changed : length (flat_map changes xs) ≡ length (flat_map changes ys) = of_rows c.now xs rows.1 ∙ ap (λ n. 8 * (n * link_count m.config)) (rows.0 ∙ sym also.0) ∙ sym (of_rows d.now ys also.1) in
    let whole : (k : Clock) (zs : List (List ℕ)) → length (timers_part m k zs) ≡ 16 + (8 + length (moments m k)) + length (flat_map changes zs) = λ k zs.
    omega (
      arith,
      length-append (lengths k.lengths ++ (number 8 k.now ++ moments m k)) (flat_map changes zs),
      length-append (lengths k.lengths) (number 8 k.now ++ moments m k),
      length-append (number 8 k.now) (moments m k),
      sixteen k.lengths,
      length-number 8 k.now,
    ) in
    omega (arith, whole c xs, whole d ys, lines, changed)
