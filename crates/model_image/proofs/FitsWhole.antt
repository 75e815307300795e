-- How many octets a whole image has.
use Rattle.std.proofs.Common.{arith, lit<, ◌≡◌, ℕ, ◌+◌, ◌*◌, ◌<◌, ◌≤◌, Bool, true, false, cond, List, [], ◌∷◌, ◌++◌, length, Option, Some, None, is_some, refl, sym, ap, ◌∙◌, subst, length-append}
use Rattle.std.specs.List.{AllZip, range_with_len}
use Rattle.std.specs.Prelude.{All, flat_map, sum_by}
use Rattle.std.proofs.lemmas.List.Elements.{All-from_get_or}
use Rattle.std.proofs.lemmas.List.FromFn.{length-range_with_len}
use Rattle.std.proofs.Math.Nat.{mul-le-mul_right}
use Rattle.lapd_clock.specs.Timer.{Timer, T201, T202, Service, Lengths}
use Rattle.lapd_count.specs.Counters.{count, most}
use Rattle.lapd_count.specs.declared.counters.Counters.{Counters}
use Rattle.model_bits.specs.Bits.{number_of}
use Rattle.model_link.specs.declared.timers.LinkTimer.{LinkTimer}
use Rattle.model_link.specs.declared.timers.LinkTimer.TheVariants as running
use Rattle.model_line.specs.declared.config.Config.{Config}
use Rattle.model_line.specs.Line.{Line, Own, is_terminal, link_count, link_at, place_at, service_at, tei_at}
use Rattle.model_line.specs.Sound as line_sound
use Rattle.model_line.specs.Sound.{IsOfSide}
use Rattle.model_line.specs.Stored.{slots_of}
use Rattle.model_card.specs.Card.{Card, line_at}
use Rattle.model_card.specs.Sound.{IsSound}
use Rattle.model_card.proofs.Steps.{has_lines, line_sound as sound_line}
use Rattle.model_teis.specs.network.Machine.{Management}
use Rattle.model_timed.specs.Clock.{Clock}
use Rattle.lapd_image.specs.Numbers.{number}
use Rattle.model_line.specs.ConfigImage.{config}
use Rattle.lapd_count.specs.Image.{counters}
use Rattle.model_line.specs.Image.{line, timer_at, timer_numbered, timers, IsSavedLine}
use Rattle.model_image.specs.Clocks.{moment, moments_at, moments, lengths, clock}
use Rattle.model_image.specs.Images.{Saved, marks, changes, head, image_of}
use Rattle.model_image.specs.Laws.{ImagesAreOctets, ImagesFit}
use Rattle.model_line.specs.Most.{most_clock, most_octets}
use Rattle.lapd_count.specs.Image.{IsCounted}
use Rattle.model_image.specs.Sound.{AreMoments, AreChanges, IsSaved}
use Rattle.model_image.proofs.Fits.{Fits, fits-less, fits-nil, fits-cons, fits-append, fits-number, fits-each, fits-all}
use Rattle.model_image.proofs.FitsParts.{config-fits, short_line, line-fits, bits-small}
use Rattle.model_line.proofs.Numbers.{below}
use Rattle.model_image.proofs.Whole.{all-both}

-- the counters of a line
counters-fit : (c : Counters) → IsCounted c → Fits (8 * count) (counters c)
counters-fit c counted =
    fits-less (length c.values * 8) (8 * count) (counters c) (omega (arith, counted.whole))
    (fits-all (λ (n : ℕ). n ≤ most) (number 8) 8 (λ n h. fits-number 8 n) c.values counted.few)

-- A line has at most one timer for each link, and one more.
one-timer : (service : Service) (tei : Option ℕ) (timer : Option LinkTimer) → length (timer_at service tei timer) ≤ 1
one-timer service None timer = omega arith
one-timer service (Some tei) None = omega arith
one-timer service (Some tei) (Some running.T200) = omega arith
one-timer service (Some tei) (Some running.T203) = omega arith

link-timers : (l : Line) (ns : List ℕ) → length (flat_map (timer_numbered l) ns) ≤ length ns
link-timers l [] = omega arith
link-timers l (n ∷ ns) =
    omega (arith, length-append (timer_numbered l n) (flat_map (timer_numbered l) ns), one-timer (service_at n) (tei_at (place_at n) l) (link_at n l).running, link-timers l ns)

last-timers : (b d : Bool) → (b ≡ true → d ≡ true → ⊥) → length (cond b (T201 ∷ []) [] ++ cond d (T202 ∷ []) []) ≤ 1
last-timers true true apart = absurd (apart refl refl)
last-timers true false apart = omega arith
last-timers false true apart = omega arith
last-timers false false apart = omega arith

side-timers : (terminal : Bool) (m : Management) (o : Own) → IsOfSide terminal m o → is_some m.check ≡ true → is_some o.procedure ≡ true → ⊥
side-timers true m o side checked runs = let none : is_some m.check ≡ false = ap is_some side.1.check in absurd (cc)
side-timers false m o side checked runs = let none : is_some o.procedure ≡ false = ap is_some side.0 in absurd (cc)

timers-few : (c : Config) (l : Line) → line_sound.IsSound c l → length (timers c l) ≤ link_count c + 1
timers-few c l sound =
    omega (
      arith,
      length-append (flat_map (timer_numbered l) (range_with_len 0 (link_count c))) (cond (is_some l.management.check) (T201 ∷ []) [] ++ cond (is_some l.own.procedure) (T202 ∷ []) []),
      link-timers l (range_with_len 0 (link_count c)),
      length-range_with_len 0 (link_count c),
      last-timers (is_some l.management.check) (is_some l.own.procedure) (side-timers (is_terminal c) l.management l.own sound.own),
    )

-- the moments of a line, and of all
moments-fit : (card : Card) (c : Clock) → IsSound card → Fits (card.config.lines * (8 * (link_count card.config + 1))) (moments card c)
moments-fit card c sound =
    let lines : ℕ = card.config.lines in
    let one : (n : ℕ) → n < lines → Fits (8 * (link_count card.config + 1)) (moments_at card c n) =
    λ n h. let few : length (timers card.config (line_at n card)) ≤ link_count card.config + 1 = timers-few card.config (line_at n card) (sound_line card n (has_lines card sound) h) in
    fits-less (length (timers card.config (line_at n card)) * 8) (8 * (link_count card.config + 1)) (moments_at card c n) (omega (arith, few))
    (fits-all (λ (t : Timer). Unit {0}) (moment c n) 8 (λ t any. fits-number 8 _) (timers card.config (line_at n card)) (λ k d h. tt)) in
    subst (λ (n : ℕ). Fits (n * (8 * (link_count card.config + 1))) (moments card c)) (length-range_with_len 0 lines)
    (fits-all (λ (n : ℕ). n < lines) (moments_at card c) (8 * (link_count card.config + 1)) one (range_with_len 0 lines) (All-from_get_or (λ (n : ℕ). n < lines) (range_with_len 0 lines) 0 (below lines)))

lengths-fit : (l : Lengths) → Fits 16 (lengths l)
lengths-fit l =
    fits-append 4 12 (number 4 l.t200) _ (fits-number 4 l.t200) (fits-append 4 8 (number 4 l.t203) _ (fits-number 4 l.t203)
    (fits-append 4 4 (number 4 l.t201) (number 4 l.t202) (fits-number 4 l.t201) (fits-number 4 l.t202)))

-- when the states of links changed
changes-fit : (c : Config) (now : ℕ) (changed : List (List ℕ)) → length changed ≡ c.lines → All (AreMoments c now) changed → Fits (c.lines * (8 * link_count c)) (flat_map changes changed)
changes-fit c now changed count all =
    let one : (moments : List ℕ) → AreMoments c now moments → Fits (8 * link_count c) (changes moments) =
    λ moments are. fits-less (length moments * 8) (8 * link_count c) (changes moments) (omega (arith, are.each))
    (fits-all (λ (n : ℕ). n ≤ now) (number 8) 8 (λ n h. fits-number 8 n) moments are.past) in
    subst (λ (n : ℕ). Fits (n * (8 * link_count c)) (flat_map changes changed)) count (fits-all (AreMoments c now) changes (8 * link_count c) one changed all)

clock-fits : (card : Card) (o : Option Clock) (changed : List (List ℕ)) → IsSound card → AreChanges card.config o changed
    → Fits (cond (is_some o) (most_clock card.config) 0) (clock card o ++ flat_map changes changed)
clock-fits card None changed sound none = subst (λ (xs : List (List ℕ)). Fits 0 (flat_map changes xs)) (sym none) (fits-nil 0)
clock-fits card (Some c) changed sound are =
    let timers : ℕ = card.config.lines * (8 * (link_count card.config + 1)) in
    fits-less ((16 + (8 + timers)) + card.config.lines * (8 * link_count card.config)) (most_clock card.config) (clock card (Some c) ++ flat_map changes changed) (omega arith)
    (fits-append (16 + (8 + timers)) _ (clock card (Some c)) (flat_map changes changed)
    (fits-append 16 _ (lengths c.lengths) _ (lengths-fit c.lengths) (fits-append 8 _ (number 8 c.now) _ (fits-number 8 c.now) (moments-fit card c sound)))
    (changes-fit card.config c.now changed are.0 are.1))

-- a kind
head-fits : (s : Saved) → Fits 6 (head s)
head-fits s =
    fits-cons 76 5 _ (lit< tt) (fits-cons 65 4 _ (lit< tt) (fits-cons 80 3 _ (lit< tt) (fits-cons 68 2 _ (lit< tt) (fits-cons 1 1 _ (lit< tt)
    (fits-cons (number_of (s.of_octets ∷ is_some s.clock ∷ [])) 0 [] (bits-small (s.of_octets ∷ is_some s.clock ∷ []) (omega arith)) (fits-nil 0))))))

-- all together
sums : (lines short used slots w k t : ℕ) → used ≤ slots → 6 + (16 + ((lines * short + used * w) + (lines * k + (lines * 2 + t)))) ≤ 22 + lines * (short + k + 2) + slots * w + t
sums lines short used slots w k t few = let scaled : used * w ≤ slots * w = mul-le-mul_right w few in omega (arith, scaled)

zip-length : {A B : Type 0} (R : A → B → Type 0) (xs : List A) (ys : List B) → AllZip R xs ys → length ys ≡ length xs
zip-length R [] [] all = refl
zip-length R [] (y ∷ ys) all = absurd all
zip-length R (x ∷ xs) [] all = absurd all
zip-length R (x ∷ xs) (y ∷ ys) all = let rest : length ys ≡ length xs = zip-length R xs ys all.1 in omega (arith, rest)

pub image-fits : (s : Saved) → IsSaved s → Fits (most_octets s.card.config (is_some s.clock)) (image_of s)
image-fits s sound =
    let c : Config = s.card.config in
    let w : ℕ = 2 + c.n201 in
    let lines : Fits (length s.card.lines * short_line c + sum_by (slots_of c) s.card.lines * w) (flat_map (line c) s.card.lines) =
    fits-each (λ l. line_sound.IsSound c l × IsSavedLine c l) (line c) (short_line c) w (slots_of c) (line-fits c sound.card.config) s.card.lines
    (all-both (line_sound.IsSound c) (IsSavedLine c) s.card.lines sound.card.lines sound.lines) in
    let counted : Fits (length s.counted * (8 * count)) (flat_map counters s.counted) = fits-all IsCounted counters (8 * count) counters-fit s.counted sound.counted in
    let waits : Fits (length s.waits * 2) (flat_map marks s.waits) = fits-all (λ (x : List Bool). Unit {0}) marks 2 (λ x any. fits-number 2 (number_of x)) s.waits (λ k d h. tt) in
    let lines_few = subst (λ (n : ℕ). Fits (n * short_line c + sum_by (slots_of c) s.card.lines * w) (flat_map (line c) s.card.lines)) sound.card.count lines in
    let counted_few = subst (λ (n : ℕ). Fits (n * (8 * count)) (flat_map counters s.counted)) sound.each_counted counted in
    let waits_few = subst (λ (n : ℕ). Fits (n * 2) (flat_map marks s.waits)) (zip-length _ s.card.lines s.waits sound.waits ∙ sound.card.count) waits in
    fits-less _ (most_octets c (is_some s.clock)) (image_of s)
    (sums c.lines (short_line c) (sum_by (slots_of c) s.card.lines) c.slots w (8 * count) (cond (is_some s.clock) (most_clock c) 0) sound.card.slots)
    (fits-append 6 _ (head s) _ (head-fits s) (fits-append 16 _ (config c) _ (config-fits c sound.card.config)
    (fits-append _ _ (flat_map (line c) s.card.lines) _ lines_few (fits-append _ _ (flat_map counters s.counted) _ counted_few
    (fits-append _ _ (flat_map marks s.waits) _ waits_few (clock-fits s.card s.clock s.changed sound.card sound.changed))))))

pub images_are_octets : ImagesAreOctets
images_are_octets s sound = (image-fits s sound).octets

pub images_fit : ImagesFit
images_fit s sound = (image-fits s sound).few
