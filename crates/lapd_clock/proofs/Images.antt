-- The timers of a clock, as its image has them.
use Rattle.lapd_clock.proofs.Vocabulary.{◌≡◌, ℕ, zero, suc, ◌+◌, ◌-◌, ◌*◌, ◌/◌, ◌<◌, ◌≤◌, true, false, cond, List, [], ◌∷◌, ◌++◌, length, map, filter, take, drop, get_or, get_or-drop, append-nil, append_assoc, refl, sym, ap, ◌∙◌, arith, Expiry, Held, on_line}
use Rattle.std.specs.Prelude.{flat_map}
use Rattle.std.proofs.Common.{length-append, length-take}
use Rattle.std.proofs.lemmas.Grind.{flat_map-append}
use Rattle.std.proofs.Math.Nat.{mul-le-mul_right, suc-mul}
use Rattle.std.proofs.Math.Seq.{take-add}
use Rattle.std.proofs.lemmas.List.{get_or-take, length-drop, take_all}
use Rattle.std.proofs.lemmas.List.Elements.{filter-append}
use Rattle.lapd_image.specs.Numbers.{list_of}
use Rattle.lapd_clock.specs.Image.{from_lists, timer}
use Rattle.lapd_clock.specs.Kept.{held_in, held_of, held_by_lines, held_on, places_from, timer_at}
use Rattle.lapd_clock.specs.OwnPlaces.{at, is_running, nothing}
use Rattle.lapd_clock.proofs.Bounds.{before_end, its-line}

-- What the places have in an image, one after the other, is what their timers have.
pub timers-at : (es : List Expiry) → flat_map timer_at es ≡ flat_map timer (held_in es)
timers-at [] = refl
timers-at (e ∷ es) =
    (elim (is_running e) as (λ b. cond b (timer (held_of e)) [] ++ flat_map timer_at es ≡ flat_map timer (map held_of (cond b (e ∷ filter is_running es) (filter is_running es)))) [
      | true ↦ ap (λ octets. timer (held_of e) ++ octets) (timers-at es)
      | false ↦ timers-at es
    ])

-- The lines, one by one.
pub length-lists : (places n : ℕ) (es : List Expiry) → length (held_by_lines places n es) ≡ n
length-lists places zero es = refl
length-lists places (suc n) es = length-append (held_by_lines places n es) (held_on places n es ∷ []) ∙ omega (arith, length-lists places n es)

pub one-list-more : (places n : ℕ) (es : List Expiry) → flat_map (list_of timer) (held_by_lines places n es) ++ list_of timer (held_on places n es) ≡ flat_map (list_of timer) (held_by_lines places (suc n) es)
one-list-more places n es =
    ap (λ octets. flat_map (list_of timer) (held_by_lines places n es) ++ octets) (sym (append-nil (list_of timer (held_on places n es))))
    ∙ sym (flat_map-append (list_of timer) (held_by_lines places n es) (held_on places n es ∷ []))

from_lists-more : (line : ℕ) (xs : List (List Held)) (hs : List Held) → from_lists line (xs ++ hs ∷ []) ≡ from_lists line xs ++ on_line (line + length xs) hs
unfolding from_lists
from_lists-more line [] hs = append-nil (on_line line hs) ∙ ap (λ n. on_line n hs) (omega arith)
from_lists-more line (x ∷ xs) hs =
    ap (λ es. on_line line x ++ es) (from_lists-more (line + 1) xs hs)
    ∙ sym (append_assoc (on_line line x) (from_lists (line + 1) xs) (on_line (line + 1 + length xs) hs))
    ∙ ap (λ n. (on_line line x ++ from_lists (line + 1) xs) ++ on_line n hs) (omega arith)

-- What runs at places of a line.
of-line : (line : ℕ) (es : List Expiry) → ((i : ℕ) → i < length es → (at i es).line ≡ line) → on_line line (held_in es) ≡ filter is_running es
unfolding on_line
of-line line [] own = refl
of-line line (e ∷ es) own =
    let rest = of-line line es (λ i less. own (suc i) (omega (arith, less))) in
    (elim (is_running e) as (λ b. on_line line (map held_of (cond b (e ∷ filter is_running es) (filter is_running es))) ≡ cond b (e ∷ filter is_running es) (filter is_running es)) [
      | true ↦ (λ i. record { moment = e.moment; line = sym (own 0 (omega arith)) i; timer = e.timer } ∷ rest i)
      | false ↦ rest
    ])

module _ (lines places : ℕ) (es : List Expiry) (size : length es ≡ lines * places) (of_line : (i : ℕ) → i < length es → (at i es).line ≡ i / places) where
  to-end : (n : ℕ) → n < lines → 1 ≤ places → n * places + places ≤ length es
  to-end n there some = omega (arith, size, before_end n lines places (places - 1) there (omega (arith, some)), some)

  own : (n : ℕ) → n < lines → 1 ≤ places → (i : ℕ) → i < length (places_from (n * places) places es) → (at i (places_from (n * places) places es)).line ≡ n
  own n there some i within =
      let less : i < places = omega (arith, within, length-take places (drop (n * places) es)) in
      ap (λ (e : Expiry). e.line) (get_or-take places (drop (n * places) es) i nothing less ∙ get_or-drop (n * places) es i nothing)
      ∙ of_line (n * places + i) (omega (arith, less, to-end n there some))
      ∙ its-line places n (n * places + i) (record { low = omega arith; high = omega (arith, less) })

  pub running-lists : (n : ℕ) → n ≤ lines → 1 ≤ places → from_lists 0 (held_by_lines places n es) ≡ filter is_running (take (n * places) es)
  unfolding from_lists
  running-lists zero few some = let none : 0 ≡ 0 * places = omega arith in ap (λ n. filter is_running (take n es)) none
  running-lists (suc n) few some =
      let before = take (n * places) es in
      let its = places_from (n * places) places es in
      let count : 0 + length (held_by_lines places n es) ≡ n = omega (arith, length-lists places n es) in
      from_lists-more 0 (held_by_lines places n es) (held_on places n es)
      ∙ (λ i. running-lists n (omega (arith, few)) some i ++ on_line (count i) (held_on places n es))
      ∙ ap (λ xs. filter is_running before ++ xs) (of-line n its (own n (omega (arith, few)) some))
      ∙ sym (filter-append is_running before its)
      ∙ ap (filter is_running) (joined n)
    where
      joined : (n : ℕ) → take (n * places) es ++ take places (drop (n * places) es) ≡ take (suc n * places) es
      joined n = sym (take-add (n * places) places es) ∙ ap (λ k. take k es) (sym (suc-mul n places))

  -- so all lines together are all places
  pub all-run : 1 ≤ places → from_lists 0 (held_by_lines places lines es) ≡ filter is_running es
  all-run some = running-lists lines (omega arith) some ∙ ap (filter is_running) (take_all (lines * places) es (omega (arith, size)))

-- ---- at an offset from where the places of a line begin

pub at-offset : (begin places offset : ℕ) (es : List Expiry) → offset < places → get_or (places_from begin places es) offset nothing ≡ at (begin + offset) es
at-offset begin places offset es less = get_or-take places (drop begin es) offset nothing less ∙ get_or-drop begin es offset nothing

pub so-many : (begin places : ℕ) (es : List Expiry) → begin + places ≤ length es → length (places_from begin places es) ≡ places
so-many begin places es there = length-take places (drop begin es) ∙ omega (arith, length-drop begin es, there)

pub fits : (line lines d : ℕ) → line < lines → line * d + d ≤ lines * d
fits line lines d there = let whole : suc line * d ≤ lines * d = mul-le-mul_right d there in let one_more : suc line * d ≡ line * d + d = suc-mul line d in omega (arith, whole, one_more)
