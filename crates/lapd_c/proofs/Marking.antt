-- Which links wait: by their numbers, as an image has them, and by their TEIs, as a card in C does.
use Rattle.std.proofs.Common.{arith, inl, inr, ◌≡◌, ℕ, ◌+◌, ◌-◌, ◌*◌, ◌/◌, ◌%◌, ◌^◌, zero, suc, replicate, ◌<◌, ◌≤◌, Bool, true, false, List, [], ◌∷◌, ◌++◌, length, map, take, set, get_or, refl, sym, ap, ◌∙◌, subst}
use Rattle.std.specs.List.{range_with_len}
use Rattle.std.specs.Prelude.{Option, Some, None}
use Rattle.std.proofs.Math.Nat.{pow-succ'}
use Rattle.std.proofs.lemmas.Bool.{cases_lt}
use Rattle.std.proofs.lemmas.List.{get_or_past, get_or-set_other, get_or-set_same, map-append, take_more, take_more_set}
use Rattle.std.proofs.lemmas.List.FromFn.{map-range_with_len_more}
use Rattle.std.proofs.lemmas.Nat.Bits.{bit_at-zero}
use Rattle.core.specs.Int.{from_bool}
use Rattle.model_bits.specs.Bits.{bit_value, number_of}
use Rattle.model_card.specs.Card.{Card, line_at}
use Rattle.model_teis.proofs.Tables.{place_of-is}
use Rattle.model_card.specs.Reached.{IsReached}
use Rattle.model_card.proofs.Reaching.{reached-sound}
use Rattle.model_card.proofs.Steps.{has_lines, line_sound}
use Rattle.model_line.proofs.Ranges.{ranges_of}
use Rattle.model_line.specs.Line.{Line, link_count, place_at, place_in, tei_at}
use Rattle.model_line.specs.Sound.{IsSound}
use Rattle.model_line.specs.declared.config.Config.{Config}
use Rattle.lapd_c.specs.declared.link_marks.LinkMarks.{LinkMarks}
use Rattle.lapd_c.specs.LinkMarks.{is_marked, marks_of, AreMarked, SetsLink}
use Rattle.lapd_c.specs.Waiting.{is_waiting, line_waits, waits_at, waits_by, waits_of_line}
use Rattle.lapd_c.proofs.Numbered.{number_of-first, number_of-next, number_of-none}

-- ---- a line's links by their numbers

-- There is no TEI behind the last place, so no link waits there.
module _ (c : Config) (l : Line) (s : IsSound c l) where
  none_waits : (links : LinkMarks) (number : ℕ) → link_count c ≤ number → is_waiting l links number ≡ false
  none_waits links number past = ap (waits_at links (number % 2)) (get_or_past l.management.places (number / 2) None (omega (arith, past, s.places)))

  -- All that a line can have are no more than those that it has.
  pub all_numbers : (links : LinkMarks) → c.terminals ≤ 8 → number_of (map (is_waiting l links) (range_with_len 0 16)) ≡ number_of (line_waits c l links)
  all_numbers links few =
      let all : 16 ≡ link_count c + (16 - link_count c) = omega (arith, few) in
      ap (λ n. number_of (map (is_waiting l links) (range_with_len 0 n))) all
      ∙ number_of-first (is_waiting l links) (link_count c) (16 - link_count c) (λ k from to. none_waits links k from)

-- One more link of a line is numbered, from the last one on.
pub bit_told : (b : Bool) (n : ℕ) → n ≡ from_bool b → n ≡ bit_value b
bit_told true n is = is
bit_told false n is = is

pub next_numbered : (f : ℕ → Bool) (behind waits bit k : ℕ) → k + behind ≡ 15 → waits ≡ number_of (map f (range_with_len (16 - behind) behind)) → bit ≡ bit_value (f k)
    → 2 * waits + bit ≡ number_of (map f (range_with_len (16 - (behind + 1)) (behind + 1)))
next_numbered f behind waits bit k place numbers is =
    let from : 16 - behind ≡ k + 1 = omega (arith, place) in
    let here : k ≡ 16 - (behind + 1) = omega (arith, place) in
    let all : suc behind ≡ behind + 1 = omega arith in
    let flip : 2 * waits + bit ≡ bit + 2 * waits = omega arith in
    flip ∙ ap (λ n. n + 2 * waits) is
    ∙ number_of-next f k behind waits (numbers ∙ ap (λ n. number_of (map f (range_with_len n behind))) from)
    ∙ (λ i. number_of (map f (range_with_len (here i) (all i))))

pub next_small : (b : Bool) (waits bit behind : ℕ) → waits < 2 ^ behind → bit ≡ bit_value b → 2 * waits + bit < 2 ^ (behind + 1)
next_small b waits bit behind small is =
    let more : 2 ^ (behind + 1) ≡ 2 * 2 ^ behind = ap (λ n. 2 ^ n) (omega arith) ∙ pow-succ' 2 behind in
    omega (arith, small, more, is, at_most b)
  where
    at_most : (b : Bool) → bit_value b ≤ 1
    at_most true = omega arith
    at_most false = omega arith

-- Where none is marked, none waits.
unmarked_waits : (links : LinkMarks) (odd : ℕ) (tei : Option ℕ) → ((place : ℕ) → is_marked links place ≡ false) → waits_at links odd tei ≡ false
unmarked_waits links odd None none = refl
unmarked_waits links odd (Some tei) none = none (2 * tei + odd)

unmarked_line : (c : Config) (l : Line) (links : LinkMarks) → ((place : ℕ) → is_marked links place ≡ false) → number_of (line_waits c l links) ≡ 0
unmarked_line c l links none =
    number_of-none (is_waiting l links) 0 (link_count c) (λ k from to. unmarked_waits links (k % 2) (tei_at (place_at k) l) none)

unmarked_behind : (all : List LinkMarks) (line : ℕ) → length all ≤ line → (place : ℕ) → is_marked (marks_of all line) place ≡ false
unmarked_behind all line behind place = grind (arith, get_or_past, bit_at-zero)

-- ---- line by line

-- Those of the lines so far stand in front of zeros.
pub record NumbersSoFar (m : Card) (all : List LinkMarks) (waits : List ℕ) (line : ℕ) : Type 0 where
  pub numbers : map number_of (map (waits_of_line m all) (range_with_len 0 line)) ≡ take line waits

abbrev pub AreZeros : List ℕ → ℕ → Type 0
AreZeros waits line = (k : ℕ) → line ≤ k → get_or waits k 0 ≡ 0

pub all_zeros : (n k : ℕ) → get_or (replicate n zero) k zero ≡ zero
all_zeros zero k = get_or_past [] k zero (omega arith)
all_zeros (suc n) zero = refl
all_zeros (suc n) (suc k) = all_zeros n k

more_numbers : (m : Card) (all : List LinkMarks) (line : ℕ)
    → map number_of (map (waits_of_line m all) (range_with_len 0 (line + 1)))
    ≡ map number_of (map (waits_of_line m all) (range_with_len 0 line)) ++ number_of (waits_of_line m all line) ∷ []
more_numbers m all line =
    ap (map number_of) (map-range_with_len_more (waits_of_line m all) 0 line line (omega arith))
    ∙ map-append number_of (map (waits_of_line m all) (range_with_len 0 line)) (waits_of_line m all line ∷ [])

-- One line more is numbered,
pub one_numbered : (m : Card) (all : List LinkMarks) (waits : List ℕ) (line number : ℕ) → line < length waits
    → number ≡ number_of (waits_of_line m all line) → NumbersSoFar m all waits line → NumbersSoFar m all (set waits line number) (line + 1)
one_numbered m all waits line number within is so = record {
  numbers = more_numbers m all line ∙ (λ i. so.numbers i ++ sym is i ∷ []) ∙ sym (take_more_set waits line number within);
}

-- or it is none of those that have marks.
pub none_numbered : (m : Card) (all : List LinkMarks) (waits : List ℕ) (line : ℕ) → line < length waits → length all ≤ line → AreZeros waits line
    → NumbersSoFar m all waits line → NumbersSoFar m all waits (line + 1)
none_numbered m all waits line within behind zeros so = record {
  numbers = more_numbers m all line
      ∙ (λ i. so.numbers i ++ (unmarked_line m.config (line_at line m) (marks_of all line) (unmarked_behind all line behind) ∙ sym (zeros line (omega arith))) i ∷ [])
      ∙ sym (take_more waits line 0 within);
}

pub zeros_behind : (waits : List ℕ) (line number : ℕ) → AreZeros waits line → AreZeros (set waits line number) (line + 1)
zeros_behind waits line number zeros k past = get_or-set_other waits line k number 0 (λ e. omega (arith, past, e)) ∙ zeros k (omega (arith, past))

pub zeros_on : (waits : List ℕ) (line : ℕ) → AreZeros waits line → AreZeros waits (line + 1)
zeros_on waits line zeros k past = zeros k (omega (arith, past))

-- ---- and back, by TEIs

-- The links so far are marked as their bits say.
abbrev pub MarkedSoFar : Line → ℕ → LinkMarks → ℕ → Type 0
MarkedSoFar l waits links place = (p : ℕ) → p < place → is_marked links p ≡ waits_by l waits p

pub one_marked : (l : Line) (waits place : ℕ) (marked : Bool) (old new : LinkMarks) → SetsLink place marked old new → marked ≡ waits_by l waits place
    → MarkedSoFar l waits old place → MarkedSoFar l waits new (place + 1)
one_marked l waits place marked old new sets is so p less = elim (cases_lt p place) [
  | inl before ↦ sets.others p (λ e. omega (arith, before, e)) ∙ so p before
  | inr here ↦ let same : place ≡ p = omega (arith, here, less) in subst (λ k. is_marked new k ≡ waits_by l waits k) same (sets.here ∙ is)
]

-- No TEI is at more than the eighth place.
pub few_places : (m : Card) (line tei at : ℕ) → IsReached m → line < m.config.lines → place_in (line_at line m) tei ≡ Some at → at < 8
few_places m line tei at reached within is =
    let sound = reached-sound m reached in
    let l = line_sound m line (has_lines m sound) within in
    omega (arith, (place_of-is (line_at line m).management.places tei at is).0, l.places, (ranges_of m.config sound.config).terminals.most)

-- Lines so far are marked so.
abbrev pub LinesMarked : Card → List ℕ → List LinkMarks → ℕ → Type 0
LinesMarked m waits all line = (k : ℕ) → k < line → AreMarked (marks_of all k) (waits_by (line_at k m) (get_or waits k 0))

pub line_marked : (m : Card) (waits : List ℕ) (all : List LinkMarks) (line number : ℕ) (links : LinkMarks) → line < length all → number ≡ get_or waits line 0
    → AreMarked links (waits_by (line_at line m) number) → LinesMarked m waits all line → LinesMarked m waits (set all line links) (line + 1)
line_marked m waits all line number links within is marked so k less = elim (cases_lt k line) [
  | inl before ↦ subst (λ (ls : LinkMarks). AreMarked ls (waits_by (line_at k m) (get_or waits k 0)))
      (sym (get_or-set_other all line k links (record { words = [] }) (λ e. omega (arith, before, e)))) (so k before)
  | inr here ↦
      let same : line ≡ k = omega (arith, here, less) in
      subst (λ n. AreMarked (marks_of (set all line links) n) (waits_by (line_at n m) (get_or waits n 0))) same
      (subst (λ (ls : LinkMarks). AreMarked ls (waits_by (line_at line m) (get_or waits line 0))) (sym (get_or-set_same all line links (record { words = [] }) within))
      (subst (λ n. AreMarked links (waits_by (line_at line m) n)) is marked))
]
