-- Which links of each line wait is read from an image, line by line.
use Rattle.std.proofs.Common.{arith, inl, inr, lit<, ◌≡◌, ℕ, zero, suc, ◌+◌, ◌-◌, ◌*◌, ◌/◌, ◌%◌, ◌^◌, ◌<◌, ◌≤◌, Bool, true, false, List, [], ◌∷◌, ◌++◌, length, map, take, drop, set, get_or, replicate, refl, sym, ap, ◌∙◌, subst, append-nil, append_assoc}
use Rattle.std.specs.Bool.{◌==◌}
use Rattle.std.specs.List.{AllZip}
use Rattle.std.specs.Prelude.{IsSome, None, flat_map}
use Rattle.std.proofs.Math.Nat.{div-div-eq-div-mul, pow-le-pow_right, pow-succ', zero-div}
use Rattle.std.proofs.lemmas.Nat.{div-mul-add}
use Rattle.std.proofs.lemmas.Bool.{cases_lt, eq-eqb, false≢true}
use Rattle.std.proofs.lemmas.Grind.{flat_map-append}
use Rattle.std.proofs.lemmas.List.{drop_more, get_or_past, get_or-set_other, length-set, map-append, take_all, take_more, take_more_set}
use Rattle.lapd_image.specs.Numbers.{number}
use Rattle.lapd_image.specs.Reads.{HasNone}
use Rattle.lapd_image.proofs.Reading.{number-read}
use Rattle.lapd_timed.specs.Image.{is_bit_set, AreWaitsRead}
use Rattle.model_bits.specs.Bits.{bit_value, low_bits, number_of}
use Rattle.model_bits.proofs.BitLemmas.{length-low_bits, number_of-low_bits, number_of-lt}
use Rattle.model_card.specs.Card.{Card, line_at}
use Rattle.model_card.specs.Sound.{IsSound}
use Rattle.model_card.proofs.Steps.{has_lines, line_sound}
use Rattle.model_image.specs.Images.{marks}
use Rattle.model_image.specs.Sound.{AreMarks}
use Rattle.model_line.specs.Line.{Line, fresh_line, link_count, place_at, tei_at}
use Rattle.model_line.specs.declared.config.Config.{Config}
use Rattle.model_line.proofs.Ranges.{ranges_of}

-- ---- bits of a number

above : (b : Bool) (n : ℕ) → (bit_value b + 2 * n) / 2 ≡ n
above true n = omega arith
above false n = omega arith

-- the bits that spell a number
pub bit-of : (bs : List Bool) (k : ℕ) → is_bit_set (number_of bs) k ≡ get_or bs k false
bit-of [] k = ap (λ (n : ℕ). n % 2 == 1) (zero-div (2 ^ k))
bit-of (true ∷ bs) zero = eq-eqb ((1 + 2 * number_of bs) / 1 % 2) 1 (omega arith)
bit-of (false ∷ bs) zero = ap (λ (n : ℕ). n == 1) (even (number_of bs))
  where
    even : (n : ℕ) → (0 + 2 * n) / 1 % 2 ≡ 0
    even n = omega arith
bit-of (b ∷ bs) (suc k) =
    ap (λ (p : ℕ). (bit_value b + 2 * number_of bs) / p % 2 == 1) (pow-succ' 2 k)
    ∙ ap (λ (n : ℕ). n % 2 == 1) (sym (div-div-eq-div-mul (bit_value b + 2 * number_of bs) 2 (2 ^ k)) ∙ ap (λ (n : ℕ). n / 2 ^ k) (above b (number_of bs)))
    ∙ bit-of bs k

-- a number without bits from a place on
pub few-bits : (n top x : ℕ) → n ≤ top → x < 2 ^ top → ((k : ℕ) → n ≤ k → k < top → is_bit_set x k ≡ true → ⊥) → x < 2 ^ n
few-bits n zero x most small none = let same : zero ≡ n = omega (arith, most) in subst (λ (k : ℕ). x < 2 ^ k) same small
few-bits n (suc top) x most small none = elim (cases_lt top n) [
  | inl past ↦ let same : suc top ≡ n = omega (arith, most, past) in subst (λ (k : ℕ). x < 2 ^ k) same small
  | inr within ↦
      let one : x / 2 ^ top % 2 ≡ 1 → ⊥ = λ e. none top within (omega arith) (eq-eqb (x / 2 ^ top % 2) 1 e) in
      few-bits n top x within (below x (2 ^ top) (subst (λ (p : ℕ). x < p) (pow-succ' 2 top) small) one) (λ k least less. none k least (omega (arith, less)))
]
  where
    below : (x p : ℕ) → x < 2 * p → (x / p % 2 ≡ 1 → ⊥) → x < p
    below x p small odd = elim (cases_lt x p) [
      | inl less ↦ less
      | inr past ↦ absurd (odd (ap (λ (n : ℕ). n % 2) (subst (λ (n : ℕ). n / p ≡ 1) (omega (arith, past)) (div-mul-add 1 p (x - p) (omega (arith, small, past))))))
    ]

-- ---- the links of a line

pub record IsRow (c : Config) (l : Line) (links : ℕ) : Type 0 where
  pub marks : AreMarks c l (low_bits (link_count c) links)
  pub number : number_of (low_bits (link_count c) links) ≡ links

module _ (c : Config) (l : Line) (many : length l.management.places ≡ c.terminals) (few : c.terminals ≤ 8) where
  beyond : (k : ℕ) → link_count c ≤ k → IsSome (tei_at (place_at k) l) → ⊥
  beyond k past some = false≢true (subst IsSome (get_or_past l.management.places (k / 2) None (omega (arith, many, past))) some)

  pub row-read : (links : ℕ) → links < 2 ^ 16 → ((k : ℕ) → k < 16 → is_bit_set links k ≡ true → IsSome (tei_at (place_at k) l)) → IsRow c l links
  row-read links small there =
      let row = low_bits (link_count c) links in
      let few_links : links < 2 ^ link_count c = few-bits (link_count c) 16 links (omega (arith, few)) small (λ k least less set. beyond k least (there k less set)) in
      let is : number_of row ≡ links = number_of-low_bits (link_count c) links few_links in
      record {
        marks = record {
          each = length-low_bits (link_count c) links;
          there = λ k set. elim (cases_lt k 16) [
            | inl less ↦ there k less (ap (λ (n : ℕ). is_bit_set n k) (sym is) ∙ bit-of row k ∙ set)
            | inr past ↦ absurd (false≢true (sym (get_or_past row k false (omega (arith, past, few, length-low_bits (link_count c) links))) ∙ set))
          ];
        };
        number = is;
      }

  -- What is marked of the line is marked in the number, which has two octets.
  pub row-meant : (waits : List Bool) → AreMarks c l waits → (k : ℕ) → k < 16 → is_bit_set (number_of waits) k ≡ true → IsSome (tei_at (place_at k) l)
  row-meant waits marked k less set = marked.there k (sym (bit-of waits k) ∙ set)

  pub row-small : (waits : List Bool) → AreMarks c l waits → number_of waits < 256 ^ 2
  row-small waits marked =
      let less = number_of-lt waits in
      let size : length waits ≤ 16 = omega (arith, marked.each, few) in
      let most : 2 ^ length waits ≤ 2 ^ 16 = pow-le-pow_right (lit< tt) size in
      omega (arith, less, most)

-- ---- line by line

zip-push : {A B : Type 0} (R : A → B → Type 0) (xs : List A) (ys : List B) (x : A) (y : B) → AllZip R xs ys → R x y → AllZip R (xs ++ x ∷ []) (ys ++ y ∷ [])
zip-push R [] [] x y all one = (one, tt)
zip-push R [] (w ∷ ys) x y all one = absurd all
zip-push R (v ∷ xs) [] x y all one = absurd all
zip-push R (v ∷ xs) (w ∷ ys) x y all one = (all.0, zip-push R xs ys x y all.1 one)

get_or-zeros : (n k : ℕ) → get_or (replicate n zero) k zero ≡ zero
get_or-zeros zero k = get_or_past [] k zero (omega arith)
get_or-zeros (suc n) zero = refl
get_or-zeros (suc n) (suc k) = get_or-zeros n k

-- Those of the lines in front are read; if those of the others are not there, then no marks of all lines are.
pub record WaitsSoFar (m : Card) (waits front rest : List ℕ) (line : ℕ) : Type 0 where
  pub room : length waits ≡ 64
  pub saved : List (List Bool)
  pub marked : AllZip (AreMarks m.config) (take line m.lines) saved
  pub octets : front ≡ flat_map marks saved ++ rest
  pub numbers : map number_of saved ≡ take line waits
  pub others : (k : ℕ) → line ≤ k → get_or waits k 0 ≡ 0
  pub none : HasNone (flat_map marks) (AllZip (AreMarks m.config) (drop line m.lines)) rest → HasNone (flat_map marks) (AllZip (AreMarks m.config) m.lines) front

pub none_read : (m : Card) (front : List ℕ) → WaitsSoFar m (replicate 64 zero) front front 0
none_read m front = record { room = refl; saved = []; marked = tt; octets = refl; numbers = refl; others = λ k least. get_or-zeros 64 k; none = λ none. none }

module _ {m : Card} {waits front rest : List ℕ} {line : ℕ} (sound : IsSound m) (so : WaitsSoFar m waits front rest line) where
  pub all_read : m.config.lines ≤ line → line ≤ m.config.lines → AreWaitsRead m waits front rest
  all_read all few =
      let last : line ≡ m.config.lines = omega (arith, all, few) in
      record {
        saved = so.saved;
        marks = subst (λ (ls : List Line). AllZip (AreMarks m.config) ls so.saved) (take_all line m.lines (omega (arith, sound.count, all))) so.marked;
        octets = so.octets;
        numbers = so.numbers ∙ ap (λ (n : ℕ). take n waits) last;
        others = λ k least. so.others k (omega (arith, least, few));
      }

  module _ (within : line < m.config.lines) where
    abbrev pub here : Line
    here = line_at line m

    few_places : (length here.management.places ≡ m.config.terminals) × (m.config.terminals ≤ 8)
    few_places = ((line_sound m line (has_lines m sound) within).places, (ranges_of m.config sound.config).terminals.most)

    left : drop line m.lines ≡ here ∷ drop (line + 1) m.lines
    left = drop_more m.lines line (fresh_line m.config) (omega (arith, within, sound.count))

    -- No marks of the others are there, if none of the next line are, or if they are of another number.
    pub no_line : ((waits : List Bool) (more : List ℕ) → AreMarks m.config here waits → rest ≡ marks waits ++ more → ⊥)
        → HasNone (flat_map marks) (AllZip (AreMarks m.config) m.lines) front
    no_line none = so.none (λ all end marked e. go all end (subst (λ (ls : List Line). AllZip (AreMarks m.config) ls all) left marked) e)
      where
        go : (all : List (List Bool)) (end : List ℕ) → AllZip (AreMarks m.config) (here ∷ drop (line + 1) m.lines) all → rest ≡ flat_map marks all ++ end → ⊥
        go [] end marked e = marked
        go (row ∷ all) end marked e = none row (flat_map marks all ++ end) marked.0 (e ∙ append_assoc (marks row) (flat_map marks all) end)

    module _ (next : List ℕ) (links : ℕ) (read : rest ≡ number 2 links ++ next) (small : links < 256 ^ 2) where
      same : (row : List Bool) (more : List ℕ) → AreMarks m.config here row → rest ≡ marks row ++ more → (number_of row ≡ links) × (more ≡ next)
      same row more marked e = number-read 2 (number_of row) links more next (row-small m.config here few_places.0 few_places.1 row marked) small (sym e ∙ read)

      pub other_line : (((k : ℕ) → k < 16 → is_bit_set links k ≡ true → IsSome (tei_at (place_at k) here)) → ⊥)
          → HasNone (flat_map marks) (AllZip (AreMarks m.config) m.lines) front
      other_line not = no_line (λ row more marked e.
          not (subst (λ (n : ℕ). (k : ℕ) → k < 16 → is_bit_set n k ≡ true → IsSome (tei_at (place_at k) here)) (same row more marked e).0
          (row-meant m.config here few_places.0 few_places.1 row marked)))

      pub one_more : ((k : ℕ) → k < 16 → is_bit_set links k ≡ true → IsSome (tei_at (place_at k) here)) → WaitsSoFar m (set waits line links) front next (line + 1)
      one_more there =
          let few = (ranges_of m.config sound.config).lines.most in
          let row = row-read m.config here few_places.0 few_places.1 links small there in
          let bits = low_bits (link_count m.config) links in
          record {
            room = length-set waits line links ∙ so.room;
            saved = so.saved ++ bits ∷ [];
            marked = subst (λ (ls : List Line). AllZip (AreMarks m.config) ls (so.saved ++ bits ∷ [])) (sym (take_more m.lines line (fresh_line m.config) (omega (arith, within, sound.count))))
                (zip-push (AreMarks m.config) (take line m.lines) so.saved here bits so.marked row.marks);
            octets = so.octets ∙ ap (λ (l : List ℕ). flat_map marks so.saved ++ l) (read ∙ ap (λ (n : ℕ). number 2 n ++ next) (sym row.number))
                ∙ sym (append_assoc (flat_map marks so.saved) (marks bits) next)
                ∙ ap (λ (l : List ℕ). l ++ next) (ap (λ (l : List ℕ). flat_map marks so.saved ++ l) (sym (append-nil (marks bits))) ∙ sym (flat_map-append marks so.saved (bits ∷ [])));
            numbers = map-append number_of so.saved (bits ∷ []) ∙ (λ i. so.numbers i ++ row.number i ∷ []) ∙ sym (take_more_set waits line links (omega (arith, within, few, so.room)));
            others = λ k least. get_or-set_other waits line k links 0 (λ e. omega (arith, least, e)) ∙ so.others k (omega (arith, least));
            none = λ none. so.none (λ all end marked e. go none all end (subst (λ (ls : List Line). AllZip (AreMarks m.config) ls all) left marked) e);
          }
        where
          go : HasNone (flat_map marks) (AllZip (AreMarks m.config) (drop (line + 1) m.lines)) next
              → (all : List (List Bool)) (end : List ℕ) → AllZip (AreMarks m.config) (here ∷ drop (line + 1) m.lines) all → rest ≡ flat_map marks all ++ end → ⊥
          go none [] end marked e = marked
          go none (row ∷ all) end marked e = none all end marked.1 (sym (same row (flat_map marks all ++ end) marked.0 (e ∙ append_assoc (marks row) (flat_map marks all) end)).1)
