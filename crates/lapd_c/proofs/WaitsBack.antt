-- The links that an image says wait are those that a restored card has marked.
use Rattle.std.proofs.Common.{arith, inl, inr, ◌≡◌, ℕ, ◌+◌, ◌*◌, ◌/◌, ◌%◌, zero, suc, ◌<◌, ◌==◌, Bool, true, false, not, nat_lt, List, [], ◌∷◌, length, map, take, get_or, refl, sym, ap, ◌∙◌, subst}
use Rattle.std.specs.Int.{bit_at}
use Rattle.std.specs.List.{range_with_len, AllZip}
use Rattle.std.specs.Prelude.{if◌then◌else◌, IsSome, Option, Some, None}
use Rattle.std.proofs.lemmas.Bool.{cases_lt, false≢true, le-ltb}
use Rattle.std.proofs.lemmas.List.{get_or_past, get_or-take}
use Rattle.std.proofs.lemmas.List.FromFn.{fill_by_all, get_or-map-range_with_len, length-map-range_with_len}
use Rattle.model_teis.proofs.Tables.{is_on-at, place_of-is}
use Rattle.lapd_timed.proofs.WaitsRead.{bit-of}
use Rattle.model_bits.specs.Bits.{number_of}
use Rattle.model_card.specs.Card.{Card, line_at}
use Rattle.model_card.specs.Room.{free}
use Rattle.model_card.specs.Sound.{IsSound}
use Rattle.model_card.proofs.Steps.{has_lines, line_sound}
use Rattle.model_image.specs.Sound.{AreMarks}
use Rattle.model_line.specs.Line.{Line, fresh_line, has_tei, link_count, link_of, place_at, place_in, tei_at, terms}
use Rattle.model_line.specs.Room.{unless}
use Rattle.model_line.specs.Sound as lines
use Rattle.model_line.specs.declared.config.Config.{Config}
use Rattle.model_line.proofs.Places.{has-place}
use Rattle.model_link.specs.Room.{room_of}
use Rattle.lapd_frame.specs.declared.refusals.Refusal.TheVariants.{BadTei, NoLink}
use Rattle.lapd_frame.specs.declared.services.Service.{Service}
use Rattle.lapd_c.specs.declared.link_marks.LinkMarks.{LinkMarks}
use Rattle.lapd_c.specs.LinkMarks.{is_marked, marks_of, AreMarked}
use Rattle.lapd_c.specs.LinkPlaces as places
use Rattle.lapd_c.specs.Reopened.{is_room, is_there}
use Rattle.lapd_c.specs.Waiting.{bit_of, card_waits, is_waiting, line_waits, waits_at, waits_by, waits_of_line, AreAllMarked}

-- ---- a link

-- It waits by its TEI exactly if the bit of its number says so.
module _ (c : Config) (l : Line) (s : lines.IsSound c l) (row : List Bool) (marks : AreMarks c l row) (links : LinkMarks) (number : ℕ)
    (is : number_of row ≡ number) (marked : AreMarked links (waits_by l number)) where
  link_back : (k : ℕ) (o : Option ℕ) → tei_at (place_at k) l ≡ o → get_or row k false ≡ waits_at links (k % 2) o
  link_back k None off = none (get_or row k false) (λ e. false≢true (subst IsSome off (marks.there k e)))
    where
      none : (b : Bool) → (b ≡ true → ⊥) → b ≡ false
      none true not_so = absurd (not_so refl)
      none false not_so = refl
  link_back k (Some tei) on =
      let few = s.management.table.range (k / 2) tei on in
      let odd : (2 * tei + k % 2) % 2 ≡ k % 2 = omega arith in
      let own : (2 * tei + k % 2) / 2 ≡ tei = omega arith in
      let whole : 2 * (k / 2) + k % 2 ≡ k = omega arith in
      sym (bit-of row k)
      ∙ (λ i. bit_at (is i) (sym whole i) == 1)
      ∙ ap (bit_of number (k % 2)) (sym (has-place l.management.places tei (k / 2) s.management.table on))
      ∙ (λ i. bit_of number (sym odd i) (place_in l (sym own i)))
      ∙ sym (marked (2 * tei + k % 2) (omega (arith, few)))

  row_back : row ≡ line_waits c l links
  row_back = fill_by_all (is_waiting l links) row (link_count c) false marks.each (λ k within. link_back k (tei_at (place_at k) l) refl)

-- ---- line by line

zip_count : {A B : Type 0} (R : A → B → Type 0) (xs : List A) (ys : List B) → AllZip R xs ys → length ys ≡ length xs
zip_count R [] [] all = refl
zip_count R [] (y ∷ ys) all = absurd all
zip_count R (x ∷ xs) [] all = absurd all
zip_count R (x ∷ xs) (y ∷ ys) all = omega (arith, zip_count R xs ys all.1)

zip_at : {A B : Type 0} (R : A → B → Type 0) (xs : List A) (ys : List B) (k : ℕ) (d : A) (e : B) → AllZip R xs ys → k < length xs → R (get_or xs k d) (get_or ys k e)
zip_at R [] ys k d e all within = absurd (omega (arith, within))
zip_at R (x ∷ xs) [] k d e all within = absurd all
zip_at R (x ∷ xs) (y ∷ ys) zero d e all within = all.0
zip_at R (x ∷ xs) (y ∷ ys) (suc k) d e all within = zip_at R xs ys k d e all.1 (omega (arith, within))

number_at : (rows : List (List Bool)) (k : ℕ) → get_or (map number_of rows) k 0 ≡ number_of (get_or rows k [])
number_at [] k = refl
number_at (row ∷ rows) zero = refl
number_at (row ∷ rows) (suc k) = number_at rows k

module _ (m : Card) (s : IsSound m) (saved : List (List Bool)) (waits : List ℕ) (all : List LinkMarks) (rows : AllZip (AreMarks m.config) m.lines saved)
    (numbers : map number_of saved ≡ take m.config.lines waits) (marked : AreAllMarked m waits all) where
  pub waits_back : card_waits m all ≡ saved
  waits_back = sym (fill_by_all (waits_of_line m all) saved m.config.lines [] (zip_count (AreMarks m.config) m.lines saved rows ∙ s.count) (λ k within.
      row_back m.config (line_at k m) (line_sound m k (has_lines m s) within) (get_or saved k [])
      (zip_at (AreMarks m.config) m.lines saved k (fresh_line m.config) [] rows (omega (arith, within, s.count)))
      (marks_of all k) (get_or waits k 0)
      (sym (number_at saved k) ∙ ap (λ (ns : List ℕ). get_or ns k 0) numbers ∙ get_or-take m.config.lines waits k 0 within)
      (marked.links k within)))

-- ---- what is saved of a card's marks

-- A link waits only where there is a TEI.
waits_there : (links : LinkMarks) (odd : ℕ) (o : Option ℕ) → waits_at links odd o ≡ true → IsSome o
waits_there links odd None e = e
waits_there links odd (Some tei) e = refl

line_there : (c : Config) (l : Line) (links : LinkMarks) → AreMarks c l (line_waits c l links)
line_there c l links = record {
  each = length-map-range_with_len (is_waiting l links) 0 (link_count c);
  there = λ number e. elim (cases_lt number (link_count c)) [
    | inl within ↦
        waits_there links (number % 2) (tei_at (place_at number) l)
        (sym (get_or-map-range_with_len (is_waiting l links) 0 (link_count c) number number false within (omega arith)) ∙ e)
    | inr past ↦ absurd (false≢true (sym (get_or_past (line_waits c l links) number false
        (omega (arith, past, length-map-range_with_len (is_waiting l links) 0 (link_count c)))) ∙ e))
  ];
}

zip_range : {A B : Type 0} (R : A → B → Type 0) (xs : List A) (f : ℕ → B) (d : A) (a : ℕ) → ((k : ℕ) → k < length xs → R (get_or xs k d) (f (a + k)))
    → AllZip R xs (map f (range_with_len a (length xs)))
zip_range R [] f d a each = tt
zip_range R (x ∷ xs) f d a each = (
  subst (λ n. R x (f n)) (omega arith) (each 0 (omega arith)),
  zip_range R xs f d (a + 1) (λ k within. subst (λ n. R (get_or xs k d) (f n)) (omega arith) (each (suc k) (omega (arith, within)))),
)

pub held_marks : (m : Card) (all : List LinkMarks) → IsSound m → AllZip (AreMarks m.config) m.lines (card_waits m all)
held_marks m all s =
    subst (λ n. AllZip (AreMarks m.config) m.lines (map (waits_of_line m all) (range_with_len 0 n))) s.count
    (zip_range (AreMarks m.config) m.lines (waits_of_line m all) (fresh_line m.config) 0 (λ k within.
    subst (λ n. AreMarks m.config (line_at k m) (waits_of_line m all n)) (omega arith) (line_there m.config (line_at k m) (marks_of all k))))

-- ---- a link that is marked is there

found : (waits odd : ℕ) (o : Option ℕ) → bit_of waits odd o ≡ true → (place : ℕ) × (o ≡ Some place)
found waits odd None e = absurd (false≢true e)
found waits odd (Some place) e = (place, refl)

-- A link whose TEI is on the line, and is one of a terminal, has a room.
has_room : (m : Card) (l : Line) (service : Service) (tei : ℕ) (bad is_on : Bool) → bad ≡ false → is_on ≡ true
    → is_room (unless (if bad then Some BadTei else if not is_on then Some NoLink else None) (room_of (terms m.config service tei) (free m) (link_of service tei l))) ≡ true
has_room m l service tei true is_on good on = absurd (false≢true (sym good))
has_room m l service tei false true good on = refl
has_room m l service tei false false good on = absurd (false≢true on)

module _ (m : Card) (waits : List ℕ) (all : List LinkMarks) (marked : AreAllMarked m waits all) where
  pub marked_there : (line place : ℕ) → line < m.config.lines → place < 254 → is_marked (marks_of all line) place ≡ true → is_there line m place ≡ true
  marked_there line place within few is =
      let l = line_at line m in
      let tei : ℕ = place / 2 in
      let at = found (get_or waits line 0) (place % 2) (place_in l tei) (sym (marked.links line within place few) ∙ is) in
      let on : has_tei tei l ≡ true = is_on-at l.management.places at.0 tei (place_of-is l.management.places tei at.0 at.1).1 in
      has_room m l (places.service_at place) tei (nat_lt 126 tei) (has_tei tei l) (le-ltb 126 tei (omega (arith, few))) on
