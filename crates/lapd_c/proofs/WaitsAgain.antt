-- Links that wait as a card is saved wait once it is restored, and no others.
use Rattle.std.specs.Prelude.{◌/◌, ◌%◌, ◌==◌, if◌then◌else◌, not, None, Some, Ok, Err, Result}
use Rattle.std.specs.List.{AllZip}
use Rattle.std.proofs.Common.{arith, ◌≡◌, ℕ, ◌+◌, ◌*◌, zero, suc, ◌<◌, ◌≤◌, Bool, true, false, List, [], ◌∷◌, length, get_or, refl, sym, ap, ◌∙◌, subst}
use Rattle.std.proofs.lemmas.Bool.{eqb-true, eqb-false, false≢true, le-ltb}
use Rattle.std.proofs.lemmas.List.FromFn.{get_or-map-range_with_len}
use Rattle.lapd_frame.specs.declared.refusals.Refusal.{Refusal}
use Rattle.lapd_frame.specs.declared.refusals.Refusal.TheVariants.{BadTei, NoLink}
use Rattle.lapd_frame.specs.declared.services.Service.{Service}
use Rattle.lapd_frame.specs.declared.services.Service.TheVariants.{Call, Packet}
use Rattle.model_teis.proofs.Tables.{at-is_on, at-within}
use Rattle.model_card.specs.Card.{Card, line_at}
use Rattle.model_card.specs.Room.{free, room}
use Rattle.model_card.specs.Sound.{IsSound}
use Rattle.model_card.proofs.Steps.{has_lines, line_sound}
use Rattle.model_image.specs.Same.{IsSame}
use Rattle.model_line.specs.Same.{IsSameLine}
use Rattle.model_image.specs.Images.{Saved}
use Rattle.model_line.specs.Line.{fresh_line, has_tei, link_number, link_of, place_at, tei_at, terms}
use Rattle.model_line.specs.Room.{unless}
use Rattle.model_link.specs.Room.{room_of}
use Rattle.model_link.specs.declared.rooms.Room.{Room}
use Rattle.lapd_c.specs.declared.link_marks.LinkMarks.{LinkMarks}
use Rattle.lapd_c.specs.LinkMarks.{is_marked, marks_of}
use Rattle.lapd_c.specs.LinkPlaces.{service_at}
use Rattle.lapd_c.specs.Waiting.{card_waits, is_waiting, waits_at, waits_of_line}
use Rattle.lapd_c.specs.Waits.{Waits}
use Rattle.lapd_c.proofs.Halves.{even, odd}

-- ---- a link by its place

abbrev place : Service → ℕ → ℕ
place Call tei = 2 * tei
place Packet tei = 2 * tei + 1

place_is : (n : ℕ) → n ≡ place (service_at n) (n / 2)
place_is n = (elim (n % 2 == 0) as (λ b. (n % 2 == 0) ≡ b → n ≡ place (if b then Call else Packet) (n / 2)) [
  | true ↦ λ is. let none : n % 2 ≡ 0 = eqb-true (n % 2) 0 is in omega (arith, none)
  | false ↦ λ is. let some = eqb-false (n % 2) 0 is in omega (arith, some)
]) refl

marked_of : (all : List LinkMarks) (line tei : ℕ) (service : Service) → Waits all line service tei → is_marked (marks_of all line) (place service tei) ≡ true
marked_of all line tei service w =
    subst (λ n. is_marked (marks_of all line) n ≡ true) (place_is w.place ∙ (λ i. place (w.of_service i) (w.of_tei i))) w.marked

few_of : (all : List LinkMarks) (line tei : ℕ) (service : Service) → Waits all line service tei → tei ≤ 126
few_of all line tei service w = let is : w.place / 2 ≡ tei = w.of_tei in omega (arith, w.within, is)

waits_of : (all : List LinkMarks) (line tei : ℕ) (service : Service) → tei ≤ 126 → is_marked (marks_of all line) (place service tei) ≡ true → Waits all line service tei
waits_of all line tei Call few is = record {
  place = 2 * tei;
  within = omega (arith, few);
  of_service = ap (λ n. if n == 0 then Call else Packet) (even tei).0;
  of_tei = (even tei).1;
  marked = is;
}
waits_of all line tei Packet few is = record {
  place = 2 * tei + 1;
  within = omega (arith, few);
  of_service = ap (λ n. if n == 0 then Call else Packet) (odd tei).0;
  of_tei = (odd tei).1;
  marked = is;
}

-- ---- its room

abbrev room_if : Card → ℕ → ℕ → Service → Bool → Bool → Result Room Refusal
room_if m line tei service bad on =
    unless (if bad then Some BadTei else if not on then Some NoLink else None) (room_of (terms m.config service tei) (free m) (link_of service tei (line_at line m)))

room_there : (m : Card) (line tei : ℕ) (service : Service) → tei ≤ 126 → has_tei tei (line_at line m) ≡ true → (left : Room) × (room line service tei m ≡ Ok left)
room_there m line tei service few on =
    (room_of (terms m.config service tei) (free m) (link_of service tei (line_at line m)), λ i. room_if m line tei service (le-ltb 126 tei few i) (on i))

abbrev has_room : Result Room Refusal → Bool
has_room (Ok left) = true
has_room (Err why) = false

is_there : (m : Card) (line tei : ℕ) (service : Service) (left : Room) → tei ≤ 126 → room line service tei m ≡ Ok left → has_tei tei (line_at line m) ≡ true
is_there m line tei service left few is =
    go (has_tei tei (line_at line m)) (ap (λ bad. room_if m line tei service bad (has_tei tei (line_at line m))) (sym (le-ltb 126 tei few)) ∙ is)
  where
    go : (on : Bool) → room_if m line tei service false on ≡ Ok left → on ≡ true
    go true is = refl
    go false is = absurd (false≢true (ap has_room is))

-- ---- what is saved of it

module _ (m : Card) (sound : IsSound m) (all : List LinkMarks) (line : ℕ) (within : line < m.config.lines) where
  by_number : (at tei number odd n : ℕ) → at < m.config.terminals → tei_at at (line_at line m) ≡ Some tei → number ≡ 2 * at + odd → odd < 2 → n ≡ 2 * tei + odd
      → get_or (get_or (card_waits m all) line []) number false ≡ is_marked (marks_of all line) n
  by_number at tei number odd n few there is less same =
      let links = marks_of all line in
      let l = line_at line m in
      let place : place_at number ≡ at = omega (arith, is, less) in
      let rest : number % 2 ≡ odd = omega (arith, is, less) in
      ap (λ row. get_or row number false) (get_or-map-range_with_len (waits_of_line m all) 0 m.config.lines line line [] within (omega arith))
      ∙ get_or-map-range_with_len (is_waiting l links) 0 (2 * m.config.terminals) number number false (omega (arith, is, few, less)) (omega arith)
      ∙ (λ i. waits_at links (rest i) (tei_at (place i) l))
      ∙ ap (waits_at links odd) there
      ∙ ap (is_marked links) (sym same)

  saved_of : (at tei : ℕ) (service : Service) → at < m.config.terminals → tei_at at (line_at line m) ≡ Some tei
      → get_or (get_or (card_waits m all) line []) (link_number at service) false ≡ is_marked (marks_of all line) (place service tei)
  saved_of at tei Call few there = by_number at tei (2 * at) 0 (2 * tei) few there (omega arith) (omega arith) (omega arith)
  saved_of at tei Packet few there = by_number at tei (2 * at + 1) 1 (2 * tei + 1) few there (omega arith) (omega arith) (omega arith)

-- ---- from one card to another with the same lines

zip_at : {A B : Type 0} (R : A → B → Type 0) (xs : List A) (ys : List B) (k : ℕ) (d : A) (e : B) → AllZip R xs ys → k < length xs → R (get_or xs k d) (get_or ys k e)
zip_at R [] ys k d e all within = absurd (omega (arith, within))
zip_at R (x ∷ xs) [] k d e all within = absurd all
zip_at R (x ∷ xs) (y ∷ ys) zero d e all within = all.0
zip_at R (x ∷ xs) (y ∷ ys) (suc k) d e all within = zip_at R xs ys k d e all.1 (omega (arith, within))

module _ (s t : Saved) (its : IsSound s.card) (also : IsSound t.card) (same : IsSame s t) (old new : List LinkMarks) (saved : card_waits s.card old ≡ s.waits)
    (restored : card_waits t.card new ≡ t.waits) (line : ℕ) (within : line < s.card.config.lines) where
  same_line : IsSameLine s.card.config (line_at line s.card) (line_at line t.card)
  same_line = zip_at (IsSameLine s.card.config) s.card.lines t.card.lines line (fresh_line s.card.config) (fresh_line t.card.config) same.lines (omega (arith, within, its.count))

  there : line < t.card.config.lines
  there = subst (λ c. line < c.lines) same.config within

  same_mark : (tei : ℕ) (service : Service) → has_tei tei (line_at line s.card) ≡ true → is_marked (marks_of old line) (place service tei) ≡ is_marked (marks_of new line) (place service tei)
  same_mark tei service on =
      let l = line_at line s.card in
      let found = at-is_on l.management.places tei on in
      let few : found.0 < s.card.config.terminals = omega (arith, at-within l.management.places found.0 tei found.1, (line_sound s.card line (has_lines s.card its) within).places) in
      sym (saved_of s.card its old line within found.0 tei service few found.1)
      ∙ (λ i. get_or (get_or ((saved ∙ same.waits ∙ sym restored) i) line []) (link_number found.0 service) false)
      ∙ saved_of t.card also new line there found.0 tei service (subst (λ c. found.0 < c.terminals) same.config few) (ap (λ m. get_or m.places found.0 None) (sym same_line.management) ∙ found.1)

  pub still_waits : (tei : ℕ) (service : Service) (left : Room) → Waits old line service tei → room line service tei s.card ≡ Ok left → Waits new line service tei
  still_waits tei service left w is =
      let few = few_of old line tei service w in
      let on = is_there s.card line tei service left few is in
      waits_of new line tei service few (sym (same_mark tei service on) ∙ marked_of old line tei service w)

  pub waited : (tei : ℕ) (service : Service) (left : Room) → Waits new line service tei → room line service tei t.card ≡ Ok left
      → Waits old line service tei × ((left : Room) × (room line service tei s.card ≡ Ok left))
  waited tei service left w is =
      let few = few_of new line tei service w in
      let on = ap (λ m. has_tei tei (record (line_at line s.card) { management = m })) same_line.management ∙ is_there t.card line tei service left few is in
      (waits_of old line tei service few (same_mark tei service on ∙ marked_of new line tei service w), room_there s.card line tei service few on)
