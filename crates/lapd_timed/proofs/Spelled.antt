-- What is written of the timers of a card is what an image has.
use Rattle.std.proofs.Common.{Bool, true, false, cond, map, arith, ◌≡◌, ℕ, zero, suc, ◌+◌, ◌*◌, ◌<◌, List, [], ◌∷◌, ◌++◌, length, take, drop, get_or, refl, sym, ap, ◌∙◌, subst, append_assoc, append-nil, length-take, length-drop}
use Rattle.std.specs.Prelude.{All, Option, None, Some, flat_map, is_some}
use Rattle.std.proofs.lemmas.List.Folds.{flat_map-map}
use Rattle.std.proofs.Math.Nat.{suc-mul}
use Rattle.std.proofs.lemmas.Grind.{flat_map-append}
use Rattle.std.proofs.lemmas.List.Elements.{All-head, All-tail}
use Rattle.lapd_card.specs.Kinds.{kind_of}
use Rattle.lapd_card.specs.declared.kinds.AnyCard.{AnyCard}
use Rattle.lapd_card.specs.declared.kinds.AnyCard.TheVariants.{Octets, Frames}
use Rattle.lapd_count.specs.Image.{counters}
use Rattle.lapd_image.specs.Numbers.{number}
use Rattle.model_bits.specs.Bits.{number_of}
use Rattle.model_card.specs.declared.kinds.CardKind.{CardKind}
use Rattle.model_card.specs.declared.kinds.CardKind.TheVariants as kinds
use Rattle.model_line.specs.ConfigImage.{config}
use Rattle.model_line.specs.Image.{line}
use Rattle.lapd_timed.specs.MomentsImage.{all_moments}
use Rattle.lapd_timed.specs.OfCard.{AreApart}
use Rattle.lapd_timed.proofs.InImage.{card-octets}
use Rattle.lapd_timed.proofs.RunAs.{KnowPlaces, runs-here}
use Rattle.model_teis.proofs.Tables.{place_of-is}
use Rattle.model_card.specs.Card.{Card, line_at}
use Rattle.model_card.specs.Reached.{IsReached}
use Rattle.model_card.proofs.Reaching.{reached-sound}
use Rattle.model_card.proofs.Steps.{has_lines, line_sound}
use Rattle.model_image.specs.Clocks.{clock, lengths, moments}
use Rattle.model_image.specs.Images.{changes, image_of, marks, Saved}
use Rattle.model_line.specs.Line.{place_at}
use Rattle.model_line.proofs.Places.{has-place}
use Rattle.model_line.specs.Sound.{IsSound as IsSoundLine}
use Rattle.model_timed.specs.Clock.{Clock}
use Rattle.model_timed.specs.RunTheSame.{as_they_are}
use Rattle.lapd_timed.specs.Image.{card_part, head_of, is_octets, kind_in, timers_part, AreSaved, MayBeSaved}
use Rattle.lapd_timed.specs.Stands.{AreKept, HeldTimers, IsOn, held}
use Rattle.lapd_timed.specs.declared.card_timers.CardTimers.{CardTimers}
use Rattle.lapd_timed.proofs.Carrying.{apart-now}

-- the places of TEIs on the lines of a card
pub know : (m : Card) (lines terminals : ℕ) → IsReached m → m.config.lines ≡ lines → m.config.terminals ≡ terminals → KnowPlaces m lines terminals
know m lines terminals reached lines_are terminals_are = record {
  in_place = λ line n tei there e. has-place (line_at line m).management.places tei (place_at n) (sound line there).management.table e;
  of_place = λ line tei place there e. let found = place_of-is (line_at line m).management.places tei place e in
      (subst (λ k. place < k) ((sound line there).places ∙ terminals_are) found.0, found.1);
}
  where
    sound : (line : ℕ) → line < lines → IsSoundLine m.config (line_at line m)
    sound line there = line_sound m line (has_lines m (reached-sound m reached)) (subst (λ k. line < k) (sym lines_are) there)

pub apart-on : (m : Card) (lines : ℕ) → IsReached m → m.config.lines ≡ lines → AreApart lines (IsOn m)
apart-on m lines reached lines_are = subst (λ k. AreApart k (IsOn m)) lines_are (apart-now m reached)

pub moments-are : (h : HeldTimers) (m : Card) (c : Clock) → AreKept as_they_are h m c → moments m c ≡ all_moments h.lines h.terminals h.moments
moments-are h m c kept =
    let at = kept.clock_is in
    let apart = apart-on m h.lines kept.reached at.lines in
    card-octets m c h.lines h.terminals h.moments at.running at.places apart at.lines at.terminals
    (λ line there. runs-here m c h.lines h.terminals h.moments at.lines at.running at.places apart (know m h.lines h.terminals kept.reached at.lines at.terminals) line there kept.same)

-- ---- the moments at which states changed

same-members : (xs ys : List ℕ) → length xs ≡ length ys → ((i : ℕ) → i < length xs → get_or xs i 0 ≡ get_or ys i 0) → xs ≡ ys
same-members [] [] size same = refl
same-members [] (y ∷ ys) size same = absurd (omega (arith, size))
same-members (x ∷ xs) [] size same = absurd (omega (arith, size))
same-members (x ∷ xs) (y ∷ ys) size same =
    let first : x ≡ y = same 0 (omega arith) in
    let rest : xs ≡ ys = same-members xs ys (omega (arith, size)) (λ i h. same (suc i) (omega (arith, h))) in
    λ i. first i ∷ rest i

pub get-taken : (n i : ℕ) (xs : List ℕ) → i < n → get_or (take n xs) i 0 ≡ get_or xs i 0
get-taken zero i xs h = absurd (omega (arith, h))
get-taken (suc n) i [] h = refl
get-taken (suc n) zero (x ∷ xs) h = refl
get-taken (suc n) (suc i) (x ∷ xs) h = get-taken n i xs (omega (arith, h))

pub get-dropped : (n i : ℕ) (xs : List ℕ) → get_or (drop n xs) i 0 ≡ get_or xs (n + i) 0
get-dropped zero i xs = ap (λ (k : ℕ). get_or xs k 0) (omega arith)
get-dropped (suc n) i [] = refl
get-dropped (suc n) i (x ∷ xs) = let more : suc n + i ≡ suc (n + i) = omega arith in get-dropped n i xs ∙ ap (λ (k : ℕ). get_or (x ∷ xs) k 0) (sym more)

take-drop : (n : ℕ) (xs : List ℕ) → xs ≡ take n xs ++ drop n xs
take-drop zero xs = refl
take-drop (suc n) [] = refl
take-drop (suc n) (x ∷ xs) = ap (λ ys. x ∷ ys) (take-drop n xs)

-- row by row they are one list
pub rows-octets : (links : ℕ) (rows : List (List ℕ)) (ms : List ℕ) → All (λ row. length row ≡ links) rows → length ms ≡ length rows * links
    → ((line number : ℕ) → line < length rows → number < links → get_or ms (line * links + number) 0 ≡ get_or (get_or rows line []) number 0) → flat_map changes rows ≡ changes ms
rows-octets links [] [] each size same = refl
rows-octets links [] (m ∷ ms) each size same = absurd (omega (arith, size))
rows-octets links (row ∷ rows) ms each size same =
    let long : suc (length rows) * links ≡ length rows * links + links = suc-mul (length rows) links in
    let own : length row ≡ links = All-head (λ r. length r ≡ links) row rows each in
    let front : row ≡ take links ms = same-members row (take links ms) (omega (arith, own, size, long, length-take links ms)) (λ i h.
    let few : i < links = omega (arith, h, own) in
    let zero-at : 0 * links + i ≡ i = omega arith in
    sym (get-taken links i ms few ∙ ap (λ (k : ℕ). get_or ms k 0) (sym zero-at) ∙ same 0 i (omega arith) few)) in
    let later : flat_map changes rows ≡ changes (drop links ms) = rows-octets links rows (drop links ms) (All-tail (λ r. length r ≡ links) row rows each) (omega (arith, size, long, length-drop links ms)) (λ line n h few.
    let next : suc line * links ≡ line * links + links = suc-mul line links in
    let at : links + (line * links + n) ≡ suc line * links + n = omega (arith, next) in
    get-dropped links (line * links + n) ms ∙ ap (λ (k : ℕ). get_or ms k 0) at ∙ same (suc line) n (omega (arith, h)) few) in
    (λ i. changes (front i) ++ later i) ∙ sym (flat_map-append (number 8) (take links ms) (drop links ms)) ∙ ap changes (sym (take-drop links ms))

-- ---- all of it

pub timers-spelled : (t : CardTimers) (m : Card) (c : Clock) (changed : List (List ℕ)) → AreSaved t m c changed
    → lengths (held t).lengths ++ (number 8 t.moment ++ (all_moments t.lines t.terminals t.moments ++ changes t.changes.moments)) ≡ timers_part m c changed
timers-spelled t m c changed saved =
    let at = saved.stand.clock_is in
    let noted = saved.noted in
    let running : all_moments t.lines t.terminals t.moments ≡ moments m c = sym (moments-are (held t) m c saved.stand) in
    let links : (2 * m.config.terminals) ≡ 2 * t.terminals = noted.terminals_are in
    let rows : All (λ row. length row ≡ 2 * t.terminals) changed = subst (λ k. All (λ row. length row ≡ k) changed) links saved.rows.links in
    let count : length changed ≡ t.lines = saved.rows.lines ∙ noted.lines_are in
    let size : length t.changes.moments ≡ length changed * (2 * t.terminals) = noted.as_many ∙ noted.count ∙ ap (λ k. k * (2 * t.terminals)) (sym count) in
    let changes_are : changes t.changes.moments ≡ flat_map changes changed =
    sym (rows-octets (2 * t.terminals) changed t.changes.moments rows size (λ line n there few.
    let held_so = noted.held line n (subst (λ k. line < k) count there) few in
    ap (λ (k : ℕ). get_or t.changes.moments (line * k + n) 0) (sym noted.links_are) ∙ ap (λ mark. mark.moment) held_so)) in
    (λ i. lengths (sym at.lengths i) ++ (number 8 (sym at.now i) ++ (running i ++ changes_are i)))
    ∙ ap (λ octets. lengths c.lengths ++ octets) (sym (append_assoc (number 8 c.now) (moments m c) (flat_map changes changed)))
    ∙ sym (append_assoc (lengths c.lengths) (number 8 c.now ++ moments m c) (flat_map changes changed))

-- ---- a whole image

parts : (a b c d e t : List ℕ) → (a ++ (b ++ ((c ++ d) ++ e))) ++ t ≡ a ++ (b ++ (c ++ (d ++ (e ++ t))))
parts a b c d e t =
    append_assoc a (b ++ ((c ++ d) ++ e)) t
    ∙ ap (λ x. a ++ x) (append_assoc b ((c ++ d) ++ e) t
    ∙ ap (λ x. b ++ x) (append_assoc (c ++ d) e t ∙ append_assoc c d (e ++ t)))

whole : (s : Saved) → card_part s ++ (clock s.card s.clock ++ flat_map changes s.changed) ≡ image_of s
whole s = parts (head_of s.of_octets (is_some s.clock)) (config s.card.config) (flat_map (line s.card.config) s.card.lines) (flat_map counters s.counted) (flat_map marks s.waits) (clock s.card s.clock ++ flat_map changes s.changed)

pub image-timed : (s : Saved) (k : Clock) → s.clock ≡ Some k → card_part s ++ timers_part s.card k s.changed ≡ image_of s
image-timed s k e = ap (λ (o : Option Clock). card_part s ++ (clock s.card o ++ flat_map changes s.changed)) (sym e) ∙ whole s

pub image-untimed : (s : Saved) → s.clock ≡ None → s.changed ≡ [] → card_part s ≡ image_of s
image-untimed s e none =
    sym (append-nil (card_part s)) ∙ (λ i. card_part s ++ (clock s.card (sym e i) ++ flat_map changes (sym none i))) ∙ whole s

-- of which kind it is
pub is-octets : (card : AnyCard) (s : Saved) → kind_of card ≡ kind_in s → is_octets card ≡ s.of_octets
is-octets (Octets card) s e = go s.of_octets e
  where
    go : (b : Bool) → kinds.Octets ≡ cond {A = CardKind} b kinds.Octets kinds.Frames → true ≡ b
    go true h = refl
    go false h = absurd (cc)
is-octets (Frames card) s e = go s.of_octets e
  where
    go : (b : Bool) → kinds.Frames ≡ cond {A = CardKind} b kinds.Octets kinds.Frames → false ≡ b
    go true h = absurd (cc)
    go false h = refl

pub is-timed : (timers : Option CardTimers) (s : Saved) → MayBeSaved timers s.clock s → is_some timers ≡ is_some s.clock
is-timed timers s kept = go timers s.clock kept
  where
    go : (o : Option CardTimers) (k : Option Clock) → MayBeSaved o k s → is_some o ≡ is_some k
    go None None h = refl
    go None (Some k) h = absurd h
    go (Some t) None h = absurd h
    go (Some t) (Some k) h = refl

-- what is saved with timers, and without
pub timed-octets : (t : CardTimers) (s : Saved) → MayBeSaved (Some t) s.clock s → (k : Clock) × (s.clock ≡ Some k) × AreSaved t s.card k s.changed
timed-octets t s kept = go s.clock refl kept
  where
    go : (o : Option Clock) → s.clock ≡ o → MayBeSaved (Some t) o s → (k : Clock) × (s.clock ≡ Some k) × AreSaved t s.card k s.changed
    go None e h = absurd h
    go (Some k) e h = (k, e, h)

pub untimed-octets : (s : Saved) → MayBeSaved None s.clock s → (s.clock ≡ None) × (s.changed ≡ [])
untimed-octets s kept = go s.clock refl kept
  where
    go : (o : Option Clock) → s.clock ≡ o → MayBeSaved None o s → (s.clock ≡ None) × (s.changed ≡ [])
    go None e h = (e, h)
    go (Some k) e h = absurd h

pub marks-spelled : (s : Saved) (waits : List ℕ) (count : ℕ) → s.card.config.lines ≡ count → map number_of s.waits ≡ take s.card.config.lines waits → flat_map (number 2) (take count waits) ≡ flat_map marks s.waits
marks-spelled s waits count many e =
    ap (λ (n : ℕ). flat_map (number 2) (take n waits)) (sym many) ∙ ap (flat_map (number 2)) (sym e) ∙ flat_map-map (number 2) number_of s.waits
