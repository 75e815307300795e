-- What a sender's frame is heard as, and what a line of items is.
use Rattle.model_bits.proofs.Vocabulary.{◌≡◌, ℕ, ◌+◌, ◌-◌, ◌/◌, ◌%◌, ◌^◌, ◌<◌, Bool, true, false, not, ◌&&◌, List, [], ◌∷◌, ◌++◌, length, take, Some, None, cond, nat_eq, nat_lt, slice_index, flat_map, refl, ap, sym, ◌∙◌, subst, arith, ⊎_elim, append_assoc, length-append, take_at, get_or_append_left, le-ltb, ne_eqb, eq-eqb, or_from, and_left, and_right, All-append, bits, flag, number_of, stuffed}
use Rattle.model_bits.proofs.Vocabulary.{octets_sent, AreOctets, check, is_good, Event, dropped, is_short, judged, gap_event, room_for, Ragged, Item, idle, frame_text, item_text, frame, IsHeardWhole, AreHeardWhole, frames_of, FramesRoundTrip}
use mathlib.Core.List.{reverse_aux}
use Rattle.model_bits.specs.Stream as stream
use Rattle.model_bits.proofs.BitLemmas.{bits-append, bits-two_octets, low_bits-number_of_n, number_of-lt}
use Rattle.model_bits.proofs.StuffingCounted.{stuffed-counted}
use Rattle.model_bits.proofs.StuffingShape.{NoSix-stuffed}
use Rattle.model_bits.proofs.StuffingOctets.{octets_sent-stuffed}
use Rattle.model_bits.proofs.Division.Unique.{length-check, is_good-check}
use Rattle.model_bits.proofs.RoundTripPlaces.{hears, after_flag, heard_until-onto, hears-append, hears_flag, hears_cut_flag, hears_text, after_text}

-- the two octets of a check
abbrev pub check_octets : List ℕ → List ℕ
check_octets octets =
    let x = number_of (check (bits octets)) in
    x % 256 ∷ x / 256 ∷ []

bits-check_octets : (octets : List ℕ) → bits (check_octets octets) ≡ check (bits octets)
bits-check_octets octets = grind (arith, bits-two_octets, low_bits-number_of_n, length-check)

-- a frame and its check as octets
abbrev pub checked : List ℕ → List ℕ
checked octets = octets ++ check_octets octets

pub bits-checked : (octets : List ℕ) → bits (checked octets) ≡ bits octets ++ check (bits octets)
bits-checked octets = bits-append octets (check_octets octets) ∙ ap (λ l. bits octets ++ l) (bits-check_octets octets)

two_octets : (x : ℕ) → x < 65536 → AreOctets (x % 256 ∷ x / 256 ∷ [])
two_octets x h = grind arith

pub AreOctets-checked : (octets : List ℕ) → AreOctets octets → AreOctets (checked octets)
AreOctets-checked octets h =
    let c = check (bits octets) in
    let below = number_of-lt c in
    let size = length-check (bits octets) in
    let small : number_of c < 65536 = subst (λ n. number_of c < 2 ^ n) size below in
    All-append (λ x. x < 256) octets (check_octets octets) h (two_octets (number_of c) small)

-- Two octets more.
length_with : (octets : List ℕ) (x y : ℕ) → length (octets ++ x ∷ y ∷ []) ≡ length octets + 2
length_with octets x y = length-append octets (x ∷ y ∷ [])

-- a frame that is heard whole is not short with two octets more
not_short_with : (n201 : ℕ) (octets : List ℕ) (x y : ℕ) → IsHeardWhole n201 octets → is_short (octets ++ x ∷ y ∷ []) ≡ false
not_short_with n201 octets x y h =
    let whole = octets ++ x ∷ y ∷ [] in
    let size = length_with octets x y in
    let five = nat_eq (length whole) 5 in
    let other = not (nat_eq (slice_index whole 2 % 4) 3) in
    ⊎_elim
    (λ four.
    or_from (nat_lt (length whole) 5) (five && other) (le-ltb (length whole) 5 (omega arith))
    (and_left five other (ne_eqb (length whole) 5 (λ e. omega arith))))
    (λ three.
    let first : length octets ≡ 3 = three.0 in
    let third : slice_index whole 2 ≡ slice_index octets 2 = get_or_append_left octets (x ∷ y ∷ []) 0 2 (omega arith) in
    or_from (nat_lt (length whole) 5) (five && other) (le-ltb (length whole) 5 (omega arith))
    (and_right five other (ap not (eq-eqb (slice_index whole 2 % 4) 3 (ap (λ n. n % 4) third ∙ three.1)))))
    h.not_short

-- the last of three tests
last_chosen : (s g l : Bool) (a b c d : Event) → s ≡ false → g ≡ true → l ≡ false → cond s a (cond (not g) b (cond l c d)) ≡ d
last_chosen s g l a b c d p q r = rw (p, q, r) refl

-- so it is judged to be a frame, where its check is good
judged_with : (n201 : ℕ) (octets : List ℕ) (x y : ℕ) → IsHeardWhole n201 octets → is_good (bits (octets ++ x ∷ y ∷ [])) ≡ true → judged (room_for n201) (octets ++ x ∷ y ∷ []) ≡ stream.frame octets
judged_with n201 octets x y h good = grind (arith, length_with, nat_lt, le-ltb, last_chosen, not_short_with, take_at)

pub gap_event_sent : (room : ℕ) (text : List Bool) (octets : List ℕ) → octets_sent text ≡ Some octets → gap_event room text ≡ judged room octets
gap_event_sent room text octets e = ap (λ o. elim o [ None ↦ dropped Ragged | Some l ↦ judged room l ]) e

-- what its text is heard as between flags
gap_event_whole : (n201 : ℕ) (octets : List ℕ) → IsHeardWhole n201 octets → gap_event (room_for n201) (frame_text octets) ≡ stream.frame octets
gap_event_whole n201 octets h =
    let x = number_of (check (bits octets)) in
    let sent = ap (λ b. octets_sent (stuffed b)) (sym (bits-checked octets)) ∙ octets_sent-stuffed (checked octets) (AreOctets-checked octets h.octets_are) in
    let good = ap is_good (bits-checked octets) ∙ is_good-check (bits octets) in
    gap_event_sent (room_for n201) (frame_text octets) (checked octets) sent
    ∙ judged_with n201 octets (x % 256) (x / 256) h good

-- some bits have some text
stuffed_some : (b : List Bool) → 0 < length b → 0 < length (stuffed b)
stuffed_some b h = grind (arith, stuffed-counted)

pub some_text : (octets : List ℕ) → 0 < length (frame_text octets)
some_text octets = grind (arith, stuffed_some, length-append, length-check)

-- What an item is heard as, after a flag.
hears_item : (n201 : ℕ) (past : List Bool) (item : Item) (items : List Item) → AreHeardWhole n201 (item ∷ items) → hears (room_for n201) (after_flag past) (item_text item) ≡ frames_of (item ∷ [])
hears_item n201 past idle items h = hears_flag (room_for n201) past
hears_item n201 past (frame octets) items h =
    hears_text (room_for n201) past (frame_text octets) (some_text octets) (NoSix-stuffed (bits octets ++ check (bits octets)))
    ∙ ap (λ e. e ∷ []) (gap_event_whole n201 octets h.0)

-- What items are heard as, after a flag, and a cut flag after them.
pub hears_items : (n201 : ℕ) (past : List Bool) (items : List Item) (more : ℕ) → more < 8 → AreHeardWhole n201 items → hears (room_for n201) (after_flag past) (flat_map item_text items ++ take more flag) ≡ frames_of items
hears_items n201 past [] more h all = hears_cut_flag (room_for n201) past more h
hears_items n201 past (idle ∷ items) more h all = hears_items n201 (after_flag past) items more h all
hears_items n201 past (frame octets ∷ items) more h all =
    let room = room_for n201 in
    let text = frame_text octets ++ flag in
    let rest = flat_map item_text items ++ take more flag in
    ap (hears room (after_flag past)) (append_assoc text (flat_map item_text items) (take more flag))
    ∙ hears-append room text rest (after_flag past)
    ∙ ap (λ l. l ++ hears room (reverse_aux text (after_flag past)) rest) (hears_item n201 past (frame octets) items all)
    ∙ ap (λ p. stream.frame octets ∷ hears room p rest) (after_text (frame_text octets) (after_flag past))
    ∙ ap (λ l. stream.frame octets ∷ l) (hears_items n201 (reverse_aux (frame_text octets) (after_flag past)) items more h all.1)

pub frames_round_trip_lem : FramesRoundTrip
frames_round_trip_lem n201 items octets more h all e = grind (arith, heard_until-onto, hears_items)
