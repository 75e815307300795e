-- What is heard in the octets that a frame or a fault means.
use Rattle.model_card.proofs.OfPorts.Vocabulary.{octets_sent-stuffed, octets_are_those_sent, gap_event_sent, not, take, inl, inr, cases_lt, eq-eqb, ne_eqb, ◌≡◌, ℕ, zero, suc, ◌+◌, ◌-◌, ◌*◌, ◌/◌, ◌%◌, ◌≤◌, Bool, true, List, [], ◌∷◌}
use Rattle.model_card.proofs.OfPorts.Vocabulary.{◌++◌, length, replicate, reverse, refl, ap, sym, ◌∙◌, arith, length-append, length-replicate, bits, flag, low_bits, check, frame_text, heard_until, heard_in, room_for, AreOctets, bits-append, low_bits-number_of_n, NoSix-stuffed, after_flag, heard_until-onto, hears_text}
use Rattle.model_card.proofs.OfPorts.Vocabulary.{after_text, reverse_aux-append, Fault, IsIdle, line_octets, came, fault_octets, cause_of, AreHeardAs, FramesAreHeard, hears, hears-append, reverse_aux, some_text, append_assoc, ◌<◌, get_or-replicate, Config, Port, after_all, fresh, fresh_port, meant_all, octets_come, port_at, Event as CardEvent, lt-ltb, le-ltb, false}
use Rattle.model_bits.specs.Bits.{octets_of}
use Rattle.model_bits.proofs.StuffingCounted.{NoSix}
use Rattle.std.proofs.Common.{append-nil, drop, length-drop, take-append-drop}
use Rattle.std.proofs.lemmas.List.{length-take-le, take_at}
use Rattle.model_bits.proofs.BitLemmas.{length-bits}
use Rattle.std.proofs.lemmas.Option.{same_Some}
use Rattle.std.specs.Prelude.{◌≢◌, ◌||◌, ◌&&◌, nat_eq, slice_index, cond, nat_lt, option_to_list, option_map, option_and_then, Option, Some, None}
use Rattle.model_bits.specs.Stream.{Event, dropped, ends_flag, since_flag, gap_event, closed_by_flag, given_up, heard_at as heard_bit}
use Rattle.model_line.specs.declared.faults.Fault.TheVariants.{Fcs, Abort, Ragged, Short}
use Rattle.model_card.specs.ports.Codec.{heard_at}
use Rattle.model_card.proofs.OfPorts.Codec.{run_goes_on}
use Rattle.model_bits.specs.Stream as stream
use Rattle.model_bits.specs.Stream.{is_short, judged, text_event}
use Rattle.model_bits.specs.Stuffing.{octets_sent, stuffed}
use Rattle.model_bits.specs.Check.{is_good}
use Rattle.model_bits.specs.declared.heard.Cause.TheVariants as cause
use Rattle.model_card.specs.ports.WholeLaws.{AreBetween, AreEnough, AreFew, HaveNoCheck, IsAborted, IsBetween, IsHeardNow, IsRagged, StandsIn}
use Rattle.model_card.proofs.OfPorts.Aborted.{six_ones, none_yet, hears_abort, given_up_then, seven_then, nothing_after}
use Rattle.model_card.proofs.OfPorts.FramesThere.{checked, frames_there}
use Rattle.model_card.proofs.OfPorts.FramesIdle.{IdleAt, hears_first_flag, idle_again}
use Rattle.model_card.proofs.OfPorts.FramesJudged.{gap_event_came}
use Rattle.model_card.proofs.OfPorts.WholeOctets.{are_whole}

-- ---- octets of bits

bits-octets_of : (k : ℕ) (b : List Bool) → length b ≡ 8 * k → bits (octets_of b) ≡ b
bits-octets_of zero [] e = refl
bits-octets_of zero (x ∷ b) e = absurd (omega (arith, e))
bits-octets_of (suc k) (b1 ∷ b2 ∷ b3 ∷ b4 ∷ b5 ∷ b6 ∷ b7 ∷ b8 ∷ b) e =
    let eight = b1 ∷ b2 ∷ b3 ∷ b4 ∷ b5 ∷ b6 ∷ b7 ∷ b8 ∷ [] in
    ap (λ l. l ++ bits (octets_of b)) (low_bits-number_of_n 8 eight refl)
    ∙ ap (λ l. eight ++ l) (bits-octets_of k b (omega (arith, e)))
bits-octets_of (suc k) short e = absurd (omega (arith, e))

-- a frame between its flags
abbrev framed : List ℕ → List Bool
framed octets = flag ++ (frame_text octets ++ flag)

-- the 1s of an idle line after it fill the last octet, and are seven at least
abbrev filling : ℕ → ℕ
filling n = 14 - (n + 6) % 8

abbrev filled : List Bool → List Bool
filled text = text ++ replicate (filling (length text)) true

filling-fills : (n : ℕ) → n + filling n ≡ 8 * ((n + filling n) / 8)
filling-fills n = omega arith

pub filling-seven : (n : ℕ) → 7 ≤ filling n
filling-seven n = omega arith

pub bits-filled : (text : List Bool) → bits (octets_of (filled text)) ≡ filled text
bits-filled text =
    let n = length text in
    let size = length-append text (replicate (filling n) true) in
    let ones = length-replicate (filling n) true in
    bits-octets_of ((n + filling n) / 8) (filled text) (omega (arith, size, ones, filling-fills n))

-- ---- bits that come to an idle line, beginning with a flag

at_place : (before octets : List ℕ) → reverse (bits (before ++ octets)) ≡ reverse_aux (bits octets) (reverse (bits before))
at_place before octets = ap reverse (bits-append before octets) ∙ reverse_aux-append (bits before) (bits octets) []

after_first_flag : (room : ℕ) (past text : List Bool) (event : Event) → IdleAt past → hears room (after_flag past) text ≡ event ∷ []
    → heard_until room (reverse_aux text (after_flag past)) ≡ heard_until room past ++ event ∷ []
after_first_flag room past text event idle is =
    heard_until-onto room (flag ++ text) past
    ∙ ap (λ l. heard_until room past ++ l)
    (hears-append room flag text past ∙ ap (λ l. l ++ hears room (after_flag past) text) (hears_first_flag room past idle) ∙ is)

IsIdle-IdleAt : (octets : List ℕ) → IsIdle octets → IdleAt (reverse (bits octets))
IsIdle-IdleAt octets h = record { ones = h.ones; no_gap = h.no_gap }

heard_as : (n201 : ℕ) (before octets : List ℕ) (event : Event) (past : List Bool) → reverse (bits (before ++ octets)) ≡ past
    → IdleAt past → heard_until (room_for n201) past ≡ heard_in n201 before ++ event ∷ [] → AreHeardAs n201 before octets event
heard_as n201 before octets event past e idle heard = grind (arith, IdleAt)

-- ---- a frame

frame_heard : (n201 : ℕ) (before octets : List ℕ) → IsIdle before → AreOctets octets → AreHeardAs n201 before (line_octets octets) (came n201 octets)
frame_heard n201 before octets idle are =
    let room = room_for n201 in
    let past = reverse (bits before) in
    let text = frame_text octets in
    let ones = replicate (filling (length (framed octets))) true in
    let closed = reverse_aux text (after_flag past) in
    let heard : hears room (after_flag past) (text ++ flag) ≡ came n201 octets ∷ [] =
    hears_text room past text (some_text octets) (NoSix-stuffed (bits octets ++ check (bits octets)))
    ∙ ap (λ e. e ∷ []) (gap_event_came n201 octets are) in
    let again = idle_again room (filling (length (framed octets))) closed (filling-seven (length (framed octets))) in
    let place : reverse (bits (before ++ line_octets octets)) ≡ reverse_aux ones (after_flag closed) =
    at_place before (line_octets octets)
    ∙ ap (λ b. reverse_aux b past) (bits-filled (framed octets))
    ∙ reverse_aux-append (framed octets) ones past
    ∙ ap (reverse_aux ones) (after_text text (after_flag past)) in
    heard_as n201 before (line_octets octets) (came n201 octets) (reverse_aux ones (after_flag closed)) place again.idle
    (again.heard
    ∙ ap (heard_until room) (sym (after_text text (after_flag past)))
    ∙ after_first_flag room past (text ++ flag) (came n201 octets) (IsIdle-IdleAt before idle) heard)

-- ---- a frame, whatever came before it

by_bits : (n201 : ℕ) (octets : List ℕ) → heard_in n201 octets ≡ hears (room_for n201) [] (bits octets)
by_bits n201 octets = heard_until-onto (room_for n201) (bits octets) []

-- behind a flag fewer than eight bits bring nothing
none_given : (b : Bool) (g : List Bool) → nat_lt 7 (length (b ∷ g)) ≡ false → given_up (b ∷ g) ≡ None
none_given b g short = grind (arith, nat_lt)

none_closed : (room : ℕ) (g : List Bool) → nat_lt (length g) 8 ≡ true → closed_by_flag room g ≡ None
none_closed room g short = grind (arith, nat_lt)

brings_none : (room : ℕ) (b : Bool) (past g : List Bool) → since_flag past ≡ Some g → length g + 1 ≤ 7 → heard_bit room (b ∷ past) ≡ None
brings_none room b past g since few =
    ap (λ o. cond (ends_flag (b ∷ past)) (option_and_then (closed_by_flag room) o) (option_and_then (λ g. given_up (b ∷ g)) o)) since
    ∙ go (ends_flag (b ∷ past))
  where
    go : (ends : Bool) → cond ends (closed_by_flag room g) (given_up (b ∷ g)) ≡ None
    go true = none_closed room g (lt-ltb (length g) 8 (omega (arith, few)))
    go false = none_given b g (le-ltb 7 (length (b ∷ g)) (omega (arith, few)))

since_then : (b : Bool) (past g : List Bool) → since_flag past ≡ Some g → (h : List Bool) × (since_flag (b ∷ past) ≡ Some h) × (length h ≤ length g + 1)
since_then b past g since = go (ends_flag (b ∷ past)) refl
  where
    go : (ends : Bool) → ends_flag (b ∷ past) ≡ ends → (h : List Bool) × (since_flag (b ∷ past) ≡ Some h) × (length h ≤ length g + 1)
    go true e = ([], ap (λ x. cond x (Some []) (option_map (λ g. b ∷ g) (since_flag past))) e, omega arith)
    go false e =
        (b ∷ g, ap (λ x. cond x (Some []) (option_map (λ g. b ∷ g) (since_flag past))) e ∙ ap (option_map (λ g. b ∷ g)) since, omega arith)

quiet : (room : ℕ) (past g rest : List Bool) → since_flag past ≡ Some g → length g + length rest ≤ 7 → hears room past rest ≡ []
quiet room past g [] since few = refl
quiet room past g (b ∷ rest) since few =
    let then = since_then b past g since in
    ap (λ o. option_to_list o ++ hears room (b ∷ past) rest) (brings_none room b past g since (omega (arith, few)))
    ∙ quiet room (b ∷ past) then.0 rest then.1 (omega (arith, few, then.2))

-- the bits of all octets but the last
front_bits : (octets : List ℕ) (a b : List Bool) → bits octets ≡ a ++ b → length b ≡ 8 → bits (take (length octets - 1) octets) ≡ a
front_bits octets a b is eight =
    let k = length octets - 1 in
    let front = take k octets in
    let last = drop k octets in
    let both : bits octets ≡ bits front ++ bits last = ap bits (sym (take-append-drop k octets)) ∙ bits-append front last in
    let size : length (bits octets) ≡ length a + 8 = ap (λ (l : List Bool). length l) is ∙ length-append a b ∙ ap (λ n. length a + n) eight in
    let lengths : length (bits front) ≡ length a = omega (arith, size, length-bits octets, length-bits front, length-take-le k octets (omega arith)) in
    sym (take_at (bits front) (bits last) (length a) lengths) ∙ ap (take (length a)) (sym both ∙ is) ∙ take_at a b (length a) refl

-- so many bits of what begins with nothing heard
none_of_front : (room n : ℕ) (place text : List Bool) → hears room place text ≡ [] → hears room place (take n text) ≡ []
none_of_front room n place text none =
    none_before (hears room place (take n text)) (hears room (reverse_aux (take n text) place) (drop n text))
    (sym (hears-append room (take n text) (drop n text) place) ∙ ap (hears room place) (take-append-drop n text) ∙ none)
  where
    none_before : (a b : List Event) → a ++ b ≡ [] → a ≡ []
    none_before [] b is = refl
    none_before (x ∷ a) b is = absurd (cc is)

-- a front of two lists, one after the other
within_first : (a b : List Bool) (n : ℕ) → n ≤ length a → take n (a ++ b) ≡ take n a
within_first a b zero few = refl
within_first [] b (suc n) few = absurd (omega (arith, few))
within_first (x ∷ a) b (suc n) few = ap (λ l. x ∷ l) (within_first a b n (omega (arith, few)))

past_first : (a b : List Bool) (n : ℕ) → take (length a + n) (a ++ b) ≡ a ++ take n b
past_first [] b n = ap (λ k. take k b) (omega arith)
past_first (x ∷ a) b n =
    let more : suc (length a) + n ≡ suc (length a + n) = omega arith in
    ap (λ k. take k (x ∷ (a ++ b))) more ∙ ap (λ l. x ∷ l) (past_first a b n)

-- What came before the last octet, if in it the eight bits end that a 0 and six 1s begin.
module _ (n201 : ℕ) (octets : List ℕ) (before part after : List Bool) (x : Bool)
    (is : bits octets ≡ before ++ (flag ++ (part ++ ((six_ones ++ x ∷ []) ++ after)))) (late : length after < 8) (few : NoSix 0 part) where
  abbrev tail : List Bool
  tail = six_ones ++ x ∷ []

  abbrev room : ℕ
  room = room_for n201

  abbrev first : List Bool
  first = reverse_aux before []

  abbrev cut : List Bool
  cut = before ++ (flag ++ (part ++ take (length after) tail))

  whole : bits octets ≡ cut ++ (drop (length after) tail ++ after)
  whole =
      let n = length after in
      is ∙ ap (λ t. before ++ (flag ++ (part ++ (t ++ after)))) (sym (take-append-drop n tail))
      ∙ ap (λ t. before ++ (flag ++ (part ++ t))) (append_assoc (take n tail) (drop n tail) after)
      ∙ ap (λ t. before ++ (flag ++ t)) (sym (append_assoc part (take n tail) (drop n tail ++ after)))
      ∙ ap (λ t. before ++ t) (sym (append_assoc flag (part ++ take n tail) (drop n tail ++ after)))
      ∙ sym (append_assoc before (flag ++ (part ++ take n tail)) (drop n tail ++ after))

  front : bits (take (length octets - 1) octets) ≡ cut
  front =
      let n = length after in
      front_bits octets cut (drop n tail ++ after) whole (omega (arith, late, length-drop n tail, length-append (drop n tail) after))

  nothing_then : hears room (after_flag first) (part ++ take (length after) tail) ≡ []
  nothing_then =
      let n = length after in
      let text = part ++ six_ones in
      ap (λ t. hears room (after_flag first) (part ++ t)) (within_first six_ones (x ∷ []) n (omega (arith, late)))
      ∙ ap (hears room (after_flag first)) (sym (past_first part six_ones n))
      ∙ none_of_front room (length part + n) (after_flag first) text (none_yet room first part few)

  pub came_before : heard_in n201 (take (length octets - 1) octets) ≡ hears room [] before ++ hears room first flag
  came_before =
      by_bits n201 (take (length octets - 1) octets) ∙ ap (hears room []) front
      ∙ hears-append room before (flag ++ (part ++ take (length after) tail)) []
      ∙ ap (λ l. hears room [] before ++ l)
      (hears-append room flag (part ++ take (length after) tail) first ∙ ap (λ l. hears room first flag ++ l) nothing_then ∙ append-nil (hears room first flag))

-- what stands between two flags is judged as the second one ends
heard_now : (n201 : ℕ) (octets : List ℕ) (part : List Bool) (event : Event) → 0 < length part → NoSix 0 part → IsBetween (bits octets) part → gap_event (room_for n201) part ≡ event
    → IsHeardNow n201 octets event
heard_now n201 octets part event some few h is =
    let room = room_for n201 in
    let first = reverse_aux h.before [] in
    let place = after_flag first in
    let end = reverse_aux (part ++ flag) place in
    let rest : hears room place (part ++ (flag ++ h.after)) ≡ gap_event room part ∷ hears room end h.after =
    ap (hears room place) (sym (append_assoc part flag h.after)) ∙ hears-append room (part ++ flag) h.after place ∙ ap (λ l. l ++ hears room end h.after) (hears_text room first part some few) in
    let none : hears room end h.after ≡ [] =
    ap (λ p. hears room p h.after) (after_text part place) ∙ quiet room (after_flag (reverse_aux part place)) [] h.after refl (omega (arith, h.late)) in
    by_bits n201 octets ∙ ap (hears room []) h.is
    ∙ hears-append room h.before (flag ++ (part ++ (flag ++ h.after))) []
    ∙ ap (λ l. hears room [] h.before ++ l) (hears-append room flag (part ++ (flag ++ h.after)) first ∙ ap (λ l. hears room first flag ++ l) rest)
    ∙ sym (append_assoc (hears room [] h.before) (hears room first flag) (gap_event room part ∷ hears room end h.after))
    ∙ ap (λ l. (hears room [] h.before ++ hears room first flag) ++ gap_event room part ∷ l) none
    ∙ ap (λ e. (hears room [] h.before ++ hears room first flag) ++ e ∷ []) is
    ∙ ap (λ l. l ++ event ∷ []) (sym (came_before n201 octets h.before part h.after false h.is h.late few))

all_heard : (n201 : ℕ) (octets frame : List ℕ) → AreOctets frame → StandsIn (bits octets) frame → IsHeardNow n201 octets (came n201 frame)
all_heard n201 octets frame are h =
    heard_now n201 octets (frame_text frame) (came n201 frame) (some_text frame) (NoSix-stuffed (bits frame ++ check (bits frame)))
    (record { before = h.before; after = h.after; is = h.is; late = h.late }) (gap_event_came n201 frame are)

-- ---- what is no frame

some_stuffed : (stretch : List ℕ) → AreOctets stretch → 0 < length stretch → 0 < length (stuffed (bits stretch))
some_stuffed stretch are some = go (stuffed (bits stretch)) refl
  where
    go : (text : List Bool) → stuffed (bits stretch) ≡ text → 0 < length text
    go [] is =
        let none : [] ≡ stretch = same_Some [] stretch (ap octets_sent (sym is) ∙ octets_sent-stuffed stretch are) in
        absurd (omega (arith, some, ap (λ (l : List ℕ). length l) none))
    go (x ∷ text) is = omega arith

-- the octets of a stuffed stretch are judged
judged_is : (n201 : ℕ) (stretch : List ℕ) → AreOctets stretch → gap_event (room_for n201) (stuffed (bits stretch)) ≡ judged (room_for n201) stretch
judged_is n201 stretch are = gap_event_sent (room_for n201) (stuffed (bits stretch)) stretch (octets_sent-stuffed stretch are)

few_short : (stretch : List ℕ) → AreFew stretch → is_short stretch ≡ true
few_short stretch (inl less) = ap (λ (b : Bool). b || (nat_eq (length stretch) 5 && not (nat_eq (slice_index stretch 2 % 4) 3))) (lt-ltb (length stretch) 5 less)
few_short stretch (inr five) = grind (arith, five, eq-eqb, ne_eqb)

enough_long : (stretch : List ℕ) → AreEnough stretch → is_short stretch ≡ false
enough_long stretch (inl more) = grind (arith, le-ltb, ne_eqb)
enough_long stretch (inr five) = grind (arith, five, eq-eqb, le-ltb)

short_heard : (n201 : ℕ) (octets stretch : List ℕ) → AreBetween octets stretch → AreFew stretch → IsHeardNow n201 octets (dropped cause.Short)
short_heard n201 octets stretch h few =
    let whole = cond (nat_lt (room_for n201) (length stretch)) (stream.overlong (take 4 stretch)) (stream.frame (take (length stretch - 2) stretch)) in
    let rest = cond (not (is_good (bits stretch))) (dropped cause.Fcs) whole in
    heard_now n201 octets (stuffed (bits stretch)) (dropped cause.Short) (some_stuffed stretch h.are h.some) (NoSix-stuffed (bits stretch)) h.between
    (judged_is n201 stretch h.are ∙ ap (λ (b : Bool). cond b (dropped cause.Short) rest) (few_short stretch few))

-- octets that end in no check have no good one
no_good : (stretch : List ℕ) → 2 ≤ length stretch → HaveNoCheck stretch → is_good (bits stretch) ≡ false
no_good stretch two none = (elim (is_good (bits stretch)) as (λ b. is_good (bits stretch) ≡ b → is_good (bits stretch) ≡ false) [
  | true ↦ λ is. absurd (none (take (length stretch - 2) stretch) (checked stretch two is))
  | false ↦ λ is. is
]) refl

two_of : (stretch : List ℕ) → AreEnough stretch → 2 ≤ length stretch
two_of stretch (inl more) = omega (arith, more)
two_of stretch (inr five) = let is = five.0 in omega (arith, is)

fcs_heard : (n201 : ℕ) (octets stretch : List ℕ) → AreBetween octets stretch → AreEnough stretch → HaveNoCheck stretch → IsHeardNow n201 octets (dropped cause.Fcs)
fcs_heard n201 octets stretch h enough none =
    let rest = cond (nat_lt (room_for n201) (length stretch)) (stream.overlong (take 4 stretch)) (stream.frame (take (length stretch - 2) stretch)) in
    heard_now n201 octets (stuffed (bits stretch)) (dropped cause.Fcs) (some_stuffed stretch h.are h.some) (NoSix-stuffed (bits stretch)) h.between
    (judged_is n201 stretch h.are
    ∙ ap (λ b. cond b (dropped cause.Short) (cond (not (is_good (bits stretch))) (dropped cause.Fcs) rest)) (enough_long stretch enough)
    ∙ ap (λ b. cond (not b) (dropped cause.Fcs) rest) (no_good stretch (two_of stretch enough) none))

-- bits without six contiguous 1s, behind some of them
no_six : (ones : ℕ) (part : List Bool) → ones ≤ 5 → ((front back : List Bool) → replicate ones true ++ part ≢ front ++ (true ∷ true ∷ true ∷ true ∷ true ∷ true ∷ back)) → NoSix ones part
no_six ones [] few none = tt
no_six ones (false ∷ part) few none =
    no_six 0 part (omega arith) (λ front back is. none (replicate ones true ++ false ∷ front) back
    (ap (λ (l : List Bool). replicate ones true ++ false ∷ l) is ∙ sym (append_assoc (replicate ones true) (false ∷ front) (true ∷ true ∷ true ∷ true ∷ true ∷ true ∷ back))))
no_six ones (true ∷ part) few none = elim (cases_lt ones 5) [
  | inl less ↦ (less, no_six (suc ones) part (omega (arith, less)) (λ front back is. none front back (one_behind ones part ∙ is)))
  | inr at ↦ let five : ones ≡ 5 = omega (arith, few, at) in absurd (none [] part (ap (λ n. replicate n true ++ true ∷ part) five))
]
  where
    one_behind : (n : ℕ) (l : List Bool) → replicate n true ++ true ∷ l ≡ replicate (suc n) true ++ l
    one_behind zero l = refl
    one_behind (suc n) l = ap (λ m. true ∷ m) (one_behind n l)

-- what a sender makes of no octets
none_sent : (part : List Bool) (o : Option (List ℕ)) → octets_sent part ≡ o → ((stretch : List ℕ) → part ≢ stuffed (bits stretch)) → octets_sent part ≡ None
none_sent part None is none = is
none_sent part (Some octets) is none = absurd (none octets (((octets_are_those_sent part octets).0 is).0))

ragged_heard : (n201 : ℕ) (octets : List ℕ) (part : List Bool) → IsBetween (bits octets) part → IsRagged part → IsHeardNow n201 octets (dropped cause.Ragged)
ragged_heard n201 octets part h is =
    heard_now n201 octets part (dropped cause.Ragged) is.some (no_six 0 part (omega arith) is.few) h
    (ap (text_event (room_for n201)) (none_sent part (octets_sent part) refl is.unsent))

-- seven contiguous 1s
abort_heard : (n201 : ℕ) (octets : List ℕ) (part : List Bool) → IsAborted (bits octets) part → IsHeardNow n201 octets (dropped cause.Abort)
abort_heard n201 octets part h =
    let room = room_for n201 in
    let first = reverse_aux h.before [] in
    let place = after_flag first in
    let some = no_six 0 part (omega arith) h.few in
    let there = reverse_aux (part ++ six_ones) place in
    let rest : hears room place (part ++ (six_ones ++ true ∷ h.after)) ≡ dropped cause.Abort ∷ [] =
    ap (hears room place) (sym (append_assoc part six_ones (true ∷ h.after)) ∙ sym (append_assoc (part ++ six_ones) (true ∷ []) h.after))
    ∙ hears-append room ((part ++ six_ones) ++ true ∷ []) h.after place
    ∙ ap (λ l. l ++ hears room (reverse_aux ((part ++ six_ones) ++ true ∷ []) place) h.after) (hears_abort room first part some)
    ∙ ap (λ q. dropped cause.Abort ∷ hears room q h.after) (reverse_aux-append (part ++ six_ones) (true ∷ []) place)
    ∙ ap (λ l. dropped cause.Abort ∷ l) (nothing_after room h.after (true ∷ there) (omega (arith, h.late)) (given_up_then room first part some) (inl (seven_then room first part some))) in
    by_bits n201 octets ∙ ap (hears room []) h.is
    ∙ hears-append room h.before (flag ++ (part ++ (six_ones ++ true ∷ h.after))) []
    ∙ ap (λ l. hears room [] h.before ++ l) (hears-append room flag (part ++ (six_ones ++ true ∷ h.after)) first ∙ ap (λ l. hears room first flag ++ l) rest)
    ∙ sym (append_assoc (hears room [] h.before) (hears room first flag) (dropped cause.Abort ∷ []))
    ∙ ap (λ l. l ++ dropped cause.Abort ∷ []) (sym (came_before n201 octets h.before part h.after true h.is h.late some))

-- ---- a fault

-- the bits that a fault means after its flag
abbrev more_bits : Fault → List Bool
more_bits Fcs = bits (0x00 ∷ 0x00 ∷ 0x00 ∷ 0x00 ∷ 0x00 ∷ 0x00 ∷ 0x7E ∷ 0xFF ∷ [])
more_bits Abort = bits (0x00 ∷ 0xFF ∷ [])
more_bits Ragged = bits (0xE0 ∷ 0xF7 ∷ 0xFF ∷ [])
more_bits Short = bits (0x00 ∷ 0x7E ∷ 0xFF ∷ [])

bits-fault : (fault : Fault) → bits (fault_octets fault) ≡ flag ++ more_bits fault
unfolding low_bits
bits-fault fault = grind arith

hears_fault : (room : ℕ) (past : List Bool) (fault : Fault) → hears room (after_flag past) (more_bits fault) ≡ dropped (cause_of fault) ∷ []
unfolding low_bits
hears_fault room past fault = grind arith

idle_after_fault : (past : List Bool) (fault : Fault) → IdleAt (reverse_aux (more_bits fault) (after_flag past))
unfolding low_bits
idle_after_fault past fault = grind arith

fault_heard : (n201 : ℕ) (before : List ℕ) (fault : Fault) → IsIdle before → AreHeardAs n201 before (fault_octets fault) (dropped (cause_of fault))
fault_heard n201 before fault idle =
    let room = room_for n201 in
    let past = reverse (bits before) in
    let place : reverse (bits (before ++ fault_octets fault)) ≡ reverse_aux (more_bits fault) (after_flag past) =
    at_place before (fault_octets fault) ∙ ap (λ b. reverse_aux b past) (bits-fault fault) in
    heard_as n201 before (fault_octets fault) (dropped (cause_of fault)) (reverse_aux (more_bits fault) (after_flag past)) place (idle_after_fault past fault)
    (after_first_flag room past (more_bits fault) (dropped (cause_of fault)) (IsIdle-IdleAt before idle) (hears_fault room past fault))

-- ---- at a card

pub card_heard : (c : Config) (events : List CardEvent) (number : ℕ) → number < c.lines → heard_at number (meant_all (fresh c) events) ≡ heard_in c.n201 (octets_come number events)
card_heard c events number within =
    let goes = run_goes_on (fresh c) events number (omega (arith, within, length-replicate c.lines fresh_port)) in
    let fresh_is : port_at number (fresh c) ≡ fresh_port = get_or-replicate c.lines number fresh_port fresh_port within in
    let came : (port_at number (after_all (fresh c) events)).received ≡ octets_come number events =
    goes.received ∙ ap (λ (p : Port). p.received ++ octets_come number events) fresh_is in
    sym (sym (ap (heard_in c.n201) came) ∙ goes.heard ∙ ap (λ (p : Port). heard_in c.n201 p.received ++ heard_at number (meant_all (fresh c) events)) fresh_is)

pub frames_are_heard : FramesAreHeard
frames_are_heard = record {
  card = card_heard;
  there = frames_there;
  all = all_heard;
  whole = are_whole;
  begins = record { ones = refl; no_gap = refl };
  frames = frame_heard;
  faults = fault_heard;
  short = short_heard;
  fcs = fcs_heard;
  ragged = ragged_heard;
  abort = abort_heard;
}
