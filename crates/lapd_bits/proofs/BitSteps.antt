-- One bit more of a line: what a deframer's fields then stand for, and what the bit ends.
use Rattle.lapd_bits.proofs.Vocabulary.{◌≡◌, ℕ, ◌+◌, ◌*◌, ◌/◌, ◌^◌, ◌<◌, ◌≤◌, Bool, true, false, List, [], ◌∷◌, ◌++◌, length, drop, reverse, Option, Some, None, option_and_then, IfSome, option_to_list, nat_lt, nat_eq, cond, refl, ap, sym, ◌∙◌, subst, arith, length-append, ◌⊎◌, bit_and, le-ltb, reverse-append, bits, low_bits, same_bits, unstuffed, octets_sent, Event, since_flag, has_abort}
use Rattle.lapd_bits.proofs.Vocabulary.{gap_event, room_for, heard_at, heard_until, flag_front, closing_event, event_in, closed_event, run_of, open_gap, kept_count, octets_held, IsYoung, with_bits, KeepsIn, HoldsGap, Gap, Ended, length-bits, length-low_bits, reverse-bits_push, latest_ones, latest_ones-below, run_of-gap, gap_has_no_flag, NoFlag, NoSix-reverse, front_of_flag, NoSix}
use Rattle.lapd_bits.proofs.Vocabulary.{reverse_aux-append, reverse_aux-onto}
use Rattle.std.proofs.lemmas.List.{append-nil}
use Rattle.lapd_bits.specs.declared.ended.Ended.TheVariants as ended
use Rattle.lapd_bits.proofs.Division.Holds.{low_bits-next}
use Rattle.lapd_bits.proofs.StuffingClosed.{octets_sent-assembled}

-- ---- the open gap

-- an open gap has no abort
still_open : (g h : List Bool) → (if_closed : Bool) → cond if_closed None (Some g) ≡ Some h → (if_closed ≡ false) × (g ≡ h)
still_open g h if_closed e = grind arith

opened_since : (o : Option (List Bool)) (g : List Bool) → option_and_then (λ h. cond (has_abort h) None (Some h)) o ≡ Some g → (o ≡ Some g) × (has_abort g ≡ false)
opened_since o g e = grind (arith, still_open)

pub open_gap-since : (past g : List Bool) → open_gap past ≡ Some g → (since_flag past ≡ Some g) × (has_abort g ≡ false)
open_gap-since past g e = opened_since (since_flag past) g e

-- the run of 1s up to a place is that of the open gap, which is below 7
pub open_run : (past g : List Bool) → open_gap past ≡ Some g → (run_of past ≡ latest_ones g) × (latest_ones g < 7)
open_run past g e =
    let s = open_gap-since past g e in
    let run = run_of-gap past g s.0 in
    let below = latest_ones-below g s.1 in
    (omega arith, below)

-- what holds of any open gap there is
pub for_open : (past : List Bool) (P : List Bool → Type 0) → ((g : List Bool) → open_gap past ≡ Some g → P g) → IfSome (open_gap past) P
for_open past P h = grind arith

-- ---- what a flag's last bit ends

-- the bits of a gap with the front of a flag, in order of time
front_last : (g : List Bool) → latest_ones g ≡ 6 → 7 ≤ length g → reverse g ≡ reverse (drop 7 g) ++ flag_front
front_last g six long =
    ap reverse (front_of_flag g six long)
    ∙ reverse-append (true ∷ true ∷ true ∷ true ∷ true ∷ true ∷ false ∷ []) (drop 7 g)

-- and the gap before the front of a flag holds no six contiguous 1s
no_six_before : (g : List Bool) → latest_ones g ≡ 6 → 7 ≤ length g → NoFlag g → NoSix 0 (reverse (drop 7 g))
no_six_before g six long none =
    let parts = subst NoFlag (front_of_flag g six long) none in
    NoSix-reverse (drop 7 g) parts.1 parts.0

-- the event of a gap by the octets of which a sender makes it
event_of_octets : (room : ℕ) (gap : List Bool) (whole : List ℕ) (over : List Bool) → octets_sent gap ≡ cond (same_bits over flag_front) (Some whole) None → gap_event room gap ≡ closing_event room whole over
event_of_octets room gap whole over e = search arith

-- a gap that is closed is told as what its octets are
pub closed_told : (octets : List ℕ) (gap : Gap) (past : List Bool) (event : Option Event) → run_of past ≡ 6 → HoldsGap octets (Some gap) (open_gap past) → 8 ≤ gap.since → ((whole : List ℕ) → KeepsIn octets gap whole → event ≡ Some (closing_event (length octets) whole (low_bits gap.filled gap.partial))) → event ≡ closed_event (length octets) (open_gap past)
closed_told octets gap past event six h long told = go (open_gap past) refl h
  where
    go : (o : Option (List Bool)) → open_gap past ≡ o → HoldsGap octets (Some gap) o → event ≡ closed_event (length octets) o
    go None e held = absurd held
    go (Some g) e held =
        let run = open_run past g e in
        let count = held.counted in
        let latest : latest_ones g ≡ 6 = sym run.0 ∙ six in
        let bits_long : 7 ≤ length g = omega arith in
        let s = open_gap-since past g e in
        let a = held.assembles in
        let front = front_last g latest bits_long in
        let over = low_bits gap.filled gap.partial in
        let short : length over < 8 = omega (arith, length-low_bits gap.filled gap.partial, gap.no_octet) in
        let text : unstuffed (reverse (drop 7 g) ++ flag_front) ≡ bits a.whole ++ over = ap unstuffed (sym front) ∙ a.assembled in
        let found = octets_sent-assembled (reverse (drop 7 g)) a.whole over (no_six_before g latest bits_long (gap_has_no_flag past g s.0 s.1)) a.are_octets short text in
        let full : nat_lt (length g) 8 ≡ false = le-ltb (length g) 8 (omega arith) in
        told a.whole a.keeps
        ∙ ap Some (sym (event_of_octets (length octets) (reverse (drop 7 g)) a.whole over found))
        ∙ sym (rw full refl)

-- ---- the octets that are held

whole_octets : (n filled : ℕ) → filled < 8 → (8 * n + filled) / 8 ≡ n
whole_octets n filled h = omega arith

pub held_of_gap : (n201 held : ℕ) (octets : List ℕ) (gap : Gap) (past : List ℕ) → length octets ≡ room_for n201 → HoldsGap octets (Some gap) (open_gap (reverse (bits past))) → ((octets whole : List ℕ) → KeepsIn octets gap whole → held ≡ kept_count (length octets) (length whole)) → held ≡ octets_held n201 past
held_of_gap n201 held octets gap past room h are = grind (arith, length-append, length-bits, length-low_bits, whole_octets)

-- ---- the eight bits of an octet, one after the other

-- no bit more
pub with_bits-none : (octet : ℕ) (past : List Bool) → with_bits 0 octet past ≡ past
unfolding low_bits
with_bits-none octet past = refl

-- one bit more, as the code reads it
pub with_bits-more : (place octet : ℕ) (past : List Bool) → with_bits (place + 1) octet past ≡ nat_eq (bit_and (octet / 2 ^ place) 1) 1 ∷ with_bits place octet past
with_bits-more place octet past = grind (arith, low_bits-next, reverse_aux-append, nat_eq, bit_and)

-- the bits of the octets of a line with one octet more
pub with_bits-octet : (past : List ℕ) (octet : ℕ) → reverse (bits (past ++ octet ∷ [])) ≡ with_bits 8 octet (reverse (bits past))
with_bits-octet past octet = reverse-bits_push past octet ∙ sym (reverse_aux-onto (low_bits 8 octet) [] (reverse (bits past)))

-- a bit that brings nothing leaves what was heard
pub told_nothing_more : (room : ℕ) (past so_far : List Bool) (b : Bool) (before after : Option Event) → heard_until room so_far ≡ heard_until room past ++ option_to_list before → None ≡ heard_at room (b ∷ so_far) → before ≡ after → heard_until room (b ∷ so_far) ≡ heard_until room past ++ option_to_list after
told_nothing_more room past so_far b before after heard none same = grind (arith, option_to_list, append-nil)

-- and one that brings an event after nothing adds it
pub told_event_more : (room : ℕ) (past so_far : List Bool) (b : Bool) (event : Option Event) → heard_until room so_far ≡ heard_until room past ++ [] → event ≡ heard_at room (b ∷ so_far) → heard_until room (b ∷ so_far) ≡ heard_until room past ++ option_to_list event
told_event_more room past so_far b event heard e = grind (arith, option_to_list, append-nil)

-- a young gap stays young for longer
pub IsYoung-le : (m n : ℕ) (gap : Option Gap) → m ≤ n → IsYoung m gap → IsYoung n gap
IsYoung-le m n gap h y = grind arith

-- nothing has ended, or what has ended lies in octets that stay while the gap is young
abbrev pub EndedEarlier : ℕ → Ended → Option Gap → Type 0
EndedEarlier place last gap = (last ≡ ended.Nothing) ⊎ IsYoung place gap

pub event_stays : (octets octets' : List ℕ) (last : Ended) (gap : Option Gap) (place : ℕ) → place < 8 → EndedEarlier place last gap → (IsYoung 7 gap → octets' ≡ octets) → event_in octets last ≡ event_in octets' last
event_stays octets octets' last gap place h o stay = grind (arith, IsYoung-le)

-- what has ended earlier stays so
pub ended_still : (place : ℕ) (last : Ended) (gap gap' : Option Gap) → EndedEarlier place last gap → (IsYoung place gap → IsYoung (place + 1) gap') → EndedEarlier (place + 1) last gap'
ended_still place last gap gap' o grows = grind arith

-- a second event in one octet cannot be
pub nothing_before : (place : ℕ) (last next : Ended) (gap : Option Gap) → place < 8 → EndedEarlier place last gap → (IsYoung 7 gap → next ≡ ended.Nothing) → (next ≡ ended.Nothing → ⊥) → last ≡ ended.Nothing
nothing_before place last next gap h o quiet some = grind (arith, IsYoung-le)
