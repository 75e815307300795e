-- What is heard over bits that come after a place, and over the bits between two flags.
use Rattle.model_bits.proofs.Vocabulary.{◌≡◌, ◌≢◌, ℕ, suc, ◌+◌, ◌<◌, ◌≤◌, min, Bool, true, false, List, [], ◌∷◌, ◌++◌, length, take, reverse, Some, option_to_list, refl, ap, sym, ◌∙◌, arith, append_assoc, length-reverse, reverse-reverse, le-ltb, flag, Event, gap_event, heard_at, heard_until, run_of, closed_event}
use Rattle.std.proofs.lemmas.List.{append-nil, append_cancel_left}
use mathlib.Core.List.{reverse_aux}
use Rattle.model_bits.proofs.Hearing.{heard_at-flag}
use Rattle.model_bits.proofs.Quiet.{EndsNothing, quiet}
use Rattle.model_bits.proofs.StuffingCounted.{NoSix, ones_after-append}

-- what is heard over bits, in order of time, after a place
abbrev pub hears : ℕ → List Bool → List Bool → List Event
hears room past [] = []
hears room past (b ∷ text) = option_to_list (heard_at room (b ∷ past)) ++ hears room (b ∷ past) text

pub heard_until-onto : (room : ℕ) (text past : List Bool) → heard_until room (reverse_aux text past) ≡ heard_until room past ++ hears room past text
heard_until-onto room [] past = sym (append-nil (heard_until room past))
heard_until-onto room (b ∷ text) past =
    heard_until-onto room text (b ∷ past)
    ∙ append_assoc (heard_until room past) (option_to_list (heard_at room (b ∷ past))) (hears room (b ∷ past) text)

pub reverse_aux-append : (s t past : List Bool) → reverse_aux (s ++ t) past ≡ reverse_aux t (reverse_aux s past)
reverse_aux-append [] t past = refl
reverse_aux-append (b ∷ s) t past = reverse_aux-append s t (b ∷ past)

pub hears-append : (room : ℕ) (s t past : List Bool) → hears room past (s ++ t) ≡ hears room past s ++ hears room (reverse_aux s past) t
hears-append room [] t past = refl
hears-append room (b ∷ s) t past =
    ap (λ l. option_to_list (heard_at room (b ∷ past)) ++ l) (hears-append room s t (b ∷ past))
    ∙ sym (append_assoc (option_to_list (heard_at room (b ∷ past))) (hears room (b ∷ past) s) (hears room (reverse_aux s (b ∷ past)) t))

-- a place at which a flag ends, where these bits were before it
abbrev pub after_flag : List Bool → List Bool
after_flag past = false ∷ true ∷ true ∷ true ∷ true ∷ true ∷ true ∷ false ∷ past

-- Flags that follow a flag, and a flag that is cut off, are no event.
pub hears_flag : (room : ℕ) (past : List Bool) → hears room (after_flag past) flag ≡ []
hears_flag room past = refl

pub hears_cut_flag : (room : ℕ) (past : List Bool) (more : ℕ) → more < 8 → hears room (after_flag past) (take more flag) ≡ []
hears_cut_flag room past (suc (suc (suc (suc (suc (suc (suc (suc more)))))))) h = absurd (omega arith)
hears_cut_flag room past _ h = refl

-- the place after a text, where a place is before it
pub reverse_aux-onto : (text g past : List Bool) → reverse_aux text (g ++ past) ≡ reverse_aux text g ++ past
reverse_aux-onto [] g past = refl
reverse_aux-onto (b ∷ text) g past = reverse_aux-onto text (b ∷ g) past

-- the place after a text and a flag
pub after_text : (text past : List Bool) → reverse_aux (text ++ flag) past ≡ after_flag (reverse_aux text past)
after_text text past = reverse_aux-append text flag past

-- a flag without its last bit
abbrev flag_front : List Bool
flag_front = false ∷ true ∷ true ∷ true ∷ true ∷ true ∷ true ∷ []

-- after a text with no six contiguous 1s it ends nothing
no_six : (n : ℕ) → n ≤ 5 → n ≢ 6
no_six n few six = omega (arith, few, six)

ends_nothing_with : (n : ℕ) (text : List Bool) → n ≤ 5 → NoSix n text → EndsNothing n (text ++ flag_front)
ends_nothing_with n [] few p =
    (no_six n few, (no_six 0 (omega arith), (no_six 1 (omega arith), (no_six 2 (omega arith), (no_six 3 (omega arith), (no_six 4 (omega arith), (no_six 5 (omega arith), tt)))))))
ends_nothing_with n (false ∷ text) few p = (no_six n few, ends_nothing_with 0 text (omega arith) p)
ends_nothing_with n (true ∷ text) few p = (no_six n few, ends_nothing_with (suc n) text (omega (arith, p.0)) p.1)

-- what a flag closes behind a text
closes_front : (room : ℕ) (r : List Bool) → 0 < length r
    → closed_event room (Some (true ∷ true ∷ true ∷ true ∷ true ∷ true ∷ false ∷ r)) ≡ Some (gap_event room (reverse r))
closes_front room r some = grind (arith, le-ltb)

closes_text : (room : ℕ) (text : List Bool) → 0 < length text
    → closed_event room (Some (reverse_aux (text ++ flag_front) [])) ≡ Some (gap_event room text)
closes_text room text some =
    ap (λ g. closed_event room (Some g)) (reverse_aux-append text flag_front [])
    ∙ closes_front room (reverse text) (omega (arith, length-reverse text)) ∙ ap (λ g. Some (gap_event room g)) (reverse-reverse text)

-- A text with no six contiguous 1s, and a flag after it, are heard as one gap.
pub hears_text : (room : ℕ) (past text : List Bool) → 0 < length text → NoSix 0 text → hears room (after_flag past) (text ++ flag) ≡ gap_event room text ∷ []
hears_text room past text some p =
    let place = after_flag past in
    let front = text ++ flag_front in
    let q = quiet room 0 front place refl (ends_nothing_with 0 text (omega arith) p) in
    let six : run_of (reverse_aux front place) ≡ 6 = q.run ∙ ap (min 7) (ones_after-append 0 text flag_front) in
    let none : hears room place front ≡ [] =
    append_cancel_left (heard_until room place) (hears room place front) []
    (sym (heard_until-onto room front place) ∙ q.heard ∙ sym (append-nil (heard_until room place))) in
    ap (hears room place) (sym (append_assoc text flag_front (false ∷ [])))
    ∙ hears-append room front (false ∷ []) place
    ∙ ap (λ l. l ++ hears room (reverse_aux front place) (false ∷ [])) none
    ∙ ap (λ o. option_to_list o ++ []) (heard_at-flag room (reverse_aux front place) six ∙ ap (closed_event room) q.gap ∙ closes_text room text some)
