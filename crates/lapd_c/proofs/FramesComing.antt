-- How many octets are held of a frame that comes.
use Rattle.std.proofs.Common.{◌≡◌, ℕ, suc, ◌+◌, ◌*◌, ◌/◌, ◌≤◌, Bool, true, false, List, [], ◌∷◌, ◌++◌, length, Some, refl, ap, sym, subst, ◌∙◌, arith}
use Rattle.std.specs.Prelude.{reverse, if◌then◌else◌}
use Rattle.std.specs.Option.{option_map_or}
use Rattle.std.proofs.lemmas.Bool.{le-ltb}
use Rattle.std.proofs.lemmas.List.{reverse-reverse}
use mathlib.Core.List.{reverse_aux}
use Rattle.model_bits.specs.Bits.{bits, flag}
use Rattle.model_bits.specs.OpenGap.{kept_count, octets_held, open_gap}
use Rattle.model_bits.specs.Stream.{room_for}
use Rattle.model_bits.specs.Stuffing.{stuffed, unstuffed}
use Rattle.model_bits.proofs.BitLemmas.{length-bits}
use Rattle.model_bits.proofs.Quiet.{EndsNothing, quiet}
use Rattle.model_bits.proofs.RoundTripPlaces.{reverse_aux-append}
use Rattle.model_bits.proofs.StuffingCounted.{NoSix, stuffed-counted, stuffed_after, stuffed_after-shape}
use Rattle.model_bits.proofs.StuffingShape.{unstuffed-stuffed}

-- stuffed text ends nothing
ends_nothing : (n : ℕ) (text : List Bool) → n ≤ 5 → NoSix n text → EndsNothing n text
ends_nothing n [] few none = tt
ends_nothing n (false ∷ text) few none = ((λ six. omega (arith, few, six)), ends_nothing 0 text (omega arith) none)
ends_nothing n (true ∷ text) few (less, none) = ((λ six. omega (arith, few, six)), ends_nothing (suc n) text (omega (arith, less)) none)

-- so behind a flag it is what is open
is_open : (n201 : ℕ) (octets part : List ℕ) (before : List Bool) → bits octets ≡ before ++ (flag ++ stuffed (bits part)) → open_gap (reverse (bits octets)) ≡ Some (reverse (stuffed (bits part)))
is_open n201 octets part before is =
    let text = stuffed (bits part) in
    let past = reverse_aux flag (reverse_aux before []) in
    let quiet_text : EndsNothing 0 text = subst (EndsNothing 0) (sym (stuffed-counted (bits part))) (ends_nothing 0 (stuffed_after 0 (bits part)) (omega arith) (stuffed_after-shape 0 (bits part) (omega arith)).0) in
    ap (λ b. open_gap (reverse b)) is
    ∙ ap open_gap (reverse_aux-append before (flag ++ text) [] ∙ reverse_aux-append flag text (reverse_aux before []))
    ∙ (quiet (room_for n201) 0 text past refl quiet_text).gap

-- and the octets of which it is made are held, if there is room
pub coming : (n201 : ℕ) (octets part : List ℕ) (before : List Bool) → bits octets ≡ before ++ (flag ++ stuffed (bits part)) → length part ≤ n201 + 6 → octets_held n201 octets ≡ length part
coming n201 octets part before is few =
    let eight : 8 * length part / 8 ≡ length part = omega arith in
    ap (λ o. option_map_or (λ g. kept_count (room_for n201) (length (unstuffed (reverse g)) / 8)) o 0) (is_open n201 octets part before is)
    ∙ ap (λ b. kept_count (room_for n201) (length b / 8)) (ap unstuffed (reverse-reverse (stuffed (bits part))) ∙ unstuffed-stuffed (bits part))
    ∙ ap (λ n. kept_count (room_for n201) (n / 8)) (length-bits part)
    ∙ ap (kept_count (room_for n201)) eight
    ∙ ap (λ b. if b then 4 else length part) (le-ltb (n201 + 6) (length part) few)
