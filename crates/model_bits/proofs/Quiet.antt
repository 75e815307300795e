-- Bits that end nothing, and a flag among such bits: what is heard in them, and the gap that is open behind them.
use Rattle.model_bits.proofs.Vocabulary.{◌≡◌, ◌≢◌, ℕ, suc, min, Bool, true, false, if◌then◌else◌, List, [], ◌∷◌, ◌++◌, Option, Some, None, option_to_list, option_map, refl, ap, sym, ◌∙◌, arith, ⊎_elim, cases_lt, heard_at, heard_until, run_of, open_gap, one_more, given_up_event, closed_event}
use Rattle.std.proofs.lemmas.List.{append-nil}
use mathlib.Core.List.{reverse_aux}
use Rattle.model_bits.proofs.Hearing.{heard_at-one, heard_at-abort, heard_at-zero, heard_at-flag, open_gap-one, open_gap-abort, open_gap-seven, open_gap-zero, open_gap-flag}
use Rattle.model_bits.proofs.StuffingCounted.{ones_after}

-- after so many 1s no bit comes after six: a seventh 1 gives a gap up, and a 0 ends a flag. After seven no gap is open.
abbrev pub EndsNothing : ℕ → List Bool → Type 0
EndsNothing n [] = Unit {0}
EndsNothing n (b ∷ text) = (n ≢ 6) × EndsNothing (if b then suc n else 0) text

-- Nothing is heard, the run is counted on, and the gap grows by the bits.
pub record IsQuiet (room n : ℕ) (text past : List Bool) : Type 0 where
  pub heard : heard_until room (reverse_aux text past) ≡ heard_until room past
  pub run : run_of (reverse_aux text past) ≡ min 7 (ones_after n text)
  pub gap : open_gap (reverse_aux text past) ≡ option_map (reverse_aux text) (open_gap past)

option_map-more : (b : Bool) (text : List Bool) (gap : Option (List Bool))
    → option_map (reverse_aux text) (one_more b gap) ≡ option_map (reverse_aux (b ∷ text)) gap
option_map-more b text gap = grind arith

option_map-none : (gap : Option (List Bool)) → gap ≡ option_map (reverse_aux []) gap
option_map-none gap = grind arith

quiet-more :
    (room n : ℕ) (b : Bool) (text past : List Bool) → heard_at room (b ∷ past) ≡ None
    → open_gap (b ∷ past) ≡ one_more b (open_gap past) → IsQuiet room (if b then suc n else 0) text (b ∷ past) → IsQuiet room n (b ∷ text) past
quiet-more room n b text past none grown q = grind (arith, ones_after, option_to_list, append-nil, option_map, option_map-more)

-- one bit
pub one_bit :
    (room n : ℕ) (b : Bool) (past : List Bool) → run_of past ≡ min 7 n → n ≢ 6
    → (heard_at room (b ∷ past) ≡ None) × (open_gap (b ∷ past) ≡ one_more b (open_gap past))
    × (run_of (b ∷ past) ≡ min 7 (if b then suc n else 0))
one_bit room n true past e other =
    ⊎_elim
    (λ few. (heard_at-one room past (omega (arith, e, few)), open_gap-one past (omega (arith, e, few)), omega (arith, e)))
    (λ many.
    let seven : run_of past ≡ 7 = omega (arith, e, many, other) in
    let none = open_gap-seven past seven in (
      heard_at-abort room past (omega (arith, seven)) ∙ ap given_up_event none,
      open_gap-abort past (omega (arith, seven)) ∙ sym (ap (one_more true) none),
      omega (arith, e),
    ))
    (cases_lt n 6)
one_bit room n false past e other =
    let no_flag : run_of past ≢ 6 = λ six. other (omega (arith, e, six)) in
    (heard_at-zero room past no_flag, open_gap-zero past no_flag, refl)

pub quiet : (room n : ℕ) (text past : List Bool) → run_of past ≡ min 7 n → EndsNothing n text → IsQuiet room n text past
quiet room n [] past e q = record { heard = refl; run = e; gap = option_map-none (open_gap past) }
quiet room n (b ∷ text) past e q =
    let one = one_bit room n b past e q.0 in
    quiet-more room n b text past one.0 one.1 (quiet room (if b then suc n else 0) text (b ∷ past) one.2 q.1)

-- ---- a flag's last bit behind a text, and a text behind it

pub record IsFlag (room : ℕ) (front behind past : List Bool) : Type 0 where
  pub heard : heard_until room (reverse_aux behind (false ∷ reverse_aux front past))
      ≡ heard_until room past ++ option_to_list (closed_event room (open_gap (reverse_aux front past)))
  pub run : run_of (reverse_aux behind (false ∷ reverse_aux front past)) ≡ min 7 (ones_after 0 behind)
  pub gap : open_gap (reverse_aux behind (false ∷ reverse_aux front past)) ≡ Some (reverse_aux behind [])

pub flag_ends : (room n : ℕ) (front behind past : List Bool) → run_of past ≡ min 7 n → EndsNothing n front → ones_after n front ≡ 6
    → EndsNothing 0 behind → IsFlag room front behind past
flag_ends room n front behind past e q six r =
    let there = reverse_aux front past in
    let before = quiet room n front past e q in
    let after = quiet room 0 behind (false ∷ there) refl r in
    let at : run_of there ≡ 6 = before.run ∙ ap (min 7) six in
    record {
      heard =
          after.heard ∙ ap (λ h. h ++ option_to_list (heard_at room (false ∷ there))) before.heard
          ∙ ap (λ o. heard_until room past ++ option_to_list o) (heard_at-flag room there at);
      run = after.run;
      gap = after.gap ∙ ap (option_map (reverse_aux behind)) (open_gap-flag there at);
    }
