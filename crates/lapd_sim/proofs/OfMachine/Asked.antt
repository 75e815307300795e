-- The ranges of the numbers of `limits` are those of a card's configuration.
use Rattle.lapd_sim.proofs.OfMachine.Vocabulary.{◌≡◌, ℕ, ◌<◌, ◌^◌, Bool, true, false, not, cond, ◌&&◌, ◌⊎◌, inl, inr, nat_lt, nat_le, List, [], ◌∷◌, length, Option, None, Some, Result, Ok, Err, refl, sym, ap, ◌∙◌, subst, arith, codes, decimal, bytes_eq, list_all, is_ascii_digit, all_ascii_digits, digits_value, le-leb, lt-ltb, none-some, digits_decimal, digits_value-decimal}
use Rattle.lapd_sim.proofs.OfMachine.Vocabulary.{decimal_nonempty, IsNumeralModel, numerals_by_value, tells_all_ascii_digits, Config, Lines, Terminals, Control, Slots, N201, is_within, IsInRange, Within, ranges_of, FaultKind, Job, job, job_or_none, limits, limits_of, run, frame, number, ◌>>=◌, limits_words, limits_of_card, LimitsAreOfCards}
use Rattle.model_line.specs.Config.{sapi_fault}
use Rattle.model_line.specs.Usual.{least}

own : IsNumeralModel (λ word. all_ascii_digits word ≡ true) (digits_value 10)
own = numerals_by_value _ tells_all_ascii_digits

same_digits : (word : List ℕ) → list_all is_ascii_digit word ≡ all_ascii_digits word
same_digits [] = refl
same_digits (octet ∷ more) = ap (λ rest. is_ascii_digit octet && rest) (same_digits more)

-- what a number in its range is written as is read as that number
passes : {A : Type 0} (a b c d : Bool) (x y : A) → a ≡ true → b ≡ true → c ≡ true → d ≡ true → cond (a && b && c && d) x y ≡ x
passes a b c d x y ea eb ec ed = rw ea (rw eb (rw ec (rw ed refl)))

written : (low high n : ℕ) → high < 2 ^ 64 → Within low high n → number low high (decimal n) ≡ Ok n
written low high n small w =
    let fits : n < 2 ^ 64 = omega (arith, small, w.most) in
    let value = digits_value-decimal own n fits in
    passes (nat_lt 0 (length (decimal n))) (list_all is_ascii_digit (decimal n)) (nat_le low (digits_value 10 (decimal n))) (nat_le (digits_value 10 (decimal n)) high) (Ok (digits_value 10 (decimal n))) _
    (lt-ltb 0 (length (decimal n)) (decimal_nonempty n fits)) (same_digits (decimal n) ∙ digits_decimal own n fits)
    (subst (λ v. nat_le low v ≡ true) (sym value) (le-leb low n w.least)) (subst (λ v. nat_le v high ≡ true) (sym value) (le-leb n high w.most))
    ∙ ap (λ v. Ok v) value

chained : (a b c d e : Result ℕ FaultKind) (l t r s n : ℕ) → a ≡ Ok l → b ≡ Ok t → c ≡ Ok r → d ≡ Ok s → e ≡ Ok n
    → (a >>= (λ lines. b >>= (λ terminals. c >>= (λ control. d >>= (λ slots. e >>= (λ n201. Ok (limits lines terminals control slots n201))))))) ≡ Ok (limits l t r s n)
chained a b c d e l t r s n ea eb ec ed ee = rw ea (rw eb (rw ec (rw ed (rw ee refl))))

each : (c : Config) → IsInRange c → job (limits_words c) ≡ Some (limits_of_card c)
each c h = grind (arith, ranges_of, job_or_none, chained, written)

-- what is read as a number is in its range
in_range : (a b c d : Bool) (v n : ℕ) (y : Result ℕ FaultKind) → (y ≡ Ok n → ⊥) → cond (a && b && c && d) (Ok v) y ≡ Ok n → (c ≡ true) × (d ≡ true) × (v ≡ n)
in_range true true true true v n y never e = (refl, refl, cc)
in_range _ _ _ _ v n y never e = absurd (never e)

read_in_range : (low high : ℕ) (word : List ℕ) (n : ℕ) → number low high word ≡ Ok n → Within low high n
read_in_range low high word n e = grind (arith, in_range, nat_lt, list_all, is_ascii_digit, nat_le, digits_value, Err)

-- the first step of a chain found a number
first_of : (r : Result ℕ FaultKind) (f : ℕ → Result Job FaultKind) (j : Job) → job_or_none (r >>= f) ≡ Some j → (n : ℕ) × (r ≡ Ok n) × (job_or_none (f n) ≡ Some j)
first_of (Ok n) f j e = (n, refl, e)
first_of (Err kind) f j e = cc

given_by : {A : Type 0} (x y : A) → Some x ≡ Some y → x ≡ y
given_by x y e = cc

-- a card can be started with such numbers, and with the least of the others
within_is : (low high n : ℕ) → Within low high n → (nat_le low n && nat_le n high) ≡ true
within_is low high n w = rw (le-leb low n w.least) (le-leb n high w.most)

passed_by : (a b c d e : Bool) → a ≡ true → b ≡ true → c ≡ true → d ≡ true → e ≡ true
    → cond (not a) (Some Lines) (cond (not b) (Some Terminals) (cond (not c) (Some Control) (cond (not d) (Some Slots) (cond (not e) (Some N201) None)))) ≡ None
passed_by a b c d e ea eb ec ed ee = rw ea (rw eb (rw ec (rw ed (rw ee refl))))

abbrev card_of : ℕ → ℕ → ℕ → ℕ → ℕ → Config
card_of l t r s n = record least { lines = l; terminals = t; control = r; slots = s; n201 = n }

starts : (l t r s n : ℕ) → Within 1 64 l → Within 1 8 t → Within 2 16 r → Within 1 8192 s → Within 8 260 n → IsInRange (card_of l t r s n)
unfolding sapi_fault
starts l t r s n wl wt wr ws wn = grind (arith, passed_by, is_within, within_is)

asked : (a b c d e : List ℕ) (j : Job) → job_or_none (limits_of a b c d e) ≡ Some j → (card : Config) × IsInRange card × (j ≡ limits_of_card card)
asked a b c d e j h =
    let lines = first_of _ _ j h in
    let terminals = first_of _ _ j lines.2 in
    let control = first_of _ _ j terminals.2 in
    let slots = first_of _ _ j control.2 in
    let n201 = first_of _ _ j slots.2 in (
      card_of lines.0 terminals.0 control.0 slots.0 n201.0,
      starts lines.0 terminals.0 control.0 slots.0 n201.0
          (read_in_range 1 64 a lines.0 lines.1) (read_in_range 1 8 b terminals.0 terminals.1) (read_in_range 2 16 c control.0 control.1)
          (read_in_range 1 8192 d slots.0 slots.1) (read_in_range 8 260 e n201.0 n201.1),
      sym (given_by (limits lines.0 terminals.0 control.0 slots.0 n201.0) j n201.2),
    )

chosen : (b : Bool) (x y : Option Job) (j : Job) → cond b x y ≡ Some j → (x ≡ Some j) ⊎ (y ≡ Some j)
chosen true x y j e = inl e
chosen false x y j e = inr e

-- other words ask for no bound
not_limits : (b : Bool) (x : Option Job) (l t r s n : ℕ) → (x ≡ Some (limits l t r s n) → ⊥) → cond b x None ≡ Some (limits l t r s n) → ⊥
not_limits true x l t r s n never e = never e
not_limits false x l t r s n never e = cc

only : (words : List (List ℕ)) (l t r s n : ℕ) → job words ≡ Some (limits l t r s n) → (c : Config) × IsInRange c × (limits l t r s n ≡ limits_of_card c)
only [] l t r s n e = cc
only (a ∷ []) l t r s n e = absurd (not_limits (bytes_eq a (codes "run")) (Some run) l t r s n (λ h. cc) e)
only (a ∷ b ∷ []) l t r s n e = absurd (not_limits (bytes_eq a (codes "frame")) (Some (frame b false)) l t r s n (λ h. cc) e)
only (a ∷ b ∷ c ∷ []) l t r s n e = absurd (not_limits (bytes_eq a (codes "frame") && bytes_eq c (codes "--network")) (Some (frame b true)) l t r s n (λ h. cc) e)
only (a ∷ b ∷ c ∷ d ∷ []) l t r s n e = cc
only (a ∷ b ∷ c ∷ d ∷ f ∷ []) l t r s n e = cc
only (a ∷ b ∷ c ∷ d ∷ f ∷ g ∷ []) l t r s n e =
    elim (chosen (bytes_eq a (codes "limits")) (job_or_none (limits_of b c d f g)) None (limits l t r s n) e)
    [ inl h ↦ asked b c d f g (limits l t r s n) h | inr h ↦ absurd (none-some (limits l t r s n) h) ]
only (a ∷ b ∷ c ∷ d ∷ f ∷ g ∷ h ∷ more) l t r s n e = cc

pub limits_are_of_cards : LimitsAreOfCards
limits_are_of_cards = record { each = each; only = only }
