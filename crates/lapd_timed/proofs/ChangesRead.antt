-- Moments are read into their places; and states are noted.
use Rattle.std.proofs.Common.{arith, ◌≡◌, ℕ, zero, suc, ◌*◌, ◌^◌, ◌<◌, ◌≤◌, cond, ◌==◌, true, false, List, [], ◌∷◌, ◌++◌, length, set, take, refl, sym, ap, ◌∙◌, append_assoc, append-nil, length-append, length-take, subst}
use Rattle.std.proofs.lemmas.Grind.{flat_map-append}
use Rattle.std.specs.Prelude.{All}
use Rattle.std.proofs.lemmas.List.Elements.{All-cons, All-head, All-nil, All-tail}
use Rattle.std.proofs.lemmas.Bool.Decides.{nat_tests}
use Rattle.lapd_image.specs.Numbers.{number}
use Rattle.lapd_image.proofs.Reading.{front-read, length-number, number-read}
use Rattle.model_image.specs.Images.{changes}
use Rattle.model_timed.specs.Changes.{Mark, seen}

pub length-put : (ms : List ℕ) (i m : ℕ) → length (set ms i m) ≡ length ms
length-put [] i m = refl
length-put (x ∷ xs) zero m = refl
length-put (x ∷ xs) (suc i) m = ap suc (length-put xs i m)

pub taken-put : (ms : List ℕ) (i m : ℕ) → i < length ms → take (suc i) (set ms i m) ≡ take i ms ++ m ∷ []
taken-put [] i m h = absurd (omega (arith, h))
taken-put (x ∷ xs) zero m h = refl
taken-put (x ∷ xs) (suc i) m h = ap (λ ys. x ∷ ys) (taken-put xs i m (omega (arith, h)))

pub one-more-change : (ms front mid new : List ℕ) (i m : ℕ) → i < length ms → front ≡ changes (take i ms) ++ mid → mid ≡ number 8 m ++ new → front ≡ changes (take (suc i) (set ms i m)) ++ new
one-more-change ms front mid new i m h before one =
    before ∙ ap (λ octets. changes (take i ms) ++ octets) one ∙ sym (append_assoc (changes (take i ms)) (number 8 m) new)
    ∙ ap (λ octets. octets ++ new) (ap (λ octets. changes (take i ms) ++ octets) (sym (append-nil (number 8 m))) ∙ sym (flat_map-append (number 8) (take i ms) (m ∷ [])) ∙ ap changes (sym (taken-put ms i m h)))

all-more : (P : ℕ → Type 0) (xs : List ℕ) (m : ℕ) → All P xs → P m → All P (xs ++ m ∷ [])
all-more P [] m all own = All-cons P m [] own (All-nil P)
all-more P (x ∷ xs) m all own = All-cons P x (xs ++ m ∷ []) (All-head P x xs all) (all-more P xs m (All-tail P x xs all) own)

pub few-more : (P : ℕ → Type 0) (ms : List ℕ) (i m : ℕ) → i < length ms → All P (take i ms) → P m → All P (take (suc i) (set ms i m))
few-more P ms i m h all own = subst (All P) (sym (taken-put ms i m h)) (all-more P (take i ms) m all own)

pub length-changes : (ms : List ℕ) → length (changes ms) ≡ 8 * length ms
length-changes [] = refl
length-changes (m ∷ ms) =
    let both = length-append (number 8 m) (changes ms) in
    omega (arith, both, length-number 8 m, length-changes ms)

-- too few octets for all
pub too-few : (ms front rest : List ℕ) (i : ℕ) → i < length ms → front ≡ changes (take i ms) ++ rest → length rest < 8 → length front < 8 * length ms
too-few ms front rest i h e short =
    let size = ap (λ (l : List ℕ). length l) e ∙ length-append (changes (take i ms)) rest in
    omega (arith, size, length-changes (take i ms), length-take i ms, h, short)

-- no moments that are past, where one is not
pub late-none : (now m : ℕ) (xs ys new rest : List ℕ) → length xs < length ys → m < 256 ^ 8 → now < m → All (λ (k : ℕ). k ≤ now) ys → changes xs ++ (number 8 m ++ new) ≡ changes ys ++ rest → ⊥
late-none now m xs [] new rest short small late past e = absurd (omega (arith, short))
late-none now m [] (y ∷ ys) new rest short small late past e =
    let own : y ≤ now = All-head (λ (k : ℕ). k ≤ now) y ys past in
    let same = number-read 8 m y new (changes ys ++ rest) small (omega (arith, own, late, small)) (e ∙ append_assoc (number 8 y) (changes ys) rest) in
    absurd (omega (arith, same.0, own, late))
late-none now m (x ∷ xs) (y ∷ ys) new rest short small late past e =
    late-none now m xs ys new rest (omega (arith, short)) small late (All-tail (λ (k : ℕ). k ≤ now) y ys past)
    (front-read (number 8 x) (number 8 y) (changes xs ++ (number 8 m ++ new)) (changes ys ++ rest) (length-number 8 x ∙ sym (length-number 8 y))
    (sym (append_assoc (number 8 x) (changes xs) (number 8 m ++ new)) ∙ e ∙ append_assoc (number 8 y) (changes ys) rest)).1

-- a link that is seen in a state is in that one
pub seen-state : (now state : ℕ) (m : Mark) → (seen now state m).state ≡ state
seen-state now state m =
    (elim (m.state == state) as (λ b. (m.state == state) ≡ b → (cond {A = Mark} b m (record { state = state; moment = now })).state ≡ state) [
      | true ↦ λ same. same-number m.state state same
      | false ↦ λ _. refl
    ]) refl
  where
    same-number : (k l : ℕ) → (k == l) ≡ true → k ≡ l
    same-number k l e = grind (arith, nat_tests)
