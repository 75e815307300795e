-- Time goes on, other lines have events, and timers fall due.
use Rattle.laws_time.proofs.Vocabulary.{All-from_recursion, All, All-head, All-tail, Bool, Clock, Expiry, IsInTime, List, None, Order, Some, Timer, [], ap, arith, cond, drop, false, first_due, is_of, moment_of, nat_le, obeyed, refl, subst, sym, ℕ, ◌+◌, ◌<◌, ◌∙◌, ◌∷◌, ◌≡◌, ◌≤◌}
use Rattle.laws_time.proofs.Vocabulary.{AllByRecursion, and_parts, is_same, recursion_from_All, true, ◌==◌}
use Rattle.model_timed.proofs.Orders.{all-run}
use Rattle.laws_time.proofs.Moments.{same}

-- What holds of all that runs holds of the moment of a timer.
pub moment-keeps : (P : Timer → ℕ → Type 0) (number : ℕ) (its : Timer) (es : List Expiry) (m : ℕ) → AllByRecursion (λ x. P x.timer x.moment) es → moment_of number its es ≡ Some m → P its m
moment-keeps P number its [] m all is = absurd (cc is)
moment-keeps P number its (e ∷ es) m all is = go (moment-keeps P number its es m all.1) (is_of number its e) refl is
  where
    number-is : Some e.moment ≡ Some m → e.moment ≡ m
    number-is is = cc is

    go : (moment_of number its es ≡ Some m → P its m) → (b : Bool) → is_of number its e ≡ b → cond b (Some e.moment) (moment_of number its es) ≡ Some m → P its m
    go rest true own is = let timer = same e.timer its (and_parts (e.line == number) (is_same e.timer its) own).1 in subst (λ n. P its n) (number-is is) (subst (λ t. P t e.moment) timer all.0)
    go rest false other is = rest is

pub in-time : (late now line : ℕ) (its : Timer) (es : List Expiry) (m : ℕ) → All (IsInTime late now) es → moment_of line its es ≡ Some m → now ≤ m + late
in-time late now line its es m all is = moment-keeps (λ t m. now ≤ m + late) line its es m (recursion_from_All (IsInTime late now) es all) is

pub first-is : (e x : Expiry) (b : Bool) → cond b (Some e) None ≡ Some x → e ≡ x
first-is e x b is = grind arith

pub dropped : (line : ℕ) (its : Timer) (x : Expiry) (es : List Expiry) (now : ℕ) → first_due es now ≡ Some x → is_of line its x ≡ false → moment_of line its (drop 1 es) ≡ moment_of line its es
dropped line its x [] now is other = refl
dropped line its x (e ∷ es) now is other = sym (ap (λ b. cond b (Some e.moment) (moment_of line its es)) (ap (is_of line its) (first-is e x (nat_le e.moment now) is) ∙ other))

-- All timers that run are on lines of the card.
module _ (P : Expiry → Type 0) where
  pub first-all : (x : Expiry) (es : List Expiry) (now : ℕ) → first_due es now ≡ Some x → All P es → P x × All P (drop 1 es)
  first-all x [] now is all = cc is
  first-all x (e ∷ es) now is all = (subst P (first-is e x (nat_le e.moment now) is) (All-head P e es all), All-tail P e es all)

pub on-lines : (lines line : ℕ) (clock : Clock) (orders : List Order) → line < lines → All (λ (e : Expiry). e.line < lines) clock.running → All (λ (e : Expiry). e.line < lines) (obeyed line orders clock).running
on-lines lines line clock orders here all =
    let P = λ (e : Expiry). e.line < lines in All-from_recursion P (obeyed line orders clock).running (all-run P line clock orders (λ timer. here) (recursion_from_All P clock.running all))
