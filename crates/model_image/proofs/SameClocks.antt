-- Two clocks with the same moments are the same: what runs stands in one order.
use Rattle.std.proofs.Common.{◌≡◌, ℕ, ◌<◌, ◌==◌, true, false, cond, List, [], ◌∷◌, Some, None, refl, sym, ap, ◌∙◌, subst}
use Rattle.std.specs.List.{AllByRecursion}
use Rattle.std.proofs.lemmas.Option.{none-some, same_Some}
use Rattle.lapd_clock.specs.InOrder.{IsInOrder}
use Rattle.lapd_clock.specs.Moments.{moment_of}
use Rattle.lapd_clock.specs.Sound.{IsOneEach}
use Rattle.lapd_clock.specs.Timer.{Timer, is_same}
use Rattle.lapd_clock.specs.Timers.{Expiry, is_before, is_of}
use Rattle.lapd_clock.proofs.First.{before_itself}
use Rattle.lapd_clock.proofs.OneMoved.{moment_of-none, of_itself}
use Rattle.lapd_clock.proofs.TimerOrder.{same_expiry}
use Rattle.model_timed.specs.Clock.{Clock}
use Rattle.model_timed.proofs.Orders.{both, same-number, equal}
use Rattle.model_image.specs.Same.{IsSameClock}

-- an expiry by its line, its timer and its moment
by-parts : (e x : Expiry) → is_of x.line x.timer e ≡ true → e.moment ≡ x.moment → e ≡ x
by-parts e x is moment =
    let split = both (e.line == x.line) (is_same e.timer x.timer) is in
    let line : e.line ≡ x.line = same-number e.line x.line split.0 in
    let timer : e.timer ≡ x.timer = equal e.timer x.timer split.1 in
    λ i. record { moment = moment i; line = line i; timer = timer i }

-- what has this moment is in the list, so what holds of all of it holds of this
found : (P : Expiry → Type 0) (x : Expiry) (es : List Expiry) → AllByRecursion P es → moment_of x.line x.timer es ≡ Some x.moment → P x
found P x [] all is = absurd (none-some x.moment is)
found P x (e ∷ es) all is =
    (elim (is_of x.line x.timer e) as (λ b. is_of x.line x.timer e ≡ b → cond b (Some e.moment) (moment_of x.line x.timer es) ≡ Some x.moment → P x) [
      | true ↦ λ own here. subst P (by-parts e x own (same_Some e.moment x.moment here)) all.0
      | false ↦ λ other here. found P x es all.1 here
    ]) refl is

-- and it does not go before the first
no-earlier : (x y : Expiry) (es : List Expiry) → IsInOrder is_before (y ∷ es) → moment_of x.line x.timer (y ∷ es) ≡ Some x.moment → is_before x y ≡ false
no-earlier x y es order is = found (λ later. is_before later y ≡ false) x (y ∷ es) (before_itself y, order.0) is

own-moment : (x : Expiry) (es : List Expiry) → moment_of x.line x.timer (x ∷ es) ≡ Some x.moment
own-moment x es = ap (λ b. cond b (Some x.moment) (moment_of x.line x.timer es)) (of_itself x.line x.timer)

-- each timer runs once, so behind its expiry it has no moment
module _ (line : ℕ) (timer : Timer) (x : Expiry) where
  behind : (es : List Expiry) → IsOneEach (x ∷ es) → is_of line timer x ≡ true → moment_of line timer es ≡ None
  behind es one is =
      let split = both (x.line == line) (is_same x.timer timer) is in
      subst (λ l. moment_of l timer es ≡ None) (same-number x.line line split.0)
      (subst (λ t. moment_of x.line t es ≡ None) (equal x.timer timer split.1) (moment_of-none x.line x.timer es one.0))

  rest-same : (es fs : List Expiry) → IsOneEach (x ∷ es) → IsOneEach (x ∷ fs) → moment_of line timer (x ∷ es) ≡ moment_of line timer (x ∷ fs) → moment_of line timer es ≡ moment_of line timer fs
  rest-same es fs one also same =
      (elim (is_of line timer x) as (λ b. is_of line timer x ≡ b → cond b (Some x.moment) (moment_of line timer es) ≡ cond b (Some x.moment) (moment_of line timer fs)
      → moment_of line timer es ≡ moment_of line timer fs) [
        | true ↦ λ is _. behind es one is ∙ sym (behind fs also is)
        | false ↦ λ _ is. is
      ]) refl same

-- Two lists in order, each timer once, with the same moments at these lines, where all of them are.
module _ (lines : ℕ) where
  abbrev OnLines : List Expiry → Type 0
  OnLines es = AllByRecursion (λ (e : Expiry). e.line < lines) es

  abbrev SameMoments : List Expiry → List Expiry → Type 0
  SameMoments es fs = (line : ℕ) (timer : Timer) → line < lines → moment_of line timer es ≡ moment_of line timer fs

  same-running : (es fs : List Expiry) → IsInOrder is_before es → IsInOrder is_before fs → IsOneEach es → IsOneEach fs → OnLines es → OnLines fs → SameMoments es fs → es ≡ fs
  same-running [] [] order also one one' on on' same = refl
  same-running [] (y ∷ fs) order also one one' on on' same = absurd (none-some y.moment (same y.line y.timer on'.0 ∙ own-moment y fs))
  same-running (x ∷ es) [] order also one one' on on' same = absurd (none-some x.moment (sym (same x.line x.timer on.0) ∙ own-moment x es))
  same-running (x ∷ es) (y ∷ fs) order also one one' on on' same =
      let first : x ≡ y =
      same_expiry x y (no-earlier x y fs also (sym (same x.line x.timer on.0) ∙ own-moment x es)) (no-earlier y x es order (same y.line y.timer on'.0 ∙ own-moment y fs)) in
      let one'' : IsOneEach (x ∷ fs) = subst (λ e. IsOneEach (e ∷ fs)) (sym first) one' in
      let rest : SameMoments es fs =
      λ line timer h. rest-same line timer x es fs one one'' (same line timer h ∙ ap (λ e. moment_of line timer (e ∷ fs)) (sym first)) in
      let more : es ≡ fs = same-running es fs order.1 also.1 one.1 one'.1 on.1 on'.1 rest in
      λ i. first i ∷ more i

  pub same-clocks : (c d : Clock) → IsInOrder is_before c.running → IsInOrder is_before d.running → IsOneEach c.running → IsOneEach d.running → OnLines c.running → OnLines d.running
      → IsSameClock lines c d → c ≡ d
  same-clocks c d order also one one' on on' same =
      let running : c.running ≡ d.running = same-running c.running d.running order also one one' on on' same.running in
      λ i. record { lengths = same.lengths i; running = running i; now = same.now i }
