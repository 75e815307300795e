-- Timers are true: so are those that keep their lengths, if none are set.
use Rattle.lapd_clock.proofs.Vocabulary.{◌≡◌, ℕ, ◌+◌, ◌<◌, ◌≤◌, Bool, true, false, cond, List, [], ◌∷◌, ◌++◌, map, Some, None, none-some, same_Some, refl, sym, ap, ◌∙◌, subst, Timer, Start, Stop, Lengths, Expiry}
use Rattle.std.specs.Prelude.{Option, IfSome, fold, option_map}
use Rattle.std.proofs.lemmas.List.{map-append}
use Rattle.model_timed.specs.Clock.{stopped, due, next_moment}
use Rattle.model_timed.specs.Timed.{Kind, Timed, Step, after, after_all, ArePrompt}
use Rattle.model_timed.specs.Sayings.{Saying, ordered, expired, said, said_in, started_by, last_start, is_of}
use Rattle.model_timed.specs.TimersAreTrue.{gone_to, IsTrue, NoneIsPassed, FallsDueAt, IsNext, TimersAreTrue}
use Rattle.model_timed.specs.LengthsChange as changing
use Rattle.model_timed.specs.LengthsChange.{step, after_changes, gone_by, while_set, told_in, Begun, begun_by, begun_as, last_begun, falls_at, KeepsItsLength, NoneIsPassedOver, IsFallingAt, IsNextOf, TimersKeepLengths}
use Rattle.model_timed.proofs.Changing.{timers_keep_lengths}

-- steps alone
module _ {Card Event : Type 0} (k : Kind Card Event) where
  after-same : (steps : List (Step Event)) (t : Timed Card) → after_changes k (map step steps) t ≡ after_all k steps t
  unfolding after_changes after_all
  after-same [] t = refl
  after-same (s ∷ steps) t = after-same steps (after k s t)

  told-same : (lengths : Lengths) (steps : List (Step Event)) (t : Timed Card) → told_in k lengths (map step steps) t ≡ map (while_set lengths) (said_in k steps t)
  unfolding told_in said_in
  told-same lengths [] t = refl
  told-same lengths (s ∷ steps) t =
      ap (λ ts. map (while_set lengths) (said k s t) ++ ts) (told-same lengths steps (after k s t)) ∙ sym (map-append (while_set lengths) (said k s t) (said_in k steps (after k s t)))

  prompt-same : (late : ℕ) (steps : List (Step Event)) (t : Timed Card) → ArePrompt k late steps t → changing.ArePrompt k late (map step steps) t
  unfolding changing.ArePrompt ArePrompt
  prompt-same late [] t prompt = tt
  prompt-same late (s ∷ steps) t prompt = (prompt.0, prompt-same late steps (after k s t) prompt.1)

  gone-same : (n : ℕ) (steps : List (Step Event)) → fold gone_by n (map step steps) ≡ fold gone_to n steps
  gone-same n [] = refl
  gone-same n (s ∷ steps) = gone-same (gone_to n s) steps

-- what was started while the same lengths were set
module _ (lengths : Lengths) where
  abbrev started_with : ℕ → Begun
  started_with moment = record { moment = moment; lengths = lengths }

  abbrev begun_of : Option ℕ → Option Begun
  begun_of start = option_map (λ m. started_with m) start

  either : (b : Bool) (m n : Option ℕ) → cond b (begun_of m) (begun_of n) ≡ begun_of (cond b m n)
  either true m n = refl
  either false m n = refl

  one-same : (line : ℕ) (timer : Timer) (before : Option ℕ) (s : Saying) → begun_by line timer (begun_of before) lengths s ≡ begun_of (started_by line timer before s)
  one-same line timer before (ordered now other (Start its)) = either (is_of line timer other its) (Some now) before
  one-same line timer before (ordered now other (Stop its)) = either (is_of line timer other its) None before
  one-same line timer before (expired now other its) = either (is_of line timer other its) None before

  fold-same : (line : ℕ) (timer : Timer) (before : Option ℕ) (sayings : List Saying)
      → fold (begun_as line timer) (begun_of before) (map (while_set lengths) sayings) ≡ begun_of (fold (started_by line timer) before sayings)
  fold-same line timer before [] = refl
  fold-same line timer before (s ∷ sayings) =
      ap (λ b. fold (begun_as line timer) b (map (while_set lengths) sayings)) (one-same line timer before s) ∙ fold-same line timer (started_by line timer before s) sayings

  begun-same : (line : ℕ) (timer : Timer) (sayings : List Saying) → last_begun line timer (map (while_set lengths) sayings) ≡ begun_of (last_start line timer sayings)
  begun-same line timer sayings = fold-same line timer None sayings

  some-begun : (P : Begun → Type 0) (m : Option ℕ) (b : Begun) → begun_of m ≡ Some b → P b → (start : ℕ) × (m ≡ Some start) × P (started_with start)
  some-begun P None b is h = absurd (none-some b is)
  some-begun P (Some start) b is h = (start, refl, subst P (sym (same_Some (started_with start) b is)) h)

  if-begun : (P : Begun → Type 0) (m : Option ℕ) → IfSome (begun_of m) P → IfSome m (λ start. P (started_with start))
  if-begun P None h = tt
  if-begun P (Some start) h = h

  none-begun : (m : Option ℕ) → begun_of m ≡ None → m ≡ None
  none-begun None is = refl
  none-begun (Some start) is = absurd (none-some (started_with start) (sym is))

  true-so : (late now : ℕ) (sayings : List Saying) (x : Expiry) → KeepsItsLength late now (map (while_set lengths) sayings) x → IsTrue late lengths now sayings x
  true-so late now sayings x h =
      let found = some-begun (λ b. (falls_at x.timer b ≤ now) × (now ≤ falls_at x.timer b + late)) (last_start x.line x.timer sayings) h.0
      (sym (begun-same x.line x.timer sayings) ∙ h.1) (h.2, h.3) in
      (found.0, found.1, found.2.0, found.2.1)

  if-true : (late now : ℕ) (sayings : List Saying) (o : Option Expiry) → IfSome o (KeepsItsLength late now (map (while_set lengths) sayings)) → IfSome o (IsTrue late lengths now sayings)
  if-true late now sayings None h = tt
  if-true late now sayings (Some x) h = true-so late now sayings x h

  passed-so : (late now : ℕ) (due : Option Expiry) (sayings : List Saying) → NoneIsPassedOver late now due (map (while_set lengths) sayings) → NoneIsPassed late lengths now due sayings
  passed-so late now due sayings h line timer =
      if-begun (λ b. (now ≤ falls_at timer b + late) × (due ≡ None → now < falls_at timer b)) (last_start line timer sayings)
      (subst (λ o. IfSome o (λ b. (now ≤ falls_at timer b + late) × (due ≡ None → now < falls_at timer b))) (begun-same line timer sayings) (h line timer))

  falling-so : (moment : ℕ) (sayings : List Saying) → IsFallingAt moment (map (while_set lengths) sayings) → FallsDueAt lengths moment sayings
  falling-so moment sayings h =
      let found = some-begun (λ b. moment ≡ falls_at h.1 b) (last_start h.0 h.1 sayings) h.2 (sym (begun-same h.0 h.1 sayings) ∙ h.3) h.4 in
      (h.0, h.1, found.0, found.1, found.2)

  next-so : (o : Option ℕ) (sayings : List Saying) → IsNextOf o (map (while_set lengths) sayings) → IsNext lengths o sayings
  next-so None sayings h = λ line timer. none-begun (last_start line timer sayings) (sym (begun-same line timer sayings) ∙ h line timer)
  next-so (Some moment) sayings h = (
    falling-so moment sayings h.0,
    λ line timer. if-begun (λ b. moment ≤ falls_at timer b) (last_start line timer sayings)
        (subst (λ o. IfSome o (λ b. moment ≤ falls_at timer b)) (begun-same line timer sayings) (h.1 line timer)),
  )

abbrev begun : {Card : Type 0} → Card → Lengths → Timed Card
begun card lengths = record { card = card; clock = stopped lengths }

as-before : {Card Event : Type 0} (k : Kind Card Event) → TimersKeepLengths k → TimersAreTrue k
as-before k keep = record {
  on_time = λ card lengths steps.
      let t = begun card lengths in
      ap (λ u. u.clock.now) (sym (after-same k steps t)) ∙ keep.moment card lengths (map step steps) ∙ gone-same k 0 steps;
  expiries = λ card lengths late steps prompt.
      let t = begun card lengths in
      let u = after_all k steps t in
      if-true lengths late u.clock.now (said_in k steps t) (due u.clock)
      (subst (λ ts. IfSome (due u.clock) (KeepsItsLength late u.clock.now ts)) (told-same k lengths steps t)
      (subst (λ v. IfSome (due v.clock) (KeepsItsLength late v.clock.now (told_in k lengths (map step steps) t))) (after-same k steps t)
      (keep.kept card lengths late (map step steps) (prompt-same k late steps t prompt))));
  none_passed = λ card lengths late steps prompt.
      let t = begun card lengths in
      let u = after_all k steps t in
      passed-so lengths late u.clock.now (due u.clock) (said_in k steps t)
      (subst (λ ts. NoneIsPassedOver late u.clock.now (due u.clock) ts) (told-same k lengths steps t)
      (subst (λ v. NoneIsPassedOver late v.clock.now (due v.clock) (told_in k lengths (map step steps) t)) (after-same k steps t)
      (keep.none_late card lengths late (map step steps) (prompt-same k late steps t prompt))));
  next = λ card lengths late steps prompt.
      let t = begun card lengths in
      let u = after_all k steps t in
      next-so lengths (next_moment u.clock) (said_in k steps t)
      (subst (λ ts. IsNextOf (next_moment u.clock) ts) (told-same k lengths steps t)
      (subst (λ v. IsNextOf (next_moment v.clock) (told_in k lengths (map step steps) t)) (after-same k steps t)
      (keep.first card lengths late (map step steps) (prompt-same k late steps t prompt))));
}

pub timers_are_true : {Card Event : Type 0} (k : Kind Card Event) → TimersAreTrue k
timers_are_true k = as-before k (timers_keep_lengths k)
