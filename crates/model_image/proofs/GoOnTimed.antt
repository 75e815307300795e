-- Two cards that are the same go on the same beside one clock.
use Rattle.std.proofs.Common.{◌≡◌, ℕ, List, [], ◌∷◌, Option, Some, None, refl, ap, subst}
use Rattle.std.specs.Prelude.{option_map}
use Rattle.std.specs.Option.{option_map_or}
use Rattle.lapd_clock.specs.Timers.{Expiry}
use Rattle.model_timed.specs.Clock.{Clock, obeyed, due, without_first}
use Rattle.model_timed.specs.Timed.{Kind, Step, Timed, happens, time, falls_due, after, event_of, expiry_at, with_expiry, IsPrompt}
unfoldable use Rattle.model_timed.specs.Timed.{after_all, ArePrompt}
unfoldable use Rattle.model_timed.specs.Changes.{marks_after}
use Rattle.model_timed.specs.Changes.{Marks, Seen, seen, marked, standing_in}
unfoldable use Rattle.model_image.specs.Restored.{shown}
use Rattle.model_image.specs.Restored.{beside}

-- Of a kind: what two cards that are the same answer and order, each event where it may happen; and what stands beside a clock.
module _ {C E A : Type 0} (k : Kind C E) (answer : E → C → A) (late : ℕ) (Same : C → C → Type 0) (Good : C → Clock → Type 0) (MayBe : E → C → Type 0)
    (once : (e : E) (a b : C) → Same a b → MayBe e a → (answer e a ≡ answer e b) × (k.orders e a ≡ k.orders e b) × Same (k.after e a) (k.after e b))
    (may : (e : E) (a : C) → k.MayHappen e a → MayBe e a)
    (falls : (x : Expiry) (a : C) (c : Clock) → Good a c → due c ≡ Some x → MayBe (expiry_at k x) a)
    (goes-on : (s : Step E) (a : C) (c : Clock) → Good a c → IsPrompt k late s (beside a c) → let t = after k s (beside a c) in Good t.card t.clock) where
  abbrev paired : E → A → E × A
  paired e r = (e, r)

  abbrev of_event : C → E → E × A
  of_event a e = (e, answer e a)

  -- the event of a step, what is shown of it, and where it leads
  abbrev Goes : Step E → C → C → Clock → Type 0
  Goes s a b c =
      let t = after k s (beside a c) in
      let u = after k s (beside b c) in
      (option_map (of_event a) (event_of k s (beside a c)) ≡ option_map (of_event b) (event_of k s (beside b c))) × (t.clock ≡ u.clock) × Same t.card u.card

  fell : (a b : C) (c : Clock) → Same a b → Good a c → (o : Option Expiry) → due c ≡ o
      → let t = option_map_or (with_expiry k (beside a c)) o (beside a c) in
      let u = option_map_or (with_expiry k (beside b c)) o (beside b c) in
      (option_map (of_event a) (option_map (expiry_at k) o) ≡ option_map (of_event b) (option_map (expiry_at k) o)) × (t.clock ≡ u.clock) × Same t.card u.card
  fell a b c same good None is = (refl, refl, same)
  fell a b c same good (Some x) is =
      let e = expiry_at k x in
      let one = once e a b same (falls x a c good is) in
      (ap (λ r. Some (paired e r)) one.0, ap (λ os. obeyed (k.line e) os (without_first c)) one.1, one.2)

  one-step : (s : Step E) (a b : C) (c : Clock) → Same a b → Good a c → IsPrompt k late s (beside a c) → Goes s a b c
  one-step (happens e) a b c same good prompt =
      let one = once e a b same (may e a prompt) in
      (ap (λ r. Some (paired e r)) one.0, ap (λ os. obeyed (k.line e) os c) one.1, one.2)
  one-step (time moment) a b c same good prompt = (refl, refl, same)
  one-step falls_due a b c same good prompt = fell a b c same good (due c) refl

  abbrev GoOn : List (Step E) → Timed C → Timed C → Type 0
  GoOn steps t u =
      (shown k answer steps t ≡ shown k answer steps u) × ((after_all k steps t).clock ≡ (after_all k steps u).clock) × Same (after_all k steps t).card (after_all k steps u).card

  pub all-steps : (steps : List (Step E)) (a b : C) (c : Clock) → Same a b → Good a c → ArePrompt k late steps (beside a c) → GoOn steps (beside a c) (beside b c)
  unfolding shown after_all ArePrompt
  all-steps [] a b c same good prompt = (refl, refl, same)
  all-steps (s ∷ steps) a b c same good prompt =
      let t = after k s (beside a c) in
      let u = after k s (beside b c) in
      let one = one-step s a b c same good prompt.0 in
      let rest : GoOn steps t u =
      subst (λ clock. GoOn steps t (beside u.card clock)) one.1 (all-steps steps t.card u.card t.clock one.2 (goes-on s a c good prompt.0) prompt.1) in
      ((λ i. one.0 i ∷ rest.0 i), rest.1, rest.2)

  -- what is noted of a link
  module _ (of : Seen C) (line number : ℕ) (standing-same : (a b : C) → Same a b → standing_in (of a) line number ≡ standing_in (of b) line number) where
    pub all-marks : (steps : List (Step E)) (a b : C) (c : Clock) (m n : Marks) → Same a b → Good a c → ArePrompt k late steps (beside a c) → m line number ≡ n line number
        → marks_after k of steps (beside a c) m line number ≡ marks_after k of steps (beside b c) n line number
    unfolding marks_after ArePrompt
    all-marks [] a b c m n same good prompt e = e
    all-marks (s ∷ steps) a b c m n same good prompt e =
        let t = after k s (beside a c) in
        let u = after k s (beside b c) in
        let one = one-step s a b c same good prompt.0 in
        let stands : standing_in (of t.card) line number ≡ standing_in (of u.card) line number = standing-same t.card u.card one.2 in
        let now : t.clock.now ≡ u.clock.now = ap (λ (x : Clock). x.now) one.1 in
        subst (λ clock. marks_after k of steps t (marked of t m) line number ≡ marks_after k of steps (beside u.card clock) (marked of u n) line number) one.1
        (all-marks steps t.card u.card t.clock (marked of t m) (marked of u n) one.2 (goes-on s a c good prompt.0) prompt.1 (λ i. seen (now i) (stands i) (e i)))
