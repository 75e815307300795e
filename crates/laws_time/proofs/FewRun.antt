-- At most one timer of each link of a line runs, and T201 or T202.
use Rattle.laws_time.proofs.Vocabulary.{AllByRecursion, Bool, Config, Expiry, IsDistinct, IsOfSide, IsOneEach, IsSound, LinkTimer, List, None, Option, Service, Some, T201, T202, [], ap, arith, cond, count_cons, count_on, eq-eqb, eqb, eqb-true, false, get_or, is_held, is_of, is_running, is_same, is_some, is_terminal, itself, length, link_in, link_number, link_runs as runs, list_any}
use Rattle.laws_time.proofs.Vocabulary.{option_map_or, place_at, place_in, place_of-is, refl, runs_at, same_Some, service_at, sym, true, true≢false, ℕ, ◌&&◌, ◌*◌, ◌+◌, ◌<◌, ◌==◌, ◌||◌, ◌∙◌, ◌∷◌, ◌≡◌, ◌≤◌}
use Rattle.std.proofs.lemmas.Map.Keys.{IsDistinct-cons}
use Rattle.std.proofs.lemmas.Map.Steps.{length-le_from_distinct_below}
use Rattle.lapd_clock.specs.Timer.{Timer, T200, T203}
use Rattle.model_link.specs.declared.timers.LinkTimer.TheVariants as link
use Rattle.model_line.specs.Line.{Line}
use Rattle.model_line.proofs.Numbers.{place_at-number, service_at-number}
use Rattle.model_line.proofs.Obeyed.{timer_of}
use Rattle.model_line.proofs.Placed.{place-few}

-- The timers that a line runs, by numbers: each link's has the number of its link, and T201 and T202 the next.
module _ (c : Config) (l : Line) (s : IsSound c l) where
  abbrev number_at : Service → Option ℕ → ℕ
  number_at service place = option_map_or (λ p. link_number p service) place 0

  abbrev number : Timer → ℕ
  number (T200 service tei) = number_at service (place_in l tei)
  number (T203 service tei) = number_at service (place_in l tei)
  number T201 = 2 * c.terminals
  number T202 = 2 * c.terminals

  -- a timer that runs has one of so many numbers
  link-within : (k : LinkTimer) (service : Service) (tei : ℕ) (o : Option ℕ) → place_in l tei ≡ o → runs_at service k o l ≡ true → number_at service o < 2 * c.terminals
  link-within k service tei o h1z h2z = grind (arith, place-few)

  within : (timer : Timer) → is_running timer l ≡ true → number timer < 2 * c.terminals + 1
  within timer is = grind (arith, link-within)

  -- two of one number are the same
  one-kind : (a b : LinkTimer) (o : Option LinkTimer) → runs a o ≡ true → runs b o ≡ true → a ≡ b
  one-kind a b o x y = grind arith

  same-link : (k m : LinkTimer) (service r : Service) (tei u : ℕ) (o p : Option ℕ) → place_in l tei ≡ o → place_in l u ≡ p → runs_at service k o l ≡ true → runs_at r m p l ≡ true → number_at service o ≡ number_at r p
      → timer_of k service tei ≡ timer_of m r u
  same-link k m service r tei u None p a b run_a run_b same = absurd (true≢false (sym run_a))
  same-link k m service r tei u (Some x) None a b run_a run_b same = absurd (true≢false (sym run_b))
  same-link k m service r tei u (Some x) (Some y) a b run_a run_b same =
      let places : x ≡ y = sym (place_at-number x service) ∙ ap place_at same ∙ place_at-number y r in
      let services : service ≡ r = sym (service_at-number x service) ∙ ap service_at same ∙ service_at-number y r in
      let teis : tei ≡ u = same_Some tei u (sym (place_of-is l.management.places tei x a).1 ∙ ap (λ p. get_or l.management.places p None) places ∙ (place_of-is l.management.places u y b).1) in
      let run : runs m (link_in l service x).running ≡ true = grind (arith, runs, link_in) in
      ap (λ n. timer_of n service tei) (one-kind k m (link_in l service x).running run_a run) ∙ ap (λ q. timer_of m q tei) services ∙ ap (timer_of m r) teis

  -- no line runs both T201 and T202
  not-both : (b : Bool) → IsOfSide b l.management l.own → is_some l.management.check ≡ true → is_some l.own.procedure ≡ true → ⊥
  not-both b h1z h2z h3z = grind arith

  -- so one number is one timer
  same-timer : (a b : Timer) → is_running a l ≡ true → is_running b l ≡ true → number a ≡ number b → a ≡ b
  same-timer (T200 service tei) (T200 r u) run_a run_b same = same-link link.T200 link.T200 service r tei u (place_in l tei) (place_in l u) refl refl run_a run_b same
  same-timer (T200 service tei) (T203 r u) run_a run_b same = same-link link.T200 link.T203 service r tei u (place_in l tei) (place_in l u) refl refl run_a run_b same
  same-timer (T200 service tei) T201 run_a run_b same = absurd (omega (arith, same, link-within link.T200 service tei (place_in l tei) refl run_a))
  same-timer T201 (T200 service tei) run_a run_b same = absurd (omega (arith, same, link-within link.T200 service tei (place_in l tei) refl run_b))
  same-timer (T200 service tei) T202 run_a run_b same = absurd (omega (arith, same, link-within link.T200 service tei (place_in l tei) refl run_a))
  same-timer T202 (T200 service tei) run_a run_b same = absurd (omega (arith, same, link-within link.T200 service tei (place_in l tei) refl run_b))
  same-timer (T203 service tei) (T200 r u) run_a run_b same = same-link link.T203 link.T200 service r tei u (place_in l tei) (place_in l u) refl refl run_a run_b same
  same-timer (T203 service tei) (T203 r u) run_a run_b same = same-link link.T203 link.T203 service r tei u (place_in l tei) (place_in l u) refl refl run_a run_b same
  same-timer (T203 service tei) T201 run_a run_b same = absurd (omega (arith, same, link-within link.T203 service tei (place_in l tei) refl run_a))
  same-timer T201 (T203 service tei) run_a run_b same = absurd (omega (arith, same, link-within link.T203 service tei (place_in l tei) refl run_b))
  same-timer (T203 service tei) T202 run_a run_b same = absurd (omega (arith, same, link-within link.T203 service tei (place_in l tei) refl run_a))
  same-timer T202 (T203 service tei) run_a run_b same = absurd (omega (arith, same, link-within link.T203 service tei (place_in l tei) refl run_b))
  same-timer T201 T201 run_a run_b same = refl
  same-timer T202 T202 run_a run_b same = refl
  same-timer T201 T202 run_a run_b same = absurd (not-both (is_terminal c) s.own run_a run_b)
  same-timer T202 T201 run_a run_b same = absurd (not-both (is_terminal c) s.own run_b run_a)

  -- So of a list of timers of which each is one that its line runs, one each, there are so many at the line.
  module _ (line : ℕ) where
    abbrev Run : Expiry → Type 0
    Run e = (e.line == line) ≡ true → is_running e.timer l ≡ true

    abbrev numbers : List Expiry → List ℕ
    numbers [] = []
    numbers (e ∷ es) = cond (e.line == line) (number e.timer ∷ numbers es) (numbers es)

    -- their numbers are as many as they are
    counted : (es : List Expiry) → count_on line es ≡ length (numbers es)
    counted [] = refl
    counted (e ∷ es) =
        count_cons (λ (x : Expiry). x.line == line) e es ∙ (elim (e.line == line) as (λ b. cond {A = ℕ} b 1 0 + count_on line es ≡ length (cond b (number e.timer ∷ numbers es) (numbers es))) [
          | true ↦ omega (arith, counted es)
          | false ↦ omega (arith, counted es)
        ])

    -- what holds of the numbers of all that are of the line holds of their numbers
    all-numbers : (P : ℕ → Type 0) (es : List Expiry) → AllByRecursion (λ e. (e.line == line) ≡ true → P (number e.timer)) es → AllByRecursion P (numbers es)
    all-numbers P [] each = tt
    all-numbers P (e ∷ es) each = grind (arith, (all-numbers P es each.1))

    -- no other timer of the line has the number of one that runs once
    others : (e : Expiry) → (e.line == line) ≡ true → is_running e.timer l ≡ true → (es : List Expiry) → AllByRecursion Run es → AllByRecursion (λ x. is_of e.line e.timer x ≡ false) es
        → AllByRecursion (λ x. (x.line == line) ≡ true → eqb (number e.timer) (number x.timer) ≡ false) es
    others e at run [] all alone = tt
    others e at run (x ∷ es) all alone = (λ there. go (eqb (number e.timer) (number x.timer)) refl there, others e at run es all.1 alone.1)
      where
        go : (b : Bool) → eqb (number e.timer) (number x.timer) ≡ b → (x.line == line) ≡ true → b ≡ false
        go false is there = refl
        go true is there =
            let lines : x.line ≡ e.line = eqb-true x.line line there ∙ sym (eqb-true e.line line at) in
            let timers : x.timer ≡ e.timer = sym (same-timer e.timer x.timer run (all.0 there) (eqb-true (number e.timer) (number x.timer) is)) in
            absurd (true≢false (sym (ap (λ b. b && is_same x.timer e.timer) (eq-eqb x.line e.line lines) ∙ ap (λ t. is_same t e.timer) timers ∙ itself e.timer) ∙ alone.0))

    -- so no two numbers are the same
    distinct : (es : List Expiry) → AllByRecursion Run es → IsOneEach es → IsDistinct eqb (numbers es)
    unfolding IsDistinct
    distinct [] all one = tt
    distinct (e ∷ es) all one =
        (elim (e.line == line) as (λ b. (e.line == line) ≡ b → IsDistinct eqb (cond b (number e.timer ∷ numbers es) (numbers es))) [
          | true ↦ λ at. IsDistinct-cons eqb (number e.timer) (numbers es) (all-numbers (λ n. eqb (number e.timer) n ≡ false) es (others e at (all.0 at) es all.1 one.0)) (distinct es all.1 one.1)
          | false ↦ λ at. distinct es all.1 one.1
        ]) refl

    -- and each is one of so many
    below : (ns : List ℕ) (n : ℕ) → AllByRecursion (λ m. m < n) ns → (q : ℕ) → list_any (eqb q) ns ≡ true → q < n
    below [] n all q is = absurd (true≢false (sym is))
    below (m ∷ ns) n all q is = grind (arith, eqb-true, (below ns n all.1 q))

    all-within : (es : List Expiry) → AllByRecursion Run es → AllByRecursion (λ e. (e.line == line) ≡ true → number e.timer < 2 * c.terminals + 1) es
    all-within [] all = tt
    all-within (e ∷ es) all = (λ at. within e.timer (all.0 at), all-within es all.1)

    -- those that run are those that are held
    all-run : (es : List Expiry) → ((timer : Timer) → is_held line timer es ≡ true → is_running timer l ≡ true) → AllByRecursion Run es
    all-run [] held = tt
    all-run (e ∷ es) held = (
      λ at. held e.timer (ap (λ b. (b && is_same e.timer e.timer) || is_held line e.timer es) at ∙ ap (λ b. b || is_held line e.timer es) (itself e.timer)),
      all-run es (λ timer is. held timer (or-true (is_of line timer e) (is_held line timer es) is)),
    )
      where
        or-true : (a b : Bool) → b ≡ true → (a || b) ≡ true
        or-true a b h = grind arith

    pub few-run : (es : List Expiry) → ((timer : Timer) → is_held line timer es ≡ true → is_running timer l ≡ true) → IsOneEach es → count_on line es ≤ 2 * c.terminals + 1
    few-run es held one =
        let all = all-run es held in
        omega (arith, counted es, length-le_from_distinct_below (numbers es) (2 * c.terminals + 1) (distinct es all one) (below (numbers es) (2 * c.terminals + 1) (all-numbers (λ n. n < 2 * c.terminals + 1) es (all-within es all))))
