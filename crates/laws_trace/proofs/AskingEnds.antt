-- Asking for a TEI ends: runs of a card, and the law.
use Rattle.laws_trace.proofs.Vocabulary.{◌≡◌, ℕ, ◌+◌, ◌<◌, ◌≤◌, ◌==◌, ◌&&◌, Bool, true, false, cond, not, List, [], ◌∷◌, ◌++◌, length, length-append, filter, Option, Some, None, is_some, refl, sym, ap, ◌∙◌, subst, ◌⊎◌, inl, arith, nat_lt, fold-append, sum_by-cons, append-nil, append_assoc, All, All-head, All-tail, Card, none-some, true≢false, eqb-true, Config, IsInRange, Note}
use Rattle.laws_trace.proofs.Vocabulary.{at, moments, Moment, after_all-append, all-left, unwrap_or, list_any}
use Rattle.laws_trace.proofs.Vocabulary.{fresh, CardEvent as Event, after, card_answer as answer, after_all, IsAtLine, AreAtLines, Managed, nothing_due, none_on, due, led, managed_after, Always, notes_of, is_of_teis, moment_of}
use Rattle.model_teis.specs.declared.terminal.procedure.Procedure.{Procedure}
use Rattle.laws_line.specs.Share.{is_granted}
use Rattle.model_line.specs.Event as line_event
use Rattle.model_line.specs.Event.{request}
use Rattle.model_line.specs.Line.{is_terminal}
use Rattle.model_line.specs.Request.{AskTei}
use Rattle.laws_trace.specs.AskingEnds.{is_result, results_in, results, is_t202, expiries, breaks_off, goes_on, HasResult, AskingEnds}
use Rattle.laws_trace.specs.Managing.{at_terminal, of_terminal, own_of}
use Rattle.laws_trace.specs.ManagingTerminal as terminal
use Rattle.laws_trace.specs.ManagingTerminal.{OfTerminal, is_free}
use Rattle.laws_trace.proofs.AskingSteps.{asking_of, told_of, Goes, happens, Expires, expires, breaks_by}
use Rattle.laws_trace.proofs.TeisAreManaged.{teis-are-managed}
use Rattle.laws_trace.proofs.TimersAreTimely.{front-at, itself}

-- Notes of a result are notes of TEIs.
result-not : (n : Note) → is_of_teis n ≡ false → is_result n ≡ false
result-not n is = grind arith

filter-both : (ns : List Note) → filter is_result (filter is_of_teis ns) ≡ filter is_result ns
filter-both [] = refl
filter-both (n ∷ ns) = go (is_of_teis n) (result-not n) (filter-both ns)
  where
    go : (b : Bool) → (b ≡ false → is_result n ≡ false) → filter is_result (filter is_of_teis ns) ≡ filter is_result ns
        → filter is_result (cond b (n ∷ filter is_of_teis ns) (filter is_of_teis ns)) ≡ cond (is_result n) (n ∷ filter is_result ns) (filter is_result ns)
    go true off rest = ap (λ k. cond (is_result n) (n ∷ k) k) rest
    go false off rest = rest ∙ sym (ap (λ b. cond b (n ∷ filter is_result ns) (filter is_result ns)) (off refl))

-- So often T202 has expired, and so many results are told: none while it asks, for the attempt that follows; one after it.
abbrev Runs : ℕ → ℕ → Option ℕ → Type 0
Runs expired told o = ((told ≡ 0) × (expired ≤ 2) × (o ≡ Some (expired + 1))) ⊎ ((told ≡ 1) × (o ≡ None))

goes-so : (expired told : ℕ) (o : Option ℕ) (t : OfTerminal) → Runs expired told o → Goes o t → Runs (expired + 0) (told + told_of t) (asking_of t.procedure)
goes-so expired told o t h h' = grind (arith, true≢false, is_some)

expires-so : (expired told : ℕ) (o : Option ℕ) (t u : OfTerminal) (quiet : t.notes ≡ []) → Runs expired told o → Expires o u
    → Runs (expired + 1) (told + told_of u) (asking_of u.procedure)
expires-so expired told o t u quiet h g = grind (arith, none-some, nat_lt)

moved : {k l m n : ℕ} {o p : Option ℕ} → k ≡ l → m ≡ n → o ≡ p → Runs k m o → Runs l n p
moved {k} {l} {m} {n} {o} {p} ks ms os r = subst (λ p. Runs l n p) os (subst (λ n. Runs l n o) ms (subst (λ l. Runs l m o) ks r))

counted : (number n : ℕ) (e : Event) (later : List Event) → n + cond (e.line == number && is_t202 e.what) 1 0 + expiries number later ≡ n + expiries number (e ∷ later)
counted number n e later = omega (arith, (sum_by-cons (λ (e : Event). cond (e.line == number && is_t202 e.what) 1 0) e later))

summed : (n : ℕ) (xs ys : List Note) → n + length xs + length ys ≡ n + length (xs ++ ys)
summed n xs ys = omega (arith, (length-append xs ys))

not-so : (b : Bool) → not b ≡ true → b ≡ false
not-so b h = grind (arith, true≢false)

and-then : (b d : Bool) → (b && d) ≡ true → d ≡ true
and-then b d h = grind (arith, true≢false)

none-runs : (p : Option Procedure) → not (is_some p) ≡ true → p ≡ None
none-runs p h = grind (arith, true≢false)

-- What is due by an event of a terminal's line.
module _ (c : Config) (is : is_terminal c ≡ true) (w : Managed) (e : line_event.Event) where
  abbrev t : OfTerminal
  t = own_of c w

  abbrev u : OfTerminal
  u = unwrap_or (terminal.by_event c e t) t

  due-is : due c e w ≡ at_terminal c e (nothing_due w)
  due-is = ap (λ b. cond b (at_terminal c e (nothing_due w)) (Rattle.laws_trace.specs.Managing.by_event c e (nothing_due w))) is

  notes-are : (due c e w).notes ≡ u.notes
  notes-are = grind (arith, due-is, terminal.by_event, of_terminal, nothing_due)

  asks-then : (own_of c (due c e w)).procedure ≡ u.procedure
  asks-then = grind (arith, due-is, terminal.by_event, of_terminal, nothing_due)

-- Only a terminal is granted the request, and it asks then for the first time.
ask-granted : (c : Config) (w : Managed) (b : Bool) → is_terminal c ≡ b → (due c (request AskTei) w).granted ≡ Some (b && (list_any is_free (own_of c w).places && not (is_some (own_of c w).procedure)))
ask-granted c w b h = grind (arith, due-is, request, nothing_due)

-- A run of a line.
module _ (c : Config) (number : ℕ) (ranged : IsInRange c) (within : number < c.lines) where
  abbrev card : List Event → Card
  card before = after_all (fresh c) before

  abbrev its : List Event → OfTerminal
  its before = own_of c (managed_after c number before)

  abbrev asking : List Event → Option ℕ
  asking before = asking_of (its before).procedure

  abbrev moment : List Event → Event → Moment
  moment before e = record { card = card before; event = e; answer = answer e (card before) }

  managed-then : (before : List Event) (e : Event) → managed_after c number (before ++ e ∷ []) ≡ led c number (managed_after c number before) e
  managed-then before e = fold-append (led c number) none_on before (e ∷ [])

  card-then : (before : List Event) (e : Event) → card (before ++ e ∷ []) ≡ after e (card before)
  unfolding after_all
  card-then before e = after_all-append (fresh c) before (e ∷ [])

  -- whether the request is granted
  grants-so : (before : List Event) → AreAtLines (fresh c) before → (b : Bool) → is_terminal c ≡ b
      → is_granted (moment_of c before number (request AskTei)).answer ≡ (b && (list_any is_free (its before).places && not (is_some (its before).procedure)))
  grants-so before all b is = (teis-are-managed c before number ranged all within (request AskTei)).granted _ (ask-granted c (managed_after c number before) b is)

  module _ (is : is_terminal c ≡ true) where
    -- one event of the line
    breaks-not : (before : List Event) → AreAtLines (fresh c) before → (what : line_event.Event) → breaks_off what (moment_of c before number what).answer ≡ false
        → breaks_by (its before) what ≡ false
    breaks-not before all what stays = grind (arith, grants-so, is, true≢false)

    ran-out : (before : List Event) (what : line_event.Event) → is_t202 what ≡ true → u c is (managed_after c number before) what ≡ terminal.ran_out (its before).procedure (its before)
    ran-out before what it = grind (arith, true≢false)

    module _ (before : List Event) (all : AreAtLines (fresh c) before) (what : line_event.Event) (expired told : ℕ) (runs : Runs expired told (asking before)) where
      abbrev w : Managed
      w = managed_after c number before

      abbrev m : Moment
      m = moment_of c before number what

      told-is : length (filter is_result (notes_of m.answer)) ≡ told_of (u c is w what)
      told-is = grind (arith, filter-both, teis-are-managed, notes-are, is)

      leads : (b : Bool) → is_t202 what ≡ b → breaks_off what m.answer ≡ false → Runs (expired + cond b 1 0) (told + told_of (u c is w what)) (asking_of (u c is w what).procedure)
      leads b it stays = grind (arith, ran-out, expires-so, expires, goes-so, is, happens, breaks-not)

      pub one-more : breaks_off what m.answer ≡ false
          → Runs (expired + cond (is_t202 what) 1 0) (told + length (filter is_result (notes_of m.answer))) (asking_of (own_of c (due c what w)).procedure)
      one-more stays = grind (arith, moved, told-is, asks-then, is, leads)

      -- The event may be of another line.
      abbrev Then : ℕ → Bool → Type 0
      Then n b =
          let a = answer (at n what) (card before) in
          not (b && breaks_off what a) ≡ true
          → Runs (expired + cond (b && is_t202 what) 1 0) (told + length (cond b (filter is_result (notes_of a)) [])) (asking_of (own_of c (cond b (due c what w) w)).procedure)

      then-so : (n : ℕ) (b : Bool) → (n == number) ≡ b → Then n b
      then-so n b same = grind (arith, eqb-true, one-more, not-so, breaks_off, moved)

    walks : (before later : List Event) → AreAtLines (fresh c) (before ++ later) → (expired told : ℕ) → Runs expired told (asking before)
        → All (λ m. goes_on number m ≡ true) (moments (card before) later)
        → Runs (expired + expiries number later) (told + length (results number (moments (card before) later))) (asking (before ++ later))
    unfolding moments
    walks before [] all expired told runs on = moved (omega arith) (omega arith) (ap asking (sym (append-nil before))) runs
    walks before (e ∷ later) all expired told runs on =
        let whole = subst (AreAtLines (fresh c)) (sym (append_assoc before (e ∷ []) later)) all in
        let front = all-left (IsAtLine (fresh c)) before (e ∷ later) all in
        let now = then-so before front e.what expired told runs e.line (e.line == number) refl
        (All-head (λ m. goes_on number m ≡ true) (moment before e) (moments (after e (card before)) later) on) in
        let there = ap (λ w. asking_of (own_of c w).procedure) (sym (managed-then before e)) in
        let rest = walks (before ++ e ∷ []) later whole _ _ (moved refl refl there now)
        (subst (λ k. All (λ m. goes_on number m ≡ true) (moments k later)) (sym (card-then before e))
        (All-tail (λ m. goes_on number m ≡ true) (moment before e) (moments (after e (card before)) later) on)) in
        moved
        (counted number expired e later)
        (ap (λ k. told + length (results_in number (moment before e)) + length (results number (moments k later))) (card-then before e)
        ∙ summed told (results_in number (moment before e)) (results number (moments (after e (card before)) later)))
        (ap asking (append_assoc before (e ∷ []) later)) rest

    -- after the request that is granted
    abbrev ask : Event
    ask = at number (request AskTei)

    asks-first : (before : List Event) → AreAtLines (fresh c) before → is_granted (moment_of c before number (request AskTei)).answer ≡ true → asking (before ++ ask ∷ []) ≡ Some 1
    asks-first before all granted =
        let w = managed_after c number before in
        ap (λ w. asking_of (own_of c w).procedure) (managed-then before ask)
        ∙ ap (λ b. asking_of (own_of c (cond b (due c (request AskTei) w) w)).procedure) (itself number)
        ∙ ap asking_of (asks-then c is w (request AskTei))
        ∙ ap (λ b. asking_of (unwrap_or (terminal.grants b (terminal.asks 1 (its before)) (its before)) (its before)).procedure) (sym (grants-so before all true is) ∙ granted)

    none-asks : (before : List Event) → AreAtLines (fresh c) before → is_granted (moment_of c before number (request AskTei)).answer ≡ true → asking before ≡ None
    none-asks before all granted =
        ap asking_of (none-runs (its before).procedure (and-then (list_any is_free (its before).places) _ (sym (grants-so before all true is) ∙ granted)))

-- What the run comes to.
has-result : (expired : ℕ) (ns : List Note) (again : Bool) (o : Option ℕ) → Runs expired (length ns) o → (again ≡ true → o ≡ None) → HasResult expired again ns
has-result expired ns again o h none = grind (arith, none-some)

pub asking-ends : Always AskingEnds
asking-ends c events number ranged all within past later is granted on = go (is_terminal c) refl
  where
    asks : Event
    asks = at number (request AskTei)

    front : AreAtLines (fresh c) past
    front = front-at (fresh c) past asks later (subst (AreAtLines (fresh c)) is all)

    split : (past ++ asks ∷ []) ++ later ≡ events
    split = append_assoc past (asks ∷ []) later ∙ sym is

    go : (b : Bool) → is_terminal c ≡ b
        → HasResult (expiries number later) (is_granted (moment_of c events number (request AskTei)).answer) (results number (moments (after asks (after_all (fresh c) past)) later))
    go false net = absurd (true≢false (sym granted ∙ grants-so c number ranged within past front false net))
    go true it =
        let card_then = card-then c number ranged within past asks in
        let runs = walks c number ranged within it (past ++ asks ∷ []) later (subst (AreAtLines (fresh c)) (sym split) all) 0 0
        (inl (refl, omega arith, asks-first c number ranged within it past front granted))
        (subst (λ k. All (λ m. goes_on number m ≡ true) (moments k later)) (sym card_then) on) in
        has-result _ _ _ _
        (moved (omega arith) (omega arith ∙ ap (λ k. length (results number (moments k later))) card_then)
        (ap (asking c number ranged within) split) runs)
        (none-asks c number ranged within it events all)
