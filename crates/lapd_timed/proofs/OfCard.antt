-- Each timer of a link is at its place alone.
use Rattle.lapd_clock.proofs.Vocabulary.{◌≡◌, ◌≢◌, ℕ, zero, suc, ◌<◌, ◌≤◌, Bool, true, false, cond, ◌&&◌, ◌==◌, List, [], ◌∷◌, length, filter, refl, sym, ap, ◌∙◌, subst, arith, nat_tests, inl, inr, cases_lt, cases_eq, AllByRecursion, Timer, is_same, Expiry, is_of, never, set}
use Rattle.lapd_frame.specs.declared.services.Service.{Service}
use Rattle.model_link.specs.declared.timers.LinkTimer.{LinkTimer}
use Rattle.model_line.specs.Line.{service_at, place_at, link_number}
use Rattle.std.proofs.lemmas.Bool.{and_parts}
use Rattle.lapd_clock.proofs.Again.{equal, itself}
use Rattle.lapd_clock.specs.OwnPlaces.{is_running, at, with_timer, without_timer, IsItsPlace, RunsAt}
use Rattle.lapd_timed.specs.OfCard.{timer_of, line_timer, OfLink, OfLine, IsLayout, HoldsOwn, HoldsLine, Holds, AreApart}
use Rattle.lapd_clock.proofs.First.{All-in_order}
use Rattle.lapd_clock.proofs.Standing.{runs, rests}

abbrev pub Each : (Expiry → Type 0) → List Expiry → Type 0
Each P es = (j : ℕ) → j < length es → (at j es).moment < never → P (at j es)

pub each-running : (P : Expiry → Type 0) (es : List Expiry) → Each P es → AllByRecursion P (filter is_running es)
each-running P [] h = tt
each-running P (x ∷ xs) h =
    let later : AllByRecursion P (filter is_running xs) = each-running P xs (λ j within. h (suc j) (omega (arith, within))) in
    elim (cases_lt x.moment never) [
      | inl soon ↦ subst (λ b. AllByRecursion P (cond b (x ∷ filter is_running xs) (filter is_running xs))) (sym (runs x soon)) (h 0 (omega arith) soon, later)
      | inr late ↦ subst (λ b. AllByRecursion P (cond b (x ∷ filter is_running xs) (filter is_running xs))) (sym (rests x late)) later
    ]

but_one : (P : Expiry → Type 0) (es : List Expiry) (i : ℕ) (z : Expiry) → never ≤ z.moment
    → ((j : ℕ) → j < length es → j ≢ i → (at j es).moment < never → P (at j es)) → AllByRecursion P (filter is_running (set es i z))
but_one P [] i z rest h = tt
but_one P (x ∷ xs) zero z rest h =
    subst (λ b. AllByRecursion P (cond b (z ∷ filter is_running xs) (filter is_running xs))) (sym (rests z rest))
    (each-running P xs (λ j within. h (suc j) (omega (arith, within)) (λ e. absurd (omega (arith, e)))))
but_one P (x ∷ xs) (suc i) z rest h =
    let later : AllByRecursion P (filter is_running (set xs i z)) = but_one P xs i z rest (λ j within ne. h (suc j) (omega (arith, within)) (λ e. ne (omega (arith, e)))) in
    elim (cases_lt x.moment never) [
      | inl soon ↦ subst (λ b. AllByRecursion P (cond b (x ∷ filter is_running (set xs i z)) (filter is_running (set xs i z)))) (sym (runs x soon)) (h 0 (omega arith) (λ e. absurd (omega (arith, e))) soon, later)
      | inr late ↦ subst (λ b. AllByRecursion P (cond b (x ∷ filter is_running (set xs i z)) (filter is_running (set xs i z)))) (sym (rests x late)) later
    ]

-- ---- timers and numbers

pub both : (a b : Bool) → (a && b) ≡ true → (a ≡ true) × (b ≡ true)
both a b e = grind arith

pub same_number : (k l : ℕ) → (k == l) ≡ true → k ≡ l
same_number k l e = grind (arith, nat_tests)

-- which of a link's timers it is
pub record Parts (k m : LinkTimer) (s r : Service) (t u : ℕ) : Type 0 where
  pub timer : k ≡ m
  pub service : s ≡ r
  pub tei : t ≡ u

parts : (k m : LinkTimer) (s r : Service) (t u : ℕ) → timer_of k s t ≡ timer_of m r u → Parts k m s r t u
parts k m s r t u e = grind arith

pub number_is : (number : ℕ) → link_number (place_at number) (service_at number) ≡ number
number_is number = grind (arith, nat_tests)

module _ (lines links : ℕ) (slot : ℕ → ℕ → LinkTimer → ℕ) (line_slot : Bool → ℕ → ℕ) (IsOn : ℕ → ℕ → ℕ → Type 0) (es : List Expiry) (h : Holds lines links slot line_slot IsOn es) (on : AreApart lines IsOn) where
  no_link : (which : Bool) (m : LinkTimer) (s : Service) (t : ℕ) → line_timer which ≡ timer_of m s t → ⊥
  no_link which m s t e = grind arith

  which_is : (which its : Bool) → line_timer which ≡ line_timer its → which ≡ its
  which_is which its e = grind arith

  -- a link's timer, of a TEI that is at its place
  module _ (line number tei : ℕ) (k : LinkTimer) (line_there : line < lines) (number_there : number < links) (on_line : IsOn line (place_at number) tei) where
    abbrev i : ℕ
    i = slot line number k

    abbrev timer : Timer
    timer = timer_of k (service_at number) tei

    own : HoldsOwn IsOn line number k (at i es)
    own = h.at_links line number k line_there number_there

    -- one of another place is another timer
    other-link : (j : ℕ) → OfLink lines links slot j → j ≢ i → (at j es).moment < never → is_of line timer (at j es) ≡ true → ⊥
    other-link j of apart soon is =
        let split = both ((at j es).line == line) (is_same (at j es).timer timer) is in
        let there = subst (λ n. HoldsOwn IsOn of.line of.number of.timer (at n es)) (sym of.is) (h.at_links of.line of.number of.timer of.line_there of.number_there) in
        let same_line : of.line ≡ line = sym there.line_is ∙ same_number (at j es).line line split.0 in
        let who = there.its soon in
        let p = parts of.timer k (service_at of.number) (service_at number) who.0 tei (sym who.1.1 ∙ equal (at j es).timer timer split.1) in
        let at_j : IsOn line (place_at of.number) tei = subst (IsOn line (place_at of.number)) p.tei (subst (λ n. IsOn n (place_at of.number) who.0) same_line who.1.0) in
        let place : place_at of.number ≡ place_at number = on.once line (place_at of.number) (place_at number) tei line_there at_j on_line in
        let numbers : of.number ≡ number = sym (number_is of.number) ∙ ap (λ n. link_number n (service_at of.number)) place ∙ ap (link_number (place_at number)) p.service ∙ number_is number in
        apart (of.is ∙ ap (λ n. slot n of.number of.timer) same_line ∙ ap (λ n. slot line n of.timer) numbers ∙ ap (slot line number) p.timer)

    other-line : (j : ℕ) → OfLine lines line_slot j → (at j es).moment < never → is_of line timer (at j es) ≡ true → ⊥
    other-line j of soon is =
        let there = subst (λ n. HoldsLine of.which of.line (at n es)) (sym of.is) (h.at_lines of.line of.which of.line_there) in
        let split = both ((at j es).line == line) (is_same (at j es).timer timer) is in
        no_link of.which k (service_at number) tei (sym (there.its soon) ∙ equal (at j es).timer timer split.1)

    other : (j : ℕ) → j < length es → j ≢ i → (at j es).moment < never → is_of line timer (at j es) ≡ false
    other j within apart soon =
        (elim (is_of line timer (at j es)) as (λ b. is_of line timer (at j es) ≡ b → b ≡ false) [
          | true ↦ λ is. absurd (elim (h.layout.each j within) [ inl of ↦ other-link j of apart soon is | inr of ↦ other-line j of soon is ])
          | false ↦ λ _. refl
        ]) refl

    pub its_place : IsItsPlace i line timer es
    its_place = record {
      within = h.layout.slot_there line number k line_there number_there;
      line_is = own.line_is;
      only = All-in_order (λ e. is_of line timer e ≡ false) (filter is_running (without_timer i es))
          (but_one (λ e. is_of line timer e ≡ false) es i (record (at i es) { moment = never }) (omega arith) other);
      its = λ soon. let who = own.its soon in
          itself (at i es) line timer own.line_is
          (who.1.1 ∙ ap (timer_of k (service_at number)) (on.alone line (place_at number) who.0 tei line_there who.1.0 on_line));
    }

  -- and a line's own
  module _ (line : ℕ) (which : Bool) (line_there : line < lines) where
    abbrev its_timer : Timer
    its_timer = line_timer which

    beside-link : (j : ℕ) → OfLink lines links slot j → (at j es).moment < never → is_of line its_timer (at j es) ≡ true → ⊥
    beside-link j of soon is =
        let split = both ((at j es).line == line) (is_same (at j es).timer its_timer) is in
        let there = subst (λ n. HoldsOwn IsOn of.line of.number of.timer (at n es)) (sym of.is) (h.at_links of.line of.number of.timer of.line_there of.number_there) in
        let who = there.its soon in
        no_link which of.timer (service_at of.number) who.0 (sym (equal (at j es).timer its_timer split.1) ∙ who.1.1)

    beside-line : (j : ℕ) → OfLine lines line_slot j → j ≢ line_slot which line → (at j es).moment < never → is_of line its_timer (at j es) ≡ true → ⊥
    beside-line j of apart soon is =
        let there = subst (λ n. HoldsLine of.which of.line (at n es)) (sym of.is) (h.at_lines of.line of.which of.line_there) in
        let split = both ((at j es).line == line) (is_same (at j es).timer its_timer) is in
        let same : of.which ≡ which = which_is of.which which (sym (there.its soon) ∙ equal (at j es).timer its_timer split.1) in
        apart (of.is ∙ ap (λ w. line_slot w of.line) same ∙ ap (line_slot which) (sym there.line_is ∙ same_number (at j es).line line split.0))

    beside-all : (j : ℕ) → j < length es → j ≢ line_slot which line → (at j es).moment < never → is_of line its_timer (at j es) ≡ false
    beside-all j within apart soon =
        (elim (is_of line its_timer (at j es)) as (λ b. is_of line its_timer (at j es) ≡ b → b ≡ false) [
          | true ↦ λ is. absurd (elim (h.layout.each j within) [ inl of ↦ beside-link j of soon is | inr of ↦ beside-line j of apart soon is ])
          | false ↦ λ _. refl
        ]) refl

    pub line_place : IsItsPlace (line_slot which line) line its_timer es
    line_place = record {
      within = h.layout.line_slot_there line which line_there;
      line_is = (h.at_lines line which line_there).line_is;
      only = All-in_order (λ e. is_of line its_timer e ≡ false) (filter is_running (without_timer (line_slot which line) es))
          (but_one (λ e. is_of line its_timer e ≡ false) es (line_slot which line) (record (at (line_slot which line) es) { moment = never }) (omega arith) beside-all);
      its = λ soon. itself (at (line_slot which line) es) line its_timer (h.at_lines line which line_there).line_is ((h.at_lines line which line_there).its soon);
    }

-- ---- a stop, and a line that changes

pub at_other : (es : List Expiry) (i j : ℕ) (z : Expiry) → j ≢ i → at j (set es i z) ≡ at j es
at_other [] i j z apart = refl
at_other (x ∷ xs) zero zero z apart = absurd (apart refl)
at_other (x ∷ xs) zero (suc j) z apart = refl
at_other (x ∷ xs) (suc i) zero z apart = refl
at_other (x ∷ xs) (suc i) (suc j) z apart = at_other xs i j z (λ e. apart (ap suc e))

pub at_own : (es : List Expiry) (i : ℕ) (z : Expiry) → i < length es → at i (set es i z) ≡ z
at_own [] i z within = absurd (omega (arith, within))
at_own (x ∷ xs) zero z within = refl
at_own (x ∷ xs) (suc i) z within = at_own xs i z (omega (arith, within))

pub length_set : (es : List Expiry) (i : ℕ) (z : Expiry) → length (set es i z) ≡ length es
length_set [] i z = refl
length_set (x ∷ xs) zero z = refl
length_set (x ∷ xs) (suc i) z = ap suc (length_set xs i z)

-- what runs at a place does so when another changes
pub runs_still : (es : List Expiry) (i j line : ℕ) (timer : Timer) (z : Expiry) → j ≢ i → RunsAt j line timer es → RunsAt j line timer (set es i z)
runs_still es i j line timer z apart found = record {
  within = omega (arith, found.within, length_set es i z);
  runs = subst (λ (e : Expiry). e.moment < never) (sym (at_other es i j z apart)) found.runs;
  its = ap (is_of line timer) (at_other es i j z apart) ∙ found.its;
}

-- two places change in either order
pub either_first : (es : List Expiry) (i j moment : ℕ) (timer : Timer) → j ≢ i → without_timer i (with_timer j timer moment es) ≡ with_timer j timer moment (without_timer i es)
either_first es i j moment timer apart =
    ap (λ (e : Expiry). set (with_timer j timer moment es) i (record e { moment = never })) (at_other es j i _ (λ e. apart (sym e)))
    ∙ swapped es i j _ _ apart
    ∙ ap (λ (e : Expiry). set (without_timer i es) j (record e { moment = moment; timer = timer })) (sym (at_other es i j _ apart))
  where
    swapped : (es : List Expiry) (i j : ℕ) (y z : Expiry) → j ≢ i → set (set es j z) i y ≡ set (set es i y) j z
    swapped [] i j y z apart = refl
    swapped (x ∷ xs) zero zero y z apart = absurd (apart refl)
    swapped (x ∷ xs) zero (suc j) y z apart = refl
    swapped (x ∷ xs) (suc i) zero y z apart = refl
    swapped (x ∷ xs) (suc i) (suc j) y z apart = ap (λ ys. x ∷ ys) (swapped xs i j y z (λ e. apart (ap suc e)))

-- one place has its line, and what runs there is what is wanted, or it is as before
pub replaced : (P : Expiry → Type 0) (es : List Expiry) (i j : ℕ) (z : Expiry) → i < length es → (j ≡ i → P (at j es) → P z) → P (at j es) → P (at j (set es i z))
replaced P es i j z within own was =
    elim (cases_eq j i) [
      | inl same ↦ subst P (sym (ap (λ n. at n (set es i z)) same ∙ at_own es i z within)) (own same was)
      | inr apart ↦ subst P (sym (at_other es i j z apart)) was
    ]

module _ (lines links : ℕ) (slot : ℕ → ℕ → LinkTimer → ℕ) (line_slot : Bool → ℕ → ℕ) (IsOn : ℕ → ℕ → ℕ → Type 0) (es : List Expiry) (h : Holds lines links slot line_slot IsOn es) where
  never_runs : never < never → ⊥
  never_runs e = omega (arith, e)

  pub holds_stopped : (i : ℕ) → i < length es → Holds lines links slot line_slot IsOn (without_timer i es)
  holds_stopped i within = record {
    layout = subst (λ n. IsLayout lines links n slot line_slot) (sym (length_set es i _)) h.layout;
    at_links = λ line number k there within_links. replaced (HoldsOwn IsOn line number k) es i (slot line number k) _ within
        (λ same was. record { line_is = ap (λ n. (at n es).line) (sym same) ∙ was.line_is; its = λ soon. absurd (never_runs soon) }) (h.at_links line number k there within_links);
    at_lines = λ line which there. replaced (HoldsLine which line) es i (line_slot which line) _ within
        (λ same was. record { line_is = ap (λ n. (at n es).line) (sym same) ∙ was.line_is; its = λ soon. absurd (never_runs soon) }) (h.at_lines line which there);
  }

  -- Where the TEIs of what runs are at their places elsewhere, too, what runs is held there.
  pub holds_moved : (New : ℕ → ℕ → ℕ → Type 0) → ((line number tei : ℕ) (k : LinkTimer) → line < lines → number < links → (at (slot line number k) es).moment < never
      → (at (slot line number k) es).line ≡ line → (at (slot line number k) es).timer ≡ timer_of k (service_at number) tei
      → IsOn line (place_at number) tei → New line (place_at number) tei) → Holds lines links slot line_slot New es
  holds_moved New stay = record {
    layout = h.layout;
    at_links = λ line number k there within. let was = h.at_links line number k there within in
        record { line_is = was.line_is; its = λ soon. let who = was.its soon in (who.0, (stay line number who.0 k there within soon was.line_is who.1.1 who.1.0, who.1.1)) };
    at_lines = h.at_lines;
  }

  -- A timer is started that is of the TEI at its link's place.
  pub holds_started : (line number tei moment : ℕ) (k : LinkTimer) → line < lines → number < links → IsOn line (place_at number) tei
      → Holds lines links slot line_slot IsOn (with_timer (slot line number k) (timer_of k (service_at number) tei) moment es)
  holds_started line number tei moment k there within on_line =
      let i = slot line number k in
      let i_there = h.layout.slot_there line number k there within in
      record {
        layout = subst (λ n. IsLayout lines links n slot line_slot) (sym (length_set es i _)) h.layout;
        at_links = λ line' number' k' there' within'. replaced (HoldsOwn IsOn line' number' k') es i (slot line' number' k') _ i_there
            (λ same was.
            let is = h.layout.apart line number line' number' k k' within within' (sym same) in
            record {
              line_is = ap (λ n. (at n es).line) (sym same) ∙ was.line_is;
              its = λ soon. (
                tei,
                (
                  subst (λ n. IsOn n (place_at number') tei) is.line_is (subst (λ n. IsOn line (place_at n) tei) is.number_is on_line),
                  ap (λ m. timer_of m (service_at number) tei) is.timer_is ∙ ap (λ n. timer_of k' (service_at n) tei) is.number_is,
                ),
              );
            })
            (h.at_links line' number' k' there' within');
        at_lines = λ line' which there'. replaced (HoldsLine which line') es i (line_slot which line') _ i_there
            (λ same was. absurd (h.layout.beside line number line' k which within same)) (h.at_lines line' which there');
      }

  -- Or one of a line's own is.
  pub holds_line : (line moment : ℕ) (which : Bool) → line < lines → Holds lines links slot line_slot IsOn (with_timer (line_slot which line) (line_timer which) moment es)
  holds_line line moment which there =
      let i_there = h.layout.line_slot_there line which there in
      record {
        layout = subst (λ n. IsLayout lines links n slot line_slot) (sym (length_set es (line_slot which line) _)) h.layout;
        at_links = λ line' number' k' there' within'. replaced (HoldsOwn IsOn line' number' k') es (line_slot which line) (slot line' number' k') _ i_there
            (λ same was. absurd (h.layout.beside line' number' line k' which within' (sym same))) (h.at_links line' number' k' there' within');
        at_lines = λ line' which' there'. replaced (HoldsLine which' line') es (line_slot which line) (line_slot which' line') _ i_there
            (λ same was. record { line_is = ap (λ n. (at n es).line) (sym same) ∙ was.line_is; its = λ soon. ap line_timer (sym (h.layout.two line' line which' which same)) }) (h.at_lines line' which' there');
      }

-- What is found anywhere runs at its own place.
module _ (lines links : ℕ) (slot : ℕ → ℕ → LinkTimer → ℕ) (line_slot : Bool → ℕ → ℕ) (IsOn : ℕ → ℕ → ℕ → Type 0) (es : List Expiry) (h : Holds lines links slot line_slot IsOn es) (on : AreApart lines IsOn) where
  found_link : (i line : ℕ) (timer : Timer) → RunsAt i line timer es → OfLink lines links slot i → IsItsPlace i line timer es
  found_link i line timer found of =
      let there = subst (λ n. HoldsOwn IsOn of.line of.number of.timer (at n es)) (sym of.is) (h.at_links of.line of.number of.timer of.line_there of.number_there) in
      let split = both ((at i es).line == line) (is_same (at i es).timer timer) found.its in
      let who = there.its found.runs in
      let its : IsItsPlace (slot of.line of.number of.timer) of.line (timer_of of.timer (service_at of.number) who.0) es =
      its_place lines links slot line_slot IsOn es h on of.line of.number who.0 of.timer of.line_there of.number_there who.1.0 in
      subst (λ n. IsItsPlace i n timer es) (sym there.line_is ∙ same_number (at i es).line line split.0)
      (subst (λ x. IsItsPlace i of.line x es) (sym who.1.1 ∙ equal (at i es).timer timer split.1)
      (subst (λ n. IsItsPlace n of.line (timer_of of.timer (service_at of.number) who.0) es) (sym of.is) its))

  found_line : (i line : ℕ) (timer : Timer) → RunsAt i line timer es → OfLine lines line_slot i → IsItsPlace i line timer es
  found_line i line timer found of =
      let there = subst (λ n. HoldsLine of.which of.line (at n es)) (sym of.is) (h.at_lines of.line of.which of.line_there) in
      let split = both ((at i es).line == line) (is_same (at i es).timer timer) found.its in
      subst (λ n. IsItsPlace i n timer es) (sym there.line_is ∙ same_number (at i es).line line split.0)
      (subst (λ x. IsItsPlace i of.line x es) (sym (there.its found.runs) ∙ equal (at i es).timer timer split.1)
      (subst (λ n. IsItsPlace n of.line (line_timer of.which) es) (sym of.is) (line_place lines links slot line_slot IsOn es h on of.line of.which of.line_there)))

  -- What runs as a timer of a link is at its place, of a TEI that is at the link's.
  pub record RunsOfLink (i line tei : ℕ) (k : LinkTimer) (service : Service) : Type 0 where
    pub number : ℕ
    pub line_there : line < lines
    pub number_there : number < links
    pub is : i ≡ slot line number k
    pub service_is : service_at number ≡ service
    pub on_line : IsOn line (place_at number) tei

  pub link_running : (i line tei : ℕ) (k : LinkTimer) (service : Service) → RunsAt i line (timer_of k service tei) es → RunsOfLink i line tei k service
  link_running i line tei k service found = elim (h.layout.each i found.within) [
    | inl of ↦ of-link of
    | inr of ↦ absurd (of-line of)
  ]
    where
      split : (((at i es).line == line) ≡ true) × (is_same (at i es).timer (timer_of k service tei) ≡ true)
      split = both ((at i es).line == line) (is_same (at i es).timer (timer_of k service tei)) found.its

      of-link : OfLink lines links slot i → RunsOfLink i line tei k service
      of-link of =
          let there = subst (λ n. HoldsOwn IsOn of.line of.number of.timer (at n es)) (sym of.is) (h.at_links of.line of.number of.timer of.line_there of.number_there) in
          let same_line : of.line ≡ line = sym there.line_is ∙ same_number (at i es).line line split.0 in
          let who = there.its found.runs in
          let p = parts of.timer k (service_at of.number) service who.0 tei (sym who.1.1 ∙ equal (at i es).timer (timer_of k service tei) split.1) in
          record {
            number = of.number;
            line_there = subst (λ n. n < lines) same_line of.line_there;
            number_there = of.number_there;
            is = of.is ∙ ap (λ n. slot n of.number of.timer) same_line ∙ ap (slot line of.number) p.timer;
            service_is = p.service;
            on_line = subst (IsOn line (place_at of.number)) p.tei (subst (λ n. IsOn n (place_at of.number) who.0) same_line who.1.0);
          }

      of-line : OfLine lines line_slot i → ⊥
      of-line of =
          let there = subst (λ n. HoldsLine of.which of.line (at n es)) (sym of.is) (h.at_lines of.line of.which of.line_there) in
          no_link lines links slot line_slot IsOn es h on of.which k service tei (sym (there.its found.runs) ∙ equal (at i es).timer (timer_of k service tei) split.1)

  pub found_place : (i line : ℕ) (timer : Timer) → RunsAt i line timer es → IsItsPlace i line timer es
  found_place i line timer found = elim (h.layout.each i found.within) [
    | inl of ↦ found_link i line timer found of
    | inr of ↦ found_line i line timer found of
  ]

-- ---- a timer that is started anew in its place

-- which timer runs
timer-is : (i line : ℕ) (timer : Timer) (es : List Expiry) → RunsAt i line timer es → (at i es).timer ≡ timer
timer-is i line timer es runs = equal (at i es).timer timer (and_parts ((at i es).line == line) (is_same (at i es).timer timer) runs.its).1

-- it is held as before
pub holds_restarted : (lines links : ℕ) (slot : ℕ → ℕ → LinkTimer → ℕ) (line_slot : Bool → ℕ → ℕ) (IsOn : ℕ → ℕ → ℕ → Type 0) (es : List Expiry) → Holds lines links slot line_slot IsOn es
    → (i line : ℕ) (timer : Timer) (moment : ℕ) → RunsAt i line timer es → Holds lines links slot line_slot IsOn (with_timer i timer moment es)
holds_restarted lines links slot line_slot IsOn es h i line timer moment runs = record {
  layout = subst (λ n. IsLayout lines links n slot line_slot) (sym (length_set es i _)) h.layout;
  at_links = λ line' number k there within. replaced (HoldsOwn IsOn line' number k) es i (slot line' number k) _ runs.within
      (λ same was. record {
        line_is = ap (λ n. (at n es).line) (sym same) ∙ was.line_is;
        its = λ soon. let who = was.its (subst (λ n. (at n es).moment < never) (sym same) runs.runs) in (who.0, (who.1.0, sym its-timer ∙ ap (λ n. (at n es).timer) (sym same) ∙ who.1.1));
      })
      (h.at_links line' number k there within);
  at_lines = λ line' which there. replaced (HoldsLine which line') es i (line_slot which line') _ runs.within
      (λ same was. record {
        line_is = ap (λ n. (at n es).line) (sym same) ∙ was.line_is;
        its = λ soon. sym its-timer ∙ ap (λ n. (at n es).timer) (sym same) ∙ was.its (subst (λ n. (at n es).moment < never) (sym same) runs.runs);
      })
      (h.at_lines line' which there);
}
  where
    its-timer : (at i es).timer ≡ timer
    its-timer = timer-is i line timer es runs
