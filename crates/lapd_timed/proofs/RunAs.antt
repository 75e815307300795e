-- At the places of the lines those timers run that a clock has, and so those that the lines run.
use Rattle.lapd_clock.proofs.Vocabulary.{◌≡◌, ℕ, ◌*◌, ◌<◌, Bool, true, false, cond, List, refl, sym, ap, ◌∙◌, subst, arith, nat_tests, filter, Timer, Expiry, is_of, is_held, never}
use Rattle.lapd_clock.specs.Timer.{T200, T203, T201, T202, Service}
use Rattle.std.proofs.Common.{◌&&◌}
use Rattle.std.specs.Prelude.{Option, None, Some, is_some}
use Rattle.model_link.specs.declared.timers.LinkTimer.{LinkTimer}
use Rattle.model_link.specs.declared.timers.LinkTimer.TheVariants as link
use Rattle.model_link.specs.Told as told
use Rattle.model_line.specs.Expiry.{is_running as line_runs_timer, runs_at}
use Rattle.model_line.specs.Line.{Line, link_at, link_number, place_at, place_in, service_at, tei_at}
use Rattle.model_line.proofs.Numbers.{place_at-number, service_at-number, number_within}
use Rattle.model_card.specs.Card.{Card, line_at}
use Rattle.model_timed.specs.Clock.{Clock}
use Rattle.model_timed.specs.RunTheSame.{RunAs, as_they_are}
use Rattle.model_timed.proofs.Orders.{held-is}
use Rattle.lapd_timed.specs.MomentsImage.{link_runs, line_runs, RunsHere}
use Rattle.lapd_timed.specs.OfCard.{slot_of, line_slot_of, timer_of, line_timer, Holds, AreApart}
use Rattle.lapd_clock.specs.OwnPlaces.{at, is_running, timers_in, IsItsPlace, RunsAt}
use Rattle.lapd_timed.specs.Stands.{IsOn}
use Rattle.lapd_timed.proofs.InImage.{moment-here}
use Rattle.lapd_clock.proofs.OwnPlace.{held_none}
use Rattle.lapd_timed.proofs.OfCard.{each-running, its_place, line_place, link_running, number_is}
use Rattle.lapd_clock.proofs.First.{All-in_order}

pub held-here : (es : List Expiry) (i line : ℕ) (timer : Timer) → IsItsPlace i line timer es → is_held line timer (timers_in es) ≡ is_running (at i es)
held-here es i line timer its = held-is line timer (timers_in es) ∙ ap (λ (o : Option ℕ). is_some o) (moment-here es i line timer its) ∙ there (is_running (at i es))
  where
    there : (b : Bool) → is_some (cond {A = Option ℕ} b (Some (at i es).moment) None) ≡ b
    there true = refl
    there false = refl

pub if-running : (e : Expiry) → is_running e ≡ true → e.moment < never
if-running e h = grind (arith, nat_tests)

-- what is at no place is not held
pub held-nowhere : (es : List Expiry) (line : ℕ) (timer : Timer) → ((i : ℕ) → RunsAt i line timer es → ⊥) → is_held line timer (timers_in es) ≡ false
held-nowhere es line timer none =
    held_none line timer (timers_in es)
    (All-in_order (λ e. is_of line timer e ≡ false) (filter is_running es) (each-running (λ e. is_of line timer e ≡ false) es (λ i within soon.
    (elim (is_of line timer (at i es)) as (λ b. is_of line timer (at i es) ≡ b → b ≡ false) [
      | true ↦ λ its. absurd (none i (record { within = within; runs = soon; its = its }))
      | false ↦ λ _. refl
    ]) refl)))

-- The places of TEIs on the lines of a card.
pub record KnowPlaces (card : Card) (lines terminals : ℕ) : Type 0 where
  pub in_place : (line n tei : ℕ) → line < lines → tei_at (place_at n) (line_at line card) ≡ Some tei → place_in (line_at line card) tei ≡ Some (place_at n)
  pub of_place : (line tei place : ℕ) → line < lines → place_in (line_at line card) tei ≡ Some place → (place < terminals) × (tei_at place (line_at line card) ≡ Some tei)

-- the timers of links, as the line names them
as-named : (k : LinkTimer) (service : Service) (tei : ℕ) (l : Line) → line_runs_timer (timer_of k service tei) l ≡ runs_at service k (place_in l tei) l
as-named link.T200 service tei l = refl
as-named link.T203 service tei l = refl

own-named : (which : Bool) (l : Line) → line_runs_timer (line_timer which) l ≡ line_runs l which
own-named true l = refl
own-named false l = refl

module _ (card : Card) (clock : Clock) (lines terminals : ℕ) (es : List Expiry) (lines_are : card.config.lines ≡ lines) (running : clock.running ≡ timers_in es)
    (places : Holds lines (2 * terminals) (slot_of terminals) (line_slot_of terminals) (IsOn card) es) (apart : AreApart lines (IsOn card))
    (know : KnowPlaces card lines terminals) where
  module _ (line : ℕ) (there : line < lines) where
    abbrev l : Line
    l = line_at line card

    abbrev slot : ℕ → LinkTimer → ℕ
    slot number k = slot_of terminals line number k

    own-place : (n tei : ℕ) (k : LinkTimer) → n < 2 * terminals → tei_at (place_at n) l ≡ Some tei → IsItsPlace (slot n k) line (timer_of k (service_at n) tei) es
    own-place n tei k within e = its_place lines (2 * terminals) (slot_of terminals) (line_slot_of terminals) (IsOn card) es places apart line n tei k there within e

    own-line : (which : Bool) → IsItsPlace (line_slot_of terminals which line) line (line_timer which) es
    own-line which = line_place lines (2 * terminals) (slot_of terminals) (line_slot_of terminals) (IsOn card) es places apart line which there

    -- what the line says of a link's timer, by its number
    by-number : (n tei : ℕ) (k : LinkTimer) → tei_at (place_at n) l ≡ Some tei → line_runs_timer (timer_of k (service_at n) tei) l ≡ link_runs l n k
    by-number n tei k e =
        as-named k (service_at n) tei l
        ∙ ap (λ (o : Option ℕ). runs_at (service_at n) k o l) (know.in_place line n tei there e)
        ∙ ap (λ (m : ℕ). told.runs k (link_at m l).running) (number_is n)
        ∙ sym (ap (λ (o : Option ℕ). is_some o && told.runs k (link_at n l).running) e)

    -- As the clock has them, so they run here.
    pub runs-here : RunAs as_they_are card clock → RunsHere terminals line l es
    runs-here same = record {
      links = λ n k within. go n k within (tei_at (place_at n) l) refl;
      own = λ which. sym (held-here es (line_slot_of terminals which line) line (line_timer which) (own-line which)) ∙ held which ∙ own-named which l;
    }
      where
        on : line < card.config.lines
        on = subst (λ n. line < n) (sym lines_are) there

        held : (which : Bool) → is_held line (line_timer which) (timers_in es) ≡ line_runs_timer (line_timer which) l
        held which = ap (is_held line (line_timer which)) (sym running) ∙ same line (line_timer which) on

        go : (n : ℕ) (k : LinkTimer) → n < 2 * terminals → (o : Option ℕ) → tei_at (place_at n) l ≡ o → is_running (at (slot n k) es) ≡ link_runs l n k
        go n k within (Some tei) e = sym (held-here es (slot n k) line (timer_of k (service_at n) tei) (own-place n tei k within e)) ∙ ap (is_held line (timer_of k (service_at n) tei)) (sym running) ∙ same line (timer_of k (service_at n) tei) on ∙ by-number n tei k e
        go n k within None e =
            (elim (is_running (at (slot n k) es)) as (λ b. is_running (at (slot n k) es) ≡ b → b ≡ false) [
              | true ↦ λ run. let who = (places.at_links line n k there within).its (if-running (at (slot n k) es) run) in absurd (none-some who.0 (sym e ∙ who.1.0))
              | false ↦ λ _. refl
            ]) refl
            ∙ sym (ap (λ (o : Option ℕ). is_some o && told.runs k (link_at n l).running) e)
          where
            none-some : (x : ℕ) → None ≡ Some x → ⊥
            none-some x h = cc

  -- And the other way round: as they run here, so the clock has them.
  pub runs-so : ((line : ℕ) → line < lines → RunsHere terminals line (line_at line card) es) → RunAs as_they_are card clock
  runs-so here line timer on = ap (is_held line timer) running ∙ by-timer timer
    where
      there : line < lines
      there = subst (λ n. line < n) lines_are on

      at-link : (service : Service) (tei : ℕ) (k : LinkTimer) (o : Option ℕ) → place_in (line_at line card) tei ≡ o
          → is_held line (timer_of k service tei) (timers_in es) ≡ runs_at service k o (line_at line card)
      at-link service tei k None e = held-nowhere es line (timer_of k service tei) (λ i found.
          let of = link_running lines (2 * terminals) (slot_of terminals) (line_slot_of terminals) (IsOn card) es places apart i line tei k service found in
          none-some (place_at of.number) (sym e ∙ know.in_place line of.number tei there of.on_line))
        where
          none-some : (x : ℕ) → None ≡ Some x → ⊥
          none-some x h = cc
      at-link service tei k (Some place) e =
          let of = know.of_place line tei place there e in
          let n : ℕ = link_number place service in
          let within : n < 2 * terminals = number_within place terminals service of.0 in
          let tei_is : tei_at (place_at n) (line_at line card) ≡ Some tei = ap (λ (p : ℕ). tei_at p (line_at line card)) (place_at-number place service) ∙ of.1 in
          ap (λ (s : Service). is_held line (timer_of k s tei) (timers_in es)) (sym (service_at-number place service))
          ∙ held-here es (slot_of terminals line n k) line (timer_of k (service_at n) tei) (own-place line there n tei k within tei_is)
          ∙ (here line there).links n k within
          ∙ ap (λ (o : Option ℕ). is_some o && told.runs k (link_at n (line_at line card)).running) tei_is

      own : (which : Bool) → is_held line (line_timer which) (timers_in es) ≡ line_runs_timer (line_timer which) (line_at line card)
      own which = held-here es (line_slot_of terminals which line) line (line_timer which) (own-line line there which) ∙ (here line there).own which ∙ sym (own-named which (line_at line card))

      by-timer : (timer : Timer) → is_held line timer (timers_in es) ≡ line_runs_timer timer (line_at line card)
      by-timer (T200 service tei) = at-link service tei link.T200 (place_in (line_at line card) tei) refl
      by-timer (T203 service tei) = at-link service tei link.T203 (place_in (line_at line card) tei) refl
      by-timer T201 = own false
      by-timer T202 = own true
