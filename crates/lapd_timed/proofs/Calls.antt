-- What the calls of a card's timers come to.
use Rattle.std.proofs.Common.{arith, ◌≡◌, ℕ, zero, suc, ◌+◌, ◌*◌, ◌<◌, ◌≤◌, cond, List, [], ◌∷◌, length, take, get_or, refl, sym, ap, ◌∙◌, subst}
use Rattle.std.specs.List.{AllByRecursion}
use Rattle.std.proofs.lemmas.List.Elements.{All-from_recursion, All-nil}
use Rattle.std.specs.Prelude.{filter}
use Rattle.lapd_clock.specs.Firsts.{never}
use Rattle.lapd_clock.specs.Timer.{Lengths, Order, AreInRange}
use Rattle.lapd_clock.specs.Timers.{Expiry}
use Rattle.lapd_clock.specs.Places.{in_order}
use Rattle.lapd_clock.specs.OwnPlaces.{AreIdle, timers_in, is_running, at}
use Rattle.lapd_clock.proofs.Bounds.{in_lines}
use Rattle.lapd_timed.proofs.Laid.{idle_holds}
use Rattle.lapd_clock.proofs.Standing.{rests}
use Rattle.model_card.specs.Card as cards
use Rattle.model_card.proofs.Reaching.{reached-fresh}
use Rattle.model_line.specs.Sound.{IsInRange}
use Rattle.model_line.specs.declared.config.Config.{Config}
use Rattle.model_timed.specs.Clock.{Clock, stopped, obey, obeyed}
use Rattle.model_timed.specs.RunTheSame.{as_they_are}
use Rattle.model_timed.proofs.Running.{run-fresh}
use Rattle.lapd_timed.specs.Places.{AreOnLines}
use Rattle.lapd_timed.specs.Stands.{IsOn, AreKept}

-- where no timer runs, none is in the set
none-run : (es : List Expiry) → AllByRecursion (λ e. e.moment ≡ never) es → filter is_running es ≡ []
none-run [] all = refl
none-run (e ∷ es) all = ap (λ b. cond b (e ∷ filter is_running es) (filter is_running es)) (rests e (omega (arith, all.0))) ∙ none-run es all.1

none-in : (es : List Expiry) → AllByRecursion (λ e. e.moment ≡ never) es → [] ≡ timers_in es
unfolding in_order
none-in es all = sym (ap in_order (none-run es all))

-- A start.
pub started : (lines terminals : ℕ) (lengths : Lengths) (es : List Expiry) → AreInRange lengths → AreIdle lines (4 * terminals + 2) es → (c : Config) → c.lines ≡ lines → c.terminals ≡ terminals → IsInRange c
    → AreKept as_they_are (record { lines = lines; terminals = terminals; lengths = lengths; now = 0; moments = es }) (cards.fresh c) (stopped lengths)
started lines terminals lengths es range idle c lines_are terminals_are ranged = record {
  reached = reached-fresh c ranged;
  clock_is = record {
    lines = lines_are;
    terminals = terminals_are;
    now = refl;
    lengths = refl;
    running = none-in es idle.rest;
    places = idle_holds terminals lines (IsOn (cards.fresh c)) es idle;
    within_hour = record { lengths = range; moments = All-nil (λ (e : Expiry). e.moment ≤ 3600000) };
  };
  same = run-fresh c lengths;
}

-- Each place is of a line; a change of a place leaves its line.
abbrev OnLines : ℕ → List Expiry → Type 0
OnLines lines es = AllByRecursion (λ e. e.line < lines) es

on-lines : (lines : ℕ) (es : List Expiry) → ((i : ℕ) → i < length es → (at i es).line < lines) → OnLines lines es
on-lines lines [] each = tt
on-lines lines (e ∷ es) each = (each 0 (omega arith), on-lines lines es (λ i within. each (suc i) (omega (arith, within))))

pub idle-on-lines : (lines terminals : ℕ) (es : List Expiry) → AreIdle lines (4 * terminals + 2) es → AreOnLines lines es
idle-on-lines lines terminals es idle =
    All-from_recursion (λ e. e.line < lines) es
    (on-lines lines es (λ i within. subst (λ n. n < lines) (sym (idle.of_line i within)) (in_lines i lines (4 * terminals + 2) (omega arith) (subst (λ n. i < n) idle.count within))))

-- One more order is carried out.
pub one-more : (line : ℕ) (c : Clock) (orders : List Order) (i : ℕ) (o : Order) → i < length orders → get_or orders i o ≡ o → obeyed line (take (i + 1) orders) c ≡ obey line (obeyed line (take i orders) c) o
one-more line c [] i o within at_it = absurd (omega (arith, within))
one-more line c (x ∷ xs) zero o within at_it = ap (obey line c) at_it
one-more line c (x ∷ xs) (suc i) o within at_it =
    let e : suc i + 1 ≡ suc (i + 1) = omega arith in
    ap (λ n. obeyed line (take n (x ∷ xs)) c) e ∙ one-more line (obey line c x) xs i o (omega (arith, within)) at_it

pub all-done : (line : ℕ) (c : Clock) (orders : List Order) (i : ℕ) → length orders ≤ i → obeyed line (take i orders) c ≡ obeyed line orders c
all-done line c [] zero past = refl
all-done line c [] (suc i) past = refl
all-done line c (x ∷ xs) zero past = absurd (omega (arith, past))
all-done line c (x ∷ xs) (suc i) past = all-done line (obey line c x) xs i (omega (arith, past))

-- An order among those that are all so.
pub all-at : {X : Type 0} (P : X → Type 0) (xs : List X) (i : ℕ) (d x : X) → AllByRecursion P xs → i < length xs → get_or xs i d ≡ x → P x
all-at P [] i d x all within is = absurd (omega (arith, within))
all-at P (y ∷ ys) zero d x all within is = subst P is all.0
all-at P (y ∷ ys) (suc i) d x all within is = all-at P ys i d x all.1 (omega (arith, within)) is
