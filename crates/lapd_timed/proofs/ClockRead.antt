-- What was read is a clock beside the card: each timer runs once, in the order in which they fall due.
use Rattle.std.proofs.Common.{arith, ◌≡◌, ◌≢◌, ℕ, zero, suc, ◌+◌, ◌*◌, ◌^◌, ◌<◌, ◌≤◌, ◌++◌, true, false, cond, inl, inr, List, [], ◌∷◌, length, get_or, drop, take, refl, sym, ap, ◌∙◌, subst, length-drop, length-take, append_assoc}
use Rattle.std.specs.Prelude.{All, filter, flat_map}
use Rattle.std.specs.List.{AllByRecursion, range_with_len}
use Rattle.std.proofs.Math.Nat.{suc-mul}
use Rattle.std.proofs.lemmas.Bool.Decides.{nat_tests}
use Rattle.std.proofs.lemmas.List.Elements.{All-cons, All-drop, All-from_recursion, All-nil, All-take}
use Rattle.lapd_clock.specs.Firsts.{never}
use Rattle.lapd_clock.specs.Sound.{IsOneEach}
use Rattle.lapd_clock.specs.Given.{lengths_of}
use Rattle.lapd_clock.specs.Timer.{Timer, AreInRange}
use Rattle.lapd_clock.specs.Timers.{Expiry, is_held, is_of, without}
use Rattle.lapd_clock.proofs.Running.{none_of-without, IsOneEach-put_in_order}
use Rattle.lapd_clock.specs.Places.{in_order}
use Rattle.lapd_clock.proofs.StandsFor.{IsInOrder-in_order}
use Rattle.lapd_image.specs.Numbers.{number}
use Rattle.lapd_image.specs.Reads.{IsReadAs}
use Rattle.lapd_timed.specs.MomentsImage.{all_moments, line_moments}
use Rattle.lapd_timed.specs.OfCard.{slot_of, line_slot_of, AreApart, Holds}
use Rattle.lapd_clock.specs.OwnPlaces.{at, is_running, nothing, timers_in, without_timer, AreIdle, AreUntil, RunsAt}
use Rattle.lapd_timed.specs.MomentsRead.{AreLinesRead}
use Rattle.lapd_clock.proofs.OwnPlace.{held_none, stopped_in_place}
use Rattle.lapd_timed.proofs.Laid.{idle_holds}
use Rattle.lapd_clock.proofs.Again.{itself}
use Rattle.lapd_timed.proofs.OfCard.{each-running, found_place, holds_stopped, runs_still}
use Rattle.lapd_timed.proofs.RunAs.{held-here, runs-so}
use Rattle.lapd_clock.proofs.First.{All-in_order}
use Rattle.lapd_clock.proofs.Standing.{rests, runs}
use Rattle.model_card.specs.Card.{Card, line_at}
use Rattle.model_card.specs.Reached.{IsReached}
use Rattle.model_image.specs.Clocks.{lengths}
use Rattle.model_image.specs.Images.{changes}
use Rattle.model_image.specs.Sound.{AreMoments}
use Rattle.model_line.specs.Line.{link_count}
use Rattle.model_timed.specs.Changes.{standing}
use Rattle.model_timed.specs.Clock.{Clock}
use Rattle.model_timed.specs.RunTheSame.{RunAs, as_they_are}
use Rattle.lapd_timed.specs.Image.{AreReadFrom, AreSaved}
use Rattle.lapd_timed.specs.Marked.{slot_in}
use Rattle.lapd_timed.specs.Stands.{FallsWithinHour, IsOn}
use Rattle.lapd_timed.specs.declared.card_timers.CardTimers.{CardTimers}
use Rattle.lapd_timed.proofs.Spelled.{apart-on, get-dropped, get-taken, know, timers-spelled}

-- one timer runs at one place
module _ (m : Card) (lines terminals : ℕ) (es : List Expiry) (holds : Holds lines (2 * terminals) (slot_of terminals) (line_slot_of terminals) (IsOn m) es) (apart : AreApart lines (IsOn m)) where
  two-places : (i j line : ℕ) (timer : Timer) → j ≢ i → RunsAt i line timer es → RunsAt j line timer es → ⊥
  two-places i j line timer other first second =
      let still : RunsAt j line timer (without_timer i es) = runs_still es i j line timer _ other second in
      let left = holds_stopped lines (2 * terminals) (slot_of terminals) (line_slot_of terminals) (IsOn m) es holds i first.within in
      let its = found_place lines (2 * terminals) (slot_of terminals) (line_slot_of terminals) (IsOn m) (without_timer i es) left apart j line timer still in
      let there : is_held line timer (timers_in (without_timer i es)) ≡ true = held-here (without_timer i es) j line timer its ∙ runs (at j (without_timer i es)) still.runs in
      let gone = stopped_in_place es i line timer (found_place lines (2 * terminals) (slot_of terminals) (line_slot_of terminals) (IsOn m) es holds apart i line timer first) in
      let none : is_held line timer (timers_in (without_timer i es)) ≡ false = ap (is_held line timer) (sym gone) ∙ held_none line timer (without line timer (timers_in es)) (none_of-without line timer (timers_in es)) in
      false-true (sym none ∙ there)
    where
      false-true : false ≡ true → ⊥
      false-true e = cc

  pub no-two : (i j : ℕ) → i < j → j < length es → (at i es).moment < never → (at j es).moment < never → is_of (at i es).line (at i es).timer (at j es) ≡ false
  no-two i j less within first second =
      (elim (is_of (at i es).line (at i es).timer (at j es)) as (λ b. is_of (at i es).line (at i es).timer (at j es) ≡ b → b ≡ false) [
        | true ↦ λ is. absurd (two-places i j (at i es).line (at i es).timer (λ e. absurd (omega (arith, e, less)))
            (record { within = omega (arith, less, within); runs = first; its = itself (at i es) (at i es).line (at i es).timer refl refl })
            (record { within = within; runs = second; its = is }))
        | false ↦ λ _. refl
      ]) refl

-- so each runs once
pub once-each : (es : List Expiry) → ((i j : ℕ) → i < j → j < length es → (at i es).moment < never → (at j es).moment < never → is_of (at i es).line (at i es).timer (at j es) ≡ false) → IsOneEach (timers_in es)
unfolding in_order
once-each [] apart = tt
once-each (x ∷ xs) apart =
    let rest : IsOneEach (timers_in xs) = once-each xs (λ i j less within first second. apart (suc i) (suc j) (omega (arith, less)) (omega (arith, within)) first second) in
    (elim (is_running x) as (λ b. is_running x ≡ b → IsOneEach (in_order (cond b (x ∷ filter is_running xs) (filter is_running xs)))) [
      | true ↦ λ run. IsOneEach-put_in_order x (timers_in xs)
          (All-in_order (λ other. is_of x.line x.timer other ≡ false) (filter is_running xs)
          (each-running (λ other. is_of x.line x.timer other ≡ false) xs (λ j within soon. apart zero (suc j) (omega arith) (omega (arith, within)) (soon-so x run) soon))) rest
      | false ↦ λ _. rest
    ]) refl
  where
    soon-so : (e : Expiry) → is_running e ≡ true → e.moment < never
    soon-so e h = grind (arith, nat_tests)

-- nothing runs at the start
pub idle-until : (latest : ℕ) (es : List Expiry) → AllByRecursion (λ e. e.moment ≡ never) es → AreUntil latest es
idle-until latest es rest = λ i d there runs. absurd (omega (arith, All-from_recursion (λ (e : Expiry). e.moment ≡ never) es rest i d there, runs))

pub none-yet : (m : Card) (lines terminals : ℕ) (front : List ℕ) (es : List Expiry) → m.config.lines ≡ lines → m.config.terminals ≡ terminals → AreIdle lines (4 * terminals + 2) es → AreLinesRead m terminals 0 front front es
none-yet m lines terminals front es lines_are terminals_are idle = record {
  places = record { terminals_are = terminals_are; holds = subst (λ n. Holds n (2 * terminals) (slot_of terminals) (line_slot_of terminals) (IsOn m) es) (sym lines_are) (idle_holds terminals lines (IsOn m) es idle) };
  octets = refl;
  here = λ line h. absurd (omega (arith, h));
  others = λ line from there i inside. resting es i idle.rest;
}
  where
    resting : (xs : List Expiry) (i : ℕ) → AllByRecursion (λ e. e.moment ≡ never) xs → is_running (at i xs) ≡ false
    resting [] i all = rests (at i []) (omega arith)
    resting (x ∷ xs) zero all = rests x (omega (arith, all.0))
    resting (x ∷ xs) (suc i) all = resting xs i all.1

-- ---- rows

pub rows : ℕ → ℕ → List ℕ → List (List ℕ)
rows zero links ms = []
rows (suc n) links ms = take links ms ∷ rows n links (drop links ms)

pub length-rows : (n links : ℕ) (ms : List ℕ) → length (rows n links ms) ≡ n
unfolding rows
length-rows zero links ms = refl
length-rows (suc n) links ms = ap suc (length-rows n links (drop links ms))

pub rows-each : (P : List ℕ → Type 0) (now n links : ℕ) (ms : List ℕ) → length ms ≡ n * links → All (λ (k : ℕ). k ≤ now) ms
    → ((row : List ℕ) → length row ≡ links → All (λ (k : ℕ). k ≤ now) row → P row) → All P (rows n links ms)
unfolding rows
rows-each P now zero links ms size past one = All-nil P
rows-each P now (suc n) links ms size past one =
    let long = suc-mul n links in
    All-cons P (take links ms) (rows n links (drop links ms))
    (one (take links ms) (omega (arith, size, long, length-take links ms)) (All-take (λ (k : ℕ). k ≤ now) links ms past))
    (rows-each P now n links (drop links ms) (omega (arith, size, long, length-drop links ms)) (All-drop (λ (k : ℕ). k ≤ now) links ms past) one)

pub rows-get : (n links : ℕ) (ms : List ℕ) (line k : ℕ) → line < n → k < links → get_or (get_or (rows n links ms) line []) k 0 ≡ get_or ms (line * links + k) 0
unfolding rows
rows-get zero links ms line k h few = absurd (omega (arith, h))
rows-get (suc n) links ms zero k h few = let none : k ≡ 0 * links + k = omega arith in get-taken links k ms few ∙ ap (λ (i : ℕ). get_or ms i 0) none
rows-get (suc n) links ms (suc line) k h few =
    let next = suc-mul line links in
    let on : links + (line * links + k) ≡ suc line * links + k = omega (arith, next) in
    rows-get n links (drop links ms) line k (omega (arith, h)) few ∙ get-dropped links (line * links + k) ms ∙ ap (λ (i : ℕ). get_or ms i 0) on

-- ---- all of it

pub from-recursion : (P : Expiry → Type 0) (es : List Expiry) → AllByRecursion P es → All P es
from-recursion P [] all = All-nil P
from-recursion P (e ∷ es) all = All-cons P e es all.0 (from-recursion P es all.1)

four-parts : (a b c d rest : List ℕ) → a ++ (b ++ (c ++ (d ++ rest))) ≡ (a ++ (b ++ (c ++ d))) ++ rest
four-parts a b c d rest =
    sym (append_assoc a (b ++ (c ++ d)) rest ∙ ap (λ x. a ++ x) (append_assoc b (c ++ d) rest ∙ ap (λ x. b ++ x) (append_assoc c d rest)))

module _ (t : CardTimers) (m : Card) (reached : IsReached m) (lines_are : m.config.lines ≡ t.lines) (terminals_are : m.config.terminals ≡ t.terminals) (front a b mid rest : List ℕ)
    (one : IsReadAs lengths AreInRange (lengths_of t.lengths) front a) (two : IsReadAs (number 8) (λ (n : ℕ). n < 2 ^ 63) t.moment a b)
    (read : AreLinesRead m t.terminals m.config.lines b mid t.moments) (until : AreUntil (t.moment + 3600000) t.moments)
    (then : mid ≡ changes t.changes.moments ++ rest) (past : All (λ (k : ℕ). k ≤ t.moment) t.changes.moments)
    (links : t.changes.links ≡ 2 * t.terminals) (size : length t.changes.moments ≡ t.lines * (2 * t.terminals)) (as_many : length t.changes.states ≡ t.lines * (2 * t.terminals))
    (noted : (line k : ℕ) → line < t.lines → k < 2 * t.terminals → get_or t.changes.states (slot_in t.changes line k) 0 ≡ standing k (line_at line m)) where
  abbrev its_clock : Clock
  its_clock = record { lengths = lengths_of t.lengths; running = timers_in t.moments; now = t.moment }

  abbrev its_rows : List (List ℕ)
  its_rows = rows t.lines (2 * t.terminals) t.changes.moments

  holds : Holds t.lines (2 * t.terminals) (slot_of t.terminals) (line_slot_of t.terminals) (IsOn m) t.moments
  holds = subst (λ n. Holds n (2 * t.terminals) (slot_of t.terminals) (line_slot_of t.terminals) (IsOn m) t.moments) lines_are read.places.holds

  run : RunAs as_they_are m its_clock
  run = runs-so m its_clock t.lines t.terminals t.moments lines_are refl holds (apart-on m t.lines reached lines_are) (know m t.lines t.terminals reached lines_are terminals_are)
      (λ line h. read.here line (subst (λ n. line < n) (sym lines_are) h))

  link-count : link_count m.config ≡ 2 * t.terminals
  link-count = ap (λ n. 2 * n) terminals_are

  running-so : (P : Expiry → Type 0) → ((j : ℕ) → j < length t.moments → (at j t.moments).moment < never → P (at j t.moments)) → AllByRecursion P (timers_in t.moments)
  running-so P each = All-in_order P (filter is_running t.moments) (each-running P t.moments each)

  within-hour : FallsWithinHour its_clock
  within-hour = record {
    lengths = one.saved;
    moments = from-recursion (λ e. e.moment ≤ t.moment + 3600000) (timers_in t.moments) (running-so (λ e. e.moment ≤ t.moment + 3600000) (λ j h soon. until j nothing h soon));
  }

  saved : AreSaved t m its_clock its_rows
  saved = record {
    stand = record {
      reached = reached;
      clock_is = record { lines = lines_are; terminals = terminals_are; now = refl; lengths = refl; running = refl; places = holds; within_hour = within-hour };
      same = run;
    };
    noted = record {
      lines_are = lines_are;
      terminals_are = link-count;
      links_are = links;
      count = as_many;
      as_many = size ∙ sym as_many;
      up_to_date = λ line k h less. refl;
      held = λ line k h less. λ i. record {
        state = noted line k h less i;
        moment = (ap (λ n. get_or t.changes.moments (line * n + k) 0) links ∙ sym (rows-get t.lines (2 * t.terminals) t.changes.moments line k h less)) i;
      };
    };
    rows = record {
      lines = length-rows t.lines (2 * t.terminals) t.changes.moments ∙ sym lines_are;
      links = rows-each (λ row. length row ≡ link_count m.config) t.moment t.lines (2 * t.terminals) t.changes.moments size past (λ row own small. own ∙ sym link-count);
    };
  }

  pub read-from : ((j : ℕ) → j < length t.moments → (at j t.moments).line < t.lines) → AreReadFrom m t front rest
  read-from on_lines = record {
    clock = its_clock;
    changed = its_rows;
    saved = record {
      clock = record {
        lengths = one.saved;
        now = two.saved;
        moments = within-hour.moments;
        in_order = IsInOrder-in_order (filter is_running t.moments);
        one_each = once-each t.moments (no-two m t.lines t.terminals t.moments holds (apart-on m t.lines reached lines_are));
        on_lines = running-so (λ e. e.line < m.config.lines) (λ j h soon. subst (λ n. (at j t.moments).line < n) (sym lines_are) (on_lines j h));
        running = run;
      };
      rows = (
        length-rows t.lines (2 * t.terminals) t.changes.moments ∙ sym lines_are,
        rows-each (AreMoments m.config t.moment) t.moment t.lines (2 * t.terminals) t.changes.moments size past (λ row own small. record { each = own ∙ sym link-count; past = small }),
      );
    };
    octets =
        one.octets ∙ ap (λ x. lengths (lengths_of t.lengths) ++ x) (two.octets ∙ ap (λ x. number 8 t.moment ++ x) (read.octets
        ∙ (λ i. flat_map (line_moments t.terminals t.moments) (range_with_len 0 (lines_are i)) ++ then i)))
        ∙ four-parts (lengths (lengths_of t.lengths)) (number 8 t.moment) (all_moments t.lines t.terminals t.moments) (changes t.changes.moments) rest
        ∙ ap (λ x. x ++ rest) (timers-spelled t m its_clock its_rows saved);
    stand = saved;
  }

-- ---- each place is of a line

pub on-lines : (m : Card) (lines terminals : ℕ) (es : List Expiry) → Holds lines (2 * terminals) (slot_of terminals) (line_slot_of terminals) (IsOn m) es → (j : ℕ) → j < length es → (at j es).line < lines
on-lines m lines terminals es holds j within = elim (holds.layout.each j within) [
  | inl of ↦ subst (λ n. (at n es).line < lines) (sym of.is) (subst (λ n. n < lines) (sym (holds.at_links of.line of.number of.timer of.line_there of.number_there).line_is) of.line_there)
  | inr of ↦ subst (λ n. (at n es).line < lines) (sym of.is) (subst (λ n. n < lines) (sym (holds.at_lines of.line of.which of.line_there).line_is) of.line_there)
]

pub on-lines-all : (lines : ℕ) (es : List Expiry) → ((j : ℕ) → j < length es → (at j es).line < lines) → All (λ e. e.line < lines) es
on-lines-all lines [] each = All-nil (λ (e : Expiry). e.line < lines)
on-lines-all lines (e ∷ es) each = All-cons (λ (e : Expiry). e.line < lines) e es (each 0 (omega arith)) (on-lines-all lines es (λ j h. each (suc j) (omega (arith, h))))
