-- What a card and its timers stand for may be saved.
use Rattle.std.proofs.Common.{arith, ◌≡◌, ℕ, zero, suc, ◌+◌, ◌*◌, ◌^◌, ◌<◌, ◌≤◌, List, [], ◌∷◌, length, get_or, Option, None, Some, sym, ap, ◌∙◌, subst}
use Rattle.std.specs.Prelude.{All, IfSome, filter}
use Rattle.std.specs.List.{AllByRecursion}
use Rattle.std.proofs.lemmas.List.Elements.{All-head, All-tail}
use Rattle.lapd_clock.specs.Firsts.{never}
use Rattle.lapd_clock.specs.InOrder.{IsInOrder}
use Rattle.lapd_clock.specs.Sound.{IsOneEach}
use Rattle.lapd_clock.specs.Timers.{Expiry, is_before}
use Rattle.lapd_clock.proofs.StandsFor.{IsInOrder-in_order}
use Rattle.lapd_clock.specs.OwnPlaces.{at, is_running}
use Rattle.lapd_timed.proofs.OfCard.{each-running}
use Rattle.lapd_clock.proofs.First.{All-in_order}
use Rattle.model_card.specs.Card.{Card}
use Rattle.model_image.specs.Images.{Saved}
use Rattle.model_image.specs.Sound.{AreChanges, AreMoments, IsClockOf, IsSaved}
use Rattle.model_line.specs.Line.{link_count}
use Rattle.model_line.specs.declared.config.Config.{Config}
use Rattle.model_timed.specs.Clock.{Clock}
use Rattle.lapd_timed.specs.Image.{lines_in, AreAllMarks, AreSaved, IsSavedCard, MayStandBeside}
use Rattle.lapd_timed.specs.declared.card_timers.CardTimers.{CardTimers}
use Rattle.lapd_timed.proofs.ClockRead.{no-two, on-lines, once-each}
use Rattle.lapd_timed.proofs.Spelled.{apart-on}

-- A moment of a list of past ones is past, also where none stands.
past-at : (now : ℕ) (ms : List ℕ) (i : ℕ) → All (λ (n : ℕ). n ≤ now) ms → get_or ms i 0 ≤ now
past-at now [] i past = omega arith
past-at now (m ∷ ms) zero past = All-head (λ (n : ℕ). n ≤ now) m ms past
past-at now (m ∷ ms) (suc i) past = past-at now ms i (All-tail (λ (n : ℕ). n ≤ now) m ms past)

same-within : {X : Type 0} (xs : List X) (i : ℕ) (d e : X) → i < length xs → get_or xs i d ≡ get_or xs i e
same-within [] i d e within = absurd (omega (arith, within))
same-within (x ∷ xs) zero d e within = λ i. x
same-within (x ∷ xs) (suc i) d e within = same-within xs i d e (omega (arith, within))

-- Rows of such moments may be saved.
rows-may : (c : Config) (now : ℕ) (rows : List (List ℕ)) (ms : List ℕ) → All (λ row. length row ≡ link_count c) rows → All (λ (n : ℕ). n ≤ now) ms → (at : ℕ → ℕ → ℕ)
    → ((line number : ℕ) → line < length rows → number < link_count c → get_or ms (at line number) 0 ≡ get_or (get_or rows line []) number 0) → All (AreMoments c now) rows
rows-may c now rows ms each past at same = λ line d there.
    let own : length (get_or rows line d) ≡ link_count c = each line d there in
    record {
      each = own;
      past = λ number e here.
          let it : get_or (get_or rows line d) number e ≡ get_or ms (at line number) 0 =
          same-within (get_or rows line d) number e 0 here
          ∙ ap (λ row. get_or row number 0) (same-within rows line d [] there)
          ∙ sym (same line number there (omega (arith, own, here))) in
          subst (λ n. n ≤ now) (sym it) (past-at now ms (at line number) past);
    }

module _ (t : CardTimers) (m : Card) (c : Clock) (changed : List (List ℕ)) (saved : AreSaved t m c changed) where
  running-so : (P : Expiry → Type 0) → ((j : ℕ) → j < length t.moments → (at j t.moments).moment < never → P (at j t.moments)) → AllByRecursion P c.running
  running-so P each = subst (AllByRecursion P) (sym saved.stand.clock_is.running) (All-in_order P (filter is_running t.moments) (each-running P t.moments each))

  pub may-stand : t.moment < 2 ^ 63 → All (λ (n : ℕ). n ≤ t.moment) t.changes.moments → MayStandBeside m c changed
  may-stand now past =
      let is = saved.stand.clock_is in
      let marks = saved.noted in
      record {
        clock = record {
          lengths = is.within_hour.lengths;
          now = omega (arith, is.now, now);
          moments = is.within_hour.moments;
          in_order = subst (IsInOrder is_before) (sym is.running) (IsInOrder-in_order (filter is_running t.moments));
          one_each = subst IsOneEach (sym is.running) (once-each t.moments (no-two m t.lines t.terminals t.moments is.places (apart-on m t.lines saved.stand.reached is.lines)));
          on_lines = running-so (λ e. e.line < m.config.lines) (λ j h soon.
              subst (λ n. (at j t.moments).line < n) (sym is.lines) (on-lines m t.lines t.terminals t.moments is.places j h));
          running = saved.stand.same;
        };
        rows = (
          saved.rows.lines,
          rows-may m.config c.now changed t.changes.moments saved.rows.links (subst (λ k. All (λ (n : ℕ). n ≤ k) t.changes.moments) (sym is.now) past) (λ line number. line * t.changes.links + number) (λ line number there here.
              let in_lines : line < t.lines = omega (arith, there, saved.rows.lines, marks.lines_are) in
              let in_links : number < 2 * t.terminals = omega (arith, here, marks.terminals_are) in
              ap (λ mark. mark.moment) (marks.held line number in_lines in_links)),
        );
      }

-- So may all of it, with timers or without.
all-saved : (s : Saved) → IsSavedCard (lines_in s) → AreAllMarks s → IfSome s.clock (IsClockOf s.card) → AreChanges s.card.config s.clock s.changed → IsSaved s
all-saved s card marks clock changed = record {
  card = card.lines.begins.sound;
  timed = card.lines.begins.timed;
  seed = card.config.seed;
  lines = card.lines.lines;
  each_counted = card.lines.each_counted;
  counted = card.lines.counted;
  waits = marks;
  clock = clock;
  changed = changed;
}

pub may-save : (s : Saved) (k : Clock) → s.clock ≡ Some k → IsSavedCard (lines_in s) → MayStandBeside s.card k s.changed → AreAllMarks s → IsSaved s
may-save s k is card timers marks =
    all-saved s card marks (subst (λ (o : Option Clock). IfSome o (IsClockOf s.card)) (sym is) timers.clock) (subst (λ (o : Option Clock). AreChanges s.card.config o s.changed) (sym is) timers.rows)

pub may-save-alone : (s : Saved) → s.clock ≡ None → s.changed ≡ [] → IsSavedCard (lines_in s) → AreAllMarks s → IsSaved s
may-save-alone s is none card marks =
    all-saved s card marks (subst (λ (o : Option Clock). IfSome o (IsClockOf s.card)) (sym is) tt) (subst (λ (o : Option Clock). AreChanges s.card.config o s.changed) (sym is) none)
