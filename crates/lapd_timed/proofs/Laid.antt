-- The places of a card are laid out line by line.
use Rattle.lapd_clock.proofs.Vocabulary.{◌≡◌, Bool, true, false, ℕ, zero, suc, List, [], ◌∷◌, AllByRecursion, never, Expiry, ◌+◌, ◌-◌, ◌*◌, ◌/◌, ◌<◌, ◌≤◌, ◌⊎◌, refl, sym, ap, ◌∙◌, subst, arith, inl, inr, cases_lt}
use Rattle.std.specs.Prelude.{◌%◌}
use Rattle.std.proofs.lemmas.Nat.{div-add-mod'}
use Rattle.std.proofs.Math.Nat.{mod-lt}
use Rattle.model_link.specs.declared.timers.LinkTimer.{LinkTimer}
use Rattle.model_link.specs.declared.timers.LinkTimer.TheVariants.{T200, T203}
use Rattle.lapd_timed.specs.OfCard.{OfLink, OfLine, IsSame, IsLayout, Holds, slot_of, line_slot_of, kind_of, line_kind}
use Rattle.lapd_clock.specs.OwnPlaces.{AreIdle, at}
use Rattle.std.proofs.lemmas.Nat.{div-mul-add}
use Rattle.lapd_clock.proofs.Bounds.{before_end, in_lines}

in_line : (i d : ℕ) → 0 < d → i % d < d
in_line i d some = mod-lt i some

place : (terminals lines line w i : ℕ) → i ≡ line * (4 * terminals + 2) + w → line < lines → w < 4 * terminals + 2
    → OfLink lines (2 * terminals) (slot_of terminals) i ⊎ OfLine lines (line_slot_of terminals) i
place terminals lines line w i is there within =
    elim (cases_lt w 2) [
      | inl own ↦ elim (cases_lt w 1) [
        | inl first ↦ inr (record { line = line; which = false; line_there = there; is = is ∙ ap (λ n. line * (4 * terminals + 2) + n) (omega (arith, first)) })
        | inr second ↦ inr (record { line = line; which = true; line_there = there; is = is ∙ ap (λ n. line * (4 * terminals + 2) + n) (omega (arith, own, second)) })
      ]
      | inr after ↦ elim (cases_lt (w % 2) 1) [
        | inl even ↦ inl (record {
          line = line;
          number = (w - 2) / 2;
          timer = T200;
          line_there = there;
          number_there = omega (arith, within, after);
          is = is ∙ ap (λ n. line * (4 * terminals + 2) + n) (omega (arith, even, after));
        })
        | inr odd ↦ inl (record {
          line = line;
          number = (w - 2) / 2;
          timer = T203;
          line_there = there;
          number_there = omega (arith, within, after);
          is = is ∙ ap (λ n. line * (4 * terminals + 2) + n) (omega (arith, odd, after));
        })
      ]
    ]

slot_there : (terminals lines line number : ℕ) (timer : LinkTimer) → line < lines → number < 2 * terminals → slot_of terminals line number timer < lines * (4 * terminals + 2)
slot_there terminals lines line number T200 there within = before_end line lines (4 * terminals + 2) (2 * number + 2) there (omega (arith, within))
slot_there terminals lines line number T203 there within = before_end line lines (4 * terminals + 2) (2 * number + 3) there (omega (arith, within))

same_line : (a b d w v : ℕ) → w < d → v < d → a * d + w ≡ b * d + v → a ≡ b
same_line a b d w v less more e =
    elim (cases_lt a b) [
      | inl below ↦ absurd (omega (arith, before_end a b d w below less, e))
      | inr above ↦ elim (cases_lt b a) [
        | inl below ↦ absurd (omega (arith, before_end b a d v below more, e))
        | inr under ↦ omega (arith, above, under)
      ]
    ]

in_slot : (terminals number : ℕ) (timer : LinkTimer) → number < 2 * terminals → 2 * number + kind_of timer < 4 * terminals + 2
in_slot terminals number T200 within = omega (arith, within)
in_slot terminals number T203 within = omega (arith, within)

same_slot : (number more : ℕ) (timer its : LinkTimer) → 2 * number + kind_of timer ≡ 2 * more + kind_of its → (number ≡ more) × (timer ≡ its)
same_slot number more T200 T200 e = (omega (arith, e), refl)
same_slot number more T200 T203 e = absurd (omega (arith, e))
same_slot number more T203 T200 e = absurd (omega (arith, e))
same_slot number more T203 T203 e = (omega (arith, e), refl)

apart : (terminals line number other more : ℕ) (timer its : LinkTimer) → number < 2 * terminals → more < 2 * terminals → slot_of terminals line number timer ≡ slot_of terminals other more its
    → IsSame line other number more timer its
apart terminals line number other more timer its one two e =
    let d = 4 * terminals + 2 in
    let w = 2 * number + kind_of timer in
    let v = 2 * more + kind_of its in
    let lines : line ≡ other = same_line line other d w v (in_slot terminals number timer one) (in_slot terminals more its two) e in
    let same = same_slot number more timer its (omega (arith, e, ap (λ n. n * d) lines)) in
    record { line_is = lines; number_is = same.0; timer_is = same.1 }

of_two : (which : Bool) → line_kind which < 2
of_two false = omega arith
of_two true = omega arith

in_line_slot : (terminals : ℕ) (which : Bool) → line_kind which < 4 * terminals + 2
in_line_slot terminals which = omega (arith, of_two which)

beside : (terminals line number other : ℕ) (timer : LinkTimer) (which : Bool) → number < 2 * terminals → line_slot_of terminals which other ≡ slot_of terminals line number timer → ⊥
beside terminals line number other timer which within e =
    let d = 4 * terminals + 2 in
    let w = 2 * number + kind_of timer in
    let lines : other ≡ line = same_line other line d (line_kind which) w (in_line_slot terminals which) (in_slot terminals number timer within) e in
    absurd (omega (arith, e, ap (λ n. n * d) lines, of_two which, after_own timer))
  where
    after_own : (timer : LinkTimer) → 2 ≤ kind_of timer
    after_own T200 = omega arith
    after_own T203 = omega arith

same_kind : (which its : Bool) → line_kind which ≡ line_kind its → which ≡ its
same_kind false false e = refl
same_kind false true e = absurd (omega (arith, e))
same_kind true false e = absurd (omega (arith, e))
same_kind true true e = refl

two : (terminals line other : ℕ) (which its : Bool) → line_slot_of terminals which line ≡ line_slot_of terminals its other → which ≡ its
two terminals line other which its e =
    let d = 4 * terminals + 2 in
    let lines : line ≡ other = same_line line other d (line_kind which) (line_kind its) (in_line_slot terminals which) (in_line_slot terminals its) e in
    same_kind which its (omega (arith, e, ap (λ n. n * d) lines))

pub is_layout : (terminals lines : ℕ) → IsLayout lines (2 * terminals) (lines * (4 * terminals + 2)) (slot_of terminals) (line_slot_of terminals)
is_layout terminals lines = record {
  each = λ i within. place terminals lines (i / (4 * terminals + 2)) (i % (4 * terminals + 2)) i (sym (div-add-mod' i (4 * terminals + 2)))
      (in_lines i lines (4 * terminals + 2) (omega arith) within) (in_line i (4 * terminals + 2) (omega arith));
  apart = apart terminals;
  beside = beside terminals;
  slot_there = slot_there terminals lines;
  two = two terminals;
  line_slot_there = λ line which there. before_end line lines (4 * terminals + 2) (line_kind which) there (in_line_slot terminals which);
}

-- At places at which no timer runs all is as it should be.
all-at : (es : List Expiry) (i : ℕ) → AllByRecursion (λ e. e.moment ≡ never) es → (at i es).moment ≡ never
all-at [] i h = refl
all-at (x ∷ xs) zero h = h.0
all-at (x ∷ xs) (suc i) h = all-at xs i h.1

pub idle_holds : (terminals lines : ℕ) (IsOn : ℕ → ℕ → ℕ → Type 0) (es : List Expiry) → AreIdle lines (4 * terminals + 2) es → Holds lines (2 * terminals) (slot_of terminals) (line_slot_of terminals) IsOn es
idle_holds terminals lines IsOn es h =
    let d = 4 * terminals + 2 in
    record {
      layout = subst (λ n. IsLayout lines (2 * terminals) n (slot_of terminals) (line_slot_of terminals)) (sym h.count) (is_layout terminals lines);
      at_links = λ line number timer there within. record {
        line_is = h.of_line (slot_of terminals line number timer) (omega (arith, h.count, slot_there terminals lines line number timer there within))
            ∙ div-mul-add line d (2 * number + kind_of timer) (in_slot terminals number timer within);
        its = λ soon. absurd (omega (arith, soon, all-at es (slot_of terminals line number timer) h.rest));
      };
      at_lines = λ line which there. record {
        line_is = h.of_line (line_slot_of terminals which line) (omega (arith, h.count, before_end line lines d (line_kind which) there (in_line_slot terminals which)))
            ∙ div-mul-add line d (line_kind which) (in_line_slot terminals which);
        its = λ soon. absurd (omega (arith, soon, all-at es (line_slot_of terminals which line) h.rest));
      };
    }
