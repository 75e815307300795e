-- The checks that are due: how many are after one more and after one less, and of which TEIs they are.
use Rattle.model_teis.proofs.OfNetwork.Vocabulary.{◌≡◌, ℕ, zero, suc, ◌+◌, ◌≤◌, ◌<◌, ◌==◌, ◌⊎◌, inl, inr, Bool, true, false, List, [], ◌∷◌, length, replicate, set, get_or, Option, Some, None, refl, sym, ap, subst, ◌∙◌, arith, sum_by, list_any, position, none-some, get_or-set_same, get_or-set_other, set-get_or, cases_eq, false≢true, length-set, length-replicate, sum_by-cons, sum_by-replicate}
use Rattle.model_teis.proofs.OfNetwork.Vocabulary.{sum_by-set}
use Rattle.model_teis.proofs.OfNetwork.Vocabulary.{position-Some, filter}
use Rattle.model_teis.proofs.OfNetwork.Vocabulary.{Reading, Profile, AnnexB, by_reading, Remembered, Places, free_place, place_of, freed, Check, one_if, is_due, due_at, IsAt, IsSoundTable, MayBeDue, AreSoundChecks, IsAsRead}
use Rattle.model_teis.proofs.Tables.{at-within, place_of-is, free_place-is, same_number}

-- One more, and one less, counts one at most; the lowest less counts one.
pub one_more : (due : List Bool) (place : ℕ) → sum_by one_if (set due place true) ≤ sum_by one_if due + 1
one_more [] place = omega arith
one_more (b ∷ due) zero = omega (arith, sum_by-cons one_if true due, sum_by-cons one_if b due)
one_more (b ∷ due) (suc place) = omega (arith, sum_by-cons one_if b (set due place true), sum_by-cons one_if b due, one_more due place)

pub one_less : (due : List Bool) (place : ℕ) → sum_by one_if (set due place false) ≤ sum_by one_if due
one_less [] place = omega arith
one_less (b ∷ due) zero = omega (arith, sum_by-cons one_if false due, sum_by-cons one_if b due)
one_less (b ∷ due) (suc place) = omega (arith, sum_by-cons one_if b (set due place false), sum_by-cons one_if b due, one_less due place)

pub lowest_less : (due : List Bool) (place : ℕ) → position is_due due ≡ Some place → sum_by one_if (set due place false) + 1 ≡ sum_by one_if due
lowest_less due place at =
    let (within, is, before) = position-Some is_due due place false at in
    omega (arith, sum_by-set one_if due place false false within, ap one_if is)

pub none_counts : (n : ℕ) → sum_by one_if (replicate n false) ≡ 0
none_counts n = omega (arith, sum_by-replicate one_if n false)

-- Where none is due, none is at any place.
pub none-at : (due : List Bool) (i : ℕ) → list_any is_due due ≡ false → get_or due i false ≡ false
none-at [] i none = refl
none-at (true ∷ due) i none = absurd (false≢true (sym none))
none-at (false ∷ due) zero none = refl
none-at (false ∷ due) (suc i) none = none-at due i none

pub none-replicate : (n : ℕ) → list_any is_due (replicate n false) ≡ false
none-replicate zero = refl
none-replicate (suc n) = none-replicate n

pub none-set : (due : List Bool) (place : ℕ) → list_any is_due due ≡ false → list_any is_due (set due place false) ≡ false
none-set [] place none = refl
none-set (true ∷ due) place none = absurd (false≢true (sym none))
none-set (false ∷ due) zero none = none
none-set (false ∷ due) (suc place) none = none-set due place none

pub none-lowest : (due : List Bool) → position is_due due ≡ None → list_any is_due due ≡ false
none-lowest [] e = refl
none-lowest (true ∷ due) e = absurd (grind (arith, none-some))
none-lowest (false ∷ due) e = none-lowest due (grind (arith, none-some))

never : (o : Option ℕ) → MayBeDue o None → ⊥
never None h = h
never (Some tei) h = h

of_same : (own other : Check) (o : Option ℕ) → other.tei ≡ own.tei → MayBeDue o (Some own) → MayBeDue o (Some other)
of_same own other None same h = h
of_same own other (Some tei) same h = subst (λ n. (n == tei) ≡ false) (sym same) h

pub nobody : (o : Option Check) → MayBeDue None o → ⊥
nobody o h = h

of_next : (check : Option Check) (own : Check) (places : Places) (place i : ℕ) (o : Option ℕ) → get_or places i None ≡ o → IsSoundTable places → IsAt places place own.tei → (i ≡ place → ⊥) → MayBeDue o check
    → MayBeDue o (Some own)
of_next check own places place i None is table at apart h = absurd (nobody check h)
of_next check own places place i (Some tei) is table at apart h =
    elim (own.tei == tei) as (λ b. own.tei == tei ≡ b → b ≡ false) [
      | true ↦ λ e. absurd (apart (table.once i place own.tei (is ∙ ap Some (sym (same_number own.tei tei e))) at))
      | false ↦ λ e. refl
    ] refl

module _ (places : Places) (check : Option Check) (to_check : List Bool) where
  pub dues-none : length to_check ≡ length places → list_any is_due to_check ≡ false → AreSoundChecks places check to_check
  dues-none each none = record { each = each; due = λ i is. absurd (false≢true (sym (none-at to_check i none) ∙ is)) }

  -- At one place stands this TEI or none, and its check is due or not; another check may run, of a TEI that is at no other place.
  dues-set : (other : Option Check) (place : ℕ) (o : Option ℕ) (b : Bool) → place < length places → AreSoundChecks places check to_check
      → ((i : ℕ) → (i ≡ place → ⊥) → MayBeDue (get_or places i None) check → MayBeDue (get_or places i None) other) → (b ≡ true → MayBeDue o other)
      → AreSoundChecks (set places place o) other (set to_check place b)
  dues-set other place o b within sound stays here = record {
    each = length-set to_check place b ∙ sound.each ∙ sym (length-set places place o);
    due = λ i is. at i (cases_eq i place) is;
  }
    where
      at : (i : ℕ) → (i ≡ place) ⊎ (i ≡ place → ⊥) → get_or (set to_check place b) i false ≡ true → MayBeDue (get_or (set places place o) i None) other
      at i (inl same) is =
          subst (λ x. MayBeDue x other) (sym (ap (λ k. get_or (set places place o) k None) same ∙ get_or-set_same places place o None within))
          (here (sym (get_or-set_same to_check place b false (subst (λ n. place < n) (sym sound.each) within)) ∙ subst (λ k. get_or (set to_check place b) k false ≡ true) same is))
      at i (inr apart) is =
          subst (λ x. MayBeDue x other) (sym (get_or-set_other places place i o None apart))
          (stays i apart (sound.due i (sym (get_or-set_other to_check place i b false apart) ∙ is)))

  -- A TEI comes to a place, or leaves; a check of one is due.
  pub dues-put : (place tei : ℕ) → free_place places ≡ Some place → AreSoundChecks places check to_check → AreSoundChecks (set places place (Some tei)) check to_check
  dues-put place tei at sound =
      let free = free_place-is places place at in
      subst (AreSoundChecks (set places place (Some tei)) check) (set-get_or to_check place false)
      (dues-set check place (Some tei) (get_or to_check place false) free.0 sound (λ i apart h. h) (λ is. absurd (subst (λ o. MayBeDue o check) free.1 (sound.due place is))))

  pub dues-freed : (tei : ℕ) → AreSoundChecks places check to_check → AreSoundChecks (freed places (place_of tei places)) check (due_at (place_of tei places) false to_check)
  dues-freed tei sound =
      elim (place_of tei places) as (λ o. place_of tei places ≡ o → AreSoundChecks (freed places o) check (due_at o false to_check)) [
        | None ↦ λ e. sound
        | Some place ↦ λ e. dues-set check place None false (place_of-is places tei place e).0 sound (λ i apart h. h) (λ is. absurd (false≢true is))
      ] refl

  pub dues-later : (tei : ℕ) → MayBeDue (Some tei) check → AreSoundChecks places check to_check → AreSoundChecks places check (due_at (place_of tei places) true to_check)
  dues-later tei may sound =
      elim (place_of tei places) as (λ o. place_of tei places ≡ o → AreSoundChecks places check (due_at o true to_check)) [
        | None ↦ λ e. sound
        | Some place ↦ λ e.
            let there = place_of-is places tei place e in
            subst (λ p. AreSoundChecks p check (set to_check place true)) (set-get_or places place None)
            (dues-set check place (get_or places place None) true there.0 sound (λ i apart h. h) (λ is. subst (λ o. MayBeDue o check) (sym there.1) may))
      ] refl

  -- While no check runs, none is due, so any may run; and the check may go on, of the same TEI.
  pub dues-idle : (other : Option Check) → check ≡ None → AreSoundChecks places check to_check → AreSoundChecks places other to_check
  dues-idle other none sound = record { each = sound.each; due = λ i is. absurd (never (get_or places i None) (subst (MayBeDue (get_or places i None)) none (sound.due i is))) }

  pub dues-same : (own other : Check) → check ≡ Some own → other.tei ≡ own.tei → AreSoundChecks places check to_check → AreSoundChecks places (Some other) to_check
  dues-same own other runs same sound = record {
    each = sound.each;
    due = λ i is. of_same own other (get_or places i None) same (subst (MayBeDue (get_or places i None)) runs (sound.due i is));
  }

  -- A check that is due begins, at its place.
  pub dues-next : (own : Check) (place : ℕ) → position is_due to_check ≡ Some place → IsAt places place own.tei → IsSoundTable places → AreSoundChecks places check to_check
      → AreSoundChecks places (Some own) (set to_check place false)
  dues-next own place first at table sound =
      subst (λ p. AreSoundChecks p (Some own) (set to_check place false)) (set-get_or places place None)
      (dues-set (Some own) place (get_or places place None) false (at-within places place own.tei at) sound
      (λ i apart h. of_next check own places place i (get_or places i None) refl table at apart h) (λ is. absurd (false≢true is)))

  -- At the place of a check that is due is a TEI, and another than the one under check.
  pub due-there : (place : ℕ) → position is_due to_check ≡ Some place → AreSoundChecks places check to_check → MayBeDue (get_or places place None) check
  due-there place first sound = sound.due place (position-Some is_due to_check place false first).1

pub dues-empty : (terminals : ℕ) → AreSoundChecks (replicate terminals None) None (replicate terminals false)
dues-empty terminals =
    dues-none (replicate terminals None) None (replicate terminals false) (length-replicate terminals false ∙ sym (length-replicate terminals None)) (none-replicate terminals)

-- What the reading says stays: as a check is due no more, as a TEI leaves, and as one is remembered.
pub read-less : (r : Reading) (remembered : List Remembered) (to_check : List Bool) (o : Option ℕ) → IsAsRead r remembered to_check → IsAsRead r remembered (due_at o false to_check)
read-less AnnexB remembered to_check o read = read
read-less Profile remembered to_check None read = read
read-less Profile remembered to_check (Some place) read = none-set to_check place read

pub read-leaving : (r : Reading) (remembered : List Remembered) (to_check : List Bool) (p : Remembered → Bool) → IsAsRead r remembered to_check → IsAsRead r (filter p remembered) to_check
read-leaving Profile remembered to_check p read = read
read-leaving AnnexB remembered to_check p read = rw read refl

pub read-remembered : (r : Reading) (remembered more : List Remembered) (to_check : List Bool) → IsAsRead r remembered to_check → IsAsRead r (by_reading r more remembered) to_check
read-remembered Profile remembered more to_check read = read
read-remembered AnnexB remembered more to_check read = read

pub read-none : (r : Reading) (remembered : List Remembered) (to_check : List Bool) (n : ℕ) → IsAsRead r remembered to_check → IsAsRead r remembered (replicate n false)
read-none Profile remembered to_check n read = none-replicate n
read-none AnnexB remembered to_check n read = read

pub read-empty : (r : Reading) (n : ℕ) → IsAsRead r [] (replicate n false)
read-empty Profile n = none-replicate n
read-empty AnnexB n = refl

pub read-annex_b : (r : Reading) (remembered : List Remembered) (to_check more : List Bool) → r ≡ AnnexB → IsAsRead r remembered to_check → IsAsRead r remembered more
read-annex_b r remembered to_check more is read = subst (λ x. IsAsRead x remembered more) (sym is) (subst (λ x. IsAsRead x remembered to_check) is read)
