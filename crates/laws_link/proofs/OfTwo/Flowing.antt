-- What a frame that is heard does to one direction between two links whose T200 is timely.
use Rattle.laws_link.proofs.Vocabulary.{◌≡◌, ℕ, ◌+◌, ◌%◌, ◌<◌, ◌≤◌, Bool, true, false, List, [], ◌∷◌, ◌++◌, refl, sym, arith, true≢false, Seq, seq, seq-value}
use Rattle.laws_link.proofs.OfTwo.Trains.{Kind, numbered, enquiry, answer, report, rejection, alien, tally, one_enquiry, one_answer, one_rejection, tally-push, Every, every-push, behind-first, Beyond, beyond-late, rise-other, rise-late, calm-rise, rise-next, late-next, rise-lower}
use Rattle.laws_link.proofs.OfTwo.Flow.{RejectsAt, AnswersAt, IsNoRejection, most, Flow, few-more}

pub one-at-most : (b : Bool) → most b ≤ 1
one-at-most b = grind arith

-- where there are none, each says what one likes
none-answers : (r : ℕ) (xs : List Kind) → tally one_answer xs ≡ 0 → Every (AnswersAt r) xs
none-answers r [] none = tt
none-answers r (numbered ns ∷ xs) none = (tt, none-answers r xs (omega (arith, none)))
none-answers r (enquiry ∷ xs) none = (tt, none-answers r xs (omega (arith, none)))
none-answers r (answer nr ∷ xs) none = absurd (omega (arith, none))
none-answers r (report ∷ xs) none = (tt, none-answers r xs (omega (arith, none)))
none-answers r (rejection nr ∷ xs) none = (tt, none-answers r xs (omega (arith, none)))
none-answers r (alien ∷ xs) none = (tt, none-answers r xs (omega (arith, none)))

none-rejects : (r : ℕ) (xs : List Kind) → tally one_rejection xs ≡ 0 → Every (RejectsAt r) xs
none-rejects r [] none = tt
none-rejects r (numbered ns ∷ xs) none = (tt, none-rejects r xs (omega (arith, none)))
none-rejects r (enquiry ∷ xs) none = (tt, none-rejects r xs (omega (arith, none)))
none-rejects r (answer nr ∷ xs) none = (tt, none-rejects r xs (omega (arith, none)))
none-rejects r (report ∷ xs) none = (tt, none-rejects r xs (omega (arith, none)))
none-rejects r (rejection nr ∷ xs) none = absurd (omega (arith, none))
none-rejects r (alien ∷ xs) none = (tt, none-rejects r xs (omega (arith, none)))

no-rejection : (xs : List Kind) → Every IsNoRejection xs → tally one_rejection xs ≡ 0
no-rejection [] h = refl
no-rejection (x ∷ xs) h =
    let more : tally one_rejection xs ≡ 0 = no-rejection xs h.1 in
    omega arith

not-next : (r : ℕ) → Beyond r (numbered (seq r)) → ⊥
not-next r (i, e, low, high) =
    let one : (seq r).value ≡ i % 128 = seq-value (seq r) i e in
    let two : (seq r).value ≡ r % 128 = seq-value (seq r) r refl in
    omega (arith, low, high)

-- The receiver hears an enquiry, and answers it.
pub hears-enquiry : (s r : ℕ) (b q : Bool) (ln lm : List Kind) → Flow s r b q (enquiry ∷ ln) lm → Flow s r b q ln (lm ++ answer (seq r) ∷ [])
hears-enquiry s r b q ln lm h =
    let asked : (1 + tally one_enquiry ln) + tally one_answer lm ≤ most b = h.asked in
    let few : most b ≤ 1 = one-at-most b in
    let none : tally one_answer lm ≡ 0 = omega arith in
    let more : tally one_answer (lm ++ answer (seq r) ∷ []) ≡ tally one_answer lm + 1 = tally-push one_answer lm (answer (seq r)) in
    let same : tally one_rejection (lm ++ answer (seq r) ∷ []) ≡ tally one_rejection lm = few-more one_rejection lm (answer (seq r)) refl in
    let one = h.one in
    record {
      order = grind (arith, rise-late, rise-lower);
      one = omega (arith, one);
      rejected = grind (arith, every-push, answer);
      asked = omega arith;
      last = λ some. absurd (omega (arith, some));
      answered = λ some.
          record {
            calm = (h.last (omega arith)).0 (omega arith);
            says = every-push (AnswersAt r) lm (answer (seq r)) (none-answers r lm none) refl;
            behind = behind-first one_answer IsNoRejection lm (answer (seq r)) none;
          };
    }

-- It hears an I-frame that is not the next, not having sent REJ: REJ is lost for want of room, or waits.
pub hears-other-lost : (s r : ℕ) (b : Bool) (ns : Seq) (ln lm : List Kind) → s ≤ r + 127 → (ns.value ≡ (seq r).value → ⊥)
    → Flow s r b false (numbered ns ∷ ln) lm → Flow s r b true ln lm
hears-other-lost s r b ns ln lm near differ h =
    let past = rise-other r s ns ln near differ h.order in
    grind (arith, beyond-late)

pub hears-other : (s r : ℕ) (b : Bool) (ns : Seq) (ln lm : List Kind) → s ≤ r + 127 → (ns.value ≡ (seq r).value → ⊥)
    → Flow s r b false (numbered ns ∷ ln) lm → Flow s r b true ln (lm ++ rejection (seq r) ∷ [])
hears-other s r b ns ln lm near differ h =
    let past = rise-other r s ns ln near differ h.order in
    let less : r < s = past.0 in
    let none' : 1 ≤ tally one_rejection lm → ⊥ = λ some. true≢false (sym (h.rejected some).is) in
    let none : tally one_rejection lm ≡ 0 = omega (arith, none') in
    let more : tally one_rejection (lm ++ rejection (seq r) ∷ []) ≡ tally one_rejection lm + 1 = tally-push one_rejection lm (rejection (seq r)) in
    let same : tally one_answer (lm ++ rejection (seq r) ∷ []) ≡ tally one_answer lm = few-more one_answer lm (rejection (seq r)) refl in
    let asked : (0 + tally one_enquiry ln) + tally one_answer lm ≤ most b = h.asked in
    record {
      order = beyond-late r s ln (omega arith) past.1;
      one = omega arith;
      rejected = λ some. record { is = refl; below = less; beyond = past.1; says = every-push (RejectsAt r) lm (rejection (seq r)) (none-rejects r lm none) refl };
      asked = omega arith;
      last = λ some. (h.last (omega (arith, some))).1;
      answered = λ some. absurd (h.answered (omega (arith, some))).calm.0;
    }

-- It hears the next I-frame.
pub hears-next : (s r : ℕ) (b q : Bool) (ln lm : List Kind) → Flow s r b q (numbered (seq r) ∷ ln) lm → Flow s (r + 1) b false ln lm
hears-next s r b q ln lm h =
    let asked : (0 + tally one_enquiry ln) + tally one_answer lm ≤ most b = h.asked in
    record {
      order = grind (arith, late-next, rise-next);
      one = h.one;
      rejected = λ some. absurd (not-next r (h.rejected some).beyond.0);
      asked = omega arith;
      last = λ some. (h.last (omega (arith, some))).1;
      answered = λ some. absurd (h.answered some).calm.0;
    }

-- The sender hears an answer in state 8, and V(S) goes back.
pub answer-says : (s r : ℕ) (b q : Bool) (nr : Seq) (ln lm : List Kind) → Flow s r b q ln (answer nr ∷ lm) → nr ≡ seq r
answer-says s r b q nr ln lm h = (h.answered (omega arith)).says.0

pub hears-answer : (s r : ℕ) (q : Bool) (nr : Seq) (ln lm : List Kind) → Flow s r true q ln (answer nr ∷ lm) → Flow r r false q ln lm
hears-answer s r q nr ln lm h = grind (arith, tally, one_enquiry, one_answer, one_rejection, no-rejection, rise-late, calm-rise)

-- In state 7 there is none.
pub no-answer : (s r : ℕ) (q : Bool) (nr : Seq) (ln lm : List Kind) → Flow s r false q ln (answer nr ∷ lm) → ⊥
no-answer s r q nr ln lm h = let asked : tally one_enquiry ln + (1 + tally one_answer lm) ≤ 0 = h.asked in omega arith

-- It hears REJ in state 7, and V(S) goes back.
pub hears-rejection : (s r : ℕ) (q : Bool) (nr : Seq) (ln lm : List Kind) → Flow s r false q ln (rejection nr ∷ lm) → Flow r r false q ln lm
hears-rejection s r q nr ln lm h = grind (arith, tally, one_rejection, one_enquiry, one_answer, beyond-late)
