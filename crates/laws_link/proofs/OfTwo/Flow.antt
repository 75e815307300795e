-- One direction between two links whose T200 is timely: the sender's V(S), the receiver's V(R), and what is between them.
use Rattle.laws_link.proofs.Vocabulary.{◌≡◌, ℕ, ◌+◌, ◌<◌, ◌≤◌, Bool, true, false, List, [], ◌∷◌, ◌++◌, refl, arith, seq}
use Rattle.laws_link.proofs.OfTwo.Trains.{Kind, numbered, enquiry, answer, rejection, tally, one_enquiry, one_answer, one_rejection, tally-push, Every, every-push, Behind, behind-push, behind-first, Calm, Comes, Rise, rise-lower, rise-low, rise-push, Beyond, Late, rise-late, late-low, late-push}

-- What is on the line to a receiver that has sent no REJ, and to one that has.
abbrev pub Order : Bool → ℕ → ℕ → List Kind → Type 0
Order true r s xs = Late r s xs
Order false r s xs = Rise r s xs

-- An N(R) of REJ, or of an answer, is V(R).
abbrev pub RejectsAt : ℕ → Kind → Type 0
RejectsAt r (rejection nr) = nr ≡ seq r
RejectsAt r other = Unit {0}

abbrev pub AnswersAt : ℕ → Kind → Type 0
AnswersAt r (answer nr) = nr ≡ seq r
AnswersAt r other = Unit {0}

abbrev pub IsNoRejection : Kind → Type 0
IsNoRejection x = one_rejection x ≡ 0

-- While REJ is on its way, no I-frame between the two is the next, and V(S) is beyond V(R).
pub record Rejected (s r : ℕ) (rejects : Bool) (there back : List Kind) : Type 0 where
  pub is : rejects ≡ true
  pub below : r < s
  pub beyond : Every (Beyond r) there
  pub says : Every (RejectsAt r) back

-- While an answer is on its way, there is no I-frame, and no REJ behind it.
pub record Answered (r : ℕ) (there back : List Kind) : Type 0 where
  pub calm : Every Calm there
  pub says : Every (AnswersAt r) back
  pub behind : Behind one_answer IsNoRejection back

-- In state 8 one enquiry is open at most, in state 7 none.
abbrev pub most : Bool → ℕ
most true = 1
most false = 0

pub record Flow (s r : ℕ) (recovers rejects : Bool) (there back : List Kind) : Type 0 where
  pub order : Order rejects r s there
  pub one : tally one_rejection back ≤ 1
  pub rejected : 1 ≤ tally one_rejection back → Rejected s r rejects there back
  pub asked : tally one_enquiry there + tally one_answer back ≤ most recovers
  pub last : 1 ≤ tally one_enquiry there → Behind one_enquiry Calm there
  pub answered : 1 ≤ tally one_answer back → Answered r there back

-- the order, whether REJ was sent or not
pub flow-low : (s r : ℕ) (b q : Bool) (ln lm : List Kind) → Flow s r b q ln lm → r ≤ s
flow-low s r b q ln lm h = grind (arith, late-low, rise-low)

order-push : (q : Bool) (r s top : ℕ) (xs : List Kind) (y : Kind) → s ≤ top → Comes s top y → Order q r s xs → Order q r top (xs ++ y ∷ [])
order-push q r s top xs y le p h = grind (arith, late-push, rise-push)

-- a frame that is not among those that are counted
pub few-more : (one : Kind → ℕ) (xs : List Kind) (y : Kind) → one y ≡ 0 → tally one (xs ++ y ∷ []) ≡ tally one xs
few-more one xs y none = let more = tally-push one xs y in omega (arith, more, none)

-- The sender's side of the line grows: by a calm frame that is no enquiry,
pub there-calm : (s r : ℕ) (b q : Bool) (ln lm : List Kind) (y : Kind) → Calm y → one_enquiry y ≡ 0 → Flow s r b q ln lm → Flow s r b q (ln ++ y ∷ []) lm
there-calm s r b q ln lm y calm none h = grind (arith, few-more, order-push, every-push, behind-push)

-- by an enquiry, if none is open,
pub there-enquiry : (s r : ℕ) (b q : Bool) (ln lm : List Kind) → tally one_enquiry ln ≡ 0 → tally one_answer lm ≡ 0 → Flow s r b q ln lm
    → Flow s r true q (ln ++ enquiry ∷ []) lm
there-enquiry s r b q ln lm none none' h =
    let more : tally one_enquiry (ln ++ enquiry ∷ []) ≡ tally one_enquiry ln + 1 = tally-push one_enquiry ln enquiry in
    record {
      order = order-push q r s s ln enquiry (omega arith) tt h.order;
      one = h.one;
      rejected = λ some. let j = h.rejected some in record { is = j.is; below = j.below; beyond = every-push (Beyond r) ln enquiry j.beyond tt; says = j.says };
      asked = omega (arith, none, none');
      last = λ some. behind-first one_enquiry Calm ln enquiry none;
      answered = λ some. absurd (omega (arith, some, none'));
    }

-- by an I-frame in state 7.
pub there-information : (s r : ℕ) (q : Bool) (ln lm : List Kind) → s ≤ r + 127 → Flow s r false q ln lm
    → Flow (s + 1) r false q (ln ++ numbered (seq s) ∷ []) lm
there-information s r q ln lm near h =
    let same : tally one_enquiry (ln ++ numbered (seq s) ∷ []) ≡ tally one_enquiry ln = few-more one_enquiry ln (numbered (seq s)) refl in
    let asked : tally one_enquiry ln + tally one_answer lm ≤ 0 = h.asked in
    record {
      order = order-push q r s (s + 1) ln (numbered (seq s)) (omega arith) (s, refl, omega arith, omega arith) h.order;
      one = h.one;
      rejected = grind (arith, every-push, numbered);
      asked = omega arith;
      last = λ some. absurd (omega (arith, some));
      answered = λ some. absurd (omega (arith, some));
    }

-- Its first frame goes: lost, or heard without an effect on V(R).
pub there-tail : (s r : ℕ) (b q : Bool) (x : Kind) (ln lm : List Kind) → Flow s r b q (x ∷ ln) lm → Flow s r b q ln lm
there-tail s r b q x ln lm h = grind (arith, one_enquiry, tally, one_answer, rise-late, rise-lower)
