-- What an end sends arrives for sure once it has asked, where nothing more is lost: it awaits the answer, or nothing that it sent is
-- missing. What it does itself leaves that so.
use Rattle.laws_wire.proofs.Vocabulary.{◌≡◌, ℕ, ◌+◌, ◌≤◌, true, false, IsTrue, List, [], ◌∷◌, ◌++◌, refl, sym, ap, subst, ◌∙◌, ◌⊎◌, inl, inr, arith, Parts, Seq, seq, Established, TimerRecovery, LinkTimer, received, expired, Link, is_multiple_frame, is_running, LinkEndpoint, with_link, with_sent, has_room, frames_of, named-means, Means, Rising, rising-low, named-within, frame-taken, named-is_seq}
use Rattle.laws_wire.proofs.Vocabulary.{is_recovering, Heard, Flow, most, answer-says, no-answer, offer-goes, named-number, heard, line, Longer, line-longer, NoAlien, is-no-alien, Kind, numbered, enquiry, answer, report, rejection, alien, kind_of, kinds_of, kinds-append, tally, tally-push, one_enquiry, one_answer, Calm, T200, frame, after, line_of, flows-low}
use Rattle.laws_link.specs.two.Timely.{IsTimely}
use Rattle.laws_wire.proofs.Dense.{Dense, dense-push, dense-next, calm-dense, dense-beyond, Reaches, reaches-low, reaches-flat, Owed}
use Rattle.laws_wire.proofs.Firm.{Firm}
use Rattle.laws_wire.proofs.Replying.{Enquired, line-push, expires-so, asks-so}
use Rattle.laws_wire.proofs.Roomy.{kinds, roomy, none-asked}
use Rattle.laws_link.proofs.OfTwo.Flowing.{one-at-most}

-- It awaits the answer to an enquiry, and one of both is on its way.
pub record Asking (n m : LinkEndpoint) : Type 0 where
  pub state : n.link.state ≡ TimerRecovery
  pub open_ : 1 ≤ tally one_enquiry (kinds n) + tally one_answer (kinds m)

-- All that it sent and the other has not received is on its way, and what is acknowledged comes to that.
pub record Steady (n m : LinkEndpoint) : Type 0 where
  pub state : n.link.state ≡ Established
  pub dense : Dense m.link.r n.link.s (kinds n)
  pub owed : Owed n.link.a m.link.r m.link.pending (line_of m)

abbrev pub Sure : LinkEndpoint → LinkEndpoint → Type 0
Sure n m = Asking n m ⊎ Steady n m

pub longer-tally : (one : Kind → ℕ) (xs ys : List Kind) (x : Kind) → Longer xs ys x → tally one xs ≤ tally one ys
longer-tally one xs ys x o = grind (arith, tally-push)

module _ (n m : LinkEndpoint) (h : Firm n m) (wide : 3 ≤ n.terms.control) where
  -- what it has asked, and answered, is one frame each at most
  asked : tally one_enquiry (kinds n) + tally one_answer (kinds m) ≤ most (is_recovering n.link.state)
  asked = h.there.asked

  answers-one : tally one_answer (kinds n) ≤ 1
  answers-one = grind (arith, one_enquiry, kinds, one_answer, is_recovering, one-at-most)

  pub room-for : tally one_enquiry (kinds n) ≡ 0 → has_room n.terms n.link ≡ true
  room-for none = let one = answers-one in roomy n m h wide (omega (arith, none, one))

  -- where a timer runs out in time none of its enquiries is open
  pub none-open : (timer : LinkTimer) → IsTimely timer n m → is_running timer n.link ≡ true → tally one_enquiry (kinds n) ≡ 0
  none-open timer timely running = grind (arith, kinds, tally, one_enquiry, one_answer, most, is_recovering, asked, none-asked)

  -- an enquiry waits
  asks-now : (l' : Link) → Enquired n.terms n.link l' → 1 ≤ tally one_enquiry (line n.terms n.way l'.waiting)
  asks-now l' q =
      let own = line n.terms n.way n.link.waiting in
      let more : line n.terms n.way l'.waiting ≡ own ++ enquiry ∷ [] =
      ap kinds_of (line-push n.terms n.way n.link.waiting l'.waiting q.frame q.waits) ∙ kinds-append (line_of n) _ ∙ ap (λ x. own ++ x ∷ []) q.kind in
      let count : tally one_enquiry (line n.terms n.way l'.waiting) ≡ tally one_enquiry own + 1 = ap (tally one_enquiry) more ∙ tally-push one_enquiry own enquiry in
      omega (arith, count)

  asking : (l' : Link) (ds : List (List ℕ)) → Enquired n.terms n.link l' → Sure (record n { link = l'; delivered = ds }) m
  asking l' ds q = let one = asks-now l' q in inl (record { state = q.state; open_ = omega (arith, one) })

  abbrev IsUpBy : LinkTimer → Type 0
  IsUpBy timer = IsTrue (is_multiple_frame (after n.terms (expired timer) n.link).state)

  -- T200 runs out, in time
  pub sure-begins : IsTimely T200 n m → is_running T200 n.link ≡ true → IsUpBy T200 → Sure (with_link (expired T200) n) m
  sure-begins timely running up =
      asking (after n.terms (expired T200) n.link) (with_link (expired T200) n).delivered
      (asks-so n.terms n.link h.joined.near_up running (room-for (none-open T200 timely running)) up)

  -- ---- what it does itself

  pub sure-expires : (timer : LinkTimer) → IsTimely timer n m → IsUpBy timer → Sure n m → Sure (with_link (expired timer) n) m
  sure-expires timer timely up s =
      let l' : Link = after n.terms (expired timer) n.link in
      let ds : List (List ℕ) = (with_link (expired timer) n).delivered in
      elim (expires-so n.terms n.link h.joined.near_up timer (λ running. room-for (none-open timer timely running)) up) [
        | inl e ↦ subst (λ l. Sure (record n { link = l; delivered = ds }) m) (sym e) (grind arith)
        | inr q ↦ asking l' ds q
      ]

  -- it gives a frame
  pub sure-sends : Sure n m → Sure (with_sent n) m
  sure-sends (inl x) = let o = offer-goes n.terms n.link in inl (grind (arith, one_enquiry, kinds, kinds_of, frames_of, longer-tally))
  sure-sends (inr x) =
      let o = offer-goes n.terms n.link in
      inr (grind (arith, Owed, line_of, Dense, kinds_of, frames_of, dense-push, kinds, dense-next))

-- ---- what it hears

module _ (n m : LinkEndpoint) (h : Firm n m) (p : Parts) (fs : List Parts) (first : m.way ≡ p ∷ fs) where
  abbrev l' : Link
  l' = after n.terms (received (frame p)) n.link

  abbrev n' : LinkEndpoint
  n' = with_link (received (frame p)) n

  abbrev m' : LinkEndpoint
  m' = record m { way = fs }

  abbrev x : Kind
  x = kind_of p.address.command p.control

  abbrev rest : List Kind
  rest = line m.terms fs m.link.waiting

  pub there : Flow n.link.s m.link.r (is_recovering n.link.state) m.link.rejecting (kinds n) (x ∷ rest)
  there = subst (λ way. Flow n.link.s m.link.r (is_recovering n.link.state) m.link.rejecting (kinds n) (line m.terms way m.link.waiting)) first h.there

  pub back : Flow m.link.s n.link.r (is_recovering m.link.state) n.link.rejecting (x ∷ rest) (kinds n)
  back = subst (λ way. Flow m.link.s n.link.r (is_recovering m.link.state) n.link.rejecting (line m.terms way m.link.waiting) (kinds n)) first h.back

  pub known : NoAlien x
  known = is-no-alien m.link.s n.link.r (is_recovering m.link.state) n.link.rejecting x rest (kinds n) back

  pub high : m.link.r ≤ n.link.s
  high = flows-low n m h.there

  pub near : n.link.s ≤ n.link.a + 127
  near = grind arith

  module _ (up' : IsTrue (is_multiple_frame l'.state)) (rising' : Rising l'.a m.link.r (line_of m')) where
    -- V(A) becomes what the N(R) means
    pub hears-number : (i : ℕ) → n.link.a ≤ i → i ≤ m.link.r → Means i p.control → l'.a ≡ i
    hears-number i low below means =
        let told = (frame-taken n.terms n.link h.joined.near_up p.address.command p.info i p.control means).took.by.stay up' in
        let v = told.0 in
        let between = named-within n.link.a n.link.s v (seq i) told.1 in
        let near' = near in
        let same : v ≡ i =
        named-means n.link.a n.link.s i v (seq i) refl low (omega (arith, below, high, near')) between.0 between.1 near' (named-is_seq n.link.a n.link.s v (seq i) told.1) in
        told.2.acknowledged ∙ same

    owed-heard : Owed n.link.a m.link.r m.link.pending (line_of m) → Owed l'.a m.link.r m.link.pending (line_of m')
    owed-heard (inl due) = inl due
    owed-heard (inr all) =
        let at : Reaches n.link.a m.link.r (p ∷ fs ++ frames_of m.terms m.link.waiting) =
        subst (λ way. Reaches n.link.a m.link.r (way ++ frames_of m.terms m.link.waiting)) first all in
        let i = at.0 in
        inr (subst (λ a. Reaches a m.link.r (fs ++ frames_of m.terms m.link.waiting)) (sym (hears-number i at.1 (reaches-low i m.link.r (fs ++ frames_of m.terms m.link.waiting) at.3) at.2)) at.3)

    -- the kinds of frames that wait then
    abbrev Then : Kind → Type 0
    Then y = Longer (kinds n) (line n.terms n.way l'.waiting) y

    -- an answer: nothing that it sent is on its way, and it goes back to what is missing
    recovers : (nr : Seq) → x ≡ answer nr → is_recovering n.link.state ≡ true → Heard (answer nr) true n.link l' → Sure n' m'
    recovers nr is rec k =
        grind (arith, kinds, there, answer-says, rising-low, named-number, high, near, hears-number, calm-dense, reaches-flat)

    -- while it awaits the answer
    still-asking : (y : Kind) → l'.state ≡ n.link.state → Then y → n.link.state ≡ TimerRecovery → 1 ≤ tally one_enquiry (kinds n) + tally one_answer rest → Sure n' m'
    still-asking y state then here some = grind (arith, longer-tally, one_enquiry, kinds)

    in-8 : (y : Kind) → x ≡ y → NoAlien y → Heard y true n.link l' → n.link.state ≡ TimerRecovery
        → 1 ≤ tally one_enquiry (kinds n) + (one_answer y + tally one_answer rest) → Sure n' m'
    in-8 (numbered ns) e known_ k here some = still-asking (rejection (seq n.link.r)) k.state (grind (arith, line-longer)) here (omega (arith, some))
    in-8 enquiry e known_ k here some =
        still-asking (answer (seq n.link.r)) k.state (line-longer n.terms n.way n.link.waiting l'.waiting (answer (seq n.link.r)) k.waiting) here (omega (arith, some))
    in-8 (answer nr) e known_ k here some = recovers nr e (ap is_recovering here) k
    in-8 report e known_ k here some = still-asking report k.state (inl (ap (λ ws. line n.terms n.way ws) k.waiting)) here (omega (arith, some))
    in-8 (rejection nr) e known_ k here some = still-asking report k.state (inl (ap (λ ws. line n.terms n.way ws) k.waiting)) here (omega (arith, some))
    in-8 alien e known_ k here some = absurd known_

    -- and in state 7
    still-steady : (y : Kind) → Calm y → l'.state ≡ n.link.state → l'.s ≡ n.link.s → Then y → Steady n m → Sure n' m'
    still-steady y calm state same then q =
        inr (assumption (state ∙ q.state, subst (λ s. Dense m.link.r s (kinds n')) (sym same) (grind (arith, Dense, dense-push)), owed-heard q.owed))

    in-7 : (y : Kind) → x ≡ y → NoAlien y → Heard y false n.link l' → Steady n m → Sure n' m'
    in-7 (numbered ns) e known_ k q = still-steady (rejection (seq n.link.r)) tt k.state k.s (grind (arith, line-longer)) q
    in-7 enquiry e known_ k q =
        still-steady (answer (seq n.link.r)) tt k.state k.s (line-longer n.terms n.way n.link.waiting l'.waiting (answer (seq n.link.r)) k.waiting) q
    in-7 (answer nr) e known_ k q = absurd (no-answer n.link.s m.link.r m.link.rejecting nr (kinds n) rest (grind (arith, kinds, is_recovering, there)))
    in-7 report e known_ k q = still-steady report tt k.state k.s (inl (ap (λ ws. line n.terms n.way ws) k.waiting)) q
    in-7 (rejection nr) e known_ k q = grind (arith, kinds, is_recovering, there, dense-beyond)
    in-7 alien e known_ k q = absurd known_

    pub sure-hears : Sure n m → Sure n' m'
    sure-hears o = grind (arith, kinds, in-8, known, is_recovering, heard, one_enquiry, one_answer, in-7)
