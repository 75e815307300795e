-- How often T200 of an end runs out once nothing more is lost: the first time, and then once for each content at most that it sent.
use Rattle.laws_wire.proofs.Vocabulary.{◌≡◌, ℕ, ◌+◌, ◌≤◌, ◌<◌, true, IsTrue, List, [], ◌∷◌, ◌++◌, refl, sym, ap, subst, ◌∙◌, ◌⊎◌, inl, inr, arith, Parts, Seq, seq, Established, TimerRecovery, LinkTimer, received, expired, Link, is_multiple_frame, is_running, LinkEndpoint, with_link, with_sent, frames_of, named-within, frame-taken, Rising, rising-low, named-number, course, offer, answer-says}
use Rattle.laws_wire.proofs.Vocabulary.{is_recovering, Heard, offer-goes}
use Rattle.laws_wire.proofs.Vocabulary.{heard, line, Longer, line-longer, NoAlien, Kind, numbered, enquiry, answer, report, rejection, alien, kind_of, kinds_of, kinds-append, tally, one_enquiry, one_answer, Calm, Every, T200, frame, after, line_of}
use Rattle.laws_link.proofs.OfTwo.Going.{Gives, Offered}
use Rattle.laws_link.specs.two.Timely.{IsTimely}
use Rattle.laws_wire.proofs.Dense.{Dense, dense-push}
use Rattle.laws_wire.proofs.Firm.{Firm}
use Rattle.laws_wire.proofs.Lively.{Lively, lively-heard, lively-offers}
use Rattle.laws_wire.proofs.Replying.{Enquired, line-push, expires-so, asks-so}
use Rattle.laws_wire.proofs.Roomy.{kinds, none-asked, none-answered}
use Rattle.laws_wire.proofs.Tame.{IsFree}
use Rattle.laws_wire.proofs.Sure.{Sure, room-for, none-open, known, there, high, near, hears-number, sure-begins, sure-sends, sure-hears}

-- where nothing is on the way that has a number, it has all come
calm-ends : (lo hi : ℕ) (xs : List Kind) → Every Calm xs → Dense lo hi xs → lo ≡ hi
calm-ends lo hi [] calm h = h
calm-ends lo hi (numbered ns ∷ xs) calm h = absurd calm.0
calm-ends lo hi (alien ∷ xs) calm h = absurd calm.0
calm-ends lo hi (enquiry ∷ xs) calm h = calm-ends lo hi xs calm.1 h
calm-ends lo hi (answer nr ∷ xs) calm h = calm-ends lo hi xs calm.1 h
calm-ends lo hi (report ∷ xs) calm h = calm-ends lo hi xs calm.1 h
calm-ends lo hi (rejection nr ∷ xs) calm h = calm-ends lo hi xs calm.1 h

-- In state 7 as much is acknowledged as T200 ran out. In state 8 it ran out once, or all that it sent is on its way, and that is as much.
abbrev pub In7 : ℕ → ℕ → LinkEndpoint → Type 0
In7 o e n = (n.link.state ≡ Established) × (o + e ≤ n.link.a + 1) × Lively n.link

abbrev pub In8 : ℕ → ℕ → LinkEndpoint → LinkEndpoint → Type 0
In8 o e n m = (n.link.state ≡ TimerRecovery) × ((e ≤ 1) ⊎ (Dense m.link.r n.link.s (kinds n) × (o + e ≤ n.link.s + 1)))

-- The other had received o when nothing more was lost, and T200 ran out e times since.
pub record Often (o e : ℕ) (n m : LinkEndpoint) : Type 0 where
  pub low : o ≤ m.link.r
  pub few : (e ≡ 0) ⊎ (Sure n m × (In7 o e n ⊎ In8 o e n m))

pub often-by : (o e : ℕ) (n m n' m' : LinkEndpoint) → m.link.r ≤ m'.link.r → (Sure n m → Sure n' m') → (Sure n m → In7 o e n ⊎ In8 o e n m → In7 o e n' ⊎ In8 o e n' m')
    → Often o e n m → Often o e n' m'
often-by o e n m n' m' rises f g h = record { low = (let low = h.low in omega (arith, low, rises)); few = go h.few }
  where
    go : (e ≡ 0) ⊎ (Sure n m × (In7 o e n ⊎ In8 o e n m)) → (e ≡ 0) ⊎ (Sure n' m' × (In7 o e n' ⊎ In8 o e n' m'))
    go (inl none) = inl none
    go (inr (s, x)) = inr (f s, g s x)

module _ (o e : ℕ) (n m : LinkEndpoint) (h : Firm n m) (wide : 3 ≤ n.terms.control) where
  -- an enquiry waits
  asked-dense : (l' : Link) → Enquired n.terms n.link l' → Dense m.link.r n.link.s (kinds n) → Dense m.link.r l'.s (line n.terms n.way l'.waiting)
  asked-dense l' q d =
      let own = line n.terms n.way n.link.waiting in
      let more : line n.terms n.way l'.waiting ≡ own ++ enquiry ∷ [] =
      ap kinds_of (line-push n.terms n.way n.link.waiting l'.waiting q.frame q.waits) ∙ kinds-append (line_of n) _ ∙ ap (λ x. own ++ x ∷ []) q.kind in
      subst (Dense m.link.r l'.s) (sym more) (subst (λ s. Dense m.link.r s (own ++ enquiry ∷ [])) (sym q.s) (dense-push m.link.r n.link.s own enquiry tt d))

  -- after an expiry it is in state 8, and what was so of V(A) is so of V(S)
  asked-few : (l' : Link) (ds : List (List ℕ)) → n.link.a ≤ n.link.s → Enquired n.terms n.link l' → Sure n m → In7 o e n ⊎ In8 o e n m → In8 o e (record n { link = l'; delivered = ds }) m
  asked-few l' ds low q (inl x) (inl y) = cc (x.state, y.0)
  asked-few l' ds low q (inr x) (inl y) =
      let few = y.1 in (q.state, inr (asked-dense l' q x.dense, subst (λ s. o + e ≤ s + 1) (sym q.s) (omega (arith, few, low))))
  asked-few l' ds low q x (inr (state, inl one)) = (q.state, inl one)
  asked-few l' ds low q x (inr (state, inr (d, few))) = (q.state, inr (asked-dense l' q d, subst (λ s. o + e ≤ s + 1) (sym q.s) few))

  -- T200 or T203 runs out, and it is not counted
  pub often-expires : (timer : LinkTimer) → IsTimely timer n m → IsTrue (is_multiple_frame (after n.terms (expired timer) n.link).state) → n.link.a ≤ n.link.s
      → (Sure n m → Sure (with_link (expired timer) n) m) → Often o e n m → Often o e (with_link (expired timer) n) m
  often-expires timer timely up low sure =
      often-by o e n m (with_link (expired timer) n) m (omega arith) sure (λ s x. go s x
      (expires-so n.terms n.link h.joined.near_up timer (λ running. room-for n m h wide (none-open n m h wide timer timely running)) up))
    where
      l' : Link
      l' = after n.terms (expired timer) n.link

      go : Sure n m → In7 o e n ⊎ In8 o e n m → (l' ≡ n.link) ⊎ Enquired n.terms n.link l' → In7 o e (with_link (expired timer) n) ⊎ In8 o e (with_link (expired timer) n) m
      go s x (inl same) = subst (λ l. In7 o e (record n { link = l; delivered = (with_link (expired timer) n).delivered }) ⊎ In8 o e (record n { link = l; delivered = (with_link (expired timer) n).delivered }) m) (sym same) x
      go s x (inr q) = inr (asked-few l' (with_link (expired timer) n).delivered low q s x)

  -- T200 runs out, and it is counted
  pub often-counts : IsTimely T200 n m → is_running T200 n.link ≡ true → IsTrue (is_multiple_frame (after n.terms (expired T200) n.link).state) → n.link.a ≤ n.link.s
      → Often o e n m → Often o (e + 1) (with_link (expired T200) n) m
  often-counts timely running up low f = record { low = f.low; few = inr (sure-begins n m h wide timely running up, inr (q.state, go f.few)) }
    where
      l' : Link
      l' = after n.terms (expired T200) n.link

      q : Enquired n.terms n.link l'
      q = asks-so n.terms n.link h.joined.near_up running (room-for n m h wide (none-open n m h wide T200 timely running)) up

      more : In7 o e n → n.link.a < n.link.s
      more (state, few, lively) = grind arith

      none : n.link.state ≡ TimerRecovery → tally one_enquiry (kinds n) + tally one_answer (kinds m) ≡ 0
      none state =
          let x = timely state running in
          let one : tally one_enquiry (kinds n) ≡ 0 = none-asked n x.enquiries in
          let two : tally one_answer (kinds m) ≡ 0 = none-answered m x.answers in
          omega (arith, one, two)

      go : (e ≡ 0) ⊎ (Sure n m × (In7 o e n ⊎ In8 o e n m)) → (e + 1 ≤ 1) ⊎ (Dense m.link.r l'.s (line n.terms n.way l'.waiting) × (o + (e + 1) ≤ l'.s + 1))
      go (inl zero) = inl (omega (arith, zero))
      go (inr (inr x, inl y)) =
          let few = y.1 in let less = more y in inr (asked-dense l' q x.dense, subst (λ s. o + (e + 1) ≤ s + 1) (sym q.s) (omega (arith, few, less)))
      go (inr (inl x, inl y)) = cc (x.state, y.0)
      go (inr (inl x, inr y)) = let some = x.open_ in let no = none y.0 in absurd (omega (arith, some, no))
      go (inr (inr x, inr y)) = cc (x.state, y.0)

  -- it gives a frame
  pub often-sends : n.link.a ≤ n.link.s → Often o e n m → Often o e (with_sent n) m
  often-sends low = often-by o e n m (with_sent n) m (omega arith) (sure-sends n m h wide) go
    where
      x : Offered n.terms n.link (course n.terms offer n.link)
      x = offer-goes n.terms n.link

      still : (with_sent n).link.a ≡ n.link.a
      still = grind arith

      dense : n.link.state ≡ TimerRecovery → Dense m.link.r n.link.s (kinds n) → ((with_sent n).link.s ≡ n.link.s) × Dense m.link.r n.link.s (kinds (with_sent n))
      dense at d = go x.gives
        where
          go : Gives n.terms n.link (course n.terms offer n.link) → ((with_sent n).link.s ≡ n.link.s) × Dense m.link.r n.link.s (kinds (with_sent n))
          go (inl (s, ks)) = (s, subst (Dense m.link.r n.link.s) (sym (ks n.way)) d)
          go (inr (inl (s, ks))) = (s, subst (Dense m.link.r n.link.s) (sym (ks n.way)) (dense-push m.link.r n.link.s (kinds n) report tt d))
          go (inr (inr (state, s, ks))) = cc (state, at)

      go : Sure n m → In7 o e n ⊎ In8 o e n m → In7 o e (with_sent n) ⊎ In8 o e (with_sent n) m
      go s (inl (state, few, lively)) =
          inl (x.state ∙ state, subst (λ a. o + e ≤ a + 1) (sym still) few, lively-offers n.terms n.link low lively)
      go s (inr (state, inl one)) = inr (x.state ∙ state, inl one)
      go s (inr (state, inr (d, few))) =
          let y = dense state d in
          inr (x.state ∙ state, inr (subst (λ s. Dense m.link.r s (kinds (with_sent n))) (sym y.0) y.1, subst (λ s. o + e ≤ s + 1) (sym y.0) few))

-- ---- it hears a frame

module _ (o e : ℕ) (n m : LinkEndpoint) (h : Firm n m) (p : Parts) (fs : List Parts) (first : m.way ≡ p ∷ fs) where
  abbrev l' : Link
  l' = after n.terms (received (frame p)) n.link

  abbrev n' : LinkEndpoint
  n' = with_link (received (frame p)) n

  abbrev m' : LinkEndpoint
  m' = record m { way = fs }

  abbrev x : Kind
  x = kind_of p.address.command p.control

  abbrev rest : List Kind
  rest = line m.terms fs m.link.waiting

  module _ (up' : IsTrue (is_multiple_frame l'.state)) (rising' : Rising l'.a m.link.r (line_of m')) (free : IsFree p.control) where
    lively : Lively l'
    lively = lively-heard n.terms n.link h.joined.near_up h.near_tame.peer_free p.address.command p.info p.control (known n m h p fs first) free up'

    rising : Rising n.link.a m.link.r (p ∷ fs ++ frames_of m.terms m.link.waiting)
    rising = subst (λ way. Rising n.link.a m.link.r (way ++ frames_of m.terms m.link.waiting)) first h.joined.there.rising

    rises : n.link.a ≤ l'.a
    rises =
        let told = (frame-taken n.terms n.link h.joined.near_up p.address.command p.info rising.0 p.control rising.2).took.by.stay up' in
        let within = named-within n.link.a n.link.s told.0 (seq rising.0) told.1 in
        subst (λ a. n.link.a ≤ a) (sym told.2.acknowledged) within.0

    acked : (nr : Seq) → x ≡ answer nr → is_recovering n.link.state ≡ true → Heard (answer nr) true n.link l' → l'.a ≡ m.link.r
    acked nr is rec k =
        grind (arith, kinds, there, answer-says, rising-low, named-number, high, near, hears-number)

    heard-in : Heard x (is_recovering n.link.state) n.link l'
    heard-in = heard n.terms n.link h.joined.near_up p.address.command p.info p.control up'

    -- in state 7
    stays-7 : (y : Kind) → NoAlien y → n.link.state ≡ Established → Heard y (is_recovering n.link.state) n.link l' → l'.state ≡ Established
    stays-7 y known_ at k = grind arith

    -- in state 8
    abbrev Then : Kind → Type 0
    Then y = (l'.state ≡ TimerRecovery) × (l'.s ≡ n.link.s) × Longer (kinds n) (line n.terms n.way l'.waiting) y

    stays-8 : (y : Kind) → Calm y → Then y → o ≤ m.link.r → In8 o e n m → In8 o e n' m'
    stays-8 y calm (state, s, longer) low (at, inl one) = (state, inl one)
    stays-8 y calm (state, s, longer) low (at, inr (d, few)) = (state, inr (grind (arith, kinds, dense-push), subst (λ s. o + e ≤ s + 1) (sym s) few))

    leaves-8 : (nr : Seq) → x ≡ answer nr → Heard (answer nr) true n.link l' → o ≤ m.link.r → In8 o e n m → In7 o e n'
    leaves-8 nr is k low (at, inl one) =
        let a = acked nr is (ap is_recovering at) k in (k.state, subst (λ a. o + e ≤ a + 1) (sym a) (omega (arith, one, low)), lively)
    leaves-8 nr is k low (at, inr (d, few)) =
        let a = acked nr is (ap is_recovering at) k in
        let all : m.link.r ≡ n.link.s = grind (arith, kinds, there, one_answer, calm-ends) in
        (k.state, subst (λ a. o + e ≤ a + 1) (sym (a ∙ all)) few, lively)

    in-8 : (y : Kind) → x ≡ y → NoAlien y → Heard y true n.link l' → o ≤ m.link.r → In8 o e n m → In7 o e n' ⊎ In8 o e n' m'
    in-8 (numbered ns) is known_ k low b = inr (stays-8 (rejection (seq n.link.r)) tt (k.state ∙ b.0, k.s, grind (arith, line-longer)) low b)
    in-8 enquiry is known_ k low b =
        inr (stays-8 (answer (seq n.link.r)) tt (k.state ∙ b.0, k.s, line-longer n.terms n.way n.link.waiting l'.waiting (answer (seq n.link.r)) k.waiting) low b)
    in-8 (answer nr) is known_ k low b = inl (leaves-8 nr is k low b)
    in-8 report is known_ k low b = inr (stays-8 report tt (k.state ∙ b.0, k.s, inl (ap (λ ws. line n.terms n.way ws) k.waiting)) low b)
    in-8 (rejection nr) is known_ k low b = inr (stays-8 report tt (k.state ∙ b.0, k.s, inl (ap (λ ws. line n.terms n.way ws) k.waiting)) low b)
    in-8 alien is known_ k low b = absurd known_

    pub often-hears : Often o e n m → Often o e n' m'
    often-hears f = often-by o e n m n' m' (omega arith) (sure-hears n m h p fs first up' rising') go f
      where
        go : Sure n m → In7 o e n ⊎ In8 o e n m → In7 o e n' ⊎ In8 o e n' m'
        go s (inl (state, few, live)) =
            let up = rises in inl (stays-7 x (known n m h p fs first) state heard-in, omega (arith, few, up), lively)
        go s (inr b) = in-8 x refl (known n m h p fs first) (subst (λ here. Heard x (is_recovering here) n.link l') b.0 heard-in) f.low b
