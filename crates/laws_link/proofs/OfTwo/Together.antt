-- Two links stay up while neither's V(S) is below the other's V(R).
use Rattle.laws_link.proofs.Vocabulary.{◌≡◌, ℕ, zero, suc, ◌≤◌, IsTrue, List, [], ◌∷◌, length, Some, subst, arith, All, slice_get, All-head, All-tail, Control, Information, Parts, Terms, is_multiple_frame, frame, received, Endpoint, Ends, StepAt, with_link, with_first_of, doing, Begins, IsUp, StayUp, Piece, rising-low, Joined, joined-turned, joined-first, done-at, IsAhead, KeepsLinksUp, StayAhead}
use Rattle.laws_link.proofs.OfTwo.Halves.{named-number}
use Rattle.laws_link.proofs.OfTwo.Staying.{Fits, frame-stays, request-stays, timer-stays, offer-stays}

-- contents that were accepted fit
at-place : (n : ℕ) (contents : List (List ℕ)) (i : ℕ) (x : List ℕ) → All (λ octets. length octets ≤ n) contents → slice_get contents i ≡ Some x → length x ≤ n
at-place n [] i x h e = absurd (cc)
at-place n (y ∷ ys) zero x h e = subst (λ z. length z ≤ n) (let same : Some y ≡ Some x = e in cc) (All-head (λ octets. length octets ≤ n) y ys h)
at-place n (y ∷ ys) (suc i) x h e = at-place n ys i x (All-tail (λ octets. length octets ≤ n) y ys h) e

fits-of : (t : Terms) (contents : List (List ℕ)) (high r top : ℕ) (octets : List ℕ) (control : Control) → All (λ octets. length octets ≤ t.n201) contents
    → Piece contents high r top octets control → Fits t control octets
fits-of t contents high r top octets (Information ns nr p) sizes h = at-place t.n201 contents h.number octets sizes h.same
fits-of t contents high r top octets other sizes h = tt

module _ (n m : Endpoint) (h : Joined n m) (same : n.terms.n201 ≡ m.terms.n201) (ahead : m.link.r ≤ n.link.s) where
  hears : (f : Parts) (fs : List Parts) → m.way ≡ f ∷ fs → IsTrue (is_multiple_frame (with_link (received (frame f)) n).link.state)
  hears f fs first = grind (arith, rising-low, named-number, frame-stays, fits-of)

  first-of : (way : List Parts) → m.way ≡ way → IsTrue (is_multiple_frame (with_first_of way n).link.state)
  first-of [] e = h.near_up
  first-of (f ∷ fs) e = hears f fs e

pub done-up : (d : StepAt) (e : Ends) → Joined e.near e.far → e.near.terms.n201 ≡ e.far.terms.n201 → IsAhead e → KeepsLinksUp d e → IsUp (doing d e)
done-up d e h same ahead mild = grind (arith, request-stays, timer-stays, offer-stays, first-of, joined-turned)

-- the ends keep their terms
pub same-after : (d : StepAt) (e : Ends) → e.near.terms.n201 ≡ e.far.terms.n201 → (doing d e).near.terms.n201 ≡ (doing d e).far.terms.n201
same-after d e same = grind arith

stay-up : (ds : List StepAt) (e : Ends) → Joined e.near e.far → e.near.terms.n201 ≡ e.far.terms.n201 → StayAhead ds e → StayUp ds e
unfolding StayUp StayAhead
stay-up [] e h same x = tt
stay-up (d ∷ ds) e h same x = grind (arith, done-up, done-at, same-after, (stay-up ds (doing d e)))

pub all-stay_up : (ds : List StepAt) (e : Ends) → Begins e.near → Begins e.far → e.near.terms.n201 ≡ e.far.terms.n201 → StayAhead ds e → StayUp ds e
all-stay_up ds e b c same x = stay-up ds e (joined-first e.near e.far b c) same x
