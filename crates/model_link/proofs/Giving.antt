-- What an offer gives is a frame.
use Rattle.model_link.proofs.Vocabulary.{◌≡◌, ℕ, zero, suc, ◌≤◌, Bool, false, cond, List, [], ◌∷◌, length, Option, None, refl, subst, arith, All, IfSome, slice_get, All-head, All-tail, seq, ReceiveReady, ControlFrame, Terms, Link, Sent, Course, begun, IsInRange, IsSound, IsWaitingFrame, IsGiven, offer, response, first_unsent, next_information, offer_among, course, given, given_of}
use Rattle.model_link.proofs.Waits.{frame_without_information, may_wait}

-- a control frame goes alone
alone : (t : Terms) (f : ControlFrame) → IsWaitingFrame t f → IsGiven t f None
alone t f w = record { head = w.is_frame; octets = w.octets; size = tt; whole = w.is_frame }

-- contents at a place are among the contents
at-place : (n : ℕ) (contents : List (List ℕ)) (i : ℕ) → All (λ octets. length octets ≤ n) contents → IfSome (slice_get contents i) (λ octets. length octets ≤ n)
at-place n [] i h = tt
at-place n (x ∷ xs) zero h = All-head (λ octets. length octets ≤ n) x xs h
at-place n (x ∷ xs) (suc i) h = at-place n xs i (All-tail (λ octets. length octets ≤ n) x xs h)

module _ (t : Terms) (r : IsInRange t) (l : Link) (h : IsSound t l) where
  Gives : Option Sent → Type 0
  Gives o = IfSome o (λ s. IsGiven t s.frame s.contents)

  information : IsGiven t (next_information l) (first_unsent l)
  information = grind (arith, frame_without_information, at-place)

  acknowledgement : IsGiven t (response (ReceiveReady (seq l.r) false)) None
  acknowledgement = alone t _ ((may_wait t (response (ReceiveReady (seq l.r) false)) refl refl (omega arith) refl).waits r.tei)

  either : (b : Bool) (u v : Course) → Gives u.sent → Gives v.sent → Gives (cond b u v).sent
  either b u v x y = grind arith

  offered : (ws : List ControlFrame) → l.waiting ≡ ws → Gives (offer_among t ws (begun l)).sent
  unfolding Gives
  offered [] e = grind (arith, either, information, acknowledgement)
  offered (f ∷ fs) e = alone t f (All-head (IsWaitingFrame t) f fs (subst (All (IsWaitingFrame t)) e h.frames))

  from-sent : (c : Course) (o : Option Sent) → Gives o → IfSome (given_of t l c o) (λ g. IsGiven t g.frame g.contents)
  unfolding Gives
  from-sent c o x = grind arith

  pub given_is_frame : IfSome (given t l) (λ g. IsGiven t g.frame g.contents)
  given_is_frame = from-sent (course t offer l) (course t offer l).sent (offered l.waiting refl)
