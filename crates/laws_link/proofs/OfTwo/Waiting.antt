-- What an offer gives, and what is left behind it.
use Rattle.laws_link.proofs.Vocabulary.{◌≡◌, Bool, cond, List, [], ◌∷◌, ◌++◌, length, None, ap, arith, ControlFrame, Terms, Link, Course, begun, offer, after, given, given_of, HasNothingToSend, after_offers, GoesWhole, offer_among, offer_step}

gives-one : (b : Bool) (u v : Course) → (u.sent ≡ None → ⊥) → (v.sent ≡ None → ⊥) → (cond b u v).sent ≡ None → ⊥
gives-one b u v x y e = grind arith

module _ (t : Terms) (l : Link) where
  pub nothing-given : given t l ≡ None → HasNothingToSend t l
  nothing-given e = grind (arith, gives-one)

  -- with nothing to send an offer changes nothing
  silent : HasNothingToSend t l → offer_step t (begun l) ≡ begun l
  silent h = grind arith

  pub nothing-to_send : HasNothingToSend t l → given t l ≡ None
  nothing-to_send h = ap (λ c. given_of t l c c.sent) (silent h)

  pub silent-stays : HasNothingToSend t l → after t offer l ≡ l
  silent-stays h = ap (λ c. c.link) (silent h)

-- the first goes, the others wait
first-goes : (t : Terms) (l : Link) (f : ControlFrame) (fs : List ControlFrame) → l.waiting ≡ f ∷ fs → GoesWhole f (given t l)
first-goes t l f fs e = grind arith

others-wait : (t : Terms) (l : Link) (f : ControlFrame) (fs : List ControlFrame) → l.waiting ≡ f ∷ fs → (after t offer l).waiting ≡ fs
others-wait t l f fs e = ap (λ ws. (offer_among t ws (begun l)).link.waiting) e

pub in-turn : (t : Terms) (before : List ControlFrame) (f : ControlFrame) (behind : List ControlFrame) (l : Link) → l.waiting ≡ before ++ f ∷ behind
    → GoesWhole f (given t (after_offers t (length before) l))
unfolding after_offers
in-turn t [] f behind l e = first-goes t l f behind e
in-turn t (g ∷ gs) f behind l e = in-turn t gs f behind (after t offer l) (others-wait t l g (gs ++ f ∷ behind) e)
