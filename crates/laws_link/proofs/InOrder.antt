-- A link gives what waits in its order.
use Rattle.laws_link.proofs.Vocabulary.{arith, ◌≡◌, List, Option, refl, IfSome, All-head, ControlFrame, Terms, Link, course, after, given, given_of, IsSound, Course, Sent, begun, IsInOrder, told_ways, offer, offer_among}
use Rattle.laws_link.proofs.Alone.{may-go}
use Rattle.laws_link.proofs.MayGo.{none-goes}

module _ (t : Terms) (l : Link) (h : IsSound t l) where
  abbrev InOrder : Course → Type 0
  InOrder c = IfSome c.sent (λ s. IsInOrder t l c.link s.frame)

  offering : (ws : List ControlFrame) → l.waiting ≡ ws → InOrder (offer_among t ws (begun l))
  offering ws w = grind (arith, All-head, told_ways, may-go, none-goes)

  from-sent : (c : Course) (o : Option Sent) → IfSome o (λ s. IsInOrder t l c.link s.frame)
      → IfSome (given_of t l c o) (λ g. IsInOrder t l c.link g.frame)
  from-sent c o x = grind arith

  pub given-in-order : IfSome (given t l) (λ g. IsInOrder t l (after t offer l) g.frame)
  given-in-order = from-sent (course t offer l) (course t offer l).sent (offering l.waiting refl)
