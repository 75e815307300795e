-- An I-frame is offered only where it may go; and with offers alone contents go one after the other.
use Rattle.laws_link.proofs.Vocabulary.{◌≡◌, Bool, true, false, not, arith, nat_lt, ltb-true, and_parts, Terms, Link, IsSound, MayGo, may_send_information}

off : (b : Bool) → not b ≡ true → b ≡ false
off b e = grind arith

module _ (t : Terms) (l : Link) (h : IsSound t l) where
  pub may-go : may_send_information t l ≡ true → MayGo t l
  may-go e = grind (arith, and_parts, nat_lt, ltb-true, off)
