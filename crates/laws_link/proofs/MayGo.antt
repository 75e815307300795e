-- An I-frame may go exactly where the machine lets one go.
use Rattle.laws_link.proofs.Vocabulary.{◌≡◌, false, arith, nat_lt, ltb-false, Terms, Link, may_send_information, IsSound, MayGo}
use Rattle.laws_link.proofs.Alone.{may-go}

-- the parts of a test that fails do not all hold
module _ (t : Terms) (l : Link) (h : IsSound t l) where
  pub none-goes : may_send_information t l ≡ false → MayGo t l → ⊥
  none-goes fails may = grind (arith, ltb-false, nat_lt)

  pub goes-not : (MayGo t l → ⊥) → may_send_information t l ≡ false
  goes-not none = grind (arith, may-go)
