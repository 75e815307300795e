-- What is delivered is the information of the I-frame that was heard.
use Rattle.laws_link.proofs.Vocabulary.{◌≡◌, ℕ, Bool, not, List, Some, ap, ◌∙◌, arith, nat_lt, nat_le, ltb-true, ltb-false, leb-true, leb-false, false_from_ne_true, true_from_ne_false, Terms, Link, Arrived, information_in, eligible_of, told, delivered-at_once, contents_heard, Event}

module _ (t : Terms) (l : Link) where
  heard : (e : Event) (i : Arrived) → eligible_of t l (information_in e) ≡ Some i → contents_heard e ≡ Some i.contents
  heard e i o = grind arith

  pub delivered-was-heard : (e : Event) (contents : List ℕ) → (told t e l).delivered ≡ Some contents → contents_heard e ≡ Some contents
  delivered-was-heard e contents d =
      let x = delivered-at_once t e l contents d in
      heard e x.0 x.1 ∙ ap (λ o. Some o) x.2

-- at most N201 octets, or over
pub not-over : (b : Bool) (n m : ℕ) → nat_lt n m ≡ b → nat_le m n ≡ not b
not-over b n m e = grind (arith, false_from_ne_true, ltb-true, leb-true, true_from_ne_false, ltb-false, leb-false)
