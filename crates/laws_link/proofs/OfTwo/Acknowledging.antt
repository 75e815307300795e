-- What a valid N(R) does in state 7: V(A) becomes the number that it names. Which timer then runs is left open.
use Rattle.laws_link.proofs.Vocabulary.{◌≡◌, ℕ, ◌≤◌, Bool, false, cond, ◌==◌, Option, Some, refl, sym, subst, arith, nat_lt, ltb-false, Seq, named, LinkTimer, T200, T203, Terms, Course, ◌then◌, acknowledge, by_number, start, acknowledged_by_information_in_7, acknowledged_in_7}
use Rattle.laws_link.proofs.OfTwo.Shapes.{effect}

pub record Acknowledges (x : ℕ) (c c' : Course) : Type 0 where
  pub running : Option LinkTimer
  pub started : Option LinkTimer
  pub is : c' ≡ record c { link = record c.link { a = x; running = running }; started = started }

module _ (t : Terms) (nr : Seq) (x : ℕ) (c : Course) (names : named c.link.a c.link.s nr ≡ Some x) (low : c.link.a ≤ x) where
  by-tests : (all more : Bool) → nat_lt c.link.a x ≡ more
      → Acknowledges x c (cond all ((acknowledge x then start T203) c) (cond more ((acknowledge x then start T200) c) c))
  by-tests false false e =
      let high : x ≤ c.link.a = ltb-false c.link.a x e in
      let same : c.link.a ≡ x = omega (arith, low, high) in
      record { running = c.link.running; started = c.started; is = λ i. record c { link = record c.link { a = same i } } }
  by-tests all more e = grind arith

  in-7 : Acknowledges x c (acknowledged_in_7 x c)
  in-7 = by-tests (x == c.link.s) (nat_lt c.link.a x) refl

  -- of RR, and of an I-frame
  pub by-rr : Acknowledges x c (by_number t nr acknowledged_in_7 c)
  by-rr = subst (λ o. Acknowledges x c (effect t nr acknowledged_in_7 c o)) (sym names) in-7

  pub by-information : Acknowledges x c (by_number t nr acknowledged_by_information_in_7 c)
  by-information = subst (λ o. Acknowledges x c (effect t nr acknowledged_by_information_in_7 c o)) (sym names) (grind (arith, in-7))
