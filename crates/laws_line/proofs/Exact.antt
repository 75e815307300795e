-- No frame is to go exactly where nothing waits that may go.
use Rattle.laws_line.proofs.Vocabulary.{◌≡◌, ℕ, zero, suc, ◌+◌, ◌≤◌, ◌<◌, ◌↔◌, Bool, false, cond, not, ◌&&◌, List, [], ◌∷◌, length, refl, subst, arith, sum_by, range_with_len, ltb-true, ltb-false, cases_eq, sum_by-cons, Terms, Link, is_established, HasNothingToSend, Config, Line, link_count, service_at, terms, link_at, IsSoundAt, IsSound, HasNothing, link_to_go, to_go_at_link, frames_to_go}
use Rattle.laws_line.proofs.Silence.{silent, sends-none}

pub empty : {X : Type 0} (xs : List X) → length xs ≡ 0 → xs ≡ []
empty [] e = refl
empty (x ∷ xs) e = absurd (omega (arith, e))

off : (b : Bool) → cond {A = ℕ} b 1 0 ≡ 0 → b ≡ false
off b e = grind arith

module _ (t : Terms) (l : Link) where
  abbrev up : Bool
  up = is_established l.state && not l.peer_busy

  pub to-nothing : link_to_go t l ≡ 0 → HasNothingToSend t l
  to-nothing e = grind (arith, empty, ltb-true, up, off)

  from-nothing : HasNothingToSend t l → link_to_go t l ≡ 0
  from-nothing h = grind (arith, ltb-false, up)

-- Of all links.
each-none : (f : ℕ → ℕ) (a n : ℕ) → sum_by f (range_with_len a n) ≡ 0 → (j : ℕ) → a ≤ j → j < a + n → f j ≡ 0
each-none f a zero e j low high = absurd (omega (arith, low, high))
each-none f a (suc n) e j low high = grind (arith, sum_by-cons, cases_eq, (each-none f (a + 1) n))

all-none : (f : ℕ → ℕ) (a n : ℕ) → ((j : ℕ) → a ≤ j → j < a + n → f j ≡ 0) → sum_by f (range_with_len a n) ≡ 0
all-none f a zero h = refl
all-none f a (suc n) h = grind (arith, sum_by-cons, (all-none f (a + 1) n))

module _ (c : Config) (l : Line) where
  nothing-left : IsSound c l → frames_to_go c l ≡ 0 → HasNothing c l
  nothing-left s e = record {
    messages = record { management = empty l.management.waiting (omega (arith, e)); own = empty l.own.waiting (omega (arith, e)) };
    units = empty l.units (omega (arith, e));
    links = λ number few tei at.
        silent (terms c (service_at number) tei) (link_at number l) (subst (IsSoundAt c number (link_at number l)) at (s.links number few))
        (to-nothing (terms c (service_at number) tei) (link_at number l)
        (each-none (to_go_at_link c l) 0 (link_count c) (omega (arith, e)) number (omega arith) (omega (arith, few))));
  }

  link-none : IsSound c l → HasNothing c l → (n : ℕ) → n < link_count c → to_go_at_link c l n ≡ 0
  link-none s h n few = grind (arith, from-nothing, sends-none)

  none-to-go : IsSound c l → HasNothing c l → frames_to_go c l ≡ 0
  none-to-go s h = grind (arith, all-none, link-none)

  pub exactly-none : IsSound c l → (frames_to_go c l ≡ 0) ↔ HasNothing c l
  exactly-none s = (nothing-left s, none-to-go s)
