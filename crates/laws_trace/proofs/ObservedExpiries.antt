-- How often T200 of a link expired, to an observer: it rises by an expiry of it alone.
use Rattle.laws_trace.proofs.Vocabulary.{◌≡◌, ℕ, ◌==◌, ◌||◌, not, Bool, true, false, cond, refl, ap, ◌∙◌, arith, is_some, nat_lt, le-ltb, Service, Config, expiry, Answer, eqb-true, lt-ltb, Event, Request, Observed, awaits, observer_by_request as by_request, by_t200, enquires, enters, by_event, is_own, is_up, or-true}
use Rattle.laws_trace.specs.Observer.{asked_for}
use Rattle.laws_trace.proofs.Vocabulary.{TimerT200 as T200}

abbrev pub IsNoMore : Observed → Observed → Type 0
IsNoMore o q = nat_lt o.expiries q.expiries ≡ false

pub same : (o : Observed) → IsNoMore o o
same o = le-ltb o.expiries o.expiries (omega arith)

pub zero : (o : Observed) → nat_lt o.expiries 0 ≡ false
zero o = le-ltb o.expiries 0 (omega arith)

pub either : (o : Observed) (b : Bool) (p q : Observed) → IsNoMore o p → IsNoMore o q → IsNoMore o (cond b p q)
either o b p q h i = grind arith

module _ (o : Observed) where
  module _ (c : Config) (service : Service) (tei : ℕ) where
    asked : (r : Request) → IsNoMore o (by_request c service tei r o)
    asked other = grind (arith, either, asked_for, same, is_up)

    -- by another event than an expiry of T200
    pub no-more : (what : Event) (a : Answer) → ((of : Service) (by : ℕ) → what ≡ expiry (T200 of by) → is_own service tei of by ≡ false) → IsNoMore o (by_event c service tei what a o)
    no-more what a other = grind (arith, either, is_some, asked, same)

  -- An expiry of the timer that runs leads on, or is counted.
  moved : (n : ℕ) (q : Observed) → o.state ≡ n → (n == q.state) ≡ false → enters o q ≡ true
  moved n q is other = ap (λ s. not (s == q.state) || nat_lt o.expiries q.expiries) is ∙ ap (λ b. not b || nat_lt o.expiries q.expiries) other

  pub enquired : (n : ℕ) → o.state ≡ 7 → enters o (enquires n o) ≡ true
  enquired n is = moved 7 (enquires n o) is refl

  pub t200-enters : (c : Config) → awaits o ≡ true → enters o (by_t200 c o) ≡ true
  t200-enters c waits = grind (arith, moved, eqb-true, lt-ltb, or-true, enquired)
