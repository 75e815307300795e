-- Looking for the first link of a line.
use Rattle.lapd_c.proofs.Vocabulary.{◌≡◌, ◌+◌, ℕ, inl, inr, Option, sym, ◌∙◌, subst, arith, None, cases_lt, Service, service_at, tei_at, AreFree, state_at}
use Rattle.model_card.specs.Card as machine

-- what a link of the place's service is said to be in, its link is in
pub state_told : (line place : ℕ) (m : machine.Card) (service : Service) (told seen : Option ℕ) → service ≡ service_at place
    → told ≡ machine.state line service (tei_at place) m → told ≡ seen → state_at line m place ≡ seen
state_told line place m service told seen same is_told is =
    subst (λ (s : Service). machine.state line s (tei_at place) m ≡ seen) same (sym is_told ∙ is)

-- one place more is free
pub free_behind : (line : ℕ) (m : machine.Card) (from to : ℕ) → AreFree line m from to → state_at line m to ≡ None
    → AreFree line m from (to + 1)
free_behind line m from to free none place le lt = elim (cases_lt place to) [
  | inl before ↦ free place le before
  | inr after ↦ let it : to ≡ place = omega arith in subst (λ (p : ℕ). state_at line m p ≡ None) it none
]
