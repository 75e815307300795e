-- What the tests of the tables answer.
use Rattle.lapd_link_steps.proofs.Vocabulary.{◌≡◌, ℕ, true, false, not, eqb, inl, inr, ap, eqb_tells}

pub ne-eqb : (a b : ℕ) → (a ≡ b → ⊥) → eqb a b ≡ false
ne-eqb a b differ = elim (eqb_tells a b) [ inl same ↦ absurd (differ same.1) | inr other ↦ other.0 ]

pub not_same : (a b : ℕ) → (a ≡ b → ⊥) → not (eqb a b) ≡ true
not_same a b differ = ap not (ne-eqb a b differ)
