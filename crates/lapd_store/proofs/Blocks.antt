-- A run of octets that is written as two blocks, its beginning and its end.
use Rattle.lapd_store.proofs.Vocabulary.{◌≡◌, ℕ, ◌+◌, ◌-◌, ◌<◌, ◌≤◌, inl, inr, List, length, get_or, slice_get, Option, None, ap, ◌∙◌, arith, leb_tells, Holds, SameOutside}

-- where the first octets were written, and then the last, all were
pub both_ends : (old new : List (Option ℕ)) (from last n : ℕ) (octets first block : List ℕ) → last ≤ n → length first ≡ n → length block ≡ n
    → Holds old from first → ((k : ℕ) → k < n → slice_get first k ≡ slice_get octets (0 + k))
    → Holds new (from + last) block → ((k : ℕ) → k < n → slice_get block k ≡ slice_get octets (last + k))
    → SameOutside old new (from + last) n → (k : ℕ) → k < last + n → get_or new (from + k) None ≡ slice_get octets k
both_ends old new from last n octets first block near long_first long before is_first after is_last same k lt =
    elim (leb_tells last k) [
      | inl tells ↦
          let j = k - last in
          let place : from + k ≡ from + last + j = omega (arith, tells.1) in
          let own : last + j ≡ k = omega (arith, tells.1) in
          ap (λ p. get_or new p None) place ∙ after j (omega (arith, lt, tells.1)) ∙ is_last j (omega (arith, lt, tells.1)) ∙ ap (slice_get octets) own
      | inr tells ↦
          let own : 0 + k ≡ k = omega arith in
          same.octets (from + k) (inl (omega (arith, tells.1))) ∙ before k (omega (arith, tells.1)) ∙ is_first k (omega (arith, tells.1))
          ∙ ap (slice_get octets) own
    ]
