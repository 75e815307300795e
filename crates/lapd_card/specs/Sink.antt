-- What a sink takes, and how it counts its failures.
use Rattle.std.specs.Prelude.{◌≡◌, ℕ, ◌+◌, ◌-◌, ◌^◌, min, List, [], ◌∷◌, ◌++◌, Result, OnOk, OnErr}

-- A sink has taken these replies, one after the other, each with the line of its event.
abbrev pub Taken : {R K : Type 0} → (K → ℕ → R → K → Type 0) → K → List (ℕ × R) → K → Type 0
Taken takes old [] new = new ≡ old
Taken {R} {K} takes old ((line, reply) ∷ replies) new = (next : K) × takes old line reply next × Taken takes next replies new

-- It has taken some replies, and has missed the one that is next in all of these.
pub record MissesNext {R K : Type 0} (takes misses : K → ℕ → R → K → Type 0) (some all : List (ℕ × R)) (old new : K) : Type 0 where
  pub line : ℕ
  pub reply : R
  pub next : all ≡ some ++ (line, reply) ∷ []
  pub before : K
  pub taken : Taken takes old some before
  pub missed : misses before line reply new

-- The greatest value of the count, at which it stays.
abbrev pub most_failures : ℕ
most_failures = 2 ^ 64 - 1

-- One failure more.
abbrev pub one_failure_more : ℕ → ℕ
one_failure_more n = min (n + 1) most_failures

-- An event at a line is served: the sink has taken the answer, or has missed it and counts one failure more; whichever machine
-- it was for which the card stood.
pub record Hands {M R K E : Type 0} (takes misses : K → ℕ → R → K → Type 0) (failures : K → ℕ) (stood : M → Type 0) (line : ℕ) (answer : M → R)
    (old new : K) (result : Result Unit E) : Type 0 where
  pub failed : OnErr result (failures new ≡ one_failure_more (failures old))
  pub not_failed : OnOk result (failures new ≡ failures old)
  pub taken : OnOk result ((m : M) → stood m → takes old line (answer m) new)
  pub not_taken : OnErr result ((m : M) → stood m → misses old line (answer m) new)
