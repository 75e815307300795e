-- Two and three sequence numbers on their circle, and the plain numbers that they stand for.
use Rattle.std.specs.Prelude.{◌≡◌, ℕ, ◌+◌, ◌-◌, ◌%◌, ◌≤◌, Option, Some, None, if◌then◌else◌, nat_le}
use Rattle.lapd_seq.specs.declared.numbers.Seq.{Seq}
use Rattle.lapd_seq.specs.Numbers.{seq}

-- How many steps upwards lead from one sequence number to another.
unfoldable pub distance_of : Seq → Seq → ℕ
distance_of from to = (128 + to.value - from.value) % 128

-- V(A) and V(S) stand for the plain numbers a <= s, which are at most 127 apart (Q.921 clauses 3.5.2.3 and 3.5.2.2).
pub record AreNumbers (va vs : Seq) (a s : ℕ) : Type 0 where
  pub ordered : a ≤ s
  pub within : s ≤ a + 127
  pub acknowledged : va ≡ seq a
  pub sent : vs ≡ seq s

-- V(A) <= N(R) <= V(S), counted upwards from V(A) (Q.921 clauses 3.5.2.3 and 5.8.2).
abbrev pub IsValid : Seq → Seq → Seq → Type 0
IsValid va nr vs = distance_of va nr ≤ distance_of va vs

-- An N(R) names the plain number n of a..=s.
pub record IsNamed (a s : ℕ) (nr : Seq) (n : ℕ) : Type 0 where
  pub from : a ≤ n
  pub to : n ≤ s
  pub remainder : nr ≡ seq n

-- The plain number of a..=s that an N(R) names, if there is one.
unfoldable pub named : ℕ → ℕ → Seq → Option ℕ
named a s nr = let n = a + distance_of (seq a) nr in if nat_le n s then Some n else None
