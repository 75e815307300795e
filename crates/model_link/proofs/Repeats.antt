-- RC stays at most N200.
use Rattle.model_link.proofs.Vocabulary.{arith, ℕ, ◌+◌, ◌<◌, ◌≤◌, Course, begun, Terms, Link, Event, after}
use Rattle.model_link.specs.Link.{most_rc}
use Rattle.model_link.proofs.Kept.{Kept}
use Rattle.model_link.proofs.Rows.{every_event}

record Few (most n : ℕ) : Type 0 where
  pub few : n ≤ most

set : {most n : ℕ} → n ≤ most → Few most n
set few = record { few = few }

one-more : {most n : ℕ} → n < most → Few most (n + 1)
one-more less = record { few = omega arith }

abbrev On : Terms → Course → Type 0
On t c = Few (most_rc t) c.link.repeats

words : (t : Terms) → Kept t (Unit {0}) (Unit {0}) (Unit {0}) (On t) (λ p q c. On t c) (On t)
words t = grind (arith, set, one-more)

pub few-after : (t : Terms) (e : Event) (l : Link) → l.repeats ≤ most_rc t → (after t e l).repeats ≤ most_rc t
few-after t e l few = ((every_event (words t) e).leads (begun l) (set few)).few
