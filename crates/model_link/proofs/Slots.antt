-- By how much an event lets the queue grow.
use Rattle.model_link.proofs.Vocabulary.{ℕ, ◌+◌, ◌≤◌, cond, List, [], ◌∷◌, ◌++◌, length, drop, Option, Some, None, is_some, arith, length-append, length-drop, Refusal, Terms, Link, queue_of, data_in_7_8, grows, IsSound, Course, begun, Data, Event, requested, refusal}
use Rattle.model_link.specs.Machine
use Rattle.model_link.proofs.SoundEvents.{queue-stays}

-- contents that are not refused are one more
one-more : (t : Terms) (octets : List ℕ) (l : Link) → IsSound t l → length (drop l.a (l.contents ++ octets ∷ [])) ≤ length (drop l.a l.contents) + 1
one-more t octets l h = grind (arith, length-append, length-drop)

by-refusal : (t : Terms) (octets : List ℕ) (l : Link) (o : Option Refusal) → IsSound t l
    → length (queue_of (elim o as (λ o. Course) [ None ↦ data_in_7_8 octets (begun l) | Some _ ↦ begun l ]).link) ≤ length (queue_of l) + cond {A = ℕ} (is_some o) 0 1
by-refusal t octets l None h = one-more t octets l h
by-refusal t octets l (Some w) h = omega arith

pub queue-after : (t : Terms) → t.tei ≤ 126 → (e : Event) (l : Link) → IsSound t l
    → length (queue_of (Machine.after t e l)) ≤ length (queue_of l) + grows t e l
queue-after t r (requested (Data octets) full) l h = by-refusal t octets l (refusal t l full (Data octets)) h
queue-after t r (requested other full) l h = let less = queue-stays t r (requested other full) l tt h in omega (arith, less)
queue-after t r other l h = let less = queue-stays t r other l tt h in omega (arith, less)
