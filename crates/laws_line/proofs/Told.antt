-- Where all that a link keeps goes, layer 3 learns it.
use Rattle.laws_line.proofs.Vocabulary.{arith, ◌≡◌, ◌≢◌, ℕ, true, ◌&&◌, ◌==◌, List, get_or, Option, None, eq-eqb, get_or-set_same, none-some, Service, same_service, Terms, Change, is_change_at, eqb-true}
use Rattle.model_teis.specs.Changes.{Moves}

-- A note of a link that tells a loss tells it of this link.
pub its-own : (t : Terms) (s : Service) (n : ℕ) → (s ≡ t.service) × (n ≡ t.tei) → (same_service s t.service && n == t.tei) ≡ true
its-own t s n own = grind (arith, eq-eqb)

-- the end of one place, and what comes to it
pub moved : (places new : List (Option ℕ)) (place : ℕ) (o : Option Change) → is_change_at place o ≡ true → Moves places o new
    → get_or new place None ≢ get_or places place None
moved places new place o e m = grind (arith, eqb-true, none-some, get_or-set_same)
