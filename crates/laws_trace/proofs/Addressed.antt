-- Frames for a link.
use Rattle.laws_trace.proofs.Vocabulary.{arith, ◌≡◌, ℕ, Bool, true, Option, Some, None, refl, sym, ◌∙◌, true≢false, Service, sapi_of, is-off, Aim, at_link, Line, place_in, has_tei, addressed, Received, received}

-- A frame for a link is an event of this link.
pub addressed-is : (l : Line) (sapi to : ℕ) (command : Bool) (service : Service) (tei place : ℕ) (what : Received) (m : Aim)
    → sapi ≡ sapi_of service → to ≡ tei → place_in l tei ≡ Some place
    → addressed l (record { sapi = sapi; command = command; tei = to }) what m ≡ at_link service tei place (received what)
addressed-is l sapi to command service tei place what m its by on = grind arith

pub at-some-place : (l : Line) (tei : ℕ) → has_tei tei l ≡ true → (place : ℕ) × (place_in l tei ≡ Some place)
at-some-place l tei on = go (place_in l tei) refl
  where
    go : (o : Option ℕ) → place_in l tei ≡ o → (place : ℕ) × (place_in l tei ≡ Some place)
    go None is = absurd (true≢false (sym on ∙ is-off l.management.places tei is))
    go (Some place) is = (place, is)
