-- What is due of TEI management by a request of a link, or of unit data, is nothing, and its answer shows so.
use Rattle.laws_trace.proofs.Vocabulary.{◌≡◌, ℕ, false, List, Option, refl, Refusal, Service, Config, of_aim, request, Line, place_in, unless_refused, unless_refused_told, Deactivate, aim_of_request, refusal, Request, LinkRequest, Managed}
use Rattle.model_line.specs.Request.{Unit}
use Rattle.model_line.specs.Requested.{at_requested}
use Rattle.laws_trace.proofs.ManagingNotes.{is_management}
use Rattle.laws_trace.proofs.Tracked.{Tracks, Shows, IsQuiet, IsUnmanaged, none-granted, asked-aims, deactivated-aims, unmanaged-shows}
use Rattle.laws_trace.proofs.Vocabulary.{arith}

module _ (c : Config) (l : Line) (d : Managed) (quiet : IsQuiet d) (tracks : Tracks c d l.management l.own) where
  abbrev Answers : Request → Option Refusal → Type 0
  Answers r o = let x = of_aim c (unless_refused o (aim_of_request r l)) l in Shows c l (request r) d (unless_refused_told o x) x.line

  link-shows : (r : Request) → is_management (aim_of_request r l) ≡ false → IsUnmanaged c l (aim_of_request r l) → Answers r (refusal c false r l)
  link-shows r other x = grind (arith, unmanaged-shows, request, is_management, none-granted)

  pub asked-shows : (r : Request) (service : Service) (tei : ℕ) (asked : LinkRequest) → aim_of_request r l ≡ at_requested service tei asked (place_in l tei) → Answers r (refusal c false r l)
  asked-shows r service tei asked is = grind (arith, link-shows, is_management, asked-aims)

  pub deactivated-shows : (service : Service) (tei : ℕ) → Answers (Deactivate service tei) (refusal c false (Deactivate service tei) l)
  deactivated-shows service tei = grind (arith, link-shows, deactivated-aims, is_management)

  pub units-shows : (service : Service) (tei : ℕ) (contents : List ℕ) → Answers (Unit service tei contents) (refusal c false (Unit service tei contents) l)
  units-shows service tei contents = link-shows (Unit service tei contents) refl (record { stays = refl; own = refl; others = refl; orders = refl })
