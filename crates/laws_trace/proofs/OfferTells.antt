-- An offer of a link tells layer 3 nothing.
use Rattle.laws_trace.proofs.Vocabulary.{arith, ◌≡◌, [], None, Service, Terms, Link, Course, offer, course, given_up_of, link_told}
use Rattle.model_link.specs.Told.{of_packet}

module _ (t : Terms) (x : Link) where
  abbrev pub TellsNothing : Course → Type 0
  TellsNothing k = (k.notes ≡ []) × (k.delivered ≡ None) × (k.unit ≡ None) × (k.lost ≡ 0) × (k.given_up ≡ 0)

  pub offer-tells_nothing : TellsNothing (course t offer x)
  offer-tells_nothing = grind arith

  -- and gives nothing up
  pub offer-gives_up : (z : Service) → given_up_of z (link_told t offer x) ≡ 0
  offer-gives_up z = grind (arith, offer-tells_nothing, of_packet)
