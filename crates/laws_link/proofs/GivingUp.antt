-- What a link gives up is told of its service: all that it keeps, where it keeps nothing any more.
use Rattle.laws_link.proofs.Vocabulary.{◌≡◌, cond, length, drop, refl, ◌∙◌, Terms, Link, IsSound, course, share, arith}
use Rattle.lapd_frame.specs.declared.services.Service.{Service}
use Rattle.model_link.specs.Events.{Event}
use Rattle.model_link.specs.Machine.{told}
use Rattle.model_link.specs.Told.{of_call, of_packet}
use Rattle.laws_link.specs.History.{given_up_of}
use Rattle.laws_link.proofs.Keeping.{event-gone}

of_own : (t : Terms) (e : Event) (l : Link) (z : Service) → t.service ≡ z → given_up_of z (told t e l) ≡ (course t e l).given_up
of_own t e l h is = grind (arith, of_call, course, of_packet)

pub own-gone : (t : Terms) (l : Link) → IsSound t l → (e : Event) → given_up_of t.service (told t e l) ≡ cond (share t e l).empties (length (drop l.a l.contents)) 0
own-gone t l s e = of_own t e l t.service refl ∙ event-gone t l s e

-- and none of the other
pub other-none : (t : Terms) (e : Event) (l : Link) (z : Service) → (t.service ≡ z → ⊥) → given_up_of z (told t e l) ≡ 0
other-none t e l h other = grind (arith, course, of_call, of_packet)
