-- A frame that is taken is no longer among those to go.
use Rattle.laws_line.proofs.Vocabulary.{◌≡◌, ℕ, ◌+◌, ◌≤◌, ◌<◌, Bool, List, ◌∷◌, length, get_or, set, Some, IfSome, ap, ◌⊎◌, arith, ltb-true, and_parts, get_or-set_same, get_or-set_other, ControlFrame, Terms, Link, Given, HasNothingToSend, nothing-to_send, Config, Line, UnitData, link_count, service_at, place_at, terms, link_at, Taken, with_unit, with_given_frame, taken, sum_of_links}
use Rattle.laws_line.proofs.Vocabulary.{refl, Management, Own, GoesOut, without_message, to_go_at_link, sum_changed, IsAt, taken_walk, fresh, begun as course_begun, IsSound, link_to_go, frames_to_go, link_offer, link_given, link_after}
use Rattle.model_link.specs.Offers
use Rattle.model_link.specs.Sound as link_sounds

-- An offer takes one of a link's frames to go, or nothing is left there.
Falls : Terms → Link → Link → Type 0
Falls t l l' = (link_to_go t l' + 1 ≤ link_to_go t l) ⊎ HasNothingToSend t l

-- the window, and what is unsent
module _ (t : Terms) (l : Link) (ordered : l.a ≤ l.s) where
  falls : (ws : List ControlFrame) → l.waiting ≡ ws → (may owed awaits : Bool) → Offers.may_send_information t l ≡ may → l.pending ≡ owed
      → Offers.is_awaiting_acknowledgement (Offers.with_one_sent l) ≡ awaits → Falls t l (Offers.offer_among t ws (course_begun l)).link
  unfolding Falls
  falls ws w may owed awaits e p a = grind (arith, and_parts, ltb-true)

  given-falls : (g : Given) → link_given t l ≡ Some g → link_to_go t (link_after t link_offer l) + 1 ≤ link_to_go t l
  unfolding Falls
  given-falls g e = grind (arith, falls, nothing-to_send)

-- What all links have to go, of whatever TEIs, where one link is another.
abbrev to_go_in : Config → List Link → ℕ → ℕ
to_go_in c all n = link_to_go (terms c (service_at n) 0) (get_or all n fresh)

one-changed : (c : Config) (all : List Link) (n : ℕ) (x : Link) → length all ≡ link_count c → n < link_count c
    → sum_of_links c (to_go_in c (set all n x)) + link_to_go (terms c (service_at n) 0) (get_or all n fresh)
    ≡ sum_of_links c (to_go_in c all) + link_to_go (terms c (service_at n) 0) x
one-changed c all n x size few =
    let here : to_go_in c (set all n x) n ≡ link_to_go (terms c (service_at n) 0) x = grind (arith, get_or-set_same) in
    let sums = sum_changed (to_go_in c all) (to_go_in c (set all n x)) 0 (link_count c) n (omega arith) (omega (arith, few))
    (λ j other. ap (link_to_go (terms c (service_at j) 0)) (get_or-set_other all n j x fresh other)) in
    omega (arith, here, sums)

-- One frame fewer is to go.
abbrev pub TakesOne : Config → Line → Taken → Type 0
TakesOne c l t = 1 + frames_to_go c t.line ≤ frames_to_go c l

module _ (c : Config) (l : Line) (s : IsSound c l) where
  by-message : (octets : List ℕ) (m : Management) (own : Own) → GoesOut c l octets m own → TakesOne c l (without_message l octets m own)
  by-message octets m own out =
      let links : sum_of_links c (to_go_at_link c (without_message l octets m own).line) ≡ sum_of_links c (to_go_at_link c l) = refl in
      omega (arith, out.fewer, links)

  by-unit : (u : UnitData) (us : List UnitData) → l.units ≡ u ∷ us → TakesOne c l (with_unit c l u)
  by-unit u us e = grind arith

  by-link : (n tei : ℕ) → n < link_count c → IsAt l.management.places (place_at n) tei → link_sounds.IsSound (terms c (service_at n) tei) (link_at n l)
      → (g : Given) → link_given (terms c (service_at n) tei) (link_at n l) ≡ Some g → TakesOne c l (with_given_frame c l n (terms c (service_at n) tei) g)
  by-link n tei few at sound g e =
      let own = given-falls (terms c (service_at n) tei) (link_at n l) sound.ordered g e in
      omega (arith, own, (one-changed c l.links n (link_after (terms c (service_at n) tei) link_offer (link_at n l)) s.count few))

  pub taken-falls : IfSome (taken c l) (TakesOne c l)
  taken-falls = taken_walk c l s (TakesOne c l) by-message by-unit by-link
