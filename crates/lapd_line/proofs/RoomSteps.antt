-- The room of a link of a line.
use Rattle.lapd_line.proofs.Vocabulary.{places_of, ◌≡◌, ℕ, ◌<◌, ◌≤◌, Bool, true, false, not, nat_lt, List, length, Some, None, Result, Err, sym, ap, subst, ◌∙◌, cond, option_map_or, Refusal, BadTei, NoLink, Service, Owned, Store, is_on, place_of, is_on-at, place_of-is, Room, room_of, Line, has_tei, link_in, link_number, link_of, terms, unless, LinkLayer}
use Rattle.lapd_line.proofs.Vocabulary.{LayerStands, HasTerms}
use Rattle.lapd_line.proofs.Vocabulary.{machine_at}
use Rattle.model_link.specs.Link as machine
use Rattle.model_line.specs.Room.{room_in}
use Rattle.lapd_line.proofs.LayerRequests.{off_line}
use Rattle.lapd_line.proofs.LayerSteps.{beside_links, links_part, named, numbered}
use Rattle.lapd_line.proofs.LinkSteps.{of_part}
use Rattle.lapd_line.proofs.Vocabulary.{Link, LinkStands, Ok, get_or, terms_of}

module _ (e : LinkLayer) (s : Store) (others : List Owned) (m : Line) (st : LayerStands e s others m) (service : Service) (tei free : ℕ) where
  -- by whether the TEI is one of a terminal, and whether it is on the line
  abbrev by_tests : Bool → Bool → Result Room Refusal
  by_tests bad on = unless (cond bad (Some BadTei) (cond (not on) (Some NoLink) None)) (room_of (terms e.config service tei) free (link_of service tei m))

  pub room_none : nat_lt 126 tei ≡ false → place_of tei (places_of e.teis) ≡ None → Err NoLink ≡ room_in e.config free service tei m
  room_none low none =
      ap (by_tests false) (sym (ap (λ t. is_on tei t.places) st.management ∙ off_line (places_of e.teis) tei none))
      ∙ ap (λ b. by_tests b (has_tei tei m)) (sym low)

  pub room_there : (place number : ℕ) (x : Link) (found : Room) → nat_lt 126 tei ≡ false → place_of tei (places_of e.teis) ≡ Some place
      → (place ≤ 8 → number ≡ link_number place service)
      → x ≡ get_or e.links.items number x → ((others : List Owned) (l : machine.Link) → LinkStands x s others l → found ≡ room_of (terms_of x) free l)
      → Ok found ≡ room_in e.config free service tei m
  room_there place number x found low here exact is_at is =
      let at = (place_of-is (places_of e.teis) tei place here).1 in
      let n = named e s others m service tei place st at in
      let same : number ≡ link_number place service = numbered e s tei place (others, m, st) at exact in
      let on : has_tei tei m ≡ true = ap (λ t. is_on tei t.places) st.management ∙ is_on-at (places_of e.teis) place tei at in
      let this : link_of service tei m ≡ machine_at m.links (link_number place service) = ap (λ o. option_map_or (link_in m service) o machine.fresh) (ap (λ t. place_of tei t.places) st.management ∙ here) in
      ap (λ r. Ok r)
      (of_part (subst (λ x. x < length e.links.items) (sym same) n.within) is_at (λ t l. found ≡ room_of t free l) is e.config (terms e.config service tei) (beside_links e m others) m.links
      (subst (λ x. HasTerms e.links.items x (terms e.config service tei)) (sym same) n.has_terms) (links_part e s others m st)
      ∙ ap (room_of (terms e.config service tei) free) (ap (machine_at m.links) same ∙ sym this))
      ∙ ap (by_tests false) (sym on)
      ∙ ap (λ b. by_tests b (has_tei tei m)) (sym low)
