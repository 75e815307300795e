-- Where one end rings, no turn is left and its T200 expires, one round is enough for it to be told of the establishment.
use Rattle.laws_wire.proofs.Vocabulary.{◌≡◌, ℕ, true, IsTrue, List, [], ◌∷◌, refl, sym, ap, subst, nat_lt, lt-ltb, arith, All, All-head, Service, Timer, Parts, spelling, ControlFrame, Terms, Link, fresh, is_multiple_frame, may_repeat, after, course, IsInRange, LinkEndpoint, with_link, with_sent, Config, LineTold, next, terms, Endpoint, Wire, happens, frame_comes, with_first_of, without_first}
use Rattle.laws_wire.proofs.Vocabulary.{expires, sends}
use Rattle.laws_wire.proofs.Vocabulary.{acting, doing_all, confirmed, heard_in, MayRepeat, rounds, timer_T200, own_side}
use Rattle.model_link.specs.Events as link
use Rattle.laws_wire.proofs.Acting.{ranges}
use Rattle.laws_wire.proofs.Answered.{takes-granted}
use Rattle.laws_wire.proofs.Awaited.{may-there}
use Rattle.laws_wire.proofs.Calling.{end, its_ua, sabme, ua, takes-sabme}
use Rattle.laws_wire.proofs.Held.{Held, held-given, held-lost, held-first, taken-told, taken-stands}
use Rattle.laws_wire.proofs.LossyPhases.{first-way}
use Rattle.laws_wire.proofs.Ringing.{ringing, answered as answered_link, its_sabme, Tries}
use Rattle.laws_wire.proofs.Standing.{IsCarried, StationStands, gives-stands}
use Rattle.laws_wire.proofs.Talking.{Face}
use Rattle.laws_wire.proofs.UaCalled.{renews}
use Rattle.laws_wire.proofs.UaLost.{Rings, repeats-sabme}

module _ (service : Service) (tei : ℕ) (c d : Config) (p q : ℕ) (face : Face c d) (back : Face d c) (rt : IsInRange (terms c service tei)) (ru : IsInRange (terms d service tei)) where
  abbrev t : Terms
  t = terms c service tei

  abbrev u : Terms
  u = terms d service tei

  abbrev Rung : Tries → List ControlFrame → List Parts → Endpoint → Type 0
  Rung k ws way s = Held c service tei p [] s (end t (ringing k ws) way)

  abbrev event : link.Event
  event = link.received (link.frame (sabme t))

  -- ---- the other end answers SABME

  pub answers-again : (l : Link) (s : Terms) → IsInRange s → IsTrue (is_multiple_frame l.state) → l.a ≡ 0 → l.waiting ≡ [] → (after s event l).waiting ≡ its_ua ∷ []
  answers-again l s ranges up o quiet = grind (arith, renews, nat_lt, its_ua, lt-ltb)

  pub answers-first : (after u event fresh).waiting ≡ its_ua ∷ []
  answers-first = ap (λ l. l.waiting) (takes-sabme u ru t)

  -- ---- a round

  -- SABME waits at the one, and nothing at the other
  module _ (k : Tries) (w : Wire) (near : Rung k (its_sabme ∷ []) [] w.near) (past : List LineTold) (M : LinkEndpoint) (held : Held d service tei q past w.far M) (way : M.way ≡ []) (answers : (after M.terms event M.link).waiting ≡ its_ua ∷ []) where
    -- SABME goes
    abbrev w1 : Wire
    w1 = acting sends w

    way1 : (w1.near.way ≡ spelling (own_side c) (sabme t) ∷ []) × IsCarried c service tei (sabme t)
    way1 = first-way service tei c p [] w1.near (end t (ringing k []) (sabme t ∷ [])) (sabme t) [] refl (held-given service tei p [] c w.near (end t (ringing k (its_sabme ∷ [])) []) near refl)

    -- and comes
    abbrev reached : Endpoint
    reached = frame_comes (spelling (own_side c) (sabme t)) w.far

    abbrev w2 : Wire
    w2 = record { near = without_first w1.near; far = reached }

    near2 : Rung k [] [] w2.near
    near2 = held-lost service tei p [] c w1.near (end t (ringing k []) (sabme t ∷ [])) (held-given service tei p [] c w.near (end t (ringing k (its_sabme ∷ [])) []) near refl)

    abbrev m : LinkEndpoint
    m = with_link event M

    far2 : StationStands d service tei q reached m
    far2 = taken-stands service tei q past d w.far M held c back (sabme t) way1.1

    -- UA goes
    abbrev w3 : Wire
    w3 = record { near = w2.near; far = happens next reached }

    far3 : StationStands reached.card.config service tei q w3.far (with_sent m)
    far3 = gives-stands service tei q reached m (subst (λ k. StationStands k service tei q reached m) (sym far2.config) far2)

    gone : (with_sent m).way ≡ ua u ∷ []
    gone = grind (arith, its_ua)

    carried : IsCarried d service tei (ua u)
    carried =
        All-head (IsCarried d service tei) (ua u) []
        (subst (All (IsCarried d service tei)) gone (subst (λ k. All (IsCarried k service tei) (with_sent m).way) far2.config far3.carried))

    -- and comes
    abbrev told : Endpoint
    told = frame_comes (spelling (own_side d) (ua u)) w2.near

    near4 : Held c service tei p (confirmed service tei ∷ []) told (end t (answered_link k []) [])
    near4 =
        let rung = end t (ringing k []) [] in
        held-first service tei p [] c w2.near rung near2 (confirmed service tei) told (end t (answered_link k []) []) (course t (link.received (link.frame (ua u))) rung.link) refl refl refl
        (taken-stands service tei p [] c w2.near rung near2 d face (ua u) carried) (takes-granted (spelling (own_side d) (ua u)) w2.near) refl
        (taken-told service tei p [] c w2.near rung near2 d face (ua u) carried) refl refl

    pub round-tells : heard_in (rounds 1 w).near ≡ confirmed service tei ∷ []
    unfolding rounds doing_all
    round-tells = grind (arith, without_first, w1, with_first_of, way1, far3, far2, gone, near4)

  -- ---- T200 expires before it

  module _ (P : Endpoint → Type 0) (w : Wire) (h : Rings service tei c d p q face back rt ru P [] [] w) (may : MayRepeat service tei w.near) (past : List LineTold) (M : LinkEndpoint) (held : Held d service tei q past w.far M)
      (way : M.way ≡ []) (answers : (after M.terms event M.link).waiting ≡ its_ua ∷ []) where
    abbrev timer : Timer
    timer = timer_T200 service tei

    few : may_repeat t (ringing h.repeats []) ≡ true
    few = may-there service tei c p w.near (end t (ringing h.repeats []) []) h.near.stands may refl refl

    pub rings-again : heard_in (rounds 1 (acting (expires timer) w)).near ≡ confirmed service tei ∷ []
    rings-again =
        let x = repeats-sabme service tei c d p q face back rt ru P w h few in
        round-tells x.repeats (acting (expires timer) w) x.near past M held way answers
