-- The first phase of such a call: one end rings, and the other is down.
use Rattle.laws_wire.proofs.Vocabulary.{◌≡◌, ℕ, List, [], ◌∷◌, ◌++◌, drop, refl, ap, subst, ◌∙◌, ◌⊎◌, inl, inr, arith, All-head, Service, Parts, Terms, fresh, IsInRange, frames_of, Config, request, terms, Data, Endpoint, Wire, happens, EndStep, requests, expires, sends, receives, loses, acting, turned, IsRoughTalkOf}
use Rattle.laws_wire.proofs.Calling.{sabme, ua, end, answering}
use Rattle.laws_wire.proofs.Held.{Held, Erred, held-given, held-lost, held-expired}
use Rattle.laws_wire.proofs.LossyPhases.{made, for-data, for-timer, empty, IsRinging, Went, no-take, no-take_far}
use Rattle.laws_wire.proofs.Ringing.{ringing, IsSabme, AreSabmes, one-sabme_less}
use Rattle.laws_wire.proofs.StillRinging.{StillRings, rings-asks, rings-expires, rings-gives, rings-loses, hears-sabme}
use Rattle.laws_wire.proofs.Talking.{Face}
use Rattle.laws_wire.proofs.TimelyFirst.{asks-still}

module _ (service : Service) (tei : ℕ) (c d : Config) (p q : ℕ) (face : Face c d) (back : Face d c) (rt : IsInRange (terms c service tei)) (ru : IsInRange (terms d service tei)) where
  abbrev t : Terms
  t = terms c service tei

  abbrev u : Terms
  u = terms d service tei

  abbrev Leads : Wire → Type 0
  Leads w = Went service tei c d p q w

  module _ (w : Wire) (h : IsRinging service tei c d p q w) where
    ringing-with : (s : Endpoint) → StillRings service tei c p s → Leads (record w { near = s })
    ringing-with s x = inl (inl (record { repeats = x.repeats; waiting = x.waiting; way = x.way; near = x.held; far = h.far; sabmes = x.sabmes }))

    ringing-or : (s : Endpoint) → StillRings service tei c p s ⊎ Erred s → Leads (record w { near = s })
    ringing-or s o = grind (arith, ringing-with)

    pub ringing-near : (act : EndStep) → IsRoughTalkOf service tei act → Leads (acting act w)
    ringing-near (requests r) is =
        for-data service tei (λ r. Leads (acting (requests r) w)) (λ octets. ringing-with _ (rings-asks service tei c p w.near h.repeats h.waiting h.way h.near h.sabmes octets)) r is
    ringing-near (expires timer) is =
        for-timer service tei (λ timer. Leads (acting (expires timer) w)) (λ timer its aims. ringing-or _ (rings-expires service tei c p w.near h.repeats h.waiting h.way h.near h.sabmes timer its aims)) timer is
    ringing-near sends is = ringing-with _ (rings-gives service tei c p w.near h.repeats h.waiting h.way h.near h.sabmes)
    ringing-near receives is = no-take service tei c d p q w (empty service tei d q [] w.far (end u fresh []) h.far refl) (inl (inl h))
    ringing-near loses is = ringing-with _ (rings-loses service tei c p w.near h.repeats h.waiting h.way h.near h.sabmes)

    -- the other end, which is down
    down-with : (s : Endpoint) → Held d service tei q [] s (end u fresh []) → Leads (made w s)
    down-with s x = inl (inl (record { repeats = h.repeats; waiting = h.waiting; way = h.way; near = h.near; far = x; sabmes = h.sabmes }))

    down-asks : (octets : List ℕ) → Leads (made w (happens (request (Data service tei octets)) w.far))
    down-asks octets = down-with _ (asks-still service tei d q [] w.far (end u fresh []) h.far (Data service tei octets) (refl, refl) refl)

    -- SABME comes
    answers : (fs : List Parts) → h.way ≡ sabme t ∷ fs → Leads (turned (acting receives (turned w)))
    answers fs e =
        let near = end t (ringing h.repeats h.waiting) h.way in
        inl (inr (inl (record {
          repeats = h.repeats;
          waiting = h.waiting;
          way = drop 1 h.way;
          near = held-lost service tei p [] c w.near near h.near;
          sabmes = one-sabme_less t h.way h.waiting h.sabmes;
          m = end u answering [];
          first = ua u ∷ [];
          line = [];
          is_ua = inr refl;
          far = record { held = hears-sabme service tei d c q p back ru (turned w) h.far near h.near t fs e; up = refl; line = refl; joint = grind arith };
        })))

    first-is : (f : Parts) (fs : List Parts) → h.way ≡ f ∷ fs → f ≡ sabme t
    first-is f fs e = All-head (IsSabme t) f (fs ++ frames_of t h.waiting) (subst (λ way. AreSabmes t way h.waiting) e h.sabmes)

    down-takes : (way : List Parts) → h.way ≡ way → Leads (turned (acting receives (turned w)))
    down-takes [] e = no-take_far service tei c d p q w (empty service tei c p [] w.near (end t (ringing h.repeats h.waiting) h.way) h.near e) (inl (inl h))
    down-takes (f ∷ fs) e = answers fs (e ∙ ap (λ x. x ∷ fs) (first-is f fs e))

    pub ringing-far : (act : EndStep) → IsRoughTalkOf service tei act → Leads (turned (acting act (turned w)))
    ringing-far (requests r) is = for-data service tei (λ r. Leads (turned (acting (requests r) (turned w)))) down-asks r is
    ringing-far (expires timer) is =
        for-timer service tei (λ timer. Leads (turned (acting (expires timer) (turned w))))
        (λ timer its aims. down-with _ (held-expired service tei q [] d w.far (end u fresh []) h.far timer its aims (record { its_notes = refl; no_unit = refl }) refl)) timer is
    ringing-far sends is = down-with _ (held-given service tei q [] d w.far (end u fresh []) h.far refl)
    ringing-far receives is = down-takes h.way refl
    ringing-far loses is = down-with _ (held-lost service tei q [] d w.far (end u fresh []) h.far)
