-- The second phase of such a call: one end still rings, and the other is up.
use Rattle.laws_wire.proofs.Vocabulary.{arith, ◌≡◌, ℕ, true, List, [], ◌∷◌, ◌++◌, refl, sym, ap, subst, ◌∙◌, ◌⊎◌, inl, inr, append-nil, All-head, Service, Parts, spelling, Terms, course, IsInRange, LinkEndpoint, frames_of, Config, terms, Endpoint, Wire, with_first_of, without_first, EndStep, requests, expires, sends, receives, loses, acting, turned, frame_comes, All-nil, indicated, IsRoughTalkOf}
use Rattle.laws_wire.proofs.Vocabulary.{own_side}
use Rattle.model_link.specs.Events as link
use Rattle.laws_wire.proofs.Acting.{Acted, up-asks, up-expires, up-gives, up-loses}
use Rattle.laws_wire.proofs.Calling.{sabme, ua, end, caller}
use Rattle.laws_wire.proofs.Fair.{HasError, sabme-error}
use Rattle.laws_wire.proofs.Held.{Erred, now-erred, taken-told}
use Rattle.laws_wire.proofs.Joint.{Joint, IsMeant}
use Rattle.laws_wire.proofs.LossyPhases.{made, for-data, for-timer, first-way, empty, UaOrNone, IsHalf, Went, as-up, no-take, no-take_far, no-loss_far}
use Rattle.laws_wire.proofs.Ringing.{ringing, answered, IsSabme, AreSabmes}
use Rattle.laws_wire.proofs.StillRinging.{StillRings, rings-asks, rings-expires, rings-gives, rings-loses, ignores-frame, hears-ua}
use Rattle.laws_wire.proofs.Talking.{Face}

module _ (service : Service) (tei : ℕ) (c d : Config) (p q : ℕ) (face : Face c d) (back : Face d c) (rt : IsInRange (terms c service tei)) (ru : IsInRange (terms d service tei)) where
  abbrev t : Terms
  t = terms c service tei

  abbrev u : Terms
  u = terms d service tei

  abbrev Leads : Wire → Type 0
  Leads w = Went service tei c d p q w

  module _ (w : Wire) (h : IsHalf service tei c d p q w) where
    half-with : (s : Endpoint) → StillRings service tei c p s → Leads (record w { near = s })
    half-with s x = grind arith

    half-or : (s : Endpoint) → StillRings service tei c p s ⊎ Erred s → Leads (record w { near = s })
    half-or s o = grind (arith, half-with)

    abbrev caller_end : LinkEndpoint
    caller_end = end t (ringing h.repeats h.waiting) h.way

    -- the first frame on the way of the other, where it is not UA
    unheard-by : (f : Parts) (fs : List Parts) → h.m.way ≡ f ∷ fs → IsMeant f → Acted service tei q (indicated service tei ∷ []) d (without_first w.far) (end t caller []) h.first []
        → Leads (acting receives w)
    unheard-by f fs e meant x =
        inl (inr (inl (record {
          repeats = h.repeats;
          waiting = h.waiting;
          way = h.way;
          near = ignores-frame service tei c d p q face w h.repeats h.waiting h.way h.near (indicated service tei ∷ []) h.m h.far.held f fs e meant.number meant.means;
          sabmes = h.sabmes;
          m = x.n;
          first = h.first;
          line = x.near;
          is_ua = h.is_ua;
          far = x.at;
        })))

    -- UA comes
    confirms : (fs : List Parts) → h.m.way ≡ ua u ∷ fs → Acted service tei q (indicated service tei ∷ []) d (without_first w.far) (end t caller []) [] [] → Leads (acting receives w)
    confirms fs e x =
        let n' = end t (answered h.repeats h.waiting) h.way in
        let there : Joint x.n n' x.near [] =
        record {
          there = record { carried = x.at.joint.there.carried; rising = x.at.joint.there.rising; delivered = x.at.joint.there.delivered; accepted = x.at.joint.there.accepted };
          back = record { carried = x.at.joint.back.carried; rising = x.at.joint.back.rising; delivered = x.at.joint.back.delivered; accepted = x.at.joint.back.accepted };
        } in
        let held = hears-ua service tei c d p q face w h.repeats h.waiting h.way h.near (indicated service tei ∷ []) h.m h.far.held u fs e in
        as-up service tei c d p q (acting receives w) (record {
          n = n';
          m = x.n;
          first = h.way ++ frames_of t h.waiting;
          second = [];
          there = [];
          here = x.near;
          sabmes = h.sabmes;
          others = All-nil (IsSabme u);
          near = record { held = held; up = refl; line = sym (append-nil (h.way ++ frames_of t h.waiting)); joint = (record { there = there.back; back = there.there }) };
          far = record { held = x.at.held; up = x.at.up; line = x.at.line; joint = there };
        })

    -- what was before the line
    only-ua : (f : Parts) (others : List Parts) → h.first ≡ f ∷ others → (f ≡ ua u) × (others ≡ [])
    only-ua f others e = grind (arith, UaOrNone, ua)

    half-takes : (way : List Parts) → h.m.way ≡ way → Leads (acting receives w)
    half-takes [] e = no-take service tei c d p q w (empty service tei d q _ w.far h.m h.far.held e) (inl (inr (inl h)))
    half-takes (f ∷ fs) e =
        elim (up-loses service tei q _ d w.far h.m (end t caller []) h.first h.line [] h.far f fs e).lost [
          | inl x ↦ unheard-by f fs e x.1 x.2
          | inr x ↦
              let only = only-ua f x.0 x.1 in
              confirms fs (e ∙ ap (λ y. y ∷ fs) only.0) (subst (λ first. Acted service tei q (indicated service tei ∷ []) d (without_first w.far) (end t caller []) first []) only.1 x.2)
        ]

    pub half-near : (act : EndStep) → IsRoughTalkOf service tei act → Leads (acting act w)
    half-near (requests r) is =
        for-data service tei (λ r. Leads (acting (requests r) w)) (λ octets. half-with _ (rings-asks service tei c p w.near h.repeats h.waiting h.way h.near h.sabmes octets)) r is
    half-near (expires timer) is =
        for-timer service tei (λ timer. Leads (acting (expires timer) w)) (λ timer its aims. half-or _ (rings-expires service tei c p w.near h.repeats h.waiting h.way h.near h.sabmes timer its aims)) timer is
    half-near sends is = half-with _ (rings-gives service tei c p w.near h.repeats h.waiting h.way h.near h.sabmes)
    half-near receives is = half-takes h.m.way refl
    half-near loses is = half-with _ (rings-loses service tei c p w.near h.repeats h.waiting h.way h.near h.sabmes)

    -- the other end
    half-made : (s : Endpoint) → Acted service tei q (indicated service tei ∷ []) d s (end t caller []) h.first [] → Leads (made w s)
    half-made s x = grind arith

    half-made_or : (s : Endpoint) → Acted service tei q (indicated service tei ∷ []) d s (end t caller []) h.first [] ⊎ Erred s → Leads (made w s)
    half-made_or s (inl x) = half-made s x
    half-made_or s (inr erred) = inr (inr erred)

    half-loses : (way : List Parts) → h.m.way ≡ way → Leads (turned (acting loses (turned w)))
    half-loses [] e = no-loss_far service tei c d p q w (empty service tei d q _ w.far h.m h.far.held e) (inl (inr (inl h)))
    half-loses (f ∷ fs) e = go (up-loses service tei q _ d w.far h.m (end t caller []) h.first h.line [] h.far f fs e).lost
      where
        go : ((h.first ≡ []) × IsMeant f × Acted service tei q (indicated service tei ∷ []) d (without_first w.far) (end t caller []) h.first [])
            ⊎ ((others : List Parts) × (h.first ≡ f ∷ others) × Acted service tei q (indicated service tei ∷ []) d (without_first w.far) (end t caller []) others [])
            → Leads (made w (without_first w.far))
        go (inl (none, meant, x)) = half-made (without_first w.far) x
        go (inr (others, is, x)) = grind arith

    -- SABME comes again
    half-hears : (way : List Parts) → h.way ≡ way → Leads (turned (acting receives (turned w)))
    half-hears [] e = no-take_far service tei c d p q w (empty service tei c p [] w.near caller_end h.near e) (inl (inr (inl h)))
    half-hears (f ∷ fs) e =
        let way = first-way service tei c p [] w.near caller_end f fs e h.near in
        let is : f ≡ sabme t = All-head (IsSabme t) f (fs ++ frames_of t h.waiting) (subst (λ way. AreSabmes t way h.waiting) e h.sabmes) in
        let x = course h.m.terms (link.received (link.frame f)) h.m.link in
        let error : HasError x.notes = sabme-error h.m.terms h.m.link h.far.up f true (ap (λ y. y.control) is) in
        subst (λ ways. Leads (record { near = without_first w.near; far = with_first_of ways w.far })) (sym way.0)
        (inr (inr (now-erred w.far (frame_comes (spelling (own_side c) f) w.far) x (taken-told service tei q _ d w.far h.m h.far.held c back f way.1) error)))

    pub half-far : (act : EndStep) → IsRoughTalkOf service tei act → Leads (turned (acting act (turned w)))
    half-far (requests r) is =
        for-data service tei (λ r. Leads (turned (acting (requests r) (turned w))))
        (λ octets. half-made _ (up-asks service tei q _ d w.far h.m (end t caller []) h.first h.line [] h.far octets)) r is
    half-far (expires timer) is =
        for-timer service tei (λ timer. Leads (turned (acting (expires timer) (turned w))))
        (λ timer its aims. half-made_or _ (up-expires service tei q _ d w.far h.m (end t caller []) h.first h.line [] h.far timer its aims)) timer is
    half-far sends is = half-made _ (up-gives service tei q _ d w.far h.m (end t caller []) h.first h.line [] h.far)
    half-far receives is = half-hears h.way refl
    half-far loses is = half-loses h.m.way refl
