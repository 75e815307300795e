-- The third phase of such a call: both ends are up.
use Rattle.laws_wire.proofs.Vocabulary.{◌≡◌, ℕ, true, List, [], ◌∷◌, ◌++◌, drop, refl, sym, ap, subst, ◌∙◌, ◌⊎◌, inl, inr, All, All-nil, All-head, All-tail, Service, Parts, spelling, course, frames_of, Config, terms, Endpoint, Wire, with_first_of, without_first, EndStep, requests, expires, sends, receives, loses, acting, frame_comes, LineTold, map, IsRoughTalkOf, received, frame}
use Rattle.laws_wire.proofs.Vocabulary.{two_ends_without_first, own_side}
use Rattle.laws_wire.proofs.Acting.{which, UpAt, Acted, ranges, up-asks, up-expires, up-gives, up-loses, up-hears}
use Rattle.laws_wire.proofs.Fair.{HasError, sabme-error}
use Rattle.laws_wire.proofs.Held.{Erred, now-erred, held-lost, taken-told}
use Rattle.laws_wire.proofs.LossyPhases.{for-data, for-timer, first-way, empty, IsUpWith}
use Rattle.laws_wire.proofs.Ringing.{IsSabme}
use Rattle.laws_wire.proofs.Talking.{Face}
use Rattle.laws_wire.proofs.Standing.{IsCarried}
use Rattle.laws_wire.proofs.Answered.{takes-none, lost-none}

module _ (service : Service) (tei : ℕ) (c d : Config) (p q : ℕ) (face : Face c d) (past other : List LineTold) (w : Wire) (h : IsUpWith service tei c d p q past other w) where
  abbrev Leads : Wire → Type 0
  Leads w' = IsUpWith service tei c d p q past other w' ⊎ Erred w'.near ⊎ Erred w'.far

  -- one end went on, and the other stays where it is
  went : (s : Endpoint) (first : List Parts) → All (IsSabme (terms c service tei)) first → Acted service tei p past c s h.m first h.here → Leads (record w { near = s })
  went s first all x =
      inl (record {
        n = x.n;
        m = h.m;
        first = first;
        second = h.second;
        there = x.near;
        here = h.here;
        sabmes = all;
        others = h.others;
        near = x.at;
        far = record { held = h.far.held; up = h.far.up; line = h.far.line; joint = (record { there = x.at.joint.back; back = x.at.joint.there }) };
      })

  -- what one gave the other takes
  module _ (f : Parts) (fs : List Parts) (e : h.m.way ≡ f ∷ fs) where
    abbrev s' : Endpoint
    s' = frame_comes (spelling (own_side d) f) w.near

    way : (w.far.way ≡ spelling (own_side d) f ∷ map (spelling (own_side d)) fs) × IsCarried d service tei f
    way = first-way service tei d q other w.far h.m f fs e h.far.held

    reached : Leads (record { near = s'; far = without_first w.far }) → Leads (acting receives w)
    reached = subst (λ ways. Leads (record { near = with_first_of ways w.near; far = without_first w.far })) (sym way.0)

    hears : h.second ≡ [] → h.here ≡ f ∷ fs ++ frames_of h.m.terms h.m.link.waiting → Leads (acting receives w)
    hears none is =
        let rest = fs ++ frames_of h.m.terms h.m.link.waiting in
        let at : UpAt service tei p past c w.near h.n h.m h.first h.there (f ∷ rest) = subst (λ xs. UpAt service tei p past c w.near h.n h.m h.first h.there xs) is h.near in
        reached (elim (up-hears service tei p past c d face w.near h.n h.m f h.first h.there rest at way.1 (ranges service tei q other d w.far h.m h.far.held)) [
          | inl x ↦
              inl (record {
                n = x.n;
                m = two_ends_without_first h.m;
                first = h.first;
                second = [];
                there = x.near;
                here = rest;
                sabmes = h.sabmes;
                others = All-nil (IsSabme (terms d service tei));
                near = x.at;
                far = record {
                  held = held-lost service tei q other d w.far h.m h.far.held;
                  up = h.far.up;
                  line = ap (λ way. drop 1 way ++ frames_of h.m.terms h.m.link.waiting) e;
                  joint = (record { there = x.at.joint.back; back = x.at.joint.there });
                };
              })
          | inr e ↦ inr (inl e)
        ])

    -- SABME comes again
    errs : IsSabme (terms d service tei) f → Leads (acting receives w)
    errs is =
        let x = course h.n.terms (received (frame f)) h.n.link in
        let error : HasError x.notes = sabme-error h.n.terms h.n.link h.near.up f true (ap (λ y. y.control) is) in
        reached (inr (inl (now-erred w.near s' x (taken-told service tei p past c w.near h.n h.near.held d face f way.1) error)))

  takes : (its : List Parts) → h.m.way ≡ its → Leads (acting receives w)
  takes [] e = subst Leads (sym (takes-none w (empty service tei d q other w.far h.m h.far.held e))) (inl h)
  takes (f ∷ fs) e =
      let rest : List Parts = fs ++ frames_of h.m.terms h.m.link.waiting in
      elim (which f rest h.second h.here (sym (ap (λ way. way ++ frames_of h.m.terms h.m.link.waiting) e) ∙ h.far.line)) [
        | inl x ↦ hears f fs e x.none x.is
        | inr x ↦ errs f fs e (All-head (IsSabme (terms d service tei)) f x.others (subst (All (IsSabme (terms d service tei))) x.is h.others))
      ]

  loses-one : (its : List Parts) → h.n.way ≡ its → Leads (acting loses w)
  loses-one [] e = subst (λ s. Leads (record w { near = s })) (sym (lost-none w.near (empty service tei c p past w.near h.n h.near.held e))) (inl h)
  loses-one (f ∷ fs) e =
      elim (up-loses service tei p past c w.near h.n h.m h.first h.there h.here h.near f fs e).lost [
        | inl x ↦ went (without_first w.near) h.first h.sabmes x.2
        | inr x ↦ went (without_first w.near) x.0 (All-tail (IsSabme (terms c service tei)) f x.0 (subst (All (IsSabme (terms c service tei))) x.1 h.sabmes)) x.2
      ]

  pub up-acts : (act : EndStep) → IsRoughTalkOf service tei act → Leads (acting act w)
  up-acts (requests r) is =
      for-data service tei (λ r. Leads (acting (requests r) w))
      (λ octets. went _ h.first h.sabmes (up-asks service tei p past c w.near h.n h.m h.first h.there h.here h.near octets)) r is
  up-acts (expires timer) is =
      for-timer service tei (λ timer. Leads (acting (expires timer) w))
      (λ timer its aims. elim (up-expires service tei p past c w.near h.n h.m h.first h.there h.here h.near timer its aims) [ inl x ↦ went _ h.first h.sabmes x | inr e ↦ inr (inl e) ]) timer is
  up-acts sends is = went _ h.first h.sabmes (up-gives service tei p past c w.near h.n h.m h.first h.there h.here h.near)
  up-acts receives is = takes h.m.way refl
  up-acts loses is = loses-one h.n.way refl
