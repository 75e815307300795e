-- A station, the end for which it stands, and what its layer 3 heard.
use Rattle.laws_wire.proofs.Vocabulary.{arith, ◌≡◌, ℕ, List, [], ◌∷◌, ◌++◌, map, refl, sym, ap, subst, ◌∙◌, All, flat_map, All-head, Service, Timer, Parts, spelling, LinkTimer, course, LinkEndpoint, with_link, with_sent, Config, LineTold, expiry, next, HasNothingToSend, nothing-to_send, flat_map-append, Endpoint, happens, frame_comes, for_layer_3, heard_in, own_side}
use Rattle.model_link.specs.Events as link
use Rattle.laws_wire.proofs.Answered.{gives-told}
use Rattle.laws_wire.proofs.LossyPhases.{Aims}
use Rattle.laws_wire.proofs.Speaking.{said_by}
use Rattle.laws_wire.proofs.Standing.{IsCarried, StationStands, gives-stands, expires-stands, expires-said}
use Rattle.laws_wire.proofs.Talking.{Face, unheard, takes as takes_frame}
use Rattle.laws_wire.proofs.Up.{stays}

-- A station stands for an end, whose layer 3 heard this.
pub record Tells (service : Service) (tei : ℕ) (k : Config) (place : ℕ) (heard : List LineTold) (s : Endpoint) (n : LinkEndpoint) : Type 0 where
  pub stands : StationStands k service tei place s n
  pub told : heard_in s ≡ heard

module _ (service : Service) (tei : ℕ) where
  abbrev T : Config → ℕ → List LineTold → Endpoint → LinkEndpoint → Type 0
  T k place heard s n = Tells service tei k place heard s n

  -- what it delivered is no part of it
  pub as-end : (k : Config) (place : ℕ) (hs hs' : List LineTold) (s : Endpoint) (n n' : LinkEndpoint) → T k place hs s n → record n { delivered = n'.delivered } ≡ n' → hs ≡ hs' → T k place hs' s n'
  as-end k place hs hs' s n n' h e same = grind (arith, StationStands)

  own : (k : Config) (place : ℕ) (hs : List LineTold) (s : Endpoint) (n : LinkEndpoint) → T k place hs s n → StationStands s.card.config service tei place s n
  own k place hs s n h = subst (λ k. StationStands k service tei place s n) (sym h.stands.config) h.stands

  module _ (k : Config) (place : ℕ) (hs : List LineTold) (s : Endpoint) (n : LinkEndpoint) (h : T k place hs s n) where
    pub t-given : T k place hs (happens next s) (with_sent n)
    t-given = record {
      stands = subst (λ k. StationStands k service tei place (happens next s) (with_sent n)) h.stands.config (gives-stands service tei place s n (own k place hs s n h));
      told = ap (flat_map for_layer_3) (gives-told s) ∙ h.told;
    }

    abbrev After : Parts → LinkEndpoint
    After f = with_link (link.received (link.frame f)) n

    abbrev more-by : Parts → List LineTold
    more-by f = flat_map for_layer_3 (said_by (course n.terms (link.received (link.frame f)) n.link))

    pub t-taken : (d : Config) → Face k d → (f : Parts) → IsCarried d service tei f → T k place (hs ++ more-by f) (frame_comes (spelling (own_side d) f) s) (After f)
    t-taken d face f from =
        let x = takes_frame service tei place unheard k d face s n f h.stands from in
        grind (arith, flat_map, flat_map-append, said_by)

    pub t-expired : (timer : Timer) (its : LinkTimer) → Aims service tei timer its
        → T k place (hs ++ flat_map for_layer_3 (said_by (course n.terms (link.expired its) n.link))) (happens (expiry timer) s) (with_link (link.expired its) n)
    t-expired timer its aims = record {
      stands =
          subst (λ k. StationStands k service tei place (happens (expiry timer) s) (with_link (link.expired its) n)) h.stands.config
          (expires-stands service tei place s n (own k place hs s n h) timer its aims);
      told =
          ap (flat_map for_layer_3) (expires-said service tei place s n (own k place hs s n h) timer its aims)
          ∙ flat_map-append for_layer_3 s.told (said_by (course n.terms (link.expired its) n.link))
          ∙ ap (λ ts. ts ++ flat_map for_layer_3 (said_by (course n.terms (link.expired its) n.link))) h.told;
    }

  -- its only frame is lost, or taken
  pub first-carried : (k : Config) (place : ℕ) (hs : List LineTold) (s : Endpoint) (n : LinkEndpoint) (f : Parts) → n.way ≡ f ∷ [] → T k place hs s n
      → (s.way ≡ spelling (own_side k) f ∷ []) × IsCarried k service tei f
  first-carried k place hs s n f one h =
      (h.stands.way ∙ ap (map (spelling (own_side k))) one, All-head (IsCarried k service tei) f [] (subst (All (IsCarried k service tei)) one h.stands.carried))

  -- it has nothing to give
  pub t-silent : (k : Config) (place : ℕ) (hs : List LineTold) (s : Endpoint) (n : LinkEndpoint) → HasNothingToSend n.terms n.link → T k place hs s n → T k place hs (happens next s) n
  t-silent k place hs s n quiet h = as-end k place hs hs (happens next s) (with_sent n) n (t-given k place hs s n h) (stays n (nothing-to_send n.terms n.link quiet)) refl
