-- SABME comes again to the end that is called, whose UA was lost: UA waits again, where there is room, and what it had sent is given up.
use Rattle.laws_wire.proofs.Vocabulary.{◌≡◌, ℕ, Bool, true, false, cond, List, [], ◌∷◌, ◌++◌, map, refl, sym, ap, subst, ◌∙◌, ◌⊎◌, inl, inr, append-nil, arith, flat_map, Service, spelling, Terms, has_outstanding, has_room, frames_of, course, IsInRange, LinkEndpoint, with_link, Config, LineTold, terms, Rising, Sane, flat_map-append, Course, line_of, Endpoint, Wire, frame_comes, with_first_of}
use Rattle.laws_wire.proofs.Vocabulary.{without_first, receives, acting, turned, data_told, for_layer_3, heard_in, received, LinkEvent, frame, error_f, renewed, own_side}
use Rattle.laws_wire.proofs.Answered.{takes-granted}
use Rattle.laws_wire.proofs.Calling.{its_ua, sabme, end}
use Rattle.laws_wire.proofs.Held.{Held, held-lost, taken-told, taken-stands}
use Rattle.laws_wire.proofs.LossyPhases.{first-way}
use Rattle.laws_wire.proofs.Ringing.{ringing, Tries}
use Rattle.laws_wire.proofs.Speaking.{said_by}
use Rattle.laws_wire.proofs.Standing.{IsCarried, StationStands}
use Rattle.laws_wire.proofs.Talking.{Face}
use Rattle.laws_wire.proofs.UaBefore.{with_before, regranted, split}
use Rattle.laws_wire.proofs.UaCalled.{sane-after, again, renews}
use Rattle.laws_wire.proofs.UaPhases.{IsAway, IsWaiting}

module _ (service : Service) (tei : ℕ) (c d : Config) (p q : ℕ) (face : Face c d) (back : Face d c) (rt : IsInRange (terms c service tei)) (ru : IsInRange (terms d service tei)) where
  abbrev t : Terms
  t = terms c service tei

  abbrev pub more_told : Bool → List LineTold → List LineTold
  more_told b past = past ++ cond b (renewed service tei) (error_f service tei) ∷ []

  -- as it took SABME
  pub record TookSabme (past : List LineTold) (b : Bool) (w w' : Wire) : Type 0 where
    pub v : Wire
    pub is : w' ≡ with_before (cond b w.far.granted []) v
    pub repeats : Tries
    pub near : Held c service tei p [] v.near (end t (ringing repeats []) [])
    pub far : IsWaiting service tei c d p q face back rt ru (more_told b past) false v.far ⊎ IsAway service tei c d p q face back rt ru (more_told b past) false v.far

  module _ (past : List LineTold) (w : Wire) (repeats : Tries) (near : Held c service tei p [] w.near (end t (ringing repeats []) (sabme t ∷ []))) (bit : Bool)
      (h : IsAway service tei c d p q face back rt ru past bit w.far) where
    abbrev M : LinkEndpoint
    M = h.M

    abbrev b : Bool
    b = has_outstanding M.link

    abbrev caller_end : LinkEndpoint
    caller_end = end t (ringing repeats []) (sabme t ∷ [])

    abbrev event : LinkEvent
    event = received (frame (sabme t))

    abbrev x : Course
    x = course M.terms event M.link

    abbrev reached : Endpoint
    reached = frame_comes (spelling (own_side c) (sabme t)) w.far

    its_way : (w.near.way ≡ spelling (own_side c) (sabme t) ∷ []) × IsCarried c service tei (sabme t)
    its_way = first-way service tei c p [] w.near caller_end (sabme t) [] refl near

    abbrev left : Bool → LinkEndpoint
    left room = record { terms = M.terms; link = again room (cond b [] M.link.contents) M.link; way = M.way; delivered = [] }

    becomes : with_link event M ≡ left (has_room M.terms M.link)
    becomes = grind (arith, renews, append-nil)

    abbrev s' : Endpoint
    s' = record reached { granted = cond b [] w.far.granted }

    heard : heard_in s' ≡ more_told b past ++ []
    heard =
        ap (flat_map for_layer_3) (taken-told service tei q past d w.far M h.held c back (sabme t) its_way.1)
        ∙ flat_map-append for_layer_3 w.far.told (said_by x)
        ∙ ap (λ ts. ts ++ flat_map for_layer_3 (said_by x)) (h.held.heard ∙ ap (λ xs. past ++ map (data_told service tei) xs) h.delivered ∙ append-nil past)
        ∙ ap (λ ts. past ++ ts) ((renews M.terms t M.link h.up h.a).told ∙ ap (λ (y : Terms). cond b (renewed y.service y.tei) (error_f y.service y.tei) ∷ []) h.held.stands.terms)
        ∙ sym (append-nil (more_told b past))

    held : (room : Bool) → has_room M.terms M.link ≡ room → Held d service tei q (more_told b past) s' (left room)
    held room e = record {
      stands =
          regranted d service tei q reached (left room) (cond b [] w.far.granted)
          (subst (λ room. StationStands d service tei q reached (left room)) e
          (subst (StationStands d service tei q reached) becomes (taken-stands service tei q past d w.far M h.held c back (sabme t) its_way.1)));
      granted = ap (λ g. cond b [] g) h.held.granted;
      heard = heard;
    }

    sane : (room : Bool) → has_room M.terms M.link ≡ room → Sane (left room).link
    sane room e = subst (λ room. Sane (left room).link) e (subst Sane (renews M.terms t M.link h.up h.a).link (sane-after M.terms event M.link h.sane))

    line : Rising 0 0 (line_of M)
    line = subst (λ r. Rising 0 r (line_of M)) h.r h.rising

    by-room : (room : Bool) → has_room M.terms M.link ≡ room
        → IsWaiting service tei c d p q face back rt ru (more_told b past) false s' ⊎ IsAway service tei c d p q face back rt ru (more_told b past) false s'
    by-room true e = inl (record {
      M = left true;
      old = M.link.waiting;
      post = [];
      held = held true e;
      waits = sym (append-nil (M.link.waiting ++ its_ua ∷ []));
      delivered = refl;
      rising = subst (λ (y : Terms). Rising 0 0 (M.way ++ frames_of y M.link.waiting)) h.held.stands.terms line;
      poised = record { up = refl; a = refl; s = refl; r = refl; rejecting = refl; sane = sane true e; reports = tt; idle = tt; one = omega arith };
      flag = refl;
    })
    by-room false e = inr (record { M = left false; held = held false e; up = refl; a = refl; r = refl; rejecting = refl; delivered = refl; sane = sane false e; rising = line; flag = refl })

    renewed-so : TookSabme past b w (turned (acting receives (turned w)))
    renewed-so = record {
      v = record { near = without_first w.near; far = s' };
      is =
          ap (λ ways. record { near = without_first w.near; far = with_first_of ways w.far }) its_way.0
          ∙ (λ i. record { near = without_first w.near; far = record reached { granted = (takes-granted (spelling (own_side c) (sabme t)) w.far ∙ split b w.far.granted) i } });
      repeats = repeats;
      near = held-lost service tei p [] c w.near caller_end near;
      far = by-room (has_room M.terms M.link) refl;
    }

    pub sabme-renews : TookSabme past bit w (turned (acting receives (turned w)))
    sabme-renews = subst (λ b. TookSabme past b w (turned (acting receives (turned w)))) (sym h.flag) renewed-so
