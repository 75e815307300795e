-- What happens at one end of a wire whose link is up, where frames are lost and timers expire.
use Rattle.laws_wire.proofs.Vocabulary.{arith, ◌≡◌, ℕ, IsTrue, List, [], ◌∷◌, ◌++◌, drop, refl, sym, ap, subst, ◌∙◌, ◌⊎◌, inl, inr, append-nil, Service, Timer, Parts, spelling, ControlFrame, LinkTimer, is_multiple_frame, course, IsInRange, LinkEndpoint, with_link, with_sent, frames_of, Config, LineTold, expiry, request, next, at_timer, aim_of_expiry, Line, place_in, event-follows, IsSound, Course}
use Rattle.laws_wire.proofs.Vocabulary.{line_of, Data, Endpoint, happens, without_first, frame_comes, two_ends_without_first, own_side}
use Rattle.model_link.specs.Events as link
use Rattle.laws_wire.proofs.Asking.{with_more}
use Rattle.laws_wire.proofs.Fair.{Fine, frame-fair, timer-fair}
use Rattle.laws_wire.proofs.Held.{Held, TellsIt, Erred, now-erred, held-given, held-lost, taken-told, held-taken, expired-told, held-expired, held-asked}
use Rattle.laws_wire.proofs.Joint.{Joint, IsMeant, since, line-on, loses-first, Goes, waits-more, goes-on, only-link, accepts, timer-goes, timer-delivers, GivesOn, gives-on, first-means, HearsOn, hears-on}
use Rattle.laws_wire.proofs.Standing.{IsCarried, StationStands, link-sound, link-ranges}
use Rattle.laws_wire.proofs.Talking.{Face}

-- the first of a line that begins with other frames is one of those, or none is before it
pub record Before (f : Parts) (rest first line : List Parts) : Type 0 where
  pub others : List Parts
  pub is : first ≡ f ∷ others
  pub behind : rest ≡ others ++ line

pub record First (f : Parts) (rest first line : List Parts) : Type 0 where
  pub none : first ≡ []
  pub is : line ≡ f ∷ rest

pub which : (f : Parts) (rest first line : List Parts) → f ∷ rest ≡ first ++ line → First f rest first line ⊎ Before f rest first line
which f rest [] line e = inl (record { none = refl; is = sym e })
which f rest (g ∷ gs) line e = grind arith

module _ (service : Service) (tei place : ℕ) (past : List LineTold) (c : Config) where
  abbrev Its : Endpoint → LinkEndpoint → Type 0
  Its s n = Held c service tei place past s n

  pub sound : (s : Endpoint) (n : LinkEndpoint) → Its s n → IsSound n.terms n.link
  sound s n h = link-sound service tei place s n (subst (λ k. StationStands k service tei place s n) (sym h.stands.config) h.stands)

  pub ranges : (s : Endpoint) (n : LinkEndpoint) → Its s n → IsInRange n.terms
  ranges s n h = link-ranges service tei place s n (subst (λ k. StationStands k service tei place s n) (sym h.stands.config) h.stands)

  -- An end whose link is up, with what is on its line.
  pub record UpAt (s : Endpoint) (n m : LinkEndpoint) (first near far : List Parts) : Type 0 where
    pub held : Its s n
    pub up : IsTrue (is_multiple_frame n.link.state)
    pub line : line_of n ≡ first ++ near
    pub joint : Joint n m near far

  pub record Acted (s' : Endpoint) (m : LinkEndpoint) (first far : List Parts) : Type 0 where
    pub n : LinkEndpoint
    pub near : List Parts
    pub at : UpAt s' n m first near far

  module _ (s : Endpoint) (n m : LinkEndpoint) (first near far : List Parts) (h : UpAt s n m first near far) where
    abbrev ws : List ControlFrame
    ws = n.link.waiting

    tells : (x : Course) → Fine n.terms x.link.state x.notes x.delivered x.unit → TellsIt n.terms.service n.terms.tei x
    tells x y = record { its_notes = y.its_notes; no_unit = y.no_unit }

    -- it is asked to send more
    pub up-asks : (octets : List ℕ) → Acted (happens (request (Data service tei octets)) s) m first far
    up-asks octets =
        elim (held-asked service tei place past c s n h.held octets) [
          | inl same ↦ record { n = n; near = near; at = subst (λ x. UpAt x n m first near far) (sym same) h }
          | inr x ↦
              let l' = (with_more octets n).link in
              let g : Goes n.link l' (octets ∷ []) = accepts octets n.link in
              record {
                n = with_more octets n;
                near = near ++ frames_of n.terms (since ws l'.waiting);
                at = record {
                  held = x.held;
                  up = h.up;
                  line = line-on n.terms n.way first near ws l'.waiting (since ws l'.waiting) h.line (waits-more n.link l' (octets ∷ []) g);
                  joint = goes-on n m l' (octets ∷ []) near far g h.joint;
                };
              }
        ]

    -- a timer expires
    pub up-expires : (timer : Timer) (its : LinkTimer) → ((l : Line) → aim_of_expiry timer l ≡ at_timer service tei its (place_in l tei))
        → Acted (happens (expiry timer) s) m first far ⊎ Erred (happens (expiry timer) s)
    up-expires timer its aims =
        let e : link.Event = link.expired its in
        let x : Course = course n.terms e n.link in
        let s' : Endpoint = happens (expiry timer) s in
        elim (timer-fair n.terms n.link h.up its).fair [
          | inl error ↦ inr (now-erred s s' x (expired-told service tei place past c s n h.held timer its aims) error)
          | inr fine ↦
              let g : Goes n.link x.link [] = timer-goes n.terms n.link h.up its fine.up in
              let news = since ws x.link.waiting in
              let kept : x.link.contents ≡ n.link.contents = g.same ∙ append-nil n.link.contents in
              inl (record {
                n = with_link e n;
                near = near ++ frames_of n.terms news;
                at = record {
                  held = held-expired service tei place past c s n h.held timer its aims (tells x fine) kept;
                  up = fine.up;
                  line = line-on n.terms n.way first near ws x.link.waiting news h.line (waits-more n.link x.link [] g);
                  joint = subst (λ y. Joint y m (near ++ frames_of n.terms news) far) (sym (only-link n e (timer-delivers n.terms n.link its))) (goes-on n m x.link [] near far g h.joint);
                };
              })
        ]

    -- it gives
    pub up-gives : Acted (happens next s) m first far
    up-gives =
        let x : GivesOn n m first near far = gives-on n m first near far (ranges s n h.held) (sound s n h.held) h.line h.joint in
        record {
          n = with_sent n;
          near = near ++ x.news;
          at = record {
            held = held-given service tei place past c s n h.held x.contents;
            up = subst (λ state. IsTrue (is_multiple_frame state)) (sym (event-follows n.terms link.offer n.link).leaves.state) h.up;
            line = x.line;
            joint = x.joint;
          };
        }

    -- the first frame on its way is lost
    pub record Lost (f : Parts) : Type 0 where
      pub lost : ((first ≡ []) × IsMeant f × Acted (without_first s) m first far) ⊎ ((others : List Parts) × (first ≡ f ∷ others) × Acted (without_first s) m others far)

    pub up-loses : (f : Parts) (fs : List Parts) → n.way ≡ f ∷ fs → Lost f
    up-loses f fs e = go (which f (fs ++ frames_of n.terms ws) first near (sym (ap (λ way. way ++ frames_of n.terms ws) e) ∙ h.line))
      where
        n' : LinkEndpoint
        n' = two_ends_without_first n

        now : line_of n' ≡ fs ++ frames_of n.terms ws
        now = ap (λ way. drop 1 way ++ frames_of n.terms ws) e

        held : Its (without_first s) n'
        held = held-lost service tei place past c s n h.held

        go : First f (fs ++ frames_of n.terms ws) first near ⊎ Before f (fs ++ frames_of n.terms ws) first near → Lost f
        go (inl x) =
            let rest = fs ++ frames_of n.terms ws in
            let joint : Joint n m rest far = loses-first n m f rest far (subst (λ xs. Joint n m xs far) x.is h.joint) in
            record {
              lost = inl (
                x.none,
                first-means m n f far rest (record { there = (subst (λ xs. Joint n m xs far) x.is h.joint).back; back = (subst (λ xs. Joint n m xs far) x.is h.joint).there }),
                record {
                  n = n';
                  near = rest;
                  at = record { held = held; up = h.up; line = now ∙ ap (λ xs. xs ++ rest) (sym x.none); joint = record { there = joint.there; back = joint.back } };
                },
              );
            }
        go (inr x) = grind (arith, n', held, now)

  -- it takes the first frame of the other's line
  pub up-hears : (d : Config) → Face c d → (s : Endpoint) (n m : LinkEndpoint) (f : Parts) (first near far : List Parts) → UpAt s n m first near (f ∷ far) → IsCarried d service tei f
      → IsInRange m.terms
      → Acted (frame_comes (spelling (own_side d) f) s) (two_ends_without_first m) first far ⊎ Erred (frame_comes (spelling (own_side d) f) s)
  up-hears d face s n m f first near far h from far-ranges =
      let meant : IsMeant f = first-means n m f near far h.joint in
      let e : link.Event = link.received (link.frame f) in
      let x : Course = course n.terms e n.link in
      let s' : Endpoint = frame_comes (spelling (own_side d) f) s in
      elim (frame-fair n.terms n.link h.up f meant.number meant.means).fair [
        | inl error ↦ inr (now-erred s s' x (taken-told service tei place past c s n h.held d face f from) error)
        | inr fine ↦
            let y : HearsOn n m f near far = hears-on n m f near far (ranges s n h.held) far-ranges (sound s n h.held) h.up fine.up h.joint in
            let news = since n.link.waiting x.link.waiting in
            inl (record {
              n = with_link e n;
              near = near ++ frames_of n.terms news;
              at = record {
                held = held-taken service tei place past c s n h.held d face f from (record { its_notes = fine.its_notes; no_unit = fine.no_unit }) y.contents;
                up = fine.up;
                line = line-on n.terms n.way first near n.link.waiting x.link.waiting news h.line y.waits;
                joint = record { there = y.joint.there; back = y.joint.back };
              };
            })
      ]
