-- A station in a call: what its layer 3 was granted is what its link accepted, and it was told what its link delivered.
use Rattle.laws_wire.proofs.Vocabulary.{arith, ◌≡◌, ℕ, ◌≤◌, Bool, false, cond, List, [], ◌∷◌, ◌++◌, length, map, drop, Option, Some, None, Ok, refl, sym, ap, subst, ◌∙◌, ◌⊎◌, append-nil, append_assoc, All, option_to_list, nat_lt, ltb-false, All-tail, Refusal, TooLong, Service, Parts, spelling, Terms, Link, LinkEndpoint, with_link, with_sent, Config, came, LineTold, request, next, heard_side}
use Rattle.laws_wire.proofs.Vocabulary.{link-grants, Data, Endpoint}
use Rattle.laws_wire.proofs.Vocabulary.{happens, without_first, frame_comes, data_told, map-append, two_ends_without_first, course, refusal, own_side}
use Rattle.model_bits.specs.Stream.{frame}
use Rattle.model_link.specs.Events as link
use Rattle.laws_wire.proofs.Answered.{gives-told, gives-granted, takes-granted}
use Rattle.laws_wire.proofs.Asking.{with_more, asked-form}
use Rattle.laws_wire.proofs.Speaking.{said_by, TellsData}
use Rattle.laws_wire.proofs.Standing.{IsCarried, StationStands, Granted, gives-stands, takes-stands, takes-told, asks-stands}

-- Two configurations of the two sides.
pub record Face (c d : Config) : Type 0 where
  pub side : heard_side c ≡ own_side d
  pub n201 : c.n201 ≡ d.n201

-- What layer 3 of a station had been told before, and what its link had delivered.
pub record Past : Type 0 where
  pub told : List LineTold
  pub had : List (List ℕ)

abbrev pub unheard : Past
unheard = record { told = []; had = [] }

abbrev pub after_note : LineTold → Past
after_note t = record { told = t ∷ []; had = [] }

pub record Holds (c : Config) (service : Service) (tei place : ℕ) (past : Past) (s : Endpoint) (n : LinkEndpoint) : Type 0 where
  pub stands : StationStands c service tei place s n
  pub granted : s.granted ≡ n.link.contents
  pub since : List (List ℕ)
  pub told : s.told ≡ past.told ++ map (data_told service tei) since
  pub delivered : n.delivered ≡ past.had ++ since

-- what is spelled as nothing is nothing
pub no-way : (f : Parts → List ℕ) (way : List Parts) → map f way ≡ [] → way ≡ []
no-way f [] e = refl
no-way f (x ∷ xs) e = absurd (cc)

-- where nothing was delivered before
module _ (c : Config) (service : Service) (tei place : ℕ) (before : List LineTold) (s : Endpoint) (n : LinkEndpoint) (h : Holds c service tei place (record { told = before; had = [] }) s n) where
  pub all-told : s.told ≡ before ++ map (data_told service tei) n.delivered
  all-told = h.told ∙ ap (λ xs. before ++ map (data_told service tei) xs) (sym h.delivered)

  pub none-told : n.delivered ≡ [] → s.told ≡ before
  none-told none = all-told ∙ ap (λ xs. before ++ map (data_told service tei) xs) none ∙ append-nil before

module _ (service : Service) (tei place : ℕ) (first : Past) where
  -- it gives
  pub holds-given : (c : Config) (s : Endpoint) (n : LinkEndpoint) → Holds c service tei place first s n → (with_sent n).link.contents ≡ n.link.contents
      → Holds c service tei place first (happens next s) (with_sent n)
  holds-given c s n h kept = record {
    stands =
        subst (λ k. StationStands k service tei place (happens next s) (with_sent n)) h.stands.config
        (gives-stands service tei place s n (subst (λ k. StationStands k service tei place s n) (sym h.stands.config) h.stands));
    granted = gives-granted s ∙ h.granted ∙ sym kept;
    since = h.since;
    told = gives-told s ∙ h.told;
    delivered = h.delivered;
  }

  -- the first frame on its way is taken
  drop-carried : (c : Config) (way : List Parts) → All (IsCarried c service tei) way → All (IsCarried c service tei) (drop 1 way)
  drop-carried c [] h = h
  drop-carried c (f ∷ fs) h = All-tail (IsCarried c service tei) f fs h

  pub stands-lost : (c : Config) (s : Endpoint) (n : LinkEndpoint) → StationStands c service tei place s n → StationStands c service tei place (without_first s) (two_ends_without_first n)
  stands-lost c s n h = record {
    config = h.config;
    sound = h.sound;
    within = h.within;
    speaks = h.speaks;
    terms = h.terms;
    way = ap (drop 1) h.way ∙ (grind arith);
    carried = drop-carried c n.way h.carried;
  }

  pub holds-lost : (c : Config) (s : Endpoint) (n : LinkEndpoint) → Holds c service tei place first s n → Holds c service tei place first (without_first s) (two_ends_without_first n)
  holds-lost c s n h = record { stands = stands-lost c s n h.stands; granted = h.granted; since = h.since; told = h.told; delivered = h.delivered }

  -- it takes a frame of the other side
  pub record Took (c : Config) (s : Endpoint) (n : LinkEndpoint) (octets : List ℕ) (f : Parts) : Type 0 where
    pub stands : StationStands c service tei place (frame_comes octets s) (with_link (link.received (link.frame f)) n)
    pub told : (frame_comes octets s).told ≡ s.told ++ said_by (course n.terms (link.received (link.frame f)) n.link)

  pub takes : (c d : Config) → Face c d → (s : Endpoint) (n : LinkEndpoint) (f : Parts) → StationStands c service tei place s n → IsCarried d service tei f → Took c s n (spelling (own_side d) f) f
  takes c d face s n f h from =
      let x = from.carried in
      let same-n201 : d.n201 ≡ s.card.config.n201 = sym face.n201 ∙ ap (λ k. k.n201) (sym h.config) in
      let whole : came s.card.config.n201 (spelling (own_side d) f) ≡ frame (spelling (own_side d) f) = subst (λ k. came k (spelling (own_side d) f) ≡ frame (spelling (own_side d) f)) same-n201 x.whole in
      let side : own_side d ≡ heard_side s.card.config = sym face.side ∙ ap heard_side (sym h.config) in
      let read : Rattle.lapd_frame.specs.Senders.reading (heard_side s.card.config) (spelling (own_side d) f) ≡ Ok f = subst (λ k. Rattle.lapd_frame.specs.Senders.reading k (spelling (own_side d) f) ≡ Ok f) side x.read in
      let own = (subst (λ k. StationStands k service tei place s n) (sym h.config) h) in
      record {
        stands =
            subst (λ k. StationStands k service tei place (frame_comes (spelling (own_side d) f) s) (with_link (link.received (link.frame f)) n)) h.config
            (takes-stands service tei place s n own f (spelling (own_side d) f) whole read from.sapi from.by);
        told = takes-told service tei place s n own f (spelling (own_side d) f) whole read from.sapi from.by;
      }

  pub holds-taken : (c d : Config) → Face c d → (s : Endpoint) (n : LinkEndpoint) (f : Parts) → Holds c service tei place first s n → IsCarried d service tei f
      → TellsData n.terms (course n.terms (link.received (link.frame f)) n.link) → (with_link (link.received (link.frame f)) n).link.contents ≡ n.link.contents
      → Holds c service tei place first (frame_comes (spelling (own_side d) f) s) (with_link (link.received (link.frame f)) n)
  holds-taken c d face s n f h from tells kept =
      let x = takes c d face s n f h.stands from in
      let more = option_to_list (course n.terms (link.received (link.frame f)) n.link).delivered in
      record {
        stands = x.stands;
        granted = takes-granted (spelling (own_side d) f) s ∙ h.granted ∙ sym kept;
        since = h.since ++ more;
        told = x.told ∙ (grind (arith, append_assoc, map-append));
        delivered = ap (λ xs. xs ++ more) h.delivered ∙ append_assoc first.had h.since more;
      }

  -- contents that are granted are not refused by the link, and have at most N201 octets
  short-enough : (serves long : Bool) (why : Refusal) (rest : Option Refusal) → cond serves (cond long (Some TooLong) rest) (Some why) ≡ None → long ≡ false
  short-enough serves long why rest e = grind arith

  pub fits : (t : Terms) (l : Link) (octets : List ℕ) → refusal t l false (link.Data octets) ≡ None → length octets ≤ t.n201
  fits t l octets e = grind (arith, ltb-false, short-enough, nat_lt)

  pub record More (c : Config) (s s' : Endpoint) (n : LinkEndpoint) (octets : List ℕ) : Type 0 where
    pub none : refusal n.terms n.link false (link.Data octets) ≡ None
    pub holds : Holds c service tei place first s' (with_more octets n)
    pub granted : s'.granted ≡ s.granted ++ octets ∷ []

  pub holds-asked : (c : Config) (s : Endpoint) (n : LinkEndpoint) (octets : List ℕ) → Holds c service tei place first s n
      → (happens (request (Data service tei octets)) s ≡ s) ⊎ More c s (happens (request (Data service tei octets)) s) n octets
  holds-asked c s n octets h =
      let own = (subst (λ k. StationStands k service tei place s n) (sym h.stands.config) h.stands) in
      go own (asks-stands service tei place s n own (Data service tei octets) (link.Data octets) (λ l. refl))
    where
      s' : Endpoint
      s' = happens (request (Data service tei octets)) s

      go : (own : StationStands s.card.config service tei place s n) → (s' ≡ s) ⊎ Granted service tei place s n own (Data service tei octets) (link.Data octets) (λ l. refl) s'
          → (s' ≡ s) ⊎ More c s s' n octets
      go own o = grind (arith, link-grants, StationStands, s', with_more, asked-form, said_by, append-nil)
