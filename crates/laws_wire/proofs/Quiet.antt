-- What changes nothing at a station: a call for a frame where none waits, taking a frame where none is on its way, and data that is refused.
use Rattle.laws_wire.proofs.Vocabulary.{◌≡◌, ℕ, ◌≤◌, false, List, [], ◌∷◌, map, None, sym, ap, subst, ◌∙◌, ◌⊎◌, inl, inr, arith, All, All-head, Service, Parts, spelling, given, LinkEndpoint, frame_given, Config, Request, request, next, refusal, Data, Endpoint, Wire, happens, frames_by, with_first_of, requests, sends, receives, acting, turned, answered, IsTalkOf, LinkData, two_ends_without_first}
use Rattle.laws_wire.proofs.Vocabulary.{own_side, EndStep, refl}
use Rattle.laws_wire.proofs.Vocabulary.{if◌then◌else◌, is_turn_of, append-nil, frame, frame_comes, course, length, received, with_link, ◌++◌, ◌+◌}
use Rattle.laws_wire.proofs.Answered.{gives-granted, takes-granted}
use Rattle.laws_wire.proofs.Standing.{IsCarried, StationStands, gives-frames}
use Rattle.laws_wire.proofs.Talking.{takes as takes_frame, Past, Holds, holds-given, holds-lost, More, holds-asked, Face, unheard, none-told}
use Rattle.laws_wire.proofs.Up.{turn_of, stays, granted_of}
use Rattle.laws_wire.proofs.Speaking.{said_by}

pub one-at-most : (xs : List (List ℕ)) → turn_of xs ≤ 1
one-at-most xs = grind arith

module _ (service : Service) (tei : ℕ) where
  -- two stations and the ends for which they stand
  pub record Both (c d : Config) (p q : ℕ) (first second : Past) (w : Wire) (n m : LinkEndpoint) : Type 0 where
    pub near : Holds c service tei p first w.near n
    pub far : Holds d service tei q second w.far m

  pub turned-both : (c d : Config) (p q : ℕ) (first second : Past) (w : Wire) (n m : LinkEndpoint) → Both c d p q first second w n m → Both d c q p second first (turned w) m n
  turned-both c d p q first second w n m h = record { near = h.far; far = h.near }

  -- the first frame on the way of a station
  pub first-way : (k : Config) (place : ℕ) (first : Past) (s : Endpoint) (n : LinkEndpoint) (f : Parts) (fs : List Parts) → n.way ≡ f ∷ fs → Holds k service tei place first s n
      → (s.way ≡ spelling (own_side k) f ∷ map (spelling (own_side k)) fs) × IsCarried k service tei f
  first-way k place first s n f fs e h =
      (h.stands.way ∙ ap (map (spelling (own_side k))) e, All-head (IsCarried k service tei) f fs (subst (All (IsCarried k service tei)) e h.stands.carried))

  -- ---- what changes nothing

  module _ (c d : Config) (p q : ℕ) (first second : Past) (w : Wire) (n m : LinkEndpoint) (h : Both c d p q first second w n m) where
    pub record Quiet (w' : Wire) (b : ℕ) : Type 0 where
      pub both : Both c d p q first second w' n m
      pub none : b ≡ 0
      pub granted : granted_of w' ≡ granted_of w

    pub frames-are : frames_by (answered next w.near) ≡ map (spelling (own_side w.near.card.config)) (frame_given n.terms (given n.terms n.link))
    frames-are = gives-frames service tei p w.near n (subst (λ k. StationStands k service tei p w.near n) (sym h.near.stands.config) h.near.stands)

    pub quiet-gives : given n.terms n.link ≡ None → Quiet (acting sends w) (turn_of (frames_by (answered next w.near)))
    quiet-gives none =
        let same = stays n none in
        grind (arith, holds-given, turn_of, frames-are, gives-granted)

    pub quiet-takes : m.way ≡ [] → Quiet (acting receives w) (turn_of w.far.way)
    quiet-takes e = grind (arith, spelling, with_first_of, two_ends_without_first, holds-lost, turn_of)

    pub quiet-asks : ((octets : List ℕ) → refusal n.terms n.link false (LinkData octets) ≡ None → ⊥) → (octets : List ℕ)
        → Quiet (acting (requests (Data service tei octets)) w) 0
    quiet-asks never octets = go (holds-asked service tei p first c w.near n octets h.near)
      where
        s' : Endpoint
        s' = happens (request (Data service tei octets)) w.near

        go : (s' ≡ w.near) ⊎ More service tei p first c w.near s' n octets → Quiet (record w { near = s' }) 0
        go (inl same) = grind arith
        go (inr x) = absurd (never octets x.none)

    -- a request in a call is for data
    pub for-data : (P : Request → Type 0) → ((octets : List ℕ) → P (Data service tei octets)) → (r : Request) → IsTalkOf service tei (requests r) → P r
    for-data P own (Data s t octets) is = grind arith
    for-data P own other is = absurd is

    pub quiet-requests : ((octets : List ℕ) → refusal n.terms n.link false (LinkData octets) ≡ None → ⊥) → (r : Request) → IsTalkOf service tei (requests r) → Quiet (acting (requests r) w) 0
    quiet-requests never r is = for-data (λ r. Quiet (acting (requests r) w) 0) (quiet-asks never) r is

    -- whatever it does, but that it takes where a frame is on its way
    pub quiet-acts : ((octets : List ℕ) → refusal n.terms n.link false (LinkData octets) ≡ None → ⊥) → given n.terms n.link ≡ None → (act : EndStep) → (act ≡ receives → m.way ≡ [])
        → IsTalkOf service tei act → Quiet (acting act w) (if is_turn_of act w then 1 else 0)
    quiet-acts never none (requests r) empty is = quiet-requests never r is
    quiet-acts never none sends empty is = quiet-gives none
    quiet-acts never none receives empty is = quiet-takes (empty refl)
    quiet-acts never none other empty is = absurd is

  -- ---- it takes the first frame on the other's way, of which its layer 3 is told first

  module _ (c d : Config) (p q : ℕ) (second : Past) (w : Wire) (n m : LinkEndpoint) (h : Both c d p q unheard second w n m) (f : Parts) (fs : List Parts) (is_first : m.way ≡ f ∷ fs) (face : Face c d) where
    abbrev s : Endpoint
    s = w.near

    reached : with_first_of w.far.way s ≡ frame_comes (spelling (own_side d) f) s
    reached = ap (λ way. with_first_of way s) (first-way d q second w.far m f fs is_first h.far).0

    pub hears-granted : granted_of (acting receives w) ≡ granted_of w
    hears-granted = ap (λ (s' : Endpoint). length s'.granted + length w.far.granted) reached ∙ ap (λ xs. length xs + length w.far.granted) (takes-granted (spelling (own_side d) f) s)

    pub hears-first : (past : Past) (n' : LinkEndpoint) → with_link (received (frame f)) n ≡ n' → n'.link.contents ≡ n.link.contents → past.had ≡ [] → n.delivered ≡ [] → n'.delivered ≡ []
        → said_by (course n.terms (received (frame f)) n.link) ≡ past.told → Holds c service tei p past (with_first_of w.far.way s) n'
    hears-first past n' is kept had before none said =
        let took = takes_frame service tei p unheard c d face s n f h.near.stands (first-way d q second w.far m f fs is_first h.far).1 in
        subst (λ s'. Holds c service tei p past s' n') (sym reached) (record {
          stands = subst (StationStands c service tei p (frame_comes (spelling (own_side d) f) s)) is took.stands;
          granted = takes-granted (spelling (own_side d) f) s ∙ h.near.granted ∙ sym kept;
          since = [];
          told =
              took.told ∙ ap (λ ts. ts ++ said_by (course n.terms (received (frame f)) n.link)) (none-told c service tei p [] s n h.near before) ∙ said ∙ sym (append-nil past.told);
          delivered = none ∙ sym (append-nil past.had ∙ had);
        })
