-- Two links in state 7: how many I-frames are in transit, and what the frames in transit acknowledge.
use Rattle.laws_time.proofs.Vocabulary.{All, All-head, All-tail, Bool, Config, Control, Data, Direction, EndStep as Step, Face, FrameEndpoint, Information, Informs, IsCarried, Lane, Link, LinkEndpoint, LinkEndpoint as Endpoint, List, More, None, Notes, Option, Parts, Past, ReceiveReady, Request, Seq, Service, Some, StationStands, Steady, StepAt, Talk, Terms, Wire, [], ap, append-nil, arith}
use Rattle.laws_time.proofs.Vocabulary.{asks-way, at_far, at_near, doing, drop, eq-eqb, false, flat_map, frame_comes, frames_by, fresh_link as fresh, gives-stands, holds-asked, if◌then◌else◌, inl, inr, is-steady, is_information, lane-low, lane-order, le-ltb, length, length-append, line_of, link_in, map, named, next, option_map_or, own_link, own_side, parts_of, read_as, received, receives, refl}
use Rattle.laws_time.proofs.Vocabulary.{request, requests, sends, seq, slice_get, spelling, subst, sym, take, take-length, takes, takes-way, true, turned, unwrap_or, with_link, with_sent, ℕ, ◌++◌, ◌+◌, ◌-◌, ◌==◌, ◌∙◌, ◌∷◌, ◌≡◌, ◌≤◌, ◌⊎◌}
use Rattle.model_link.specs.Events.{frame}
use Rattle.laws_link.proofs.OfTwo.BusyMoves.{takes-one, takes-note}
use Rattle.laws_link.proofs.OfTwo.Halves.{named-number, fits-at}
use Rattle.laws_link.proofs.OfTwo.Plain.{information_frame, acknowledgement_frame, gives-information, gives-acknowledgement, gives-nothing}
use Rattle.laws_wire.specs.Call.{IsTalkOf, IsTalk}
use Rattle.laws_wire.specs.Wire.{happens, answered, with_first_of}
use Rattle.laws_wire.proofs.Asking.{with_more, take-front}

-- So many of these are I-frames.
abbrev pub infos : List Parts → ℕ
infos [] = 0
infos (f ∷ fs) = (if is_information f.control then 1 else 0) + infos fs

pub infos-append : (xs ys : List Parts) → infos (xs ++ ys) ≡ infos xs + infos ys
infos-append [] ys = omega arith
infos-append (x ∷ xs) ys = let rest = infos-append xs ys in omega (arith, rest)

-- Those in transit are what was sent and not received.
pub lane-counts : (t : Terms) (cs : List (List ℕ)) (r s lo hi : ℕ) (owed : Bool) (way : List Parts) → Lane t cs r s lo hi owed way → r + infos way ≡ s
lane-counts t cs r s lo hi owed [] (at, low, told) = omega (arith, at)
lane-counts t cs r s lo hi owed (f ∷ fs) (v, low, inl (here, rest)) =
    let more = lane-counts t cs (r + 1) s v hi owed fs rest in let one : infos (f ∷ fs) ≡ 1 + infos fs = ap (λ (g : Parts). (if is_information g.control then 1 else 0) + infos fs) here.is in
    omega (arith, more, one)
lane-counts t cs r s lo hi owed (f ∷ fs) (v, low, inr (here, rest)) =
    let more = lane-counts t cs r s v hi owed fs rest in let none : infos (f ∷ fs) ≡ 0 + infos fs = ap (λ (g : Parts). (if is_information g.control then 1 else 0) + infos fs) here.is in
    omega (arith, more, none)

-- The N(R) of an I-frame, and of RR.
abbrev pub number_in : Control → Option Seq
number_in (Information ns nr p) = Some nr
number_in (ReceiveReady nr p) = Some nr
number_in other = None

abbrev pub Says : ℕ → Parts → Type 0
Says v f = number_in f.control ≡ Some (seq v)

-- The last of these frames acknowledges so many, or as many are acknowledged already; none of them more than hi.
abbrev pub Covers : ℕ → ℕ → ℕ → List Parts → Type 0
Covers n hi lo [] = n ≤ lo
Covers n hi lo (f ∷ fs) = (v : ℕ) × (lo ≤ v) × (v ≤ hi) × Says v f × Covers n hi v fs

-- If no acknowledgement is owed, all that was received is acknowledged by those in transit.
pub lane-covers : (n : ℕ) (t : Terms) (cs : List (List ℕ)) (r s lo hi : ℕ) (way : List Parts) → n ≤ hi → Lane t cs r s lo hi false way → Covers n hi lo way
lane-covers n t cs r s lo hi [] enough (at, low, told) = let same = told refl in omega (arith, same, enough)
lane-covers n t cs r s lo hi (f ∷ fs) enough (v, low, inl (here, rest)) =
    (v, low, lane-low t cs (r + 1) s v hi false fs rest, ap (λ (g : Parts). number_in g.control) here.is ∙ ap (λ x. Some (seq x)) here.means, lane-covers n t cs (r + 1) s v hi fs enough rest)
lane-covers n t cs r s lo hi (f ∷ fs) enough (v, low, inr (here, rest)) =
    (v, low, lane-low t cs r s v hi false fs rest, ap (λ (g : Parts). number_in g.control) here.is ∙ ap (λ x. Some (seq x)) here.means, lane-covers n t cs r s v hi fs enough rest)

-- Two numbers that lie within a window are the same if they are sent as the same.
pub same-number : (a s v w : ℕ) → a ≤ v → v ≤ s → a ≤ w → w ≤ s → s ≤ a + 127 → Some (seq v) ≡ Some (seq w) → v ≡ w
same-number a s v w low up low' up' few same =
    let number : seq v ≡ seq w = cc same in let both : Some v ≡ Some w = sym (named-number a s v low up few) ∙ ap (λ x. named a s x) number ∙ named-number a s w low' up' few in cc both

-- V(S) is at most 127 beyond V(A).
pub window : (m : Endpoint) → Steady m → m.link.s ≤ m.link.a + 127
window m h = let within = h.sound.within in let few = h.ranges.k_high in omega (arith, within, few)

-- V(A) of the end that receives the first frame in transit is the N(R) of that frame.
pub record Heeded (m m' : Endpoint) (f : Parts) : Type 0 where
  pub v : ℕ
  pub low : m.link.a ≤ v
  pub up : v ≤ m.link.s
  pub says : Says v f
  pub is : m'.link.a ≡ v

module _ (n m : Endpoint) (hn : Steady n) (hm : Steady m) (there : Direction n m) (back : Direction m n) where
  high : n.link.r ≤ m.link.s
  high = lane-order m.terms m.link.contents n.link.r m.link.s n.link.a m.link.r m.link.pending m.way back.lane

  names : (v : ℕ) → m.link.a ≤ v → v ≤ n.link.r → named m.link.a m.link.s (seq v) ≡ Some v
  names v low up = let most = high in named-number m.link.a m.link.s v low (omega (arith, up, most)) (window m hm)

  abbrev as_is : Endpoint → Endpoint
  as_is y = record y { way = m.way }

  heeds-i : (f : Parts) (fs : List Parts) (v : ℕ) → m.link.a ≤ v → (here : Informs n.terms n.link.contents m.link.r v f)
      → Lane n.terms n.link.contents (m.link.r + 1) n.link.s v n.link.r n.link.pending fs → Heeded m (with_link (received (frame f)) m) f
  heeds-i f fs v low here rest =
      let l = here.l in let up : v ≤ n.link.r = lane-low n.terms n.link.contents (m.link.r + 1) n.link.s v n.link.r n.link.pending fs rest in
      let named-v : named m.link.a m.link.s (seq l.r) ≡ Some v = subst (λ w. named m.link.a m.link.s (seq w) ≡ Some v) (sym here.means) (names v low up) in
      let fits = le-ltb m.terms.n201 (length (unwrap_or (slice_get l.contents l.s) [])) (fits-at m.terms.n201 l.contents l.s (subst (λ cs. All (λ octets. length octets ≤ m.terms.n201) cs) (sym here.contents) there.sizes)) in
      let next : ((seq l.s).value == (seq m.link.r).value) ≡ true = eq-eqb (seq l.s).value (seq m.link.r).value (ap (λ i. (seq i).value) here.number) in
      let form = ap (λ g. with_link (received (frame g)) m) here.is
      ∙ ap as_is (ap (with_link (received (frame (information_frame n.terms l)))) (is-steady m hm) ∙ takes-one m false n.terms l v fits named-v low next) in
      let most = high in grind (arith, seq)

  heeds-n : (f : Parts) (fs : List Parts) (v : ℕ) → m.link.a ≤ v → (here : Notes n.terms v f)
      → Lane n.terms n.link.contents m.link.r n.link.s v n.link.r n.link.pending fs → Heeded m (with_link (received (frame f)) m) f
  heeds-n f fs v low here rest =
      let l = here.l in let up : v ≤ n.link.r = lane-low n.terms n.link.contents m.link.r n.link.s v n.link.r n.link.pending fs rest in
      let named-v : named m.link.a m.link.s (seq l.r) ≡ Some v = subst (λ w. named m.link.a m.link.s (seq w) ≡ Some v) (sym here.means) (names v low up) in
      let form = ap (λ g. with_link (received (frame g)) m) here.is
      ∙ ap as_is (ap (with_link (received (frame (acknowledgement_frame n.terms l)))) (is-steady m hm) ∙ takes-note m false n.terms l v named-v low) in
      let most = high in grind (arith, seq)

  pub heeds : (f : Parts) (fs : List Parts) → n.way ≡ f ∷ fs → Heeded m (with_link (received (frame f)) m) f
  heeds f fs e = go (subst (Lane n.terms n.link.contents m.link.r n.link.s m.link.a n.link.r n.link.pending) e there.lane)
    where
      go : Lane n.terms n.link.contents m.link.r n.link.s m.link.a n.link.r n.link.pending (f ∷ fs) → Heeded m (with_link (received (frame f)) m) f
      go (v, low, inl (here, rest)) = heeds-i f fs v low here rest
      go (v, low, inr (here, rest)) = heeds-n f fs v low here rest

-- An end that is asked for its next frame has the same V(A), and owes no acknowledgement any more.
pub sent-stays : (n : Endpoint) → Steady n → ((with_sent n).link.a ≡ n.link.a) × ((with_sent n).link.pending ≡ false)
sent-stays n h = grind (arith, is-steady, gives-information, gives-acknowledgement, gives-nothing)

-- ---- two cards on a wire: how many I-frames were received, and what the frames in transit acknowledge, step by step

-- ---- how many frames are received with a step

abbrev pub one_if_any : List (List ℕ) → ℕ
one_if_any [] = 0
one_if_any (o ∷ os) = 1

abbrev pub takes_of : Step → Wire → ℕ
takes_of receives w = one_if_any w.far.way
takes_of other w = 0

abbrev pub near_takes : StepAt → Wire → ℕ
near_takes (at_near act) w = takes_of act w
near_takes (at_far act) w = 0

abbrev pub far_takes : StepAt → Wire → ℕ
far_takes (at_near act) w = 0
far_takes (at_far act) w = takes_of act (turned w)

module _ (service : Service) (tei : ℕ) where
  -- What is in transit, as it is read.
  abbrev pub parts_in : Config → List (List ℕ) → List Parts
  parts_in c fs = flat_map (read_as c) fs

  read-one : (c : Config) (f : Parts) → IsCarried c service tei f → read_as c (spelling (own_side c) f) ≡ f ∷ []
  read-one c f h = ap parts_of h.carried.read

  pub parts-are : (c : Config) (fs : List Parts) → All (IsCarried c service tei) fs → parts_in c (map (spelling (own_side c)) fs) ≡ fs
  parts-are c [] all = refl
  parts-are c (f ∷ fs) all =
      ap (λ xs. xs ++ parts_in c (map (spelling (own_side c)) fs)) (read-one c f (All-head (IsCarried c service tei) f fs all))
      ∙ ap (λ xs. f ∷ xs) (parts-are c fs (All-tail (IsCarried c service tei) f fs all))

  pub own-stands : (k : Config) (place : ℕ) (s : FrameEndpoint) (n : LinkEndpoint) → StationStands k service tei place s n → own_link service tei s ≡ n.link
  own-stands k place s n h = ap (λ o. option_map_or (link_in (line_of s) service) o fresh) h.speaks.placed ∙ h.speaks.link

  pub first-way : (way : List (List ℕ)) (s : FrameEndpoint) → (with_first_of way s).way ≡ s.way
  first-way way s = grind (arith, takes-way)

  -- ---- I-frames from the near end

  -- What the near end has sent is what the far end has received, and what is in transit.
  abbrev pub Counted : Config → Wire → Type 0
  Counted c w = (own_link service tei w.far).r + infos (parts_in c w.near.way) ≡ (own_link service tei w.near).s

  abbrev pub Flows : Config → ℕ → ℕ → List (List ℕ) → ℕ → List (List ℕ) → Type 0
  Flows c t r way r' way' = ((t ≡ 0) × (r' ≡ r) × ((new : List (List ℕ)) × (way' ≡ way ++ new))) ⊎ ((t ≡ 1) × ((o : List ℕ) × (way ≡ o ∷ way') × (r' ≡ r + infos (read_as c o))))

  flow-first : (c : Config) (r r' s : ℕ) (way : List (List ℕ)) → r + infos (parts_in c way) ≡ s → r' + infos (parts_in c (drop 1 way)) ≡ s → Flows c (one_if_any way) r way r' (drop 1 way)
  flow-first c r r' s h h' g = grind arith

  pub flows : (c : Config) (k : StepAt) → IsTalk service tei k → (w : Wire) → Counted c w → Counted c (doing k w)
      → Flows c (far_takes k w) (own_link service tei w.far).r w.near.way (own_link service tei (doing k w).far).r (doing k w).near.way
  flows c other is w h g = grind (arith, asks-way, append-nil, frames_by, answered, first-way, flow-first, own_link, with_first_of)

  -- Once the first j frames in transit are received, so many I-frames are.
  abbrev pub Comes : Config → ℕ → ℕ → ℕ → List (List ℕ) → Type 0
  Comes c n j r way = (j ≤ length way) × (n ≤ r + infos (parts_in c (take j way)))

  comes-same : (c : Config) (n j r r' : ℕ) (way new : List (List ℕ)) → r' ≡ r → Comes c n j r way → Comes c n j r' (way ++ new)
  comes-same c n j r r' way new same h = grind (arith, length-append, infos, take-front)

  comes-first : (c : Config) (n j r : ℕ) (o : List ℕ) (way : List (List ℕ)) → Comes c n j r (o ∷ way) → Comes c n (j - 1) (r + infos (read_as c o)) way
  comes-first c n h r o way h' = grind arith

  pub comes-on : (c : Config) (n t j r : ℕ) (way : List (List ℕ)) (r' : ℕ) (way' : List (List ℕ)) → Flows c t r way r' way' → Comes c n j r way → Comes c n (j - t) r' way'
  comes-on c n t j r way r' way' (inl (none, same, (new, is))) h =
      subst (λ x. Comes c n (j - t) r' x) (sym is) (subst (λ k. Comes c n k r' (way ++ new)) (let e : j ≡ j - t = omega (arith, none) in e) (comes-same c n j r r' way new same h))
  comes-on c n t j r way r' way' (inr (one, (o, is, more))) h =
      subst (λ k. Comes c n (j - k) r' way') (sym one) (subst (λ x. Comes c n (j - 1) x way') (sym more) (comes-first c n j r o way' (subst (Comes c n j r) is h)))

  -- ---- acknowledgements from the far end

  abbrev pub Heeds : Config → ℕ → ℕ → ℕ → List (List ℕ) → ℕ → List (List ℕ) → Type 0
  Heeds d t a s back a' back' =
      ((t ≡ 0) × (a' ≡ a) × ((new : List (List ℕ)) × (back' ≡ back ++ new)))
      ⊎ ((t ≡ 1) × ((o : List ℕ) × (f : Parts) × (v : ℕ) × (back ≡ o ∷ back') × (read_as d o ≡ f ∷ []) × (a ≤ v) × (v ≤ s) × Says v f × (a' ≡ v)))

  -- Once the first j frames in transit are received, so many I-frames are acknowledged.
  abbrev pub Acks : Config → ℕ → ℕ → ℕ → ℕ → List (List ℕ) → Type 0
  Acks d n hi j a back = (j ≤ length back) × Covers n hi a (parts_in d (take j back))

  acks-same : (d : Config) (n hi j a a' : ℕ) (back new : List (List ℕ)) → a' ≡ a → Acks d n hi j a back → Acks d n hi j a' (back ++ new)
  acks-same d n hi j a a' back new same h = grind (arith, length-append, take, take-front)

  acks-first : (d : Config) (n hi j a s : ℕ) (o : List ℕ) (back : List (List ℕ)) (f : Parts) (v : ℕ) → s ≤ a + 127 → hi ≤ s → read_as d o ≡ f ∷ [] → a ≤ v → v ≤ s → Says v f
      → Acks d n hi j a (o ∷ back) → Acks d n hi (j - 1) v back
  acks-first d n hi h a s o back f v near high read low up says h' = grind (arith, take, same-number)

  pub acks-on : (d : Config) (n hi t j a s : ℕ) (back : List (List ℕ)) (a' : ℕ) (back' : List (List ℕ)) → s ≤ a + 127 → hi ≤ s → Heeds d t a s back a' back' → Acks d n hi j a back → Acks d n hi (j - t) a' back'
  acks-on d n hi t j a s back a' back' near high (inl (none, same, (new, is))) h =
      subst (λ x. Acks d n hi (j - t) a' x) (sym is) (subst (λ k. Acks d n hi k a' (back ++ new)) (let e : j ≡ j - t = omega (arith, none) in e) (acks-same d n hi j a a' back new same h))
  acks-on d n hi t j a s back a' back' near high (inr (one, (o, f, v, is, read, low, up, says, same))) h = grind (arith, acks-first)

  -- ---- two ends that are up

  module _ (c d : Config) (p q : ℕ) (face : Face c d) (back : Face d c) (first second : Past) (w : Wire) (n m : LinkEndpoint) (h : Talk service tei c d p q first second w n m) where
    pub own-near : own_link service tei w.near ≡ n.link
    own-near = own-stands c p w.near n h.near.stands

    pub own-far : own_link service tei w.far ≡ m.link
    own-far = own-stands d q w.far m h.far.stands

    pub counted-up : Counted c w
    counted-up = grind (arith, own-far, parts-are, infos, lane-counts, own-near)

    pub window-near : (own_link service tei w.near).s ≤ (own_link service tei w.near).a + 127
    window-near = subst (λ (l : Link). l.s ≤ l.a + 127) (sym own-near) (window n h.pair.near)

    near-sent : (own_link service tei (happens next w.near)).a ≡ (own_link service tei w.near).a
    near-sent =
        ap (λ (l : Link). l.a) (own-stands w.near.card.config p (happens next w.near) (with_sent n) (gives-stands service tei p w.near n (subst (λ k. StationStands k service tei p w.near n) (sym h.near.stands.config) h.near.stands)))
        ∙ (sent-stays n h.pair.near).0 ∙ sym (ap (λ (l : Link). l.a) own-near)

    -- an end that was asked for a frame owes nothing
    pub far-clears : (own_link service tei (happens next w.far)).pending ≡ false
    far-clears =
        ap (λ (l : Link). l.pending) (own-stands w.far.card.config q (happens next w.far) (with_sent m) (gives-stands service tei q w.far m (subst (λ k. StationStands k service tei q w.far m) (sym h.far.stands.config) h.far.stands))) ∙ (sent-stays m h.pair.far).1

    -- so all that it received is acknowledged by what is in transit
    pub acks-all : (few : ℕ) → (own_link service tei w.far).pending ≡ false → few ≤ (own_link service tei w.far).r
        → Acks d few (own_link service tei w.far).r (length w.far.way) (own_link service tei w.near).a w.far.way
    acks-all few none enough = grind (arith, own-far, take-length, parts-are, lane-covers, own_link, own-near)

    asked-data : (octets : List ℕ) → (own_link service tei (happens (request (Data service tei octets)) w.near)).a ≡ (own_link service tei w.near).a
    asked-data octets = go (holds-asked service tei p first c w.near n octets h.near)
      where
        s' : FrameEndpoint
        s' = happens (request (Data service tei octets)) w.near

        go : (s' ≡ w.near) ⊎ More service tei p first c w.near s' n octets → (own_link service tei s').a ≡ (own_link service tei w.near).a
        go (inl same) = ap (λ (s : FrameEndpoint). (own_link service tei s).a) same
        go (inr x) = ap (λ (l : Link). l.a) (own-stands c p s' (with_more octets n) x.holds.stands) ∙ sym (ap (λ (l : Link). l.a) own-near)

    asked-a : (r : Request) → IsTalkOf service tei (requests r) → (own_link service tei (happens (request r) w.near)).a ≡ (own_link service tei w.near).a
    asked-a r h1z = grind (arith, asked-data)

    -- the near end receives
    abbrev Received : List (List ℕ) → Type 0
    Received way = Heeds d (one_if_any way) (own_link service tei w.near).a (own_link service tei w.near).s way (own_link service tei (with_first_of way w.near)).a (drop 1 way)

    received-one : (f : Parts) (fs : List Parts) → m.way ≡ f ∷ fs → Received (spelling (own_side d) f ∷ map (spelling (own_side d)) fs)
    received-one f fs e =
        let carried = All-head (IsCarried d service tei) f fs (subst (All (IsCarried d service tei)) e h.far.stands.carried) in
        let x = takes service tei p first c d face w.near n f h.near.stands carried in let y = heeds m n h.pair.far h.pair.near h.pair.back h.pair.there f fs e in
        let low = y.low in let up = y.up in let a = ap (λ (l : Link). l.a) own-near in let s = ap (λ (l : Link). l.s) own-near in
        grind (arith, spelling, own_side, read-one, own-stands, frame_comes, with_link)

    receives-so : Received w.far.way
    receives-so = subst Received (sym h.far.stands.way) (go m.way refl)
      where
        go : (way : List Parts) → m.way ≡ way → Received (map (spelling (own_side d)) m.way)
        go [] e = subst (λ way. Received (map (spelling (own_side d)) way)) (sym e) (inl (refl, refl, ([], refl)))
        go (f ∷ fs) e = subst (λ way. Received (map (spelling (own_side d)) way)) (sym e) (received-one f fs e)

    pub heeds-step : (k : StepAt) → IsTalk service tei k
        → Heeds d (near_takes k w) (own_link service tei w.near).a (own_link service tei w.near).s w.far.way (own_link service tei (doing k w).near).a (doing k w).far.way
    heeds-step (at_near (requests r)) is = inl (refl, asked-a r is, ([], sym (append-nil w.far.way)))
    heeds-step (at_near sends) is = inl (refl, near-sent, ([], sym (append-nil w.far.way)))
    heeds-step (at_near receives) is = receives-so
    heeds-step (at_far (requests r)) is = inl (refl, refl, ([], asks-way r w.far ∙ sym (append-nil w.far.way)))
    heeds-step (at_far sends) is = inl (refl, refl, (frames_by (answered next w.far), refl))
    heeds-step (at_far receives) is = inl (refl, refl, ([], first-way w.near.way w.far ∙ sym (append-nil w.far.way)))
    heeds-step other is = absurd is
