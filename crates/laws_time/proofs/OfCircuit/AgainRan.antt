-- Beats with any noise: each end goes on as a card on its line, and what is in transit from it is the end of what it gave.
use Rattle.laws_time.proofs.Vocabulary.{All, All-head, All-nil, All-tail, AreOctets, AsksOctets, Beat, CanCall, Carries, Clocked, Config, IsInRange, IsOfLink, IsTalk, Item, Lengths, Line, List, None, OctetEndpoint, Option, Port, Ran, Request, Service, Some, TimedEndpoint, [], after, answer, answer_of, ap, append-nil, append_assoc, arith, asked-way, beat, begins, comes_to, drop, endpoint}
use Rattle.laws_time.proofs.Vocabulary.{frames_among, given_in, goes-on, gone, happens, is_due, item_of, length, length-append, length-replicate, meant, octet_at, octet_pulled, on-line, option_map_or, port-after, port_of, refl, replicate, said, sound-port, subst, suc, sym, unwrap_or, with_item, with_octet, within-ports, ℕ, ◌++◌, ◌+◌, ◌/◌, ◌<◌, ◌∙◌, ◌∷◌, ◌≡◌}
use Rattle.model_line.specs.Event as line
use Rattle.model_card.specs.ports.Port as port
use Rattle.laws_order.specs.circuit.Circuit as circuit
use Rattle.laws_time.proofs.OfCircuit.AnsweredBeat.{Sent, Came, Behind, pull-sends, first-of, comes-then, behind-then}
use Rattle.laws_time.proofs.OfCircuit.AnsweredBits.{all_sent}
use Rattle.laws_time.proofs.OfCircuit.ArrivWay.{pulled-goes}
use Rattle.laws_time.proofs.OfCircuit.Words.{Fine, comes-keep, fold-keeps, port-is, ran-begun, way-is as begun-way}
use Rattle.laws_time.proofs.OfCircuit.Led.{ran-way}

-- ---- requests and expiries leave the port

abbrev IsSilent : port.Event → Type 0
IsSilent (port.request r) = Unit {0}
IsSilent (port.expiry timer) = Unit {0}
IsSilent other = ⊥

none-pulled : (o : Option line.Answer) → octet_pulled (option_map_or answer_of o (port.told line.nothing)) ≡ []
none-pulled o = grind arith

silent-way : (e : port.Event) → IsSilent e → (s : OctetEndpoint) → (circuit.happens e s).way ≡ s.way
unfolding answer
silent-way e h1z s = grind (arith, asked-way, none-pulled, append-nil)

silent-port : (e : port.Event) → IsSilent e → (s : OctetEndpoint) → s.line < length s.card.ports → port_of (circuit.happens e s) ≡ port_of s
silent-port e h1z s h2z = grind (arith, port-after)

of-octets : (service : Service) (tei : ℕ) (r : Request) → IsOfLink service tei r → AsksOctets (port.request r)
of-octets service tei other is = grind arith

module _ (service : Service) (tei : ℕ) (c : Config) (ranged : IsInRange c) where
  pub record Silent (s u : OctetEndpoint) : Type 0 where
    pub ran : Ran c u
    pub port : port_of u ≡ port_of s
    pub way : u.way ≡ s.way

  silent-one : (e : port.Event) → IsSilent e → AsksOctets e → (s t : OctetEndpoint) → Silent s t → Silent s (circuit.happens e t)
  silent-one e is octets s t h = record { ran = goes-on c t e octets h.ran; port = silent-port e is t (within-ports c ranged t h.ran) ∙ h.port; way = silent-way e is t ∙ h.way }

  pub silent-comes : (moment : ℕ) (rs : List Request) → All (IsOfLink service tei) rs → (a : TimedEndpoint) → Ran c a.at → Silent a.at (comes_to moment rs a).at
  silent-comes moment rs all a ran =
      comes-keep (λ u. Silent a.at u.at) (IsOfLink service tei) (λ r u is. silent-one (port.request r) tt (of-octets service tei r is) a.at u.at) (λ x u is. silent-one (port.expiry x.timer) tt tt a.at u.at)
      moment rs all a ((record { ran = ran; port = refl; way = refl }))

-- ---- what so many beats make of a port

pub record Grown (n : ℕ) (p q : Port) : Type 0 where
  pub new : List Item
  pub items : q.items ≡ p.items ++ new
  pub more : List ℕ
  pub given : q.given ≡ p.given ++ more
  pub long : length more ≡ n
  pub had : List ℕ
  pub received : q.received ≡ p.received ++ had

pub grown-none : (p : Port) → Grown 0 p p
grown-none p = record { new = []; items = sym (append-nil p.items); more = []; given = sym (append-nil p.given); long = refl; had = []; received = sym (append-nil p.received) }

pub grown-both : (n k : ℕ) (p q r : Port) → Grown n p q → Grown k q r → Grown (n + k) p r
grown-both n k p q r g h = grind (arith, append_assoc, length-append)

item-with : (o : Option line.Answer) (p : Port) → (new : List Item) × ((with_octet (with_item o p)).items ≡ p.items ++ new)
item-with None p = ([], sym (append-nil p.items))
item-with (Some a) p = (item_of (given_in a) ∷ [], refl)

-- ---- an end, whatever noise there was

pub record EndAt (c : Config) (way n : ℕ) (s : OctetEndpoint) : Type 0 where
  pub ran : Ran c s
  pub octets : All AreOctets (frames_among (port_of s).items)
  pub given : length (port_of s).given ≡ n
  pub received : length (port_of s).received ≡ n
  pub long : length s.way ≡ way
  pub behind : Behind way (port_of s) s.way

pub fine-at : (c : Config) → IsInRange c → (way n : ℕ) (s : OctetEndpoint) → EndAt c way n s → Fine c.n201 (port_of s)
fine-at c ranged way n s h = record { sound = sound-port c ranged s h.ran; on = on-line c ranged s h.ran; octets = h.octets }

-- A pull: of the frames that stand there then all are octets.
octets-pulled : (c : Config) (ranged : IsInRange c) (s : OctetEndpoint) → Ran c s → All AreOctets (frames_among (port_of s).items)
    → All AreOctets (frames_among (port_of (circuit.happens port.pull s)).items)
unfolding answer meant
octets-pulled c ranged s ran all =
    let p = port_of s in let there = frames_among p.items in let carries : Carries c.n201 p p.given [] there = record { given = refl; are = refl; octets = all } in
    subst (λ (q : Port). All AreOctets (frames_among q.items)) (sym (port-after s port.pull (within-ports c ranged s ran)))
    (pulled-goes c ranged s ran there c.n201 0 p.given [] carries (is_due p)).octets

pull-items : (c : Config) (ranged : IsInRange c) (s : OctetEndpoint) → Ran c s → (new : List Item) × ((port_of (circuit.happens port.pull s)).items ≡ (port_of s).items ++ new)
pull-items c ranged s ran =
    let o = said (octet_at s.line port.pull) s.card in
    let x = item-with o (port_of s) in (x.0, ap (λ (p : Port). p.items) (port-after s port.pull (within-ports c ranged s ran)) ∙ x.1)

-- What a beat makes of an end: before it, after what is asked and falls due, after the pull, and after the octet that comes.
module _ (c : Config) (ranged : IsInRange c) (service : Service) (tei way n : ℕ) (s a u other : TimedEndpoint) (noise : Option ℕ) (h : EndAt c way n s.at) (q : Silent service tei c ranged s.at a.at)
    (comes : Came (happens port.pull a) u other noise) where
  pub its-sent : Sent s.at (circuit.happens port.pull a.at)
  its-sent = pull-sends s.at a.at q.port q.way (within-ports c ranged a.at q.ran)

  its-octets : All AreOctets (frames_among (port_of (happens port.pull a).at).items)
  its-octets = octets-pulled c ranged a.at q.ran (subst (λ (p : Port). All AreOctets (frames_among p.items)) (sym q.port) h.octets)

  pub its-fine : Fine c.n201 (port_of (happens port.pull a).at)
  its-fine =
      let ran = goes-on c a.at port.pull tt q.ran in
      record { sound = sound-port c ranged (circuit.happens port.pull a.at) ran; on = on-line c ranged (circuit.happens port.pull a.at) ran; octets = its-octets }

  first : (value : ℕ) × (more : List ℕ) × (s.at.way ++ its-sent.value ∷ [] ≡ value ∷ more)
  first = first-of s.at.way its-sent.value

  way-is : (happens port.pull a).at.way ≡ first.0 ∷ first.1
  way-is = its-sent.way ∙ first.2

  pub end-then : EndAt c way (n + 1) u.at
  end-then =
      let y = circuit.happens (port.octet (unwrap_or noise comes.value)) (happens port.pull a).at in let x = its-sent in
      record {
        ran = subst (λ (u : TimedEndpoint). Ran c u.at) (sym comes.is) (ran-way c y (drop 1 y.way) (goes-on c (happens port.pull a).at (port.octet (unwrap_or noise comes.value)) tt (goes-on c a.at port.pull tt q.ran)));
        octets = subst (λ (p : Port). All AreOctets (frames_among p.items)) (sym comes.port) its-octets;
        given = ap (λ (p : Port). length p.given) comes.port ∙ ap length x.given ∙ length-append (port_of s.at).given (x.value ∷ []) ∙ ap (λ k. k + 1) h.given;
        received = ap (λ (p : Port). length p.received) comes.port ∙ length-append (port_of (happens port.pull a).at).received ((unwrap_or noise comes.value) ∷ []) ∙ ap (λ (r : List ℕ). length r + 1) x.received ∙ ap (λ k. k + 1) h.received;
        long =
            let all = ap length (comes.way ∙ ap (drop 1) way-is) in let whole = ap length first.2 in let more = length-append s.at.way (x.value ∷ []) in let long = h.long in
            omega (arith, all, whole, more, long);
        behind = behind-then way s (happens port.pull a) u other noise x comes first.0 first.1 way-is h.behind;
      }

  pub grown-then : Grown 1 (port_of s.at) (port_of u.at)
  grown-then = let x = its-sent in let i = pull-items c ranged a.at q.ran in grind arith

-- ---- both ends

pub beats-then : (rate : ℕ) (bs : List Beat) (w : Clocked) → (after rate bs w).beats ≡ w.beats + length bs
beats-then rate [] w = omega arith
beats-then rate (b ∷ bs) w = let rest = beats-then rate bs (beat rate w b) in omega (arith, rest)

module _ (l : Line) (can : CanCall l.near l.near_line l.far l.far_line l.tei) where
  pub record Both (w : Clocked) : Type 0 where
    pub near : EndAt l.near l.way w.beats w.near.at
    pub far : EndAt l.far l.way w.beats w.far.at

  pub record Beaten (w : Clocked) (b : Beat) : Type 0 where
    pub both : Both (beat l.rate w b)
    pub near_sent : Sent w.near.at (gone l.rate b w).near.at
    pub far_sent : Sent w.far.at (gone l.rate b w).far.at
    pub near : Came (gone l.rate b w).near (beat l.rate w b).near (gone l.rate b w).far b.near_noise
    pub far : Came (gone l.rate b w).far (beat l.rate w b).far (gone l.rate b w).near b.far_noise
    pub near_fine : Fine l.near.n201 (port_of (gone l.rate b w).near.at)
    pub far_fine : Fine l.far.n201 (port_of (gone l.rate b w).far.at)
    pub near_grown : Grown 1 (port_of w.near.at) (port_of (beat l.rate w b).near.at)
    pub far_grown : Grown 1 (port_of w.far.at) (port_of (beat l.rate w b).far.at)

  pub beaten : (w : Clocked) (b : Beat) → IsTalk l b → Both w → Beaten w b
  beaten w b talk h =
      let moment = w.beats / l.rate in let a = comes_to moment b.near_asks w.near in let z = comes_to moment b.far_asks w.far in let v = gone l.rate b w in let u = beat l.rate w b in
      let p = silent-comes l.service l.tei l.near can.near.0 moment b.near_asks talk.0 w.near h.near.ran in
      let q = silent-comes l.service l.tei l.far can.far.0 moment b.far_asks talk.1 w.far h.far.ran in let n = pull-sends w.near.at a.at p.port p.way (within-ports l.near can.near.0 a.at p.ran) in
      let f = pull-sends w.far.at z.at q.port q.way (within-ports l.far can.far.0 z.at q.ran) in let x = first-of w.near.at.way n.value in let y = first-of w.far.at.way f.value in
      let near = comes-then v.near v.far b.near_noise y.0 y.1 (f.way ∙ y.2) (within-ports l.near can.near.0 v.near.at (goes-on l.near a.at port.pull tt p.ran)) in
      let far = comes-then v.far v.near b.far_noise x.0 x.1 (n.way ∙ x.2) (within-ports l.far can.far.0 v.far.at (goes-on l.far z.at port.pull tt q.ran)) in
      record {
        both = record {
          near = end-then l.near can.near.0 l.service l.tei l.way w.beats w.near a u.near v.far b.near_noise h.near p near;
          far = end-then l.far can.far.0 l.service l.tei l.way w.beats w.far z u.far v.near b.far_noise h.far q far;
        };
        near_sent = n;
        far_sent = f;
        near = near;
        far = far;
        near_fine = its-fine l.near can.near.0 l.service l.tei l.way w.beats w.near a u.near v.far b.near_noise h.near p near;
        far_fine = its-fine l.far can.far.0 l.service l.tei l.way w.beats w.far z u.far v.near b.far_noise h.far q far;
        near_grown = grown-then l.near can.near.0 l.service l.tei l.way w.beats w.near a u.near v.far b.near_noise h.near p near;
        far_grown = grown-then l.far can.far.0 l.service l.tei l.way w.beats w.far z u.far v.near b.far_noise h.far q far;
      }

  pub both-all : (bs : List Beat) → All (IsTalk l) bs → (w : Clocked) → Both w → Both (after l.rate bs w)
  both-all = fold-keeps (beat l.rate) (IsTalk l) Both (λ b w t h. (beaten w b t h).both)

  pub record GrownBoth (n : ℕ) (w u : Clocked) : Type 0 where
    pub near : Grown n (port_of w.near.at) (port_of u.near.at)
    pub far : Grown n (port_of w.far.at) (port_of u.far.at)

  pub grown-all : (bs : List Beat) → All (IsTalk l) bs → (w : Clocked) → Both w → GrownBoth (length bs) w (after l.rate bs w)
  grown-all [] talk w h = record { near = grown-none (port_of w.near.at); far = grown-none (port_of w.far.at) }
  grown-all (b ∷ bs) talk w h =
      let one = beaten w b (All-head (IsTalk l) b bs talk) h in let v = beat l.rate w b in let u = after l.rate bs v in let rest = grown-all bs (All-tail (IsTalk l) b bs talk) v one.both in
      let n = length bs in let more : 1 + n ≡ suc n = omega arith in grind (arith, port_of, grown-both)

  -- As it begins.
  begins-at : (c : Config) (ranged : IsInRange c) (number : ℕ) (within : number < c.lines) (lengths : Lengths) → EndAt c l.way 0 (endpoint c number lengths l.way l.tei).at
  begins-at c ranged number within lengths =
      let fresh = port-is c ranged number l.tei l.way within in let way = begun-way c ranged number l.tei l.way within in
      record {
        ran = ran-begun c ranged number l.tei l.way within;
        octets = subst (λ (p : Port). All AreOctets (frames_among p.items)) (sym fresh) (All-nil AreOctets);
        given = ap (λ (p : Port). length p.given) fresh;
        received = ap (λ (p : Port). length p.received) fresh;
        long = ap length way ∙ length-replicate l.way 0x7E;
        behind = record { before = []; sent = ap (λ (p : Port). all_sent l.way p) fresh ∙ append-nil (replicate l.way 0x7E) ∙ sym way };
      }

  pub both-begin : Both (begins l)
  both-begin = record { near = begins-at l.near can.near.0 l.near_line can.near.1 l.lengths; far = begins-at l.far can.far.0 l.far_line can.far.1 l.far_lengths }
