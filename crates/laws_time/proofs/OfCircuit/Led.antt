-- Beats without noise, in which no timer falls due and data alone is asked for: what is done in them on the wire of frames.
use Rattle.laws_time.proofs.Vocabulary.{All-replicate, All, All-append, All-head, All-nil, All-tail, All-weaker, AsksData, AsksOctets, Beat, CanCall, Clocked, Config, Fits, IsClean, IsDataOf, IsOfLink, IsTalk, IsUndue, Line, List, None, NoneFallsDue, OctetEndpoint as Endpoint, Option, Ran, Request, TimedEndpoint, Wire, [], after, ap, arith, asked-way, asks, beat, doing-append, drop, due, fall_due}
use Rattle.laws_time.proofs.Vocabulary.{falls, fold, gone, happens, heard-way, hears, length, option_map_or, plain, refl, replicate, subst, suc, sym, unwrap_or, wire_doing_all, without_first_octet, zero, ℕ, ◌++◌, ◌+◌, ◌/◌, ◌∙◌, ◌∷◌, ◌≡◌}
use Rattle.model_card.specs.ports.Port as port
use Rattle.laws_wire.specs.Call.{IsData}
use Rattle.laws_wire.specs.Wire as wire
use Rattle.laws_time.proofs.OfCircuit.AckedCall.{sum_all, near_sends, far_sends}
use Rattle.laws_time.proofs.OfCircuit.AckedWire.{near_takes, far_takes}
use Rattle.laws_time.proofs.OfCircuit.Ends.{at_time, fold-keeps}
use Rattle.laws_time.proofs.OfCircuit.Joined.{Joined, other-way, Does, near_of, far_of, IsAtOf, near-one as near-is, far-one as far-is, sum-append, far-none, near-none, turned-sums, turned-does, heard_at, put_at, wire_of, asks-one, pulls-one, hears-one}

-- ---- what each thing that is done in a beat keeps, the beat keeps

-- Anything may happen to an end, except an expiry.
abbrev pub IsOrdinary : port.Event → Type 0
IsOrdinary (port.expiry timer) = ⊥
IsOrdinary other = Unit {0}

pub undue-stays : (n : ℕ) (a : TimedEndpoint) → due a.clock ≡ None → fall_due n a ≡ a
unfolding fall_due
undue-stays zero a none = refl
undue-stays (suc n) a none = ap (λ o. fall_due n (option_map_or (falls a) o a)) none ∙ undue-stays n a none

way-asked : (rs : List Request) (a : TimedEndpoint) → (fold asks a rs).at.way ≡ a.at.way
way-asked rs a = fold-keeps asks (λ r. Unit {0}) (λ u. u.at.way ≡ a.at.way) (λ r u is same. asked-way r u.at ∙ same) rs (λ k d lt. tt) a refl

way-heard : (noise : Option ℕ) (way : List ℕ) (a : TimedEndpoint) → (hears noise way a).at.way ≡ a.at.way
way-heard noise [] a = refl
way-heard noise (value ∷ more) a = heard-way (unwrap_or noise value) a.at

pub near-pulled : (rate : ℕ) (w : Clocked) (b : Beat) → IsUndue (w.beats / rate) b.near_asks w.near → (gone rate b w).near ≡ happens port.pull (fold asks (at_time (w.beats / rate) w.near) b.near_asks)
near-pulled rate w b undue = let a = fold asks (at_time (w.beats / rate) w.near) b.near_asks in ap (happens port.pull) (undue-stays (length a.clock.running) a undue)

pub far-pulled : (rate : ℕ) (w : Clocked) (b : Beat) → IsUndue (w.beats / rate) b.far_asks w.far → (gone rate b w).far ≡ happens port.pull (fold asks (at_time (w.beats / rate) w.far) b.far_asks)
far-pulled rate w b undue = let a = fold asks (at_time (w.beats / rate) w.far) b.far_asks in ap (happens port.pull) (undue-stays (length a.clock.running) a undue)

-- ---- beats

abbrev pub AsksSo : (Request → Type 0) → Beat → Type 0
AsksSo Q b = All Q b.near_asks × All Q b.far_asks

pub plain-clean : (n : ℕ) → All IsClean (replicate n plain)
plain-clean n = All-replicate IsClean n plain (refl, refl)

pub plain-asks : (Q : Request → Type 0) (n : ℕ) → All (AsksSo Q) (replicate n plain)
plain-asks Q n = All-replicate (AsksSo Q) n plain (All-nil Q, All-nil Q)

pub undue-parts : (rate : ℕ) (xs ys : List Beat) (w : Clocked) → NoneFallsDue rate (xs ++ ys) w → NoneFallsDue rate xs w × NoneFallsDue rate ys (after rate xs w)
unfolding NoneFallsDue
undue-parts rate [] ys w h = (tt, h)
undue-parts rate (x ∷ xs) ys w h = let rest = undue-parts rate xs ys (beat rate w x) h.2 in ((h.0, h.1, rest.0), rest.1)

pub ran-way : (c : Config) (s : Endpoint) (way : List ℕ) → Ran c s → Ran c (record s { way = way })
ran-way c s way h = record { within = h.within; events = h.events; at_lines = h.at_lines; is = h.is; exact = h.exact }

pub data-octets : (l : Line) (q : Request) → IsDataOf l q → AsksOctets (port.request q)
data-octets l q is = grind arith

pub data-is : (l : Line) (q : Request) → IsDataOf l q → IsData l.service l.tei q
data-is l q is = grind arith

pub of-link : (l : Line) (q : Request) → IsDataOf l q → IsOfLink l.service l.tei q
of-link l q is = grind arith

pub data-talk : (l : Line) (b : Beat) → AsksData l b → IsTalk l b
data-talk l b is = (All-weaker (IsDataOf l) (IsOfLink l.service l.tei) (of-link l) b.near_asks is.0, All-weaker (IsDataOf l) (IsOfLink l.service l.tei) (of-link l) b.far_asks is.1)

pub data-talks : (l : Line) (bs : List Beat) → All (AsksData l) bs → All (IsTalk l) bs
data-talks l = All-weaker (AsksData l) (IsTalk l) (data-talk l)

module _ (l : Line) (can : CanCall l.near l.near_line l.far l.far_line l.tei) where
  pub fits : Fits l.near.n201 l.near
  fits = record { ranged = can.near.0; size = refl }

  pub fits-far : Fits l.near.n201 l.far
  fits-far = record { ranged = can.far.0; size = sym can.opposite.1 }

  abbrev pub Both : Endpoint → Endpoint → List ℕ → List ℕ → List (List ℕ) → List (List ℕ) → Type 0
  Both s r ws wr there back = Joined l.near.n201 l.way l.near l.far s r ws wr there back

  -- What is known of both ends and of what is between them: a beat keeps it, if whatever either end does keeps it.
  module _ (P : TimedEndpoint → TimedEndpoint → List ℕ → List ℕ → Type 0) (Q : Request → Type 0) (octets : (q : Request) → Q q → AsksOctets (port.request q))
      (between : (a z : TimedEndpoint) (wn wf : List ℕ) → P a z wn wf → (there : List (List ℕ)) × (back : List (List ℕ)) × Both a.at z.at wn wf there back)
      (near_does : (a z : TimedEndpoint) (wn wf : List ℕ) (h : P a z wn wf) (ev : port.Event) → IsOrdinary ev → (wn' wf' : List ℕ)
      → (let x = between a z wn wf h in Does Q l.near.n201 l.way l.near l.far fits fits-far a.at z.at wn wf x.0 x.1 (happens ev a).at wn' wf') → P (happens ev a) z wn' wf')
      (far_does : (a z : TimedEndpoint) (wn wf : List ℕ) (h : P a z wn wf) (ev : port.Event) → IsOrdinary ev → (wn' wf' : List ℕ)
      → (let x = between a z wn wf h in Does Q l.near.n201 l.way l.far l.near fits-far fits z.at a.at wf wn x.1 x.0 (happens ev z).at wf' wn') → P a (happens ev z) wn' wf')
      (passes : (a z : TimedEndpoint) (wn wf : List ℕ) → P a z wn wf → P (without_first_octet a) (without_first_octet z) wn wf) where
    abbrev n201 : ℕ
    n201 = l.near.n201

    turned : (a z : TimedEndpoint) (wn wf : List ℕ) (h : P a z wn wf) → let x = between a z wn wf h in Joined n201 l.way l.far l.near z.at a.at wf wn x.1 x.0
    turned a z wn wf h = let x = between a z wn wf h in other-way n201 l.way l.near l.far a.at z.at wn wf x.0 x.1 x.2

    near-asks : (q : Request) → Q q → (a z : TimedEndpoint) (wn wf : List ℕ) → P a z wn wf → P (asks a q) z wn wf
    near-asks q is a z wn wf h =
        let x = between a z wn wf h in near_does a z wn wf h (port.request q) tt wn wf (asks-one Q n201 l.way l.near l.far fits fits-far a.at z.at q (octets q is) is wn wf x.0 x.1 x.2)

    far-asks : (q : Request) → Q q → (a z : TimedEndpoint) (wn wf : List ℕ) → P a z wn wf → P a (asks z q) wn wf
    far-asks q is a z wn wf h =
        let x = between a z wn wf h in far_does a z wn wf h (port.request q) tt wn wf (asks-one Q n201 l.way l.far l.near fits-far fits z.at a.at q (octets q is) is wf wn x.1 x.0 (turned a z wn wf h))

    near-pulls : (a z : TimedEndpoint) (wn wf : List ℕ) → a.at.way ≡ wn → P a z wn wf → P (happens port.pull a) z (happens port.pull a).at.way wf
    near-pulls a z wn wf is h =
        let x = between a z wn wf h in near_does a z wn wf h port.pull tt (happens port.pull a).at.way wf (pulls-one Q n201 l.way l.near l.far fits fits-far a.at z.at wn wf is x.0 x.1 x.2)

    far-pulls : (a z : TimedEndpoint) (wn wf : List ℕ) → z.at.way ≡ wf → P a z wn wf → P a (happens port.pull z) wn (happens port.pull z).at.way
    far-pulls a z wn wf is h =
        let x = between a z wn wf h in far_does a z wn wf h port.pull tt wn (happens port.pull z).at.way (pulls-one Q n201 l.way l.far l.near fits-far fits z.at a.at wf wn is x.1 x.0 (turned a z wn wf h))

    near-hears : (value : ℕ) (more : List ℕ) (a z : TimedEndpoint) (wn : List ℕ) → P a z wn (value ∷ more) → P (happens (port.octet value) a) z wn more
    near-hears value more a z wn h =
        let x = between a z wn (value ∷ more) h in near_does a z wn (value ∷ more) h (port.octet value) tt wn more (hears-one Q n201 l.way l.near l.far fits fits-far a.at z.at value more wn x.0 x.1 x.2)

    far-hears : (value : ℕ) (more : List ℕ) (a z : TimedEndpoint) (wf : List ℕ) → P a z (value ∷ more) wf → P a (happens (port.octet value) z) more wf
    far-hears value more a z wf h =
        let x = between a z (value ∷ more) wf h in
        far_does a z (value ∷ more) wf h (port.octet value) tt more wf (hears-one Q n201 l.way l.far l.near fits-far fits z.at a.at value more wf x.1 x.0 (turned a z (value ∷ more) wf h))

    -- Each hears what the other gave.
    near-came : (a z : TimedEndpoint) (wn way : List ℕ) → P a z wn way → P (hears None way a) z wn (drop 1 way)
    near-came a z wn [] h = h
    near-came a z wn (value ∷ more) h = near-hears value more a z wn h

    far-came : (a z : TimedEndpoint) (wf way : List ℕ) → P a z way wf → P a (hears None way z) (drop 1 way) wf
    far-came a z wf [] h = h
    far-came a z wf (value ∷ more) h = far-hears value more a z wf h

    both-hear : (a z : TimedEndpoint) (noise noise_far : Option ℕ) → noise ≡ None → noise_far ≡ None → P a z a.at.way z.at.way
        → let u = without_first_octet (hears noise z.at.way a) in let v = without_first_octet (hears noise_far a.at.way z) in P u v u.at.way v.at.way
    both-hear a z noise noise_far none none_far h =
        let x = hears None z.at.way a in let y = hears None a.at.way z in
        let all = passes x y (drop 1 a.at.way) (drop 1 z.at.way) (far-came x z (drop 1 z.at.way) a.at.way (near-came a z a.at.way z.at.way h)) in
        let Ends : TimedEndpoint → TimedEndpoint → Type 0 = λ u v. P u v u.at.way v.at.way in
        subst (λ o. Ends (without_first_octet (hears o z.at.way a)) (without_first_octet (hears noise_far a.at.way z))) (sym none)
        (subst (λ o. Ends (without_first_octet x) (without_first_octet (hears o a.at.way z))) (sym none_far)
        (subst (λ wn. P (without_first_octet x) (without_first_octet y) wn (without_first_octet y).at.way) (sym (ap (drop 1) (way-heard None z.at.way a)))
        (subst (λ wf. P (without_first_octet x) (without_first_octet y) (drop 1 a.at.way) wf) (sym (ap (drop 1) (way-heard None a.at.way z))) all)))

    -- From where layer 3 has asked for all.
    pub then-keeps : (w : Clocked) (b : Beat) → IsClean b → (a z : TimedEndpoint) → (gone l.rate b w).near ≡ happens port.pull a → (gone l.rate b w).far ≡ happens port.pull z → P a z a.at.way z.at.way
        → let u = beat l.rate w b in P u.near u.far u.near.at.way u.far.at.way
    then-keeps w b is_clean a z near far h =
        let v = gone l.rate b w in let x = happens port.pull a in let y = happens port.pull z in let pulled = far-pulls x z x.at.way z.at.way refl (near-pulls a z a.at.way z.at.way refl h) in
        both-hear v.near v.far b.near_noise b.far_noise is_clean.0 is_clean.1 (subst (λ x. P x v.far x.at.way v.far.at.way) (sym near) (subst (λ y. P x y x.at.way y.at.way) (sym far) pulled))

    pub all-asked : (rs ss : List Request) → All Q rs → All Q ss → (a z : TimedEndpoint) → P a z a.at.way z.at.way → let x = fold asks a rs in let y = fold asks z ss in P x y x.at.way y.at.way
    all-asked rs ss all all_far a z h =
        let x = fold asks a rs in let y = fold asks z ss in let near = fold-keeps asks Q (λ u. P u z a.at.way z.at.way) (λ q u is. near-asks q is u z a.at.way z.at.way) rs all a h in
        let far = fold-keeps asks Q (λ v. P x v a.at.way z.at.way) (λ q v is. far-asks q is x v a.at.way z.at.way) ss all_far z near in
        subst (λ wn. P x y wn y.at.way) (sym (way-asked rs a)) (subst (λ wf. P x y a.at.way wf) (sym (way-asked ss z)) far)

  -- What was done on the wire since two ends stood so, if such data alone was asked for.
  module _ (Q : Request → Type 0) (data_is : (q : Request) → Q q → IsDataOf l q) (s0 r0 : Endpoint) (there0 back0 : List (List ℕ)) where
    pub record Led (s r : Endpoint) (ws wr : List ℕ) : Type 0 where
      pub there : List (List ℕ)
      pub back : List (List ℕ)
      pub joined : Both s r ws wr there back
      pub es : List wire.StepAt
      pub talk : All (IsAtOf Q) es
      pub leads : wire.doing_all es (wire_of s0 r0 there0 back0) ≡ wire_of s r there back
      pub near_heard : heard_at l.near.n201 s ≡ heard_at l.near.n201 s0 + sum_all near_takes es (wire_of s0 r0 there0 back0)
      pub far_heard : heard_at l.near.n201 r ≡ heard_at l.near.n201 r0 + sum_all far_takes es (wire_of s0 r0 there0 back0)
      pub near_put : put_at s ≡ put_at s0 + sum_all near_sends es (wire_of s0 r0 there0 back0)
      pub far_put : put_at r ≡ put_at r0 + sum_all far_sends es (wire_of s0 r0 there0 back0)

    abbrev f0 : Wire
    f0 = wire_of s0 r0 there0 back0

    abbrev pub LedAt : TimedEndpoint → TimedEndpoint → List ℕ → List ℕ → Type 0
    LedAt a z wn wf = Led a.at z.at wn wf

    near-then : (a z : TimedEndpoint) (wn wf : List ℕ) (h : LedAt a z wn wf) (ev : port.Event) → IsOrdinary ev → (wn' wf' : List ℕ) → Does Q l.near.n201 l.way l.near l.far fits fits-far a.at z.at wn wf h.there h.back (happens ev a).at wn' wf' → LedAt (happens ev a) z wn' wf'
    near-then a z wn wf h ev plain_event wn' wf' x =
        let es = near_of x.o in let f = wire_of a.at z.at h.there h.back in let sum = λ (g : wire.StepAt → Wire → ℕ). sum-append g h.es es f0 ∙ ap (λ u. sum_all g h.es f0 + sum_all g es u) h.leads in
        let none = far-none x.o f in let no_takes = none.0 in let no_sends = none.1 in let heard = x.heard in let put = x.put in
        let nh = h.near_heard in let fh = h.far_heard in let np = h.near_put in let fp = h.far_put in
        let s1 = sum near_takes in let s2 = sum far_takes in let s3 = sum near_sends in let s4 = sum far_sends in
        record {
          there = x.there';
          back = x.back';
          joined = x.joined;
          es = h.es ++ es;
          talk = All-append (IsAtOf Q) h.es es h.talk (near-is Q x.o x.talk);
          leads = doing-append h.es es f0 ∙ ap (wire.doing_all es) h.leads ∙ x.same;
          near_heard = omega (arith, heard, nh, s1);
          far_heard = omega (arith, fh, no_takes, s2);
          near_put = omega (arith, put, np, s3);
          far_put = omega (arith, fp, no_sends, s4);
        }

    far-then : (a z : TimedEndpoint) (wn wf : List ℕ) (h : LedAt a z wn wf) (ev : port.Event) → IsOrdinary ev → (wn' wf' : List ℕ) → Does Q l.near.n201 l.way l.far l.near fits-far fits z.at a.at wf wn h.back h.there (happens ev z).at wf' wn' → LedAt a (happens ev z) wn' wf'
    far-then a z wn wf h ev plain_event wn' wf' x =
        let es = far_of x.o in let f = wire_of a.at z.at h.there h.back in let sum = λ (g : wire.StepAt → Wire → ℕ). sum-append g h.es es f0 ∙ ap (λ u. sum_all g h.es f0 + sum_all g es u) h.leads in
        let none = near-none x.o f in let no_takes = none.0 in let no_sends = none.1 in let heard = x.heard in let put = x.put in
        let sums = turned-sums x.o f in let takes = sums.0 in let puts = sums.1 in let nh = h.near_heard in let fh = h.far_heard in let np = h.near_put in let fp = h.far_put in
        let s1 = sum near_takes in let s2 = sum far_takes in let s3 = sum near_sends in let s4 = sum far_sends in
        record {
          there = x.back';
          back = x.there';
          joined = other-way l.near.n201 l.way l.far l.near (happens ev z).at a.at wf' wn' x.there' x.back' x.joined;
          es = h.es ++ es;
          talk = All-append (IsAtOf Q) h.es es h.talk (far-is Q x.o x.talk);
          leads = doing-append h.es es f0 ∙ ap (wire.doing_all es) h.leads ∙ turned-does x.o f ∙ ap wire.turned x.same;
          near_heard = omega (arith, nh, no_takes, s1);
          far_heard = omega (arith, heard, takes, fh, s2);
          near_put = omega (arith, np, no_sends, s3);
          far_put = omega (arith, put, puts, fp, s4);
        }

    pub led-none : (ws wr : List ℕ) → Both s0 r0 ws wr there0 back0 → Led s0 r0 ws wr
    unfolding wire_doing_all sum_all
    led-none ws wr h = record {
      there = there0;
      back = back0;
      joined = h;
      es = [];
      talk = All-nil (IsAtOf Q);
      leads = refl;
      near_heard = omega arith;
      far_heard = omega arith;
      near_put = omega arith;
      far_put = omega arith;
    }

    abbrev pub LedTo : Clocked → Type 0
    LedTo w = Led w.near.at w.far.at w.near.at.way w.far.at.way

    led-passes : (a z : TimedEndpoint) (wn wf : List ℕ) → LedAt a z wn wf → LedAt (without_first_octet a) (without_first_octet z) wn wf
    led-passes a z wn wf h = record {
      there = h.there;
      back = h.back;
      joined = record { near = ran-way l.near a.at (drop 1 a.at.way) h.joined.near; far = ran-way l.far z.at (drop 1 z.at.way) h.joined.far; goes = h.joined.goes; comes = h.joined.comes };
      es = h.es;
      talk = h.talk;
      leads = h.leads;
      near_heard = h.near_heard;
      far_heard = h.far_heard;
      near_put = h.near_put;
      far_put = h.far_put;
    }

    abbrev between : (a z : TimedEndpoint) (wn wf : List ℕ) → LedAt a z wn wf → (there : List (List ℕ)) × (back : List (List ℕ)) × Both a.at z.at wn wf there back
    between a z wn wf h = (h.there, h.back, h.joined)

    -- From where layer 3 has asked already.
    pub led-asked : (rs ss : List Request) → All Q rs → All Q ss → (a z : TimedEndpoint) → LedAt a z a.at.way z.at.way → let x = fold asks a rs in let y = fold asks z ss in LedAt x y x.at.way y.at.way
    led-asked = all-asked LedAt Q (λ q is. data-octets l q (data_is q is)) between near-then far-then led-passes

    pub led-then : (w : Clocked) (b : Beat) → IsClean b → (a z : TimedEndpoint) → (gone l.rate b w).near ≡ happens port.pull a → (gone l.rate b w).far ≡ happens port.pull z → LedAt a z a.at.way z.at.way → LedTo (beat l.rate w b)
    led-then = then-keeps LedAt Q (λ q is. data-octets l q (data_is q is)) between near-then far-then led-passes

    pub led-beat : (b : Beat) → AsksSo Q b → IsClean b → (w : Clocked) → IsUndue (w.beats / l.rate) b.near_asks w.near → IsUndue (w.beats / l.rate) b.far_asks w.far → LedTo w → LedTo (beat l.rate w b)
    led-beat b data_alone is_clean w undue undue_far h =
        let now = w.beats / l.rate in let a = at_time now w.near in let z = at_time now w.far in
        led-then w b is_clean (fold asks a b.near_asks) (fold asks z b.far_asks) (near-pulled l.rate w b undue) (far-pulled l.rate w b undue_far)
        (led-asked b.near_asks b.far_asks data_alone.0 data_alone.1 a z h)

    pub led-all : (bs : List Beat) → All (AsksSo Q) bs → All IsClean bs → (w : Clocked) → NoneFallsDue l.rate bs w → LedTo w → LedTo (after l.rate bs w)
    unfolding NoneFallsDue
    led-all [] data_alone is_clean w undue h = h
    led-all (b ∷ bs) data_alone is_clean w undue h =
        led-all bs (All-tail (AsksSo Q) b bs data_alone) (All-tail IsClean b bs is_clean) (beat l.rate w b) undue.2
        (led-beat b (All-head (AsksSo Q) b bs data_alone) (All-head IsClean b bs is_clean) w undue.0 undue.1 h)
