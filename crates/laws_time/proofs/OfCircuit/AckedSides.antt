-- Either end of a call with its clock, in the midst of a beat: what is asked for, pulled and heard, on the circuit and on the wire.
use Rattle.laws_time.proofs.Vocabulary.{All, All-head, AwaitingEstablishment, Beat, Begins, Bool, Clocked, Config, Established, Face, IsClean, IsDataOf, IsInRange, Lengths, Line, Link, List, None, OctetEndpoint as Endpoint, Option, Request, Some, TeiAssigned, TimedEndpoint, Wire, [], ap, arith, asks, beat, faces, faces-back, by-either}
use Rattle.laws_time.proofs.Vocabulary.{false, fold, gone, happens, not, own_link, subst, sym, true, wire_doing_all, without_first_octet, ℕ, ◌∙◌, ◌≡◌, ◌≤◌, ◌⊎◌}
use Rattle.model_card.specs.ports.Port as port
use Rattle.laws_wire.specs.Call.{IsTalk}
use Rattle.laws_wire.specs.Wire as wire
use Rattle.laws_time.proofs.OfCircuit.AckedBeats.{On_wire}
use Rattle.laws_time.proofs.OfCircuit.AckedCall.{Moves}
use Rattle.laws_time.proofs.OfCircuit.AckedEnds.{its_link, Facts, Timed, timed-then, IsFine}
use Rattle.laws_time.proofs.OfCircuit.AckedOn as on
use Rattle.laws_time.proofs.OfCircuit.AckedOn.{Open}
use Rattle.laws_time.proofs.OfCircuit.Joined.{other-way, Does, near_of, far_of, IsOneOf, near-one, far-one, all-talk, turned-does, wire_of}
use Rattle.laws_time.proofs.OfCircuit.Led.{IsOrdinary, Both, fits, fits-far, all-asked, then-keeps, data-octets, data-is, ran-way}

pub none-moves : (x : Link) → Moves x x
none-moves x = record { low = omega arith; high = omega arith; sent = omega arith }

module _ (l : Line) (fit : Begins l) where
  -- ---- either end

  abbrev pub cfg : Bool → Config
  cfg false = l.near
  cfg true = l.far

  abbrev pub rng : (b : Bool) → IsInRange (cfg b)
  rng false = fit.call.near.0
  rng true = fit.call.far.0

  abbrev pub lens : Bool → Lengths
  lens false = l.lengths
  lens true = l.far_lengths

  abbrev pub end_at : Bool → Clocked → Endpoint
  end_at false w = w.near.at
  end_at true w = w.far.at

  abbrev pub face : (b : Bool) → Face (cfg b) (cfg (not b))
  face false = faces l.near l.far fit.call.opposite
  face true = faces-back l.near l.far fit.call.opposite

  abbrev pub link_of_end : Bool → Endpoint → Link
  link_of_end b s = its_link l.service l.tei (cfg b) (rng b) (lens b) s

  abbrev pub EndFacts : Bool → Endpoint → Type 0
  EndFacts b s = Facts l.service l.tei (cfg b) (rng b) (lens b) s

  fine-near : (x : Link) (A B C : Type 0) → ((x.state ≡ AwaitingEstablishment) × A × C) ⊎ (B × Open x) → IsFine x
  fine-near x h h' h'' h''' = grind arith

  fine-far : (x : Link) → (x.state ≡ TeiAssigned) ⊎ Open x → IsFine x
  fine-far x h = grind arith

  pub near-facts : (s r : Endpoint) (there back : List (List ℕ)) (weight : ℕ) → On_wire l fit (wire_of s r there back) weight → EndFacts false s
  near-facts s r there back weight h =
      let x = on.near-stands l fit (wire_of s r there back) weight h in
      record { way = there; place = x.0; n = x.1; stands = x.2; fine = fine-near (link_of_end false s) _ _ _ (on.near-place l fit (wire_of s r there back) weight h) }

  pub far-facts : (s r : Endpoint) (there back : List (List ℕ)) (weight : ℕ) → On_wire l fit (wire_of s r there back) weight → EndFacts true r
  far-facts s r there back weight h =
      let x = on.far-stands l fit (wire_of s r there back) weight h in
      record { way = back; place = x.0; n = x.1; stands = x.2; fine = fine-far (link_of_end true r) (on.far-place l fit (wire_of s r there back) weight h) }

  -- ---- how far a link goes on

  module _ (o : Option wire.Step) (talk : IsOneOf (IsDataOf l) o) where
    near-all : All (IsTalk l.service l.tei) (near_of o)
    near-all = all-talk (IsDataOf l) l.service l.tei (data-is l) (near_of o) (near-one (IsDataOf l) o talk)

    far-all : All (IsTalk l.service l.tei) (far_of o)
    far-all = all-talk (IsDataOf l) l.service l.tei (data-is l) (far_of o) (far-one (IsDataOf l) o talk)

  near-moved : (o : Option wire.Step) → IsOneOf (IsDataOf l) o → (f : Wire) (weight : ℕ) → On_wire l fit f weight → Open (own_link l.service l.tei f.near) → Moves (own_link l.service l.tei f.near) (own_link l.service l.tei (wire.doing_all (near_of o) f).near)
  unfolding wire_doing_all
  near-moved None talk f weight h is_open = none-moves (own_link l.service l.tei f.near)
  near-moved (Some act) talk f weight h is_open = on.near-moves l fit (wire.at_near act) (All-head (IsTalk l.service l.tei) (wire.at_near act) [] (near-all (Some act) talk)) f weight h is_open

  near-lower : (o : Option wire.Step) → IsOneOf (IsDataOf l) o → (f : Wire) (weight : ℕ) → On_wire l fit f weight → (own_link l.service l.tei f.near).a ≤ (own_link l.service l.tei (wire.doing_all (near_of o) f).near).a
  unfolding wire_doing_all
  near-lower None talk f weight h = omega arith
  near-lower (Some act) talk f weight h = on.near-low l fit (wire.at_near act) (All-head (IsTalk l.service l.tei) (wire.at_near act) [] (near-all (Some act) talk)) f weight h

  far-moved : (o : Option wire.Step) → IsOneOf (IsDataOf l) o → (f : Wire) (weight : ℕ) → On_wire l fit f weight → Moves (own_link l.service l.tei f.far) (own_link l.service l.tei (wire.doing_all (far_of o) f).far)
  unfolding wire_doing_all
  far-moved None talk f weight h = none-moves (own_link l.service l.tei f.far)
  far-moved (Some act) talk f weight h = on.far-moves l fit act (All-head (IsTalk l.service l.tei) (wire.at_far act) [] (far-all (Some act) talk)) f weight h

  pub far-not-ringing : (s r : Endpoint) (there back : List (List ℕ)) (weight : ℕ) → On_wire l fit (wire_of s r there back) weight → (link_of_end true r).state ≡ AwaitingEstablishment → ⊥
  far-not-ringing s r there back weight h is = by-either (on.far-place l fit (wire_of s r there back) weight h) (λ down. let e : TeiAssigned ≡ AwaitingEstablishment = sym down ∙ is in cc e)
      (λ up. let e : Established ≡ AwaitingEstablishment = sym up.state ∙ is in cc e)

  -- ---- in the midst of a beat

  abbrev pub EndTimed : Bool → (ℕ → ℕ → Type 0) → ℕ → TimedEndpoint → Type 0
  EndTimed b Old now a = Timed l.service l.tei (cfg b) (rng b) (lens b) Old now a

  timed-passes : (b : Bool) (Old : ℕ → ℕ → Type 0) (now : ℕ) (a : TimedEndpoint) → EndTimed b Old now a → EndTimed b Old now (without_first_octet a)
  timed-passes b Old now a h = record { ran = ran-way (cfg b) a.at _ h.ran; now_is = h.now_is; lengths = h.lengths; claim = h.claim }

  -- V(A) of either end has not fallen since the beat began, and the near end is up if it was.
  module _ (OldN OldF : ℕ → ℕ → Type 0) (now lowN lowF : ℕ) (Was : Type 0) where
    pub record Mid (a z : TimedEndpoint) (wn wf : List ℕ) : Type 0 where
      pub there : List (List ℕ)
      pub back : List (List ℕ)
      pub joined : Both l fit.call a.at z.at wn wf there back
      pub weight : ℕ
      pub on_wire : On_wire l fit (wire_of a.at z.at there back) weight
      pub near : EndTimed false OldN now a
      pub far : EndTimed true OldF now z
      pub near_low : lowN ≤ (link_of_end false a.at).a
      pub far_low : lowF ≤ (link_of_end true z.at).a
      pub up : Was → (link_of_end false a.at).state ≡ Established

    abbrev n201 : ℕ
    n201 = l.near.n201

    near-does : (a z : TimedEndpoint) (wn wf : List ℕ) (h : Mid a z wn wf) (ev : port.Event) → IsOrdinary ev → (wn' wf' : List ℕ) → Does (IsDataOf l) n201 l.way l.near l.far (fits l fit.call) (fits-far l fit.call) a.at z.at wn wf h.there h.back (happens ev a).at wn' wf' → Mid (happens ev a) z wn' wf'
    near-does a z wn wf h ev none wn' wf' x =
        let f = wire_of a.at z.at h.there h.back in let y = on.all-on l fit (near_of x.o) (near-all x.o x.talk) f h.weight h.on_wire in let then = subst (λ f. On_wire l fit f y.0) x.same y.1 in
        let low = subst (λ (g : Wire). (own_link l.service l.tei f.near).a ≤ (own_link l.service l.tei g.near).a) x.same (near-lower x.o x.talk f h.weight h.on_wire) in let before = h.near_low in
        record {
          there = x.there';
          back = x.back';
          joined = x.joined;
          weight = y.0;
          on_wire = then;
          near = timed-then l.service l.tei (cfg false) (rng false) (lens false) OldN now a ev h.near x.joined.near (near-facts a.at z.at h.there h.back h.weight h.on_wire)
              (near-facts (happens ev a).at z.at x.there' x.back' y.0 then) none
              (λ open_now open_then. subst (λ (g : Wire). Moves (own_link l.service l.tei f.near) (own_link l.service l.tei g.near)) x.same (near-moved x.o x.talk f h.weight h.on_wire open_now));
          far = h.far;
          near_low = omega (arith, before, low);
          far_low = h.far_low;
          up = λ was. subst (λ (g : Wire). (own_link l.service l.tei g.near).state ≡ Established) x.same (on.up-stays l fit (near_of x.o) (near-all x.o x.talk) f h.weight h.on_wire (h.up was));
        }

    far-does : (a z : TimedEndpoint) (wn wf : List ℕ) (h : Mid a z wn wf) (ev : port.Event) → IsOrdinary ev → (wn' wf' : List ℕ) → Does (IsDataOf l) n201 l.way l.far l.near (fits-far l fit.call) (fits l fit.call) z.at a.at wf wn h.back h.there (happens ev z).at wf' wn' → Mid a (happens ev z) wn' wf'
    far-does a z wn wf h ev none wn' wf' x =
        let f = wire_of a.at z.at h.there h.back in let same = turned-does x.o f ∙ ap wire.turned x.same in let y = on.all-on l fit (far_of x.o) (far-all x.o x.talk) f h.weight h.on_wire in
        let then = subst (λ f. On_wire l fit f y.0) same y.1 in
        let moves = subst (λ (g : Wire). Moves (own_link l.service l.tei f.far) (own_link l.service l.tei g.far)) same (far-moved x.o x.talk f h.weight h.on_wire) in
        let low = moves.low in let before = h.far_low in
        record {
          there = x.back';
          back = x.there';
          joined = other-way n201 l.way l.far l.near (happens ev z).at a.at wf' wn' x.there' x.back' x.joined;
          weight = y.0;
          on_wire = then;
          near = h.near;
          far = timed-then l.service l.tei (cfg true) (rng true) (lens true) OldF now z ev h.far x.joined.near (far-facts a.at z.at h.there h.back h.weight h.on_wire)
              (far-facts a.at (happens ev z).at x.back' x.there' y.0 then) none (λ open_now open_then. moves);
          near_low = h.near_low;
          far_low = omega (arith, before, low);
          up = h.up;
        }

    mid-passes : (a z : TimedEndpoint) (wn wf : List ℕ) → Mid a z wn wf → Mid (without_first_octet a) (without_first_octet z) wn wf
    mid-passes a z wn wf h = record {
      there = h.there;
      back = h.back;
      joined = record { near = ran-way l.near a.at _ h.joined.near; far = ran-way l.far z.at _ h.joined.far; goes = h.joined.goes; comes = h.joined.comes };
      weight = h.weight;
      on_wire = h.on_wire;
      near = timed-passes false OldN now a h.near;
      far = timed-passes true OldF now z h.far;
      near_low = h.near_low;
      far_low = h.far_low;
      up = h.up;
    }

    abbrev between : (a z : TimedEndpoint) (wn wf : List ℕ) → Mid a z wn wf → (there : List (List ℕ)) × (back : List (List ℕ)) × Both l fit.call a.at z.at wn wf there back
    between a z wn wf h = (h.there, h.back, h.joined)

    -- Layer 3 asks; and then the beat goes on.
    pub mid-asked : (rs ss : List Request) → All (IsDataOf l) rs → All (IsDataOf l) ss → (a z : TimedEndpoint) → Mid a z a.at.way z.at.way → let x = fold asks a rs in let y = fold asks z ss in Mid x y x.at.way y.at.way
    mid-asked = all-asked l fit.call Mid (IsDataOf l) (data-octets l) between near-does far-does mid-passes

    pub mid-then : (w : Clocked) (b : Beat) → IsClean b → (a z : TimedEndpoint) → (gone l.rate b w).near ≡ happens port.pull a → (gone l.rate b w).far ≡ happens port.pull z → Mid a z a.at.way z.at.way
        → let u = beat l.rate w b in Mid u.near u.far u.near.at.way u.far.at.way
    mid-then = then-keeps l fit.call Mid (IsDataOf l) (data-octets l) between near-does far-does mid-passes
