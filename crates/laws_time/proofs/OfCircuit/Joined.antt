-- Two ends of the circuit without noise, as two stations: what is done at one of them, on the circuit and on the wire of frames.
use Rattle.laws_time.proofs.Vocabulary.{All, All-cons, All-nil, All-weaker, AsksOctets, Bool, Config, Fits, IsSoundPort, List, None, OctetEndpoint as Endpoint, Option, Port, Ran, Request, Service, Some, StreamEvent, Wire, [], ap, arith, as_endpoint, asked-as, came, cond, config, drop, false, gained}
use Rattle.laws_time.proofs.Vocabulary.{given_in, goes-on, heard-as, heard_in, heard_with, if_meant, is_due, item_of, length, length-append, next_of_card, none-heard, on-line, option_map, option_to_list, port-after, port_of, pull-between, pull-put, pull-received, pulled-as, refl, sound-port, subst, sym, true, wire_doing_all, within-ports, ℕ, ◌++◌, ◌+◌}
use Rattle.laws_time.proofs.Vocabulary.{◌∙◌, ◌∷◌, ◌≡◌, by-option}
use Rattle.model_bits.specs.Stream as stream
use Rattle.model_line.specs.Event as line
use Rattle.model_card.specs.ports.Port as port
use Rattle.laws_wire.specs.Call.{IsData, IsTalk}
use Rattle.laws_wire.specs.Wire as wire
use Rattle.laws_order.specs.circuit.Circuit.{happens}
use Rattle.laws_time.proofs.OfCircuit.AckedCall.{sum_all, near_sends, far_sends}
use Rattle.laws_time.proofs.OfCircuit.AckedWire.{one_if_any, near_takes, far_takes}
use Rattle.laws_time.proofs.OfCircuit.ArrivWay.{flagged, Flow, brings, pulled-flow}

-- ---- what is done at one end, or at the other

abbrev pub near_of : Option wire.Step → List wire.StepAt
near_of o = option_to_list (option_map wire.at_near o)

abbrev pub far_of : Option wire.Step → List wire.StepAt
far_of o = option_to_list (option_map wire.at_far o)

pub sum-append : (f : wire.StepAt → Wire → ℕ) (es fs : List wire.StepAt) (w : Wire) → sum_all f (es ++ fs) w ≡ sum_all f es w + sum_all f fs (wire.doing_all es w)
unfolding sum_all wire_doing_all
sum-append f [] fs w = omega arith
sum-append f (k ∷ ks) fs w = let rest = sum-append f ks fs (wire.doing k w) in omega (arith, rest)

sum-none : (f : wire.StepAt → Wire → ℕ) (w : Wire) → sum_all f [] w ≡ 0
unfolding sum_all
sum-none f w = refl

sum-one : (f : wire.StepAt → Wire → ℕ) (k : wire.StepAt) (w : Wire) → sum_all f (k ∷ []) w ≡ f k w
unfolding sum_all
sum-one f k w = omega arith

-- What is done at one end is nothing at the other.
pub far-none : (o : Option wire.Step) (f : Wire) → (sum_all far_takes (near_of o) f ≡ 0) × (sum_all far_sends (near_of o) f ≡ 0)
far-none o f = grind (arith, sum-none, sum-one)

pub near-none : (o : Option wire.Step) (f : Wire) → (sum_all near_takes (far_of o) f ≡ 0) × (sum_all near_sends (far_of o) f ≡ 0)
near-none o f = grind (arith, sum-none, sum-one)

pub turned-sums : (o : Option wire.Step) (f : Wire) → (sum_all far_takes (far_of o) f ≡ sum_all near_takes (near_of o) (wire.turned f)) × (sum_all far_sends (far_of o) f ≡ sum_all near_sends (near_of o) (wire.turned f))
turned-sums o f = grind (arith, sum-none, sum-one)

pub turned-does : (o : Option wire.Step) (f : Wire) → wire.doing_all (far_of o) f ≡ wire.turned (wire.doing_all (near_of o) (wire.turned f))
unfolding wire_doing_all
turned-does None f = refl
turned-does (Some act) f = refl

does-none : (f : Wire) → wire.doing_all [] f ≡ f
unfolding wire_doing_all
does-none f = refl

does-one : (k : wire.StepAt) (f : Wire) → wire.doing_all (k ∷ []) f ≡ wire.doing k f
unfolding wire_doing_all
does-one k f = refl

-- So many frames were heard, and so many items put.
abbrev pub heard_at : ℕ → Endpoint → ℕ
heard_at n201 s = length (heard_in n201 (port_of s).received)

abbrev pub put_at : Endpoint → ℕ
put_at s = length (port_of s).items

abbrev pub wire_of : Endpoint → Endpoint → List (List ℕ) → List (List ℕ) → Wire
wire_of s r there back = record { near = as_endpoint there s; far = as_endpoint back r }

-- Requests of a kind, and frames are given and received.
abbrev pub IsOf : (Request → Type 0) → wire.Step → Type 0
IsOf Q (wire.requests q) = Q q
IsOf Q wire.sends = Unit {0}
IsOf Q wire.receives = Unit {0}
IsOf Q other = ⊥

abbrev pub IsAtOf : (Request → Type 0) → wire.StepAt → Type 0
IsAtOf Q (wire.at_near act) = IsOf Q act
IsAtOf Q (wire.at_far act) = IsOf Q act

abbrev pub IsOneOf : (Request → Type 0) → Option wire.Step → Type 0
IsOneOf Q None = Unit {0}
IsOneOf Q (Some act) = IsOf Q act

module _ (Q : Request → Type 0) where
  pub near-one : (o : Option wire.Step) → IsOneOf Q o → All (IsAtOf Q) (near_of o)
  near-one None is = All-nil (IsAtOf Q)
  near-one (Some act) is = All-cons (IsAtOf Q) (wire.at_near act) [] is (All-nil (IsAtOf Q))

  pub far-one : (o : Option wire.Step) → IsOneOf Q o → All (IsAtOf Q) (far_of o)
  far-one None is = All-nil (IsAtOf Q)
  far-one (Some act) is = All-cons (IsAtOf Q) (wire.at_far act) [] is (All-nil (IsAtOf Q))

  -- Requests for data are talk.
  talks-one : (service : Service) (tei : ℕ) → ((q : Request) → Q q → IsData service tei q) → (k : wire.StepAt) → IsAtOf Q k → IsTalk service tei k
  talks-one service tei data_is (wire.at_near (wire.requests q)) is = data_is q is
  talks-one service tei data_is (wire.at_near wire.sends) is = tt
  talks-one service tei data_is (wire.at_near wire.receives) is = tt
  talks-one service tei data_is (wire.at_near other) is = absurd is
  talks-one service tei data_is (wire.at_far (wire.requests q)) is = data_is q is
  talks-one service tei data_is (wire.at_far wire.sends) is = tt
  talks-one service tei data_is (wire.at_far wire.receives) is = tt
  talks-one service tei data_is (wire.at_far other) is = absurd is

  pub all-talk : (service : Service) (tei : ℕ) → ((q : Request) → Q q → IsData service tei q) → (es : List wire.StepAt) → All (IsAtOf Q) es → All (IsTalk service tei) es
  all-talk service tei data_is = All-weaker (IsAtOf Q) (IsTalk service tei) (talks-one service tei data_is)

module _ (n201 k : ℕ) where
  -- With so many octets in transit to each.
  pub record Joined (c d : Config) (s r : Endpoint) (ws wr : List ℕ) (there back : List (List ℕ)) : Type 0 where
    pub near : Ran c s
    pub far : Ran d r
    pub goes : Flow n201 k (port_of s) ws (port_of r).received there
    pub comes : Flow n201 k (port_of r) wr (port_of s).received back

  pub other-way : (c d : Config) (s r : Endpoint) (ws wr : List ℕ) (there back : List (List ℕ)) → Joined c d s r ws wr there back → Joined d c r s wr ws back there
  other-way c d s r ws wr there back h = record { near = h.far; far = h.near; goes = h.comes; comes = h.goes }

module _ (Q : Request → Type 0) (n201 k : ℕ) (c d : Config) (fits : Fits n201 c) (fits_far : Fits n201 d) (s r : Endpoint) where
  pub record Does (ws wr : List ℕ) (there back : List (List ℕ)) (s' : Endpoint) (ws' wr' : List ℕ) : Type 0 where
    pub there' : List (List ℕ)
    pub back' : List (List ℕ)
    pub joined : Joined n201 k c d s' r ws' wr' there' back'
    pub o : Option wire.Step
    pub talk : IsOneOf Q o
    pub same : wire.doing_all (near_of o) (wire_of s r there back) ≡ wire_of s' r there' back'
    pub heard : heard_at n201 s' ≡ heard_at n201 s + sum_all near_takes (near_of o) (wire_of s r there back)
    pub put : put_at s' ≡ put_at s + sum_all near_sends (near_of o) (wire_of s r there back)

  -- Layer 3 asks.
  pub asked-joined : (q : Request) → AsksOctets (port.request q) → (ws wr : List ℕ) (there back : List (List ℕ)) → Joined n201 k c d s r ws wr there back → Joined n201 k c d (happens (port.request q) s) r ws wr there back
  asked-joined q octets ws wr there back h =
      let same = port-after s (port.request q) (within-ports c fits.ranged s h.near) in
      record {
        near = goes-on c s (port.request q) octets h.near;
        far = h.far;
        goes = subst (λ p. Flow n201 k p ws (port_of r).received there) (sym same) h.goes;
        comes = subst (λ (p : Port). Flow n201 k (port_of r) wr p.received back) (sym same) h.comes;
      }

  pub asks-one : (q : Request) → AsksOctets (port.request q) → Q q → (ws wr : List ℕ) (there back : List (List ℕ)) → Joined n201 k c d s r ws wr there back → Does ws wr there back (happens (port.request q) s) ws wr
  asks-one q octets is ws wr there back h =
      let s' = happens (port.request q) s in let same = port-after s (port.request q) (within-ports c fits.ranged s h.near) in
      let f = wire_of s r there back in let step = wire.at_near (wire.requests q) in let takes = sum-one near_takes step f in let puts = sum-one near_sends step f in
      let heard = ap (λ (p : Port). length (heard_in n201 p.received)) same in let put = ap (λ (p : Port). length p.items) same in
      record {
        there' = there;
        back' = back;
        joined = asked-joined q octets ws wr there back h;
        o = Some (wire.requests q);
        talk = is;
        same = does-one step f ∙ (λ i. record { near = sym (asked-as q s there) i; far = as_endpoint back r });
        heard = omega (arith, heard, takes);
        put = omega (arith, put, puts);
      }

  -- An octet is pulled.
  pulled-wire : (due : Bool) (there back : List (List ℕ)) → wire.doing_all (near_of (cond due (Some wire.sends) None)) (wire_of s r there back)
      ≡ record { near = if_meant (cond due (Some line.next) None) (as_endpoint there s); far = as_endpoint back r }
  pulled-wire true there back = does-one (wire.at_near wire.sends) (wire_of s r there back)
  pulled-wire false there back = does-none (wire_of s r there back)

  pulled-talk : (due : Bool) → IsOneOf Q (cond due (Some wire.sends) None)
  pulled-talk true = tt
  pulled-talk false = tt

  pulled-put : Ran c s → (due : Bool) → is_due (port_of s) ≡ due → (f : Wire)
      → (0 ≡ sum_all near_takes (near_of (cond due (Some wire.sends) None)) f) × (put_at (happens port.pull s) ≡ put_at s + sum_all near_sends (near_of (cond due (Some wire.sends) None)) f)
  pulled-put ran false is f = let put = ap length (pull-between n201 c fits s ran is).1 in let puts = sum-none near_sends f in (sym (sum-none near_takes f), omega (arith, put, puts))
  pulled-put ran true is f =
      let i = item_of (given_in (next_of_card s.line s.card.card)) in
      let put = ap length (pull-put n201 c fits s ran is) ∙ length-append (port_of s).items (i ∷ []) in let puts = sum-one near_sends (wire.at_near wire.sends) f in
      (sym (sum-one near_takes (wire.at_near wire.sends) f), omega (arith, put, puts))

  pub pulls-one : (ws wr : List ℕ) → s.way ≡ ws → (there back : List (List ℕ)) → Joined n201 k c d s r ws wr there back → Does ws wr there back (happens port.pull s) (happens port.pull s).way wr
  pulls-one ws wr is there back h =
      let due = is_due (port_of s) in let x = pulled-put h.near due refl (wire_of s r there back) in
      let takes = x.0 in let heard = ap (λ os. length (heard_in n201 os)) (pull-received n201 c fits s h.near) in
      record {
        there' = (if_meant (cond due (Some line.next) None) (as_endpoint there s)).way;
        back' = back;
        joined = record {
          near = goes-on c s port.pull tt h.near;
          far = h.far;
          goes = pulled-flow c fits.ranged s h.near there n201 k (port_of r).received (subst (λ ws. Flow n201 k (port_of s) ws (port_of r).received there) (sym is) h.goes) due refl;
          comes = subst (λ os. Flow n201 k (port_of r) wr os back) (sym (pull-received n201 c fits s h.near)) h.comes;
        };
        o = cond due (Some wire.sends) None;
        talk = pulled-talk due;
        same = pulled-wire due there back ∙ (λ i. record { near = sym (pulled-as s there) i; far = as_endpoint back r });
        heard = omega (arith, takes, heard);
        put = x.1;
      }

  -- An octet is heard.
  module _ (value : ℕ) (more ws : List ℕ) (there back : List (List ℕ)) (h : Joined n201 k c d s r ws (value ∷ more) there back) where
    abbrev u : Endpoint
    u = happens (port.octet value) s

    after-it : port_of (happens (port.octet value) s) ≡ record (port_of s) { received = (port_of s).received ++ value ∷ [] }
    after-it = port-after s (port.octet value) (within-ports c fits.ranged s h.near)

    goes-same : Flow n201 k (port_of u) ws (port_of r).received there
    goes-same = subst (λ p. Flow n201 k p ws (port_of r).received there) (sym after-it) (record { given = h.goes.given; are = h.goes.are; octets = h.goes.octets })

    comes-then : (frames : List (List ℕ)) → Flow n201 k (port_of r) more ((port_of s).received ++ value ∷ []) frames → Flow n201 k (port_of r) more (port_of u).received frames
    comes-then frames flow = subst (λ (p : Port). Flow n201 k (port_of r) more p.received frames) (sym after-it) flow

    heard-long : (o : Option StreamEvent) → gained n201 (port_of s).received value ≡ o → heard_at n201 u ≡ heard_at n201 s + length (option_to_list o)
    heard-long o e =
        ap (λ (p : Port). length (heard_in n201 p.received)) after-it ∙ ap length (heard_with n201 (port_of s).received value)
        ∙ ap (λ o. length (heard_in n201 (port_of s).received ++ option_to_list o)) e ∙ length-append (heard_in n201 (port_of s).received) (option_to_list o)

    put-same : put_at u ≡ put_at s
    put-same = ap (λ (p : Port). length p.items) after-it

    station-then : (o : Option StreamEvent) → gained n201 (port_of s).received value ≡ o → as_endpoint there u ≡ if_meant (option_map line.hears o) (as_endpoint there s)
    station-then o e =
        heard-as value s there ∙ ap (λ n. if_meant (option_map line.hears (gained n (port_of s).received value)) (as_endpoint there s)) (ap (λ (x : Config). x.n201) (config c fits.ranged s h.near) ∙ fits.size)
        ∙ ap (λ o. if_meant (option_map line.hears o) (as_endpoint there s)) e

    pub hears-one : Does ws (value ∷ more) there back (happens (port.octet value) s) ws more
    hears-one = by-option (gained n201 (port_of s).received value) (λ e.
        let a = heard-long None e in let takes = sum-none near_takes (wire_of s r there back) in let puts = sum-none near_sends (wire_of s r there back) in let b = put-same in
        record {
          there' = there;
          back' = back;
          joined = record { near = goes-on c s (port.octet value) tt h.near; far = h.far; goes = goes-same; comes = comes-then back (none-heard n201 (flagged k (port_of r)) (value ∷ more) (port_of s).received back h.comes value more refl e) };
          o = None;
          talk = tt;
          same = does-none (wire_of s r there back) ∙ (λ i. record { near = sym (station-then None e) i; far = as_endpoint back r });
          heard = omega (arith, a, takes);
          put = omega (arith, b, puts);
        })
        (λ event e.
        let sound = subst (λ n. IsSoundPort n (port_of r)) fits_far.size (sound-port d fits_far.ranged r h.far) in
        let x = brings n201 k (port_of r) value more (port_of s).received back h.comes sound (on-line d fits_far.ranged r h.far) event e in let step = wire.at_near wire.receives in
        let a = heard-long (Some event) e in let takes = sum-one near_takes step (wire_of s r there back) ∙ ap one_if_any x.are in let puts = sum-one near_sends step (wire_of s r there back) in let b = put-same in
        let size = ap (λ (k : Config). came k.n201 x.first) (config c fits.ranged s h.near) ∙ ap (λ n. came n x.first) fits.size ∙ x.whole ∙ sym x.event in
        record {
          there' = there;
          back' = x.rest;
          joined = record { near = goes-on c s (port.octet value) tt h.near; far = h.far; goes = goes-same; comes = comes-then x.rest x.flow };
          o = Some wire.receives;
          talk = tt;
          same = does-one step (wire_of s r there back) ∙ (λ i. record { near = wire.with_first_of (x.are i) (as_endpoint there s); far = as_endpoint (drop 1 (x.are i)) r })
              ∙ (λ i. record { near = (ap (λ e. wire.happens (line.hears e) (as_endpoint there s)) size ∙ sym (station-then (Some event) e)) i; far = as_endpoint x.rest r });
          heard = omega (arith, a, takes);
          put = omega (arith, b, puts);
        })
