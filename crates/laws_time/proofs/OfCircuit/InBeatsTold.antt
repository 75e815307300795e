-- In how many beats all is told, if so many turns are left for it at most.
use Rattle.laws_time.proofs.Vocabulary.{All, All-append, All-cons, All-head, All-nil, All-tail, AreShort, Beat, Bool, CanCall, Clocked, FrameEndpoint, IsDataOf, IsStill, IsTalk, Line, LineTold, List, NextFrame, None, NoneFallsDue, OctetEndpoint as Endpoint, Option, Request, Some, Wire, [], after, all-paid, ap, append-nil, arith, beat, came, clean, doing-append, drop, false, fold-append, framed}
use Rattle.laws_time.proofs.Vocabulary.{frames_among, gave, heard_in, is_any, length, length-append, length-map, length-replicate, longest, next, nil_from_length, on_ways, plain, port_of, refl, replicate, subst, suc, suc-mul, sym, takings-append, true, wire_doing_all, wire_turns, zero, ℕ, if◌then◌else◌, ◌*◌, ◌++◌, ◌+◌, ◌-◌, ◌∙◌, ◌∷◌, ◌≡◌, ◌≤◌}
use Rattle.model_bits.specs.Stream as stream
use Rattle.model_line.specs.Event as line
use Rattle.laws_wire.proofs.Answered.{gives-taken}
use Rattle.laws_wire.specs.Call as call
use Rattle.laws_wire.specs.Wire as wire
use Rattle.laws_order.proofs.OfCircuit.Takings.{is_taking}
unfoldable use Rattle.laws_order.proofs.OfCircuit.Takings.{takings}
use Rattle.laws_time.proofs.OfCircuit.AckedCall.{steps-keep, sum_all, sends_of, near_sends, far_sends}
use Rattle.laws_time.proofs.OfCircuit.AckedWire.{one_if_any, near_takes, far_takes}
use Rattle.laws_time.proofs.OfCircuit.AgainLaw.{Since, since-all}
use Rattle.laws_time.proofs.OfCircuit.ArrivIdle.{untaken}
use Rattle.laws_time.proofs.OfCircuit.ArrivWay.{Flow}
use Rattle.laws_time.proofs.OfCircuit.InBeatsFrames.{Comes, are-calls, come-from, few-left, near-puts, far-puts, short-before, short-always}
use Rattle.laws_time.proofs.OfCircuit.Joined.{IsOf, IsAtOf, all-talk, heard_at, wire_of}
use Rattle.laws_time.proofs.OfCircuit.Led as led
use Rattle.laws_time.proofs.OfCircuit.Led.{plain-clean, plain-asks, undue-parts, data-is, data-talks}

-- ---- nothing is asked for

abbrev pub NoRequest : Request → Type 0
NoRequest q = ⊥

abbrev pub Mute : wire.StepAt → Type 0
Mute k = IsAtOf NoRequest k

gives-some : (s : FrameEndpoint) → wire.frames_by (wire.answered next s) ≡ [] → wire.answered next s ≡ gave None
gives-some s none = go _ (gives-taken s)
  where
    go : (o : Option NextFrame) → wire.answered next s ≡ gave o → wire.answered next s ≡ gave None
    go None is = is
    go (Some f) is = absurd (cc (sym (ap wire.frames_by is) ∙ none))

-- A frame is called for where none is, or received where none comes.
sends-none : (f : Wire) → wire.answered next f.near ≡ gave None → wire.acting wire.sends f ≡ f
sends-none f none = ap (λ (x : FrameEndpoint). record f { near = x }) (untaken f.near none)

receives-none : (f : Wire) → f.far.way ≡ [] → wire.acting wire.receives f ≡ f
receives-none f none = (λ i. record { near = wire.with_first_of (none i) f.near; far = record f.far { way = drop 1 (none i) } }) ∙ (λ i. record f { far = record f.far { way = sym none i } })

front-nil : (xs ys : List (List ℕ)) → xs ++ ys ≡ [] → ys ≡ []
front-nil [] ys is = is
front-nil (x ∷ xs) ys is = absurd (cc is)

none-any : (xs : List (List ℕ)) → is_any xs ≡ false → xs ≡ []
none-any [] is = refl
none-any (x ∷ xs) is = absurd (cc is)

abbrev one_if : Bool → ℕ
one_if b = if b then 1 else 0

zero-if : (b : Bool) → one_if b ≡ 0 → b ≡ false
zero-if false is = refl
zero-if true is = absurd (cc is)

-- With a step that takes nothing off the ways, and leaves none on them, nothing happens.
record Quiet (k : wire.StepAt) (f : Wire) : Type 0 where
  same : wire.doing k f ≡ f
  near : 1 ≤ near_sends k f → wire.answered next f.near ≡ gave None
  far : 1 ≤ far_sends k f → wire.answered next f.far ≡ gave None

by-mute : (P : wire.Step → Type 0) → P wire.sends → P wire.receives → (act : wire.Step) → IsOf NoRequest act → P act
by-mute P gives takes (wire.requests q) is = absurd is
by-mute P gives takes (wire.expires t) is = absurd is
by-mute P gives takes wire.loses is = absurd is
by-mute P gives takes wire.sends is = gives
by-mute P gives takes wire.receives is = takes

quiet-near : (act : wire.Step) → IsOf NoRequest act → (f : Wire) → (one_if (is_taking (wire.at_near act) f)) ≡ 0 → (wire.acting act f).near.way ≡ [] → (wire.acting act f ≡ f) × (1 ≤ sends_of act → wire.answered next f.near ≡ gave None)
quiet-near act is f =
    by-mute (λ act. (one_if (is_taking (wire.at_near act) f)) ≡ 0 → (wire.acting act f).near.way ≡ [] → (wire.acting act f ≡ f) × (1 ≤ sends_of act → wire.answered next f.near ≡ gave None))
    (λ none near. let gives = gives-some f.near (front-nil f.near.way (wire.frames_by (wire.answered next f.near)) near) in (sends-none f gives, λ some. gives))
    (λ none near. (receives-none f (none-any f.far.way (zero-if (is_any f.far.way) none)), λ some. absurd (omega (arith, some)))) act is

quiet-one : (k : wire.StepAt) → Mute k → (f : Wire) → (one_if (is_taking k f)) ≡ 0 → (wire.doing k f).near.way ≡ [] → (wire.doing k f).far.way ≡ [] → Quiet k f
quiet-one (wire.at_near act) is f none near far = let x = quiet-near act is f none near in record { same = x.0; near = x.1; far = λ some. absurd (omega (arith, some)) }
quiet-one (wire.at_far act) is f none near far = let x = quiet-near act is (wire.turned f) none far in record { same = ap wire.turned x.0; near = λ some. absurd (omega (arith, some)); far = x.1 }

record AllQuiet (es : List wire.StepAt) (f : Wire) : Type 0 where
  same : wire.doing_all es f ≡ f
  near : 1 ≤ sum_all near_sends es f → wire.answered next f.near ≡ gave None
  far : 1 ≤ sum_all far_sends es f → wire.answered next f.far ≡ gave None

all-quiet : (es : List wire.StepAt) → All Mute es → (f : Wire) → takings es f ≡ 0 → (wire.doing_all es f).near.way ≡ [] → (wire.doing_all es f).far.way ≡ [] → AllQuiet es f
unfolding wire_doing_all takings sum_all
all-quiet [] mute f none near far = record { same = refl; near = λ some. absurd (omega (arith, some)); far = λ some. absurd (omega (arith, some)) }
all-quiet (k ∷ ks) mute f none near far =
    let f' = wire.doing k f in let rest = all-quiet ks (All-tail Mute k ks mute) f' (omega (arith, none)) near far in
    let one = quiet-one k (All-head Mute k ks mute) f (omega (arith, none)) (sym (ap (λ (f : Wire). f.near.way) rest.same) ∙ near) (sym (ap (λ (f : Wire). f.far.way) rest.same) ∙ far) in
    record { same = rest.same ∙ one.same; near = λ some. by-near one rest some; far = λ some. by-far one rest some }
  where
    by-near : Quiet k f → AllQuiet ks (wire.doing k f) → 1 ≤ near_sends k f + sum_all near_sends ks (wire.doing k f) → wire.answered next f.near ≡ gave None
    by-near one rest some = go (near_sends k f) refl
      where
        go : (n : ℕ) → near_sends k f ≡ n → wire.answered next f.near ≡ gave None
        go zero is = ap (λ (f : Wire). wire.answered next f.near) (sym one.same) ∙ rest.near (omega (arith, some, is))
        go (suc n) is = one.near (omega (arith, is))

    by-far : Quiet k f → AllQuiet ks (wire.doing k f) → 1 ≤ far_sends k f + sum_all far_sends ks (wire.doing k f) → wire.answered next f.far ≡ gave None
    by-far one rest some = go (far_sends k f) refl
      where
        go : (n : ℕ) → far_sends k f ≡ n → wire.answered next f.far ≡ gave None
        go zero is = ap (λ (f : Wire). wire.answered next f.far) (sym one.same) ∙ rest.far (omega (arith, some, is))
        go (suc n) is = one.far (omega (arith, is))

-- Where no turn is left none comes.
still-near : (act : wire.Step) → IsOf NoRequest act → (f : Wire) → wire.answered next f.near ≡ gave None → f.far.way ≡ [] → wire.acting act f ≡ f
still-near act is f near way = by-mute (λ act. wire.acting act f ≡ f) (sends-none f near) (receives-none f way) act is

still-one : (k : wire.StepAt) → Mute k → (f : Wire) → IsStill f → wire.doing k f ≡ f
still-one (wire.at_near act) is f h = still-near act is f h.near h.far_way
still-one (wire.at_far act) is f h = ap wire.turned (still-near act is (wire.turned f) h.far h.near_way)

stays-still : (es : List wire.StepAt) → All Mute es → (f : Wire) → IsStill f → wire.doing_all es f ≡ f
stays-still es mute f h = steps-keep (λ g. g ≡ f) Mute (λ k g is same. ap (wire.doing k) same ∙ still-one k is f h) es mute f refl

-- Nothing is granted meanwhile.
abbrev pub granted_on : Wire → ℕ
granted_on f = length f.near.granted + length f.far.granted

granted-gives : (s : FrameEndpoint) → length (wire.happens next s).granted ≡ length s.granted
granted-gives s = ap (λ a. length (s.granted ++ wire.unless_refused a [])) (gives-taken s) ∙ ap length (append-nil s.granted)

none-given : (a : line.Answer) → wire.unless_refused a [] ≡ []
none-given a = grind arith

granted-takes : (way : List (List ℕ)) (s : FrameEndpoint) → length (wire.with_first_of way s).granted ≡ length s.granted
granted-takes [] s = refl
granted-takes (o ∷ os) s = ap (λ xs. length (s.granted ++ xs)) (none-given (wire.answered (line.hears (came s.card.config.n201 o)) s)) ∙ ap length (append-nil s.granted)

granted-near : (act : wire.Step) → IsOf NoRequest act → (f : Wire) → granted_on (wire.acting act f) ≡ granted_on f
granted-near act is f = let gives = granted-gives f.near in let takes = granted-takes f.far.way f.near in by-mute (λ act. granted_on (wire.acting act f) ≡ granted_on f) (omega (arith, gives)) (omega (arith, takes)) act is

granted-one : (k : wire.StepAt) → Mute k → (f : Wire) → granted_on (wire.doing k f) ≡ granted_on f
granted-one (wire.at_near act) is f = granted-near act is f
granted-one (wire.at_far act) is f = let one = granted-near act is (wire.turned f) in omega (arith, one)

granted-all : (es : List wire.StepAt) → All Mute es → (f : Wire) → granted_on (wire.doing_all es f) ≡ granted_on f
granted-all es mute f = steps-keep (λ g. granted_on g ≡ granted_on f) Mute (λ k g is same. granted-one k is g ∙ same) es mute f refl

-- How many frames are taken.
any-one : (way : List (List ℕ)) → one_if_any way ≡ one_if (is_any way)
any-one [] = refl
any-one (o ∷ os) = refl

taken-one : (k : wire.StepAt) (f : Wire) → near_takes k f + far_takes k f ≡ (one_if (is_taking k f))
taken-one k f = grind (arith, any-one)

taken-all : (es : List wire.StepAt) (f : Wire) → sum_all near_takes es f + sum_all far_takes es f ≡ takings es f
unfolding sum_all takings
taken-all [] f = refl
taken-all (k ∷ ks) f = let one = taken-one k f in let rest = taken-all ks (wire.doing k f) in omega (arith, one, rest)

turns-one : (es : List wire.StepAt) (k : wire.StepAt) (f : Wire) → wire_turns (es ++ k ∷ []) f ≡ wire_turns es f + one_if (wire.is_turn k (wire.doing_all es f))
unfolding wire_turns wire_doing_all
turns-one [] k f = omega arith
turns-one (e ∷ es) k f = let rest = turns-one es k (wire.doing e f) in omega (arith, rest)

-- What was put and was not heard is on the way.
pub heard-all : (n201 k : ℕ) (s r r' : Endpoint) (ws : List ℕ) (frames : List (List ℕ)) (n : ℕ) → Flow n201 k (port_of s) ws (port_of r).received frames
    → (more : List stream.Event) × (heard_in n201 (port_of r').received ≡ framed (frames_among (port_of s).items) ++ more) → heard_at n201 r' ≡ heard_at n201 r + n → length frames ≤ n
heard-all n201 k s r r' ws frames n flow all tallied =
    let put = sym (length-map (frames_among (port_of s).items) (λ octets. stream.frame octets)) ∙ ap length flow.are ∙ length-append (heard_in n201 (port_of r).received) (framed frames) in
    let long = length-map frames (λ octets. stream.frame octets) in let whole = ap length all.1 ∙ length-append (framed (frames_among (port_of s).items)) all.0 in
    let same = length-map (frames_among (port_of s).items) (λ octets. stream.frame octets) in omega (arith, put, long, whole, same, tallied)

replicate-both : (i j : ℕ) → replicate (i + j) plain ≡ replicate i plain ++ replicate j plain
replicate-both zero j = ap (λ n. replicate n plain) (let e : zero + j ≡ j = omega arith in e)
replicate-both (suc i) j = ap (λ n. replicate n plain) (let e : suc i + j ≡ suc (i + j) = omega arith in e) ∙ ap (λ bs. plain ∷ bs) (replicate-both i j)

module _ (l : Line) (can : CanCall l.near l.near_line l.far l.far_line l.tei) where
  -- Beats in which nothing is asked for.
  abbrev MuteTo : (s r : Endpoint) (there back : List (List ℕ)) → Clocked → Type 0
  MuteTo s r there back u = led.LedTo l can NoRequest (λ q is. absurd is) s r there back u

  plain-talk : (n : ℕ) → All (IsTalk l) (replicate n plain)
  plain-talk n = data-talks l (replicate n plain) (plain-asks (IsDataOf l) n)

  mute-led : (n : ℕ) (w : Clocked) (there back : List (List ℕ)) → led.Both l can w.near.at w.far.at w.near.at.way w.far.at.way there back → NoneFallsDue l.rate (replicate n plain) w
      → MuteTo w.near.at w.far.at there back (clean l.rate n w)
  mute-led n w there back h undue =
      led.led-all l can NoRequest (λ q is. absurd is) w.near.at w.far.at there back (replicate n plain) (plain-asks NoRequest n) (plain-clean n) w undue
      (led.led-none l can NoRequest (λ q is. absurd is) w.near.at w.far.at there back w.near.at.way w.far.at.way h)

  clean-both : (i j : ℕ) (w : Clocked) → clean l.rate (i + j) w ≡ clean l.rate j (clean l.rate i w)
  clean-both i j w = ap (λ bs. after l.rate bs w) (replicate-both i j) ∙ fold-append (beat l.rate) w (replicate i plain) (replicate j plain)

  undue-both : (i j : ℕ) (w : Clocked) → NoneFallsDue l.rate (replicate (i + j) plain) w → NoneFallsDue l.rate (replicate i plain) w × NoneFallsDue l.rate (replicate j plain) (clean l.rate i w)
  undue-both i j w undue = undue-parts l.rate (replicate i plain) (replicate j plain) w (subst (λ bs. NoneFallsDue l.rate bs w) (replicate-both i j) undue)

  -- From two ends with nothing in transit, from where so many turns are left at most.
  module _ (s0 r0 : Endpoint) (most : ℕ) (near_due far_due : List (List ℕ) → List LineTold)
      (comes : (es : List wire.StepAt) → All (call.IsTalk l.service l.tei) es → Comes l.service l.tei most near_due far_due (wire_of s0 r0 [] []) es) where
    abbrev f0 : Wire
    f0 = wire_of s0 r0 [] []

    record Reached (w : Clocked) : Type 0 where
      there : List (List ℕ)
      back : List (List ℕ)
      joined : led.Both l can w.near.at w.far.at w.near.at.way w.far.at.way there back
      es : List wire.StepAt
      talk : All (call.IsTalk l.service l.tei) es
      leads : wire.doing_all es (wire_of s0 r0 [] []) ≡ wire_of w.near.at w.far.at there back

    abbrev at_wire : (w : Clocked) → Reached w → Wire
    at_wire w h = wire_of w.near.at w.far.at h.there h.back

    reached : (w : Clocked) → led.LedTo l can (IsDataOf l) (λ q is. is) s0 r0 [] [] w → Reached w
    reached w h = record { there = h.there; back = h.back; joined = h.joined; es = h.es; talk = all-talk (IsDataOf l) l.service l.tei (data-is l) h.es h.talk; leads = h.leads }

    abbrev goes-on : (w u : Clocked) (h : Reached w) → MuteTo w.near.at w.far.at h.there h.back u → Reached u
    goes-on w u h x = record {
      there = x.there;
      back = x.back;
      joined = x.joined;
      es = h.es ++ x.es;
      talk = All-append (call.IsTalk l.service l.tei) h.es x.es h.talk (all-talk NoRequest l.service l.tei (λ q is. absurd is) x.es x.talk);
      leads = doing-append h.es x.es f0 ∙ ap (wire.doing_all x.es) h.leads ∙ x.leads;
    }

    -- Where as many frames were taken as turns are left for, none is left.
    module _ (w : Clocked) (h : Reached w) (enough : most + 2 * granted_on (at_wire w h) ≤ takings h.es f0 + 2 * granted_on f0) where
      paid : 2 * takings h.es f0 + on_ways (at_wire w h) ≤ wire_turns h.es f0
      paid = subst (λ f. 2 * takings h.es f0 + on_ways f ≤ wire_turns h.es f0) h.leads
          (let all = all-paid l.service l.tei h.es (are-calls l.service l.tei h.es h.talk) f0 in let none : on_ways f0 ≡ 0 = refl in omega (arith, all, none))

      bound : wire_turns h.es f0 + 4 * granted_on f0 ≤ 2 * most + 4 * granted_on (at_wire w h)
      bound = subst (λ f. wire_turns h.es f0 + 4 * granted_on f0 ≤ 2 * most + 4 * granted_on f) h.leads (comes h.es h.talk).turns

      no-turn : (k : wire.StepAt) → Mute k → call.IsTalk l.service l.tei k → wire.is_turn k (at_wire w h) ≡ false
      no-turn k mute talk =
          let es = h.es ++ k ∷ [] in
          let most_turns = (comes es (All-append (call.IsTalk l.service l.tei) h.es (k ∷ []) h.talk (All-cons (call.IsTalk l.service l.tei) k [] talk (All-nil (call.IsTalk l.service l.tei))))).turns in
          let one = turns-one h.es k f0 ∙ ap (λ f. wire_turns h.es f0 + one_if (wire.is_turn k f)) h.leads in
          let same = ap granted_on (doing-append h.es (k ∷ []) f0 ∙ ap (wire.doing_all (k ∷ [])) h.leads) ∙ granted-all (k ∷ []) (All-cons Mute k [] mute (All-nil Mute)) (at_wire w h) in
          let so_far = paid in zero-if (wire.is_turn k (at_wire w h)) (omega (arith, most_turns, one, same, so_far, enough))

      spent : IsStill (at_wire w h)
      spent =
          let f = at_wire w h in let a = paid in let b = bound in record {
            near = gives-some f.near (none-any (wire.frames_by (wire.answered next f.near)) (no-turn (wire.at_near wire.sends) tt tt));
            far = gives-some f.far (none-any (wire.frames_by (wire.answered next f.far)) (no-turn (wire.at_far wire.sends) tt tt));
            near_way = nil_from_length f.near.way (omega (arith, a, b, enough));
            far_way = nil_from_length f.far.way (omega (arith, a, b, enough));
          }

    abbrev Found : Clocked → Type 0
    Found u = (h : Reached u) × IsStill (at_wire u h)

    stays : (n : ℕ) (w : Clocked) (h : Reached w) → NoneFallsDue l.rate (replicate n plain) w → IsStill (at_wire w h) → Found (clean l.rate n w)
    stays n w h undue still =
        let x = mute-led n w h.there h.back h.joined undue in (goes-on w (clean l.rate n w) h x, subst IsStill (sym (stays-still x.es x.talk (at_wire w h) still) ∙ x.leads) still)

    -- In so many beats a frame is taken, or no turn is left where they begin.
    module _ (m : ℕ) (w : Clocked) (since : Since l can 0 w) (h : Reached w) (small : AreShort m w.near) (small_far : AreShort m w.far) where
      abbrev w1 : Clocked
      w1 = clean l.rate (longest m) w

      since1 : Since l can 0 w1
      since1 = since-all l can 0 (replicate (longest m) plain) (plain-talk (longest m)) (plain-clean (longest m)) w since

      module _ (x1 : MuteTo w.near.at w.far.at h.there h.back (clean l.rate (longest m) w)) (small1 : AreShort m (clean l.rate (longest m) w).near) (small1_far : AreShort m (clean l.rate (longest m) w).far)
          (x2 : MuteTo (clean l.rate (longest m) w).near.at (clean l.rate (longest m) w).far.at x1.there x1.back (clean l.rate (longest m + l.way) (clean l.rate (longest m) w)))
          (none : takings x1.es (at_wire w h) + takings x2.es (wire_of (clean l.rate (longest m) w).near.at (clean l.rate (longest m) w).far.at x1.there x1.back) ≡ 0) where
        abbrev f1 : Wire
        f1 = wire_of w1.near.at w1.far.at x1.there x1.back

        ways : (x1.there ≡ []) × (x1.back ≡ [])
        ways =
            let M = longest m + l.way in let long = length-replicate {A = Beat} M plain in
            let come = come-from l can m (replicate M plain) (plain-talk M) (plain-clean M) w1 since1 (omega (arith, long)) small1 small1_far in
            let w2 = clean l.rate M w1 in let sum = taken-all x2.es f1 in
            let a = heard-all l.near.n201 l.way w1.near.at w1.far.at w2.far.at w1.near.at.way x1.there (sum_all far_takes x2.es f1) x1.joined.goes come.0 x2.far_heard in
            let b = heard-all l.near.n201 l.way w1.far.at w1.near.at w2.near.at w1.far.at.way x1.back (sum_all near_takes x2.es f1) x1.joined.comes come.1 x2.near_heard in
            (nil_from_length x1.there (omega (arith, a, sum, none)), nil_from_length x1.back (omega (arith, b, sum, none)))

        still-here : IsStill (at_wire w h)
        still-here =
            let f = at_wire w h in let L = replicate (longest m) plain in let long = length-replicate {A = Beat} (longest m) plain in
            let q = all-quiet x1.es x1.talk f (omega (arith, none)) (ap (λ (f : Wire). f.near.way) x1.leads ∙ ways.0) (ap (λ (f : Wire). f.far.way) x1.leads ∙ ways.1) in
            let few = few-left l can m w since.both small small_far in let a = few.0 in let b = few.1 in let put = near-puts l can L (plain-talk (longest m)) w since.both (omega (arith, a, long)) in
            let put_far = far-puts l can L (plain-talk (longest m)) w since.both (omega (arith, b, long)) in let n = x1.near_put in let k = x1.far_put in
            record {
              near = q.near (omega (arith, put, n));
              far = q.far (omega (arith, put_far, k));
              near_way = ap (λ (f : Wire). f.near.way) (sym q.same ∙ x1.leads) ∙ ways.0;
              far_way = ap (λ (f : Wire). f.far.way) (sym q.same ∙ x1.leads) ∙ ways.1;
            }

    finds : (m k n : ℕ) (w : Clocked) → k * (longest m + (longest m + l.way)) ≤ n → Since l can 0 w → (h : Reached w) → NoneFallsDue l.rate (replicate n plain) w → AreShort m (clean l.rate n w).near → AreShort m (clean l.rate n w).far
        → most + 2 * granted_on (at_wire w h) ≤ takings h.es f0 + 2 * granted_on f0 + k → Found (clean l.rate n w)
    finds m zero n w enough since h undue small small_far left = stays n w h undue (spent w h (omega (arith, left)))
    finds m (suc k) n w enough since h undue small small_far left =
        let L = longest m in let M = L + l.way in let rest = n - (L + M) in let sum = suc-mul k (L + M) in let same : L + (M + rest) ≡ n = omega (arith, enough, sum) in
        let p = undue-both L (M + rest) w (subst (λ n. NoneFallsDue l.rate (replicate n plain) w) (sym same) undue) in let w1 = clean l.rate L w in let w2 = clean l.rate M w1 in
        let q = undue-both M rest w1 p.1 in let led_to : clean l.rate n w ≡ clean l.rate rest w2 = ap (λ n. clean l.rate n w) (sym same) ∙ clean-both L (M + rest) w ∙ clean-both M rest w1 in
        let since1 = since-all l can 0 (replicate L plain) (plain-talk L) (plain-clean L) w since in let since2 = since-all l can 0 (replicate M plain) (plain-talk M) (plain-clean M) w1 since1 in
        let last = subst (λ (u : Clocked). AreShort m u.near) led_to small in let last_far = subst (λ (u : Clocked). AreShort m u.far) led_to small_far in
        let s2 = short-before l can m (replicate rest plain) (plain-talk rest) w2 since2.both last last_far in
        let s1 = short-before l can m (replicate M plain) (plain-talk M) w1 since1.both s2.0 s2.1 in let s0 = short-before l can m (replicate L plain) (plain-talk L) w since.both s1.0 s1.1 in
        let x1 = mute-led L w h.there h.back h.joined p.0 in let h1 = goes-on w w1 h x1 in let x2 = mute-led M w1 x1.there x1.back x1.joined q.0 in let h2 = goes-on w1 w2 h1 x2 in
        let f = at_wire w h in let f1 = at_wire w1 h1 in let t1 = takings-append h.es x1.es f0 ∙ ap (λ g. takings h.es f0 + takings x1.es g) h.leads in
        let t2 = takings-append h1.es x2.es f0 ∙ ap (λ g. takings h1.es f0 + takings x2.es g) h1.leads in let g1 = ap granted_on (sym x1.leads) ∙ granted-all x1.es x1.talk f in
        let g2 = ap granted_on (sym x2.leads) ∙ granted-all x2.es x2.talk f1 in
        go (takings x1.es f + takings x2.es f1) (λ some. subst Found (sym led_to) (finds m k rest w2 (omega (arith, enough, sum, same)) since2 h2 q.1 last last_far (omega (arith, left, t1, t2, g1, g2, some))))
        (λ none. stays n w h undue (still-here m w since h s0.0 s0.1 x1 s1.0 s1.1 x2 none))
      where
        go : {A : Type 0} (t : ℕ) → (1 ≤ t → A) → (t ≡ 0 → A) → A
        go zero some none = none refl
        go (suc t) some none = some (omega arith)

    -- So all is told.
    abbrev pub AllIsTold : Clocked → Type 0
    AllIsTold u = (u.near.at.told ≡ near_due u.far.at.granted) × (u.far.at.told ≡ far_due u.near.at.granted)

    pub told-in : (m k n : ℕ) (w : Clocked) → k ≡ most + 2 * (length w.near.at.granted + length w.far.at.granted - (length s0.granted + length r0.granted)) → k * (longest m + (longest m + l.way)) ≤ n → Since l can 0 w
        → led.LedTo l can (IsDataOf l) (λ q is. is) s0 r0 [] [] w → NoneFallsDue l.rate (replicate n plain) w → AreShort m (clean l.rate n w).near → AreShort m (clean l.rate n w).far → AllIsTold (clean l.rate n w)
    told-in m k n w so enough since h undue small small_far =
        let x = finds m k n w enough since (reached w h) undue small small_far (omega (arith, so)) in let c = comes x.0.es x.0.talk in let u = clean l.rate n w in
        let told = subst (λ (f : Wire). (IsStill f → f.near.told ≡ near_due f.far.granted) × (IsStill f → f.far.told ≡ far_due f.near.granted)) x.0.leads (c.near_all, c.far_all) in
        (told.0 x.1, told.1 x.1)

    pub told-always : (k n : ℕ) (w : Clocked) → k ≡ most + 2 * (length w.near.at.granted + length w.far.at.granted - (length s0.granted + length r0.granted)) → k * (longest l.near.n201 + (longest l.near.n201 + l.way)) ≤ n → Since l can 0 w
        → led.LedTo l can (IsDataOf l) (λ q is. is) s0 r0 [] [] w → NoneFallsDue l.rate (replicate n plain) w → AllIsTold (clean l.rate n w)
    told-always k n w so enough since h undue =
        let s = short-always l can (clean l.rate n w) (since-all l can 0 (replicate n plain) (plain-talk n) (plain-clean n) w since).both in told-in l.near.n201 k n w so enough since h undue s.0 s.1
