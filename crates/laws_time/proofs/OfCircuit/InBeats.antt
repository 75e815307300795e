-- A call without noise, in which no timer falls due: so many beats after the last request all is told.
use Rattle.laws_time.proofs.Vocabulary.{ACallTakesBeats, AShortCallTakesBeats, All, All-append, All-cons, All-head, All-nil, All-tail, AreShort, AsksData, Beat, Begins, Call, CanCall, Clocked, Data, Delivers, Establish, FrameEndpoint, IsAtRest, IsClean, IsDataOf, IsInRange, IsOfLink, IsStill, IsTalk, IsToldAll, IsToldSince, Line, LineTold, List, MessagesTakeBeats, NoneFallsDue, Request}
use Rattle.laws_time.proofs.Vocabulary.{ShortMessagesTakeBeats, TimedEndpoint, ToldSince, Wire, [], after, ap, arith, as_frames, asked-as, asked-way, asks, beat, begins, calls, cards-deliver, clean, confirmed, data_told, drop, due_since, duration, enough_beats, false, fold, granted_in, indicated, its_line, length, length-drop, longest, map, most_turns, network, nil_from_length}
use Rattle.laws_time.proofs.Vocabulary.{one_granted, own_link, plain, port_of, refl, replicate, sapi_fault, subst, suc-mul, sym, unsent_at, user, wire_doing_all, wire_turns, ℕ, ◌*◌, ◌++◌, ◌+◌, ◌-◌, ◌/◌, ◌<◌, ◌∙◌, ◌∷◌, ◌≡◌, ◌≤◌, Port}
use Rattle.model_line.specs.Event as line
use Rattle.laws_wire.specs.Call as call
use Rattle.laws_wire.specs.Wire as wire
use Rattle.lapd_clock.specs.Timer.{Timer}
use Rattle.laws_time.proofs.OfCircuit.AgainLaw.{Since, since-all}
use Rattle.laws_time.proofs.OfCircuit.Words.{at_time, port-is, ran-begun, station-is, way-is}
use Rattle.laws_time.proofs.OfCircuit.InBeatsFrames.{Comes, Due, near-none, far-none, call-comes, since-begun, none-left}
use Rattle.laws_time.proofs.OfCircuit.InBeatsTold.{told-in, told-always}
use Rattle.laws_time.proofs.OfCircuit.ArrivWay.{first-flow}
use Rattle.laws_time.proofs.OfCircuit.Joined.{asked-joined, wire_of}
use Rattle.laws_time.proofs.OfCircuit.Led.{Both, LedTo, fits, fits-far, led-none, led-asked, led-then, led-all, near-pulled, far-pulled, data-talks, undue-parts, plain-clean}
use Rattle.laws_time.specs.circuit.WorkedInBeats.{talks}
use Rattle.laws_time.proofs.OfCircuit.InBeatsDue.{none-at-first}

-- As the call is asked for.
module _ (l : Line) (can : CanCall l.near l.near_line l.far l.far_line l.tei) where
  abbrev ring : Request
  ring = Establish l.service l.tei

  abbrev pub ringing : TimedEndpoint
  ringing = asks (at_time ((begins l).beats / l.rate) (begins l).near) (Establish l.service l.tei)

  abbrev pub silent : TimedEndpoint
  silent = at_time ((begins l).beats / l.rate) (begins l).far

  pub both-begun : Both l can (begins l).near.at (begins l).far.at (begins l).near.at.way (begins l).far.at.way [] []
  both-begun =
      let here = port-is l.near can.near.0 l.near_line l.tei l.way can.near.1 in let there = port-is l.far can.far.0 l.far_line l.tei l.way can.far.1 in
      record {
        near = ran-begun l.near can.near.0 l.near_line l.tei l.way can.near.1;
        far = ran-begun l.far can.far.0 l.far_line l.tei l.way can.far.1;
        goes = first-flow l.near.n201 l.way (port_of (begins l).near.at) (begins l).near.at.way (port_of (begins l).far.at).received here (ap (λ (p : Port). p.received) there) (way-is l.near can.near.0 l.near_line l.tei l.way can.near.1);
        comes = first-flow l.near.n201 l.way (port_of (begins l).far.at) (begins l).far.at.way (port_of (begins l).near.at).received there (ap (λ (p : Port). p.received) here) (way-is l.far can.far.0 l.far_line l.tei l.way can.far.1);
      }

  pub both-rung : Both l can ringing.at silent.at ringing.at.way silent.at.way [] []
  both-rung =
      subst (λ ws. Both l can ringing.at silent.at ws silent.at.way [] []) (sym (asked-way ring (begins l).near.at))
      (asked-joined (λ q. Unit {0}) l.near.n201 l.way l.near l.far (fits l can) (fits-far l can) (begins l).near.at (begins l).far.at ring (All-nil (λ octet. octet < 256))
      (begins l).near.at.way (begins l).far.at.way [] [] both-begun)

  pub begins-so : wire_of ringing.at silent.at [] [] ≡ call.calling l.service l.tei l.near l.near_line l.far l.far_line
  begins-so =
      let here = station-is l.near can.near.0 l.near_line l.tei l.way can.near.1 in let there = station-is l.far can.far.0 l.far_line l.tei l.way can.far.1 in
      let first = asked-as ring (begins l).near.at [] ∙ ap (wire.happens (line.request ring)) here in λ i. record { near = first i; far = there i }

  pub call-talks : (b : Beat) (bs : List Beat) → All (AsksData l) (b ∷ bs) → All (IsTalk l) (calls l b ∷ bs)
  call-talks b bs data_alone =
      let all = data-talks l (b ∷ bs) data_alone in let now = All-head (IsTalk l) b bs all in
      All-cons (IsTalk l) (calls l b) bs (All-cons (IsOfLink l.service l.tei) ring b.near_asks (refl, refl) now.0, now.1) (All-tail (IsTalk l) b bs all)

  -- The first beat, and more.
  module _ (b : Beat) (bs : List Beat) (data_alone : All (AsksData l) (b ∷ bs)) (are_clean : All IsClean (b ∷ bs)) where
    led-so : NoneFallsDue l.rate (calls l b ∷ bs) (begins l) → (LedTo l can (IsDataOf l) (λ q is. is) ringing.at silent.at [] [] (after l.rate (calls l b ∷ bs) (begins l)))
    unfolding NoneFallsDue
    led-so undue =
        let now = All-head (AsksData l) b bs data_alone in let Q = IsDataOf l in let first = led-none l can Q (λ q is. is) ringing.at silent.at [] [] ringing.at.way silent.at.way both-rung in
        let asked = led-asked l can Q (λ q is. is) ringing.at silent.at [] [] b.near_asks b.far_asks now.0 now.1 ringing silent first in
        led-all l can Q (λ q is. is) ringing.at silent.at [] [] bs (All-tail (AsksData l) b bs data_alone) (All-tail IsClean b bs are_clean) (beat l.rate (begins l) (calls l b)) undue.2
        (led-then l can Q (λ q is. is) ringing.at silent.at [] [] (begins l) (calls l b) (All-head IsClean b bs are_clean) (fold asks ringing b.near_asks) (fold asks silent b.far_asks)
        (near-pulled l.rate (begins l) (calls l b) undue.0) (far-pulled l.rate (begins l) (calls l b) undue.1) asked)

    pub since-call : Since l can 0 (after l.rate (calls l b ∷ bs) (begins l))
    since-call = since-begun l can (calls l b ∷ bs) (call-talks b bs data_alone) (All-cons IsClean (calls l b) bs (All-head IsClean b bs are_clean) (All-tail IsClean b bs are_clean))

  abbrev NearDue : List (List ℕ) → List LineTold
  NearDue = Due l.service l.tei (confirmed l.service l.tei)

  abbrev FarDue : List (List ℕ) → List LineTold
  FarDue = Due l.service l.tei (indicated l.service l.tei)

  pub comes : (es : List wire.StepAt) → All (call.IsTalk l.service l.tei) es → Comes l.service l.tei 2 NearDue FarDue (wire_of ringing.at silent.at [] []) es
  comes es all = subst (λ f. Comes l.service l.tei 2 NearDue FarDue f es) (sym begins-so) (call-comes l.service l.tei l.near l.far l.near_line l.far_line can es all)

  pub counts : (w : Clocked) → 2 + 2 * granted_in w ≡ 2 + 2 * (granted_in w - (length ringing.at.granted + length silent.at.granted))
  counts w =
      let one = ap (λ (f : wire.Wire). length f.near.granted) begins-so ∙ ap length (near-none l.service l.tei l.near l.far l.near_line l.far_line can) in
      let two = ap (λ (f : wire.Wire). length f.far.granted) begins-so ∙ ap length (far-none l.service l.tei l.near l.far l.near_line l.far_line can) in omega (arith, one, two)

pub a-call-takes-beats : ACallTakesBeats
a-call-takes-beats l b bs n can data_alone are_clean undue enough =
    let w = after l.rate (calls l b ∷ bs) (begins l) in let p = undue-parts l.rate (calls l b ∷ bs) (replicate n plain) (begins l) undue in
    let x = told-always l can (ringing l can).at (silent l can).at 2 (NearDue l can) (FarDue l can) (comes l can) (2 + 2 * granted_in w) n w (counts l can w) enough (since-call l can b bs data_alone are_clean)
    (led-so l can b bs data_alone are_clean p.0) p.1 in record { near = x.0; far = x.1 }

pub a-short-call-takes-beats : AShortCallTakesBeats
a-short-call-takes-beats l b bs n m can data_alone are_clean undue small small_far enough =
    let w = after l.rate (calls l b ∷ bs) (begins l) in let p = undue-parts l.rate (calls l b ∷ bs) (replicate n plain) (begins l) undue in
    let sum = suc-mul (2 + 2 * granted_in w) (longest m + (longest m + l.way)) in
    let x = told-in l can (ringing l can).at (silent l can).at 2 (NearDue l can) (FarDue l can) (comes l can) m (2 + 2 * granted_in w) n w (counts l can w) (omega (arith, enough, sum)) (since-call l can b bs data_alone are_clean)
    (led-so l can b bs data_alone are_clean p.0) p.1 small small_far in record { near = x.0; far = x.1 }

-- ---- the worked call meets the premises: so after 144 beats more all is told

pub can : CanCall user 0 network 0 0
unfolding sapi_fault
can = record { near = (refl, omega arith); far = (refl, omega arith); opposite = (refl, refl); terminal = omega arith }

one : IsDataOf its_line (Data Call 0 (0xAB ∷ []))
one = (refl, refl, All-cons (λ octet. octet < 256) 0xAB [] (omega arith) (All-nil (λ octet. octet < 256)))

abbrev pub sends : Beat
sends = record plain { near_asks = Data Call 0 (0xAB ∷ []) ∷ [] }

pub asks-one : AsksData its_line sends
asks-one = (All-cons (IsDataOf its_line) (Data Call 0 (0xAB ∷ [])) [] one (All-nil (IsDataOf its_line)), All-nil (IsDataOf its_line))

all-data : All (AsksData its_line) (plain ∷ talks)
all-data = grind arith

runs : (timer : Timer) → 161 ≤ duration its_line.lengths timer
runs timer = grind arith

long : length (calls its_line plain ∷ (talks ++ replicate 144 plain)) ≡ 161
long = refl

enough : enough_beats 8 0 false 1 ≤ 144
enough = omega arith

told-all : IsToldAll its_line (clean 1 144 (after 1 (calls its_line plain ∷ talks) (begins its_line)))
told-all =
    a-call-takes-beats its_line plain talks 144 can all-data (All-append IsClean (replicate 16 plain) (sends ∷ []) (plain-clean 16) (All-cons IsClean sends [] (refl, refl) (All-nil IsClean)))
    (none-at-first its_line (calls its_line plain ∷ (talks ++ replicate 144 plain)) 161 (omega arith) runs runs (omega (arith, long)))
    (subst (λ g. enough_beats 8 0 false g ≤ 144) (sym one_granted) enough)

-- ---- a link at rest on a line without noise: so many beats after the last request all is told that was granted since

module _ (l : Line) (fit : Begins l) where
  abbrev near : IsInRange l.near
  near = fit.call.near.0

  abbrev far : IsInRange l.far
  far = fit.call.far.0

  -- ---- at rest

  unsent-none : (s : FrameEndpoint) → most_turns l.service l.tei s ≡ 0 → unsent_at l.service l.tei s ≡ []
  unsent-none s none = let link = own_link l.service l.tei s in let few = length-drop link.s link.contents in nil_from_length (drop link.s link.contents) (omega (arith, none, few))

  module _ (r : Clocked) (since : Since l fit.call 0 r) (rest : IsAtRest l r) where
    pub joined : Both l fit.call r.near.at r.far.at r.near.at.way r.far.at.way [] []
    joined = none-left l fit.call r since rest.near.received rest.far.received

    abbrev g : Wire
    g = record { near = as_frames r.near; far = as_frames r.far }

    abbrev NearDue_rest : List (List ℕ) → List LineTold
    NearDue_rest granted = r.near.at.told ++ map (data_told l.service l.tei) (drop (length r.far.at.granted) granted)

    abbrev FarDue_rest : List (List ℕ) → List LineTold
    FarDue_rest granted = r.far.at.told ++ map (data_told l.service l.tei) (drop (length r.near.at.granted) granted)

    -- one end
    module _ (before now other other_now : FrameEndpoint) (still : Type 0) (none : unsent_at l.service l.tei other ≡ []) (h : ToldSince still (due_since l.service l.tei other other_now) before now) where
      all-since : still → now.told ≡ before.told ++ map (data_told l.service l.tei) (drop (length other.granted) other_now.granted)
      all-since s = h.1 ∙ ap (λ t. before.told ++ t) (h.2.1 s) ∙ (ap (λ xs. before.told ++ map (data_told l.service l.tei) (xs ++ drop (length other.granted) other_now.granted)) none)

    comes-rest : (es : List wire.StepAt) → All (call.IsTalk l.service l.tei) es → Comes l.service l.tei 0 NearDue_rest FarDue_rest g es
    comes-rest es talk =
        let last = wire_doing_all es g in let h : Delivers l.service l.tei (wire_turns es g) g (wire_doing_all es g) = cards-deliver l.service l.tei es g rest.face talk in
        let turns = h.turns in let none = rest.near.sent in let none_far = rest.far.sent in
        let no_near = unsent-none (as_frames r.near) rest.near.sent in let no_far = unsent-none (as_frames r.far) rest.far.sent in
        record {
          turns = omega (arith, turns, none, none_far);
          near_all = all-since g.near last.near g.far last.far (IsStill last) no_far h.near;
          far_all = all-since g.far last.far g.near last.near (IsStill last) no_near h.far;
        }

    module _ (bs : List Beat) (n : ℕ) (data_alone : All (AsksData l) bs) (are_clean : All IsClean bs) (undue : NoneFallsDue l.rate (bs ++ replicate n plain) r) where
      abbrev w : Clocked
      w = after l.rate bs r

      parts : NoneFallsDue l.rate bs r × NoneFallsDue l.rate (replicate n plain) (after l.rate bs r)
      parts = undue-parts l.rate bs (replicate n plain) r undue

      led : LedTo l fit.call (IsDataOf l) (λ q is. is) r.near.at r.far.at [] [] (after l.rate bs r)
      led = led-all l fit.call (IsDataOf l) (λ q is. is) r.near.at r.far.at [] [] bs data_alone are_clean r parts.0 (led-none l fit.call (IsDataOf l) (λ q is. is) r.near.at r.far.at [] [] r.near.at.way r.far.at.way joined)

      since-then : Since l fit.call 0 (after l.rate bs r)
      since-then = since-all l fit.call 0 bs (data-talks l bs data_alone) are_clean r since

      pub told-since : 2 * (granted_in w - granted_in r) * (longest l.near.n201 + (longest l.near.n201 + l.way)) ≤ n → IsToldSince l r (clean l.rate n w)
      told-since enough =
          let x = told-always l fit.call r.near.at r.far.at 0 NearDue_rest FarDue_rest comes-rest (2 * (granted_in w - granted_in r)) n w (omega arith) enough since-then led parts.1 in record { near = x.0; far = x.1 }

      pub told-short : (m : ℕ) → AreShort m (clean l.rate n w).near → AreShort m (clean l.rate n w).far → (1 + 2 * (granted_in w - granted_in r)) * (longest m + (longest m + l.way)) ≤ n → IsToldSince l r (clean l.rate n w)
      told-short m small small_far enough =
          let k = 2 * (granted_in w - granted_in r) in let sum = suc-mul k (longest m + (longest m + l.way)) in
          let x = told-in l fit.call r.near.at r.far.at 0 NearDue_rest FarDue_rest comes-rest m k n w (omega arith) (omega (arith, enough, sum)) since-then led parts.1 small small_far in record { near = x.0; far = x.1 }

pub messages-take-beats : MessagesTakeBeats
messages-take-beats l b before bs n fit talk data_alone clean_before are_clean rest undue enough =
    told-since l fit (after l.rate (b ∷ before) (begins l)) (since-begun l fit.call (b ∷ before) talk clean_before) rest bs n data_alone are_clean undue enough

pub short-messages-take-beats : ShortMessagesTakeBeats
short-messages-take-beats l b before bs n m fit talk data_alone clean_before are_clean rest undue small small_far enough =
    told-short l fit (after l.rate (b ∷ before) (begins l)) (since-begun l fit.call (b ∷ before) talk clean_before) rest bs n data_alone are_clean undue m small small_far enough
