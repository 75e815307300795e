-- The first beat of a call: layer 3 asks for the establishment, and no timer falls due.
use Rattle.laws_time.proofs.Vocabulary.{ACallComesInTime, All, All-append, All-cons, All-head, All-nil, All-tail, AsksData, Beat, Begins, Bool, Clocked, Config, Establish, Established, Expiry, Face, IsClean, IsDataOf, IsInRange, IsTalk, IsUndue, Lengths, Line, Link, List, NoneFallsDue, OctetEndpoint as Endpoint, Service, Some, StationStands, T203FallsDueFirst, TeiAssigned, by-either}
use Rattle.laws_time.proofs.Vocabulary.{TimedEndpoint, [], after, all-left, all-right, ap, arith, as_endpoint, asked, asks, beat, begins, calls, cases_lt, comes_to, due, duration, end, endpoint, false, fold, fresh_link as fresh, fresh_port, goes-on, happens, inl, inr, is_due, left_of, length, length-append, length-replicate, longest, low_bits, mul-div-le, mul-le, obeyed, plain, port_of}
use Rattle.laws_time.proofs.Vocabulary.{pull-between, refl, replicate, stopped, subst, suc, sym, terms, true, ℕ, ◌*◌, ◌++◌, ◌+◌, ◌/◌, ◌<◌, ◌∙◌, ◌∷◌, ◌≡◌, ◌≤◌, ◌⊎◌}
use Rattle.model_card.specs.ports.Port as port
use Rattle.laws_wire.specs.Call as call
use Rattle.laws_wire.proofs.Beginning as beginning
use Rattle.lapd_clock.specs.Timer.{T203}
use Rattle.laws_time.proofs.OfCircuit.AckedBeats.{On_wire, Stands, Calm}
use Rattle.laws_time.proofs.OfCircuit.AckedEnds.{Facts, Timed, Held, Due, beat-begins, timed-then}
use Rattle.laws_time.proofs.OfCircuit.AckedRun.{OldAt, At, beat-ends, none-calm, up-by, IsUpAt, near-first, far-first, none-falls-due, at-all}
use Rattle.laws_time.proofs.OfCircuit.AckedSides.{cfg, rng, lens, face, link_of_end, near-facts, Mid, mid-asked, mid-then}
use Rattle.laws_time.proofs.OfCircuit.AckedWire.{own-stands}
use Rattle.laws_time.proofs.OfCircuit.AgainRan.{beaten, both-begin, silent-comes, beats-then}
use Rattle.laws_time.proofs.OfCircuit.Words.{all-pairs, at_time, long, none-ordered, pair-begins, port-is, ran-begun, station-is}
use Rattle.laws_time.proofs.OfCircuit.InBeats.{ringing, silent, both-rung, begins-so, call-talks, since-call, a-call-takes-beats}
use Rattle.laws_time.proofs.OfCircuit.InBeatsDue.{none-at-first, Rule, begins-kept, kept-beat}
use Rattle.laws_time.proofs.OfCircuit.Joined.{wire_of}
use Rattle.laws_time.proofs.OfCircuit.Led.{fits, near-pulled, far-pulled, plain-asks, plain-clean}
use Rattle.laws_time.proofs.OfCircuit.AgainLaw.{clear-begun}

-- So far T200 of neither end was started.
abbrev Never : ℕ → ℕ → Type 0
Never a m = ⊥

module _ (service : Service) (tei : ℕ) (few : tei ≤ 126) (c : Config) (ranged : IsInRange c) (number : ℕ) (within : number < c.lines) (ls : Lengths) (way : ℕ) where
  pub held-first : Held service tei c ranged ls Never (endpoint c number ls way tei)
  held-first =
      let none = ap (λ (k : Rattle.model_timed.specs.Clock.Clock). k.running) (ap (λ os. obeyed number os (stopped ls)) (none-ordered c ranged number tei way within)) in
      record {
        ran = ran-begun c ranged number tei way within;
        lengths = ap (λ (k : Rattle.model_timed.specs.Clock.Clock). k.lengths) (ap (λ os. obeyed number os (stopped ls)) (none-ordered c ranged number tei way within));
        claim = λ m at_m. absurd (cc (ap (λ es. Rattle.lapd_clock.specs.Moments.moment_of number (Rattle.lapd_frame.specs.declared.timers.Timer.TheVariants.T200 service tei) es) (sym none) ∙ at_m));
      }

  same-first : (s : Endpoint) → as_endpoint [] s ≡ call.assigned c number tei → StationStands c service tei 0 (as_endpoint [] s) (end (terms c service tei) fresh [])
  same-first s is = subst (λ s. StationStands c service tei 0 s (end (terms c service tei) fresh [])) (sym is) (beginning.answers service tei c ranged few number within).stands

  pub facts-first : (s : Endpoint) → as_endpoint [] s ≡ call.assigned c number tei → Facts service tei c ranged ls s
  facts-first s is =
      let stands = same-first s is in record { way = []; place = 0; n = end (terms c service tei) fresh []; stands = stands; fine = inl (ap (λ (l : Link). l.state) (own-stands service tei c 0 (as_endpoint [] s) (end (terms c service tei) fresh []) stands)) }

  -- Layer 3 asks to establish.
  pub rings : (d : Config) → Face c d → (Old : ℕ → ℕ → Type 0) (now : ℕ) (a : TimedEndpoint) → Timed service tei c ranged ls Old now a → as_endpoint [] a.at ≡ call.assigned c number tei → Facts service tei c ranged ls (asks a (Establish service tei)).at
      → Timed service tei c ranged ls Old now (asks a (Establish service tei))
  rings d its_face Old now a timed is then =
      let before = facts-first a.at is in let ev = port.request (Establish service tei) in
      timed-then service tei c ranged ls Old now a ev timed (goes-on c a.at ev (All-nil (λ octet. octet < 256)) timed.ran) before then tt
      (λ open_now open_then. let e : TeiAssigned ≡ Established = sym (ap (λ (l : Link). l.state) (own-stands service tei c 0 (as_endpoint [] a.at) (end (terms c service tei) fresh []) (same-first a.at is))) ∙ open_now.state in absurd (cc e))

fresh-undue : is_due fresh_port ≡ false
unfolding low_bits
fresh-undue = refl

fresh-left : length (left_of fresh_port) ≡ 8
unfolding low_bits
fresh-left = refl

module _ (l : Line) (fit : Begins l) (b : Beat) (data_alone : AsksData l b) (is_clean : IsClean b) where
  one-data : All (AsksData l) (b ∷ [])
  one-data = All-cons (AsksData l) b [] data_alone (All-nil (AsksData l))

  one-clean : All IsClean (b ∷ [])
  one-clean = All-cons IsClean b [] is_clean (All-nil IsClean)

  undue : NoneFallsDue l.rate (calls l b ∷ []) (begins l)
  undue = let some = fit.some in none-at-first l (calls l b ∷ []) 1 fit.some (long l.lengths fit.lengths.0) (long l.far_lengths fit.lengths.1) (omega (arith, some))

  pub undue-both : IsUndue ((begins l).beats / l.rate) (Establish l.service l.tei ∷ b.near_asks) (begins l).near × IsUndue ((begins l).beats / l.rate) b.far_asks (begins l).far
  unfolding NoneFallsDue
  undue-both = (undue.0, undue.1)

  on-wire : On_wire l fit (wire_of (ringing l fit.call).at (silent l fit.call).at [] []) 4
  on-wire =
      subst (λ f. On_wire l fit f 4) (sym (begins-so l fit.call))
      (inl (inl (record {
        both = record {
          near = beginning.calls l.service l.tei l.near fit.call.near.0 fit.call.terminal l.near_line fit.call.near.1;
          far = beginning.answers l.service l.tei l.far fit.call.far.0 fit.call.terminal l.far_line fit.call.far.1;
        };
        is = refl;
      })))

  abbrev moment : ℕ
  moment = (begins l).beats / l.rate

  rung : (Mid l fit Never Never ((begins l).beats / l.rate) 0 0 ⊥ (ringing l fit.call) (silent l fit.call) ((ringing l fit.call).at.way) ((silent l fit.call).at.way))
  rung =
      let near = held-first l.service l.tei fit.call.terminal l.near (rng l fit false) l.near_line fit.call.near.1 l.lengths l.way in
      let far = held-first l.service l.tei fit.call.terminal l.far (rng l fit true) l.far_line fit.call.far.1 l.far_lengths l.way in
      let here = beat-begins l.service l.tei (cfg l fit false) (rng l fit false) (lens l fit false) Never moment (begins l).near near in
      record {
        there = [];
        back = [];
        joined = both-rung l fit.call;
        weight = 4;
        on_wire = on-wire;
        near = rings l.service l.tei fit.call.terminal l.near (rng l fit false) l.near_line fit.call.near.1 l.lengths l.way l.far (face l fit false) Never moment (at_time ((begins l).beats / l.rate) (begins l).near) here
            (station-is l.near fit.call.near.0 l.near_line l.tei l.way fit.call.near.1) (near-facts l fit (ringing l fit.call).at (silent l fit.call).at [] [] 4 on-wire);
        far = beat-begins l.service l.tei (cfg l fit true) (rng l fit true) (lens l fit true) Never moment (begins l).far far;
        near_low = omega arith;
        far_low = omega arith;
        up = λ was. absurd was;
      }

  abbrev w1 : Clocked
  w1 = beat l.rate (begins l) (calls l b)

  first-mid : let u = beat l.rate (begins l) (calls l b) in Mid l fit Never Never ((begins l).beats / l.rate) 0 0 ⊥ u.near u.far u.near.at.way u.far.at.way
  first-mid =
      let asked = mid-asked l fit Never Never moment 0 0 ⊥ b.near_asks b.far_asks data_alone.0 data_alone.1 (ringing l fit.call) (silent l fit.call) rung in
      mid-then l fit Never Never moment 0 0 ⊥ (begins l) (calls l b) is_clean (fold asks (ringing l fit.call) b.near_asks) (fold asks (silent l fit.call) b.far_asks)
      (near-pulled l.rate (begins l) (calls l b) undue-both.0) (far-pulled l.rate (begins l) (calls l b) undue-both.1) asked

  pub stands-first : Stands l fit (beat l.rate (begins l) (calls l b))
  stands-first =
      let m = first-mid in record { since = since-call l fit.call b [] one-data one-clean; now = record { there = m.there; back = m.back; joined = m.joined; weight = m.weight; on_wire = m.on_wire } }

  -- With the first octet, which is the flag, nothing is left.
  pub few-left : length (left_of (port_of (beat l.rate (begins l) (calls l b)).near.at)) ≤ 7
  few-left =
      let talk = All-head (IsTalk l) (calls l b) [] (call-talks l fit.call b [] one-data) in let both = both-begin l fit.call in let z = beaten l fit.call (begins l) (calls l b) talk both in
      let a = comes_to moment (calls l b).near_asks (begins l).near in let s = silent-comes l.service l.tei l.near fit.call.near.0 moment (calls l b).near_asks talk.0 (begins l).near both.near.ran in
      let is = s.port ∙ port-is l.near fit.call.near.0 l.near_line l.tei l.way fit.call.near.1 in
      let less = (pull-between l.near.n201 l.near (fits l fit.call) a.at s.ran (ap is_due is ∙ fresh-undue)).2 in let all = ap (λ p. length (left_of p)) is ∙ fresh-left in
      let heard : length (left_of (port_of w1.near.at)) ≡ length (left_of (port_of (happens port.pull a).at)) = ap (λ p. length (left_of p)) z.near.port in omega (arith, less, all, heard)

  abbrev OldFirst : Bool → ℕ → ℕ → Type 0
  OldFirst side a m = OldAt l fit (beat l.rate (begins l) (calls l b)) 0 refl stands-first side [] a m

  pub at-first : At l fit (beat l.rate (begins l) (calls l b)) 0 refl stands-first []
  at-first = record {
    calm = none-calm l fit w1;
    pair = let t = call-talks l fit.call b [] one-data in all-pairs l fit (calls l b ∷ []) t (begins l) (clear-begun l fit.call (calls l b ∷ []) t (All-cons IsClean (calls l b) [] is_clean (All-nil IsClean))) (pair-begins l fit);
    near = beat-ends l fit false Never (OldFirst false) moment w1.near first-mid.near (λ m due_so. near-old m due_so);
    far = beat-ends l fit true Never (OldFirst true) moment w1.far first-mid.far (λ m due_so. far-old m due_so);
  }
    where
      near-old : (m : ℕ) → Due l.service l.tei (cfg l fit false) (rng l fit false) (lens l fit false) Never moment (link_of_end l fit false w1.near.at).a (link_of_end l fit false w1.near.at).s m → OldFirst false (link_of_end l fit false w1.near.at).a m
      near-old m (inl never) = absurd never
      near-old m (inr (less, later)) = ([], [], refl, less, later)

      far-old : (m : ℕ) → Due l.service l.tei (cfg l fit true) (rng l fit true) (lens l fit true) Never moment (link_of_end l fit true w1.far.at).a (link_of_end l fit true w1.far.at).s m → OldFirst true (link_of_end l fit true w1.far.at).a m
      far-old m (inl never) = absurd never
      far-old m (inr (less, later)) = ([], [], refl, less, later)

-- ---- no timer falls due in a call of which T200 runs long enough, before T203 does

module _ (l : Line) (fit : Begins l) (b : Beat) (data_alone : AsksData l b) (is_clean : IsClean b) where
  abbrev w1_time : Clocked
  w1_time = beat l.rate (begins l) (calls l b)

  abbrev stands : Stands l fit (beat l.rate (begins l) (calls l b))
  stands = stands-first l fit b data_alone is_clean

  -- Before T200 has run once, its SABME is answered.
  answered : (3 * longest l.near.n201 + 2 * l.way) + l.rate < l.lengths.t200 * l.rate → (xs : List Beat) → Calm l fit xs w1_time → l.lengths.t200 ≤ (after l.rate xs w1_time).beats / l.rate → IsUpAt l fit (after l.rate xs w1_time)
  answered long xs calm late = by-either (cases_lt (length xs) (1 + (3 * longest l.near.n201 + 2 * l.way))) (λ few_beats.
      let whole = mul-div-le (after l.rate xs w1_time).beats l.rate in let one : w1_time.beats ≡ 1 = refl in let is = beats-then l.rate xs w1_time in
      let up : l.lengths.t200 * l.rate ≤ (after l.rate xs w1_time).beats / l.rate * l.rate = mul-le l.lengths.t200 l.rate ((after l.rate xs w1_time).beats / l.rate) l.rate late (omega arith) in
      let some = fit.some in absurd (omega (arith, whole, one, is, up, few_beats, long, some)))
      (λ enough. up-by l fit w1_time stands (few-left l fit b data_alone is_clean) xs calm enough)

  -- Each timer that runs was started at the beginning at the earliest.
  abbrev runs : Lengths → Rule
  runs ls = record { lengths = ls; from = 0; holds = λ now timer m. duration ls timer ≤ m; starts = λ now timer since. omega arith; stays = λ now later timer m more h. h }

  lasts : (ls : Lengths) (limit m : ℕ) → limit ≤ ls.t203 * l.rate → ls.t203 ≤ m → limit ≤ m * l.rate
  lasts ls limit m enough more = let wide = mul-le ls.t203 l.rate m l.rate more (omega arith) in omega (arith, enough, wide)

  -- The rest of the call.
  module _ (bs : List Beat) (all : All (AsksData l) bs) (clean_all : All IsClean bs) (long : 3 * longest l.near.n201 + 2 * l.way + l.rate < l.lengths.t200 * l.rate) (long_far : 3 * longest l.near.n201 + 2 * l.way + l.rate < l.far_lengths.t200 * l.rate) where
    begun-undue : suc (length bs) ≤ l.lengths.t203 * l.rate → suc (length bs) ≤ l.far_lengths.t203 * l.rate → NoneFallsDue l.rate (calls l b ∷ bs) (begins l)
    unfolding NoneFallsDue
    begun-undue here there =
        let r = runs l.lengths in let q = runs l.far_lengths in let none = undue-both l fit b data_alone is_clean in
        let low : w1_time.beats + length bs ≤ suc (length bs) = omega arith in (
          none.0,
          none.1,
          none-falls-due l fit w1_time 0 refl stands long long_far (answered long) r q (suc (length bs)) (λ now m more. lasts l.lengths (suc (length bs)) m here more)
              (λ now m more. lasts l.far_lengths (suc (length bs)) m there more) bs [] all clean_all (at-first l fit b data_alone is_clean)
              (kept-beat l.rate fit.some r q (calls l b) (begins l) (begins-kept l fit.some r q refl refl refl refl)) low,
        )

    rest-of : NoneFallsDue l.rate (calls l b ∷ bs) (begins l) → NoneFallsDue l.rate bs (beat l.rate (begins l) (calls l b))
    unfolding NoneFallsDue
    rest-of none = none.2

    at-end : NoneFallsDue l.rate (calls l b ∷ bs) (begins l) → At l fit w1_time 0 refl stands bs
    at-end none = at-all l fit w1_time 0 refl stands long long_far (answered long) bs [] all clean_all (at-first l fit b data_alone is_clean) (rest-of none)

    first-is : (c : Beat) → AsksData l c → IsClean c → NoneFallsDue l.rate (calls l b ∷ bs) (begins l) → (x : Expiry) → let w = after l.rate (calls l b ∷ bs) (begins l) in
        (due (asked (w.beats / l.rate) c.near_asks w.near).clock ≡ Some x) ⊎ (due (asked (w.beats / l.rate) c.far_asks w.far).clock ≡ Some x) → x.timer ≡ T203 l.service l.tei
    first-is c data_c clean_c none x = λ either. go either
      where
        go : (due (asked ((after l.rate (calls l b ∷ bs) (begins l)).beats / l.rate) c.near_asks (after l.rate (calls l b ∷ bs) (begins l)).near).clock ≡ Some x) ⊎ (due (asked ((after l.rate (calls l b ∷ bs) (begins l)).beats / l.rate) c.far_asks (after l.rate (calls l b ∷ bs) (begins l)).far).clock ≡ Some x) → x.timer ≡ T203 l.service l.tei
        go (inl near) = near-first l fit w1_time 0 refl stands bs (at-end none) c data_c long long_far (answered long bs (at-end none).calm) x near
        go (inr far) = far-first l fit w1_time 0 refl stands bs (at-end none) c data_c long long_far (answered long bs (at-end none).calm) x far

pub a-call-comes-in-time : ACallComesInTime
a-call-comes-in-time l b bs n h = (none-due-in, a-call-takes-beats l b bs n h.calm.begins.call h.calm.data_alone h.calm.are_clean none-due-in)
  where
    long : length (bs ++ replicate n plain) ≡ length bs + n
    long = length-append bs (replicate n plain) ∙ ap (λ k. length bs + k) (length-replicate {A = Beat} n plain)

    none-due-in : NoneFallsDue l.rate (calls l b ∷ bs ++ replicate n plain) (begins l)
    none-due-in =
        let is = long in let here = h.t203.0 in let there = h.t203.1 in
        begun-undue l h.calm.begins b (All-head (AsksData l) b bs h.calm.data_alone) (All-head IsClean b bs h.calm.are_clean) (bs ++ replicate n plain)
        (All-append (AsksData l) bs (replicate n plain) (All-tail (AsksData l) b bs h.calm.data_alone) (plain-asks (IsDataOf l) n))
        (All-append IsClean bs (replicate n plain) (All-tail IsClean b bs h.calm.are_clean) (plain-clean n)) h.calm.t200.0 h.calm.t200.1 (omega (arith, is, here)) (omega (arith, is, there))

pub t203-falls-due-first : T203FallsDueFirst
t203-falls-due-first l b c bs x h first =
    let data_all = All-tail (AsksData l) b (bs ++ c ∷ []) h.data_alone in let clean_all = All-tail IsClean b (bs ++ c ∷ []) h.are_clean in
    let last = All-head (AsksData l) c [] (all-right (AsksData l) bs (c ∷ []) data_all) in let last_clean = All-head IsClean c [] (all-right IsClean bs (c ∷ []) clean_all) in
    first-is l h.begins b (All-head (AsksData l) b (bs ++ c ∷ []) h.data_alone) (All-head IsClean b (bs ++ c ∷ []) h.are_clean) bs (all-left (AsksData l) bs (c ∷ []) data_all) (all-left IsClean bs (c ∷ []) clean_all)
    h.t200.0 h.t200.1 c last last_clean first.before x first.now
