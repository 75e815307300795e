-- An enquiry is answered in time.
use Rattle.laws_time.proofs.Vocabulary.{All, All-append, All-cons, All-head, All-nil, All-replicate, All-tail, AnEnquiryIsAnswered, AreClear, Beat, Begins, Call, Clocked, CommandsAreAnswered, Enquires, Establish, Expiry, IsClean, IsFit, IsOfLink, IsTalk, IsUndisturbed, Line, List, OneEnquiryIsEnough, Option, Some, WaitsIn, [], after, all-left, all-right, answered_in, ap, arith, asked, beat}
use Rattle.laws_time.proofs.Vocabulary.{begins, begun, control_of, distance_of, due, exchanged, fall_due, false, fold-append, header_of, inl, inr, is_waiting, length, longest_text, low_bits, named, plain, port_of, reading as read_by, refl, replicate, same_Some, sapi_fault, seq, state_at, state_number, subst, supervisory_of, sym, true≢false, unnumbered_of, ℕ, ◌++◌, ◌+◌, ◌/◌, ◌<◌, ◌∙◌, ◌∷◌, ◌≡◌}
use Rattle.laws_time.proofs.Vocabulary.{◌≤◌, ◌⊎◌}
use Rattle.model_teis.specs.network.Events as teis
use Rattle.model_line.specs.Machine as lines
use Rattle.model_card.specs.ports.Card as ports
use Rattle.lapd_clock.specs.Timer.{T200}
use Rattle.lapd_frame.specs.Reading.{reading}
use Rattle.laws_time.proofs.OfCircuit.AnsweredBeat.{from-here}
use Rattle.laws_time.proofs.OfCircuit.AnsweredEnds.{due-soon, lost, text-low}
use Rattle.laws_time.proofs.OfCircuit.AnsweredRows.{Exchange, enquiry, enquiry-soon, establishment, release}
use Rattle.laws_time.proofs.OfCircuit.AnsweredRun.{Ready, Stage, asked_by, answered_by, ready-then, near-lost, far-lost, stage-then, stage-first}
use Rattle.laws_time.proofs.OfCircuit.Words.{EndOk, Pair, all-pairs, asks, begins_of, clear-keeps, clear-parts, due-is, half, long-ago, near-comes, pair-begins, pair-later, pair-then, ring, sends-later, state-here}
use Rattle.laws_time.specs.circuit.LongEnough.{is_of}
use Rattle.laws_time.proofs.OfCircuit.AgainRan.{beats-then, Both, both-all, both-begin, beaten}
use Rattle.laws_time.proofs.OfCircuit.AgainLaw.{since-first, since-one, no-noise-is-clear}
use Rattle.laws_time.specs.circuit.WorkedAnswered.{AnEnquiryIsMet, before, its_line}
use Rattle.laws_time.specs.circuit.Worked.{asks as asks_met}

-- After each beat an end waits, and, if it enquires, the other end is up.
unfoldable pub Waits : Line → ℕ → List Beat → Clocked → Type 0
Waits l n [] w = Unit {0}
Waits l n (b ∷ bs) w = let u = beat l.rate w b in (state_at l u.near ≡ Some n) × (n ≡ 8 → (state_at l u.far ≡ Some 7) ⊎ (state_at l u.far ≡ Some 8)) × Waits l n bs u

module _ (l : Line) (fit : Begins l) where
  module _ (n : ℕ) (x : Exchange n) (start clean base other_base : ℕ) (soon_clean : clean + 1 ≤ start) where
    abbrev ReadyAt : Clocked → Type 0
    ReadyAt w = Ready l fit clean base other_base w

    -- Beat by beat: what is lost only grows, and the enquiry or its answer is on its way.
    pub record Grows (w u : Clocked) : Type 0 where
      pub near_more : lost w.near.at ≤ lost u.near.at
      pub far_more : lost w.far.at ≤ lost u.far.at
      pub ready : ReadyAt u

    pub grows-all : (bs : List Beat) (w : Clocked) → ReadyAt w → All (IsTalk l) bs → AreClear l bs w → All IsClean bs → Grows w (after l.rate bs w)
    unfolding AreClear
    grows-all [] w y talk clear is_clean = record { near_more = omega arith; far_more = omega arith; ready = y }
    grows-all (b ∷ bs) w y talk clear is_clean =
        let t = All-head (IsTalk l) b bs talk in let c = All-head IsClean b bs is_clean in let ln = near-lost l fit n x start clean base other_base soon_clean w y b t c clear.0 clear.1 in
        let lf = far-lost l fit n x start clean base other_base soon_clean w y b t c clear.0 clear.1 in
        let rest = grows-all bs (beat l.rate w b) (ready-then l fit n x start clean base other_base soon_clean w y b t c clear.0 clear.1) (All-tail (IsTalk l) b bs talk) clear.2 (All-tail IsClean b bs is_clean) in
        let n0 = ln.0 in let n1 = ln.1 in let n2 = ln.2 in let f0 = lf.0 in let f1 = lf.1 in let f2 = lf.2 in let rn = rest.near_more in let rf = rest.far_more in
        record { near_more = omega (arith, n0, n1, n2, rn); far_more = omega (arith, f0, f1, f2, rf); ready = rest.ready }

    pub stage-all : (bs : List Beat) (w : Clocked) → ReadyAt w → All (IsTalk l) bs → AreClear l bs w → All IsClean bs → Waits l n bs w → lost (after l.rate bs w).near.at ≤ base → lost (after l.rate bs w).far.at ≤ other_base
        → start ≤ w.beats → state_at l w.near ≡ Some n → (Stage l fit n x start w) → (Stage l fit n x start (after l.rate bs w))
    unfolding AreClear Waits
    stage-all [] w y talk clear is_clean states near_few far_few late was stage = stage
    stage-all (b ∷ bs) w y talk clear is_clean states near_few far_few late was stage =
        let t = All-head (IsTalk l) b bs talk in let c = All-head IsClean b bs is_clean in let u = beat l.rate w b in
        let ready = ready-then l fit n x start clean base other_base soon_clean w y b t c clear.0 clear.1 in
        let rest = grows-all bs u ready (All-tail (IsTalk l) b bs talk) clear.2 (All-tail IsClean b bs is_clean) in let rn = rest.near_more in let rf = rest.far_more in
        stage-all bs u ready (All-tail (IsTalk l) b bs talk) clear.2 (All-tail IsClean b bs is_clean) states.2 near_few far_few (omega (arith, late)) states.0
        (stage-then l fit n x start clean base other_base soon_clean w y b t c clear.0 clear.1 states.0 states.1 (omega (arith, rn, near_few)) (omega (arith, rf, far_few)) late was stage)

    -- So it is heard in time.
    pub soon-over : (w : Clocked) → ReadyAt w → (Stage l fit n x start w) → w.beats ≤ answered_by l fit n x start + l.way
    soon-over w y (inl due) =
        let h = y.pair.near_ok.but.ends in let text = text-low l.near l.service l.tei 0 fit.call.near.0 w.near.at h in let given = y.pair.near_counts.given in
        let bound = due-soon (is_of x.asking l.near) start (asked_by l fit n x start) l.way w.beats (port_of w.near.at) (ring l.near l.service l.tei 0 fit.call.near.0 h.its) (omega (arith, text, given))
        (from-here l.near l.service l.tei fit.call.near.0 x.asking start (asked_by l fit n x start) l.way w.beats w.near.at h due) in
        omega (arith, bound)
    soon-over w y (inr due) =
        let h = y.pair.far_ok.but.ends in let text = text-low l.far l.service l.tei 0 fit.call.far.0 w.far.at h in let given = y.pair.far_counts.given in
        grind (arith, due-soon, is_of, answered_by, port_of, ring, from-here)

  pub same-longest : longest_text l.near.n201 / 8 ≡ longest_text l.far.n201 / 8
  same-longest = ap (λ n. longest_text n / 8) fit.call.opposite.1

  -- From the clean beat before on.
  pub first-ready : (w0 : Clocked) → Pair l fit w0 → Both l fit.call w0 → (b : Beat) → IsTalk l b → IsClean b → AreClear l (b ∷ []) w0
      → Ready l fit w0.beats (lost (beat l.rate w0 b).near.at) (lost (beat l.rate w0 b).far.at) (beat l.rate w0 b)
  unfolding AreClear
  first-ready w0 p both b talk is_clean clear =
      let fit' = fit.call in let h = since-first l fit' w0 both in
      record { pair = pair-then l fit w0 p b talk clear.0 clear.1; near_low = omega arith; far_low = omega arith; since = since-one l fit' w0.beats w0 b h (beaten l fit' w0 b talk both) is_clean }

  module _ (n : ℕ) (x : Exchange n) (w0 : Clocked) (p : Pair l fit w0) (both : Both l fit.call w0) (b : Beat) (talk_b : IsTalk l b) (clean_b : IsClean b) where
    abbrev w : Clocked
    w = beat l.rate w0 b

    in-time : (more : List Beat) → All (IsTalk l) more → AreClear l (b ∷ more) w0 → All IsClean more → (state_at l (beat l.rate w0 b).near ≡ Some n → ⊥) → Waits l n more (beat l.rate w0 b)
        → lost (after l.rate more (beat l.rate w0 b)).near.at ≡ lost (beat l.rate w0 b).near.at → lost (after l.rate more (beat l.rate w0 b)).far.at ≡ lost (beat l.rate w0 b).far.at
        → length more < answered_in l.near l.far l.way + x.late
    unfolding AreClear Waits
    in-time [] talk clear is_clean was states near_same far_same = omega arith
    in-time (c ∷ more) talk clear is_clean was states near_same far_same =
        let start = w0.beats + 1 in let base = lost w.near.at in let other_base = lost w.far.at in let y = first-ready w0 p both b talk_b clean_b (clear.0, clear.1, tt) in let rest_clear = clear.2 in
        let t = All-head (IsTalk l) c more talk in let ts = All-tail (IsTalk l) c more talk in let cl = All-head IsClean c more is_clean in let cls = All-tail IsClean c more is_clean in
        let u = beat l.rate w c in let last = after l.rate more u in let ready = ready-then l fit n x start w0.beats base other_base (omega arith) w y c t cl rest_clear.0 rest_clear.1 in
        let rest = grows-all n x start w0.beats base other_base (omega arith) more u ready ts rest_clear.2 cls in let rn = rest.near_more in let rf = rest.far_more in
        let first = stage-first l fit n x start w0.beats base other_base (omega arith) w y c t cl rest_clear.0 rest_clear.1 states.0 states.1 (omega (arith, rn, near_same)) (omega (arith, rf, far_same)) (omega arith) refl was in
        let stage = stage-all n x start w0.beats base other_base (omega arith) more u ready ts rest_clear.2 cls states.2 (omega (arith, near_same)) (omega (arith, far_same)) (omega arith) states.0 first in
        let bound = soon-over n x start w0.beats base other_base (omega arith) last rest.ready stage in let so_many = beats-then l.rate more u in let same = same-longest in
        omega (arith, bound, so_many, same)

-- Of a Line and an exchange.
module _ (l : Line) (n : ℕ) (x : Exchange n) (bs : List Beat) (b : Beat) (more : List Beat) (fit : Begins l) (talk : All (IsTalk l) (bs ++ b ∷ more)) (clear : AreClear l (bs ++ b ∷ more) (begins l))
    (is_clean : All IsClean (b ∷ more)) where
  answered-in-time : (state_at l (begun l bs b).near ≡ Some n → ⊥) → Waits l n more (begun l bs b) → lost (after l.rate more (begun l bs b)).near.at ≡ lost (begun l bs b).near.at
      → lost (after l.rate more (begun l bs b)).far.at ≡ lost (begun l bs b).far.at
      → length more < answered_in l.near l.far l.way + x.late
  answered-in-time =
      let parts = clear-parts l bs (b ∷ more) (begins l) clear in let w0 = after l.rate bs (begins l) in let first = all-left (IsTalk l) bs (b ∷ more) talk in
      let p = all-pairs l fit bs first (begins l) parts.0 (pair-begins l fit) in let both = both-all l fit.call bs first (begins l) (both-begin l fit.call) in
      let last = all-right (IsTalk l) bs (b ∷ more) talk in let same : after l.rate (bs ++ b ∷ []) (begins l) ≡ beat l.rate w0 b = fold-append (beat l.rate) (begins l) bs (b ∷ []) in
      subst (λ w. (state_at l w.near ≡ Some n → ⊥) → Waits l n more w → lost (after l.rate more w).near.at ≡ lost w.near.at → lost (after l.rate more w).far.at ≡ lost w.far.at
      → length more < answered_in l.near l.far l.way + x.late) (sym same)
      (in-time l fit n x w0 p both b (All-head (IsTalk l) b more last) (All-head IsClean b more is_clean) more (All-tail (IsTalk l) b more last) parts.1 (All-tail IsClean b more is_clean))

enquires-wait : (l : Line) (bs : List Beat) (w : Clocked) → Enquires l bs w → Waits l 8 bs w
unfolding Enquires Waits
enquires-wait l [] w h = tt
enquires-wait l (b ∷ bs) w h = (h.0, λ is. h.1, enquires-wait l bs (beat l.rate w b) h.2)

pub waits-too : (l : Line) (n : ℕ) → (n ≡ 8 → ⊥) → (bs : List Beat) (w : Clocked) → WaitsIn l n bs w → Waits l n bs w
unfolding WaitsIn Waits
waits-too l n other [] w h = tt
waits-too l n other (b ∷ bs) w h = (h.0, λ is. absurd (other is), waits-too l n other bs (beat l.rate w b) h.1)

seven-other : (o : Option ℕ) → o ≡ Some 7 → o ≡ Some 8 → ⊥
seven-other o is was = cc (sym is ∙ was)

pub an-enquiry-is-answered : AnEnquiryIsAnswered
an-enquiry-is-answered l bs b more comes =
    let h = comes.0 in
    let all = answered-in-time l 8 enquiry bs b more (begins_of h.fit) h.talk h.clear h.clean (seven-other (state_at l (begun l bs b).near) comes.1) (enquires-wait l more (begun l bs b) comes.2) h.near_kept h.far_kept in
    let none : enquiry.late ≡ 0 = enquiry-soon in omega (arith, all, none)

pub commands-are-answered : CommandsAreAnswered
commands-are-answered l n bs b more h which was states = go which
  where
    five : (n : ℕ) → n ≡ 5 → n ≡ 8 → ⊥
    five n a b = omega (arith, a, b)

    six : (n : ℕ) → n ≡ 6 → n ≡ 8 → ⊥
    six n a b = omega (arith, a, b)

    by : (x : Exchange n) → (n ≡ 8 → ⊥) → length more ≤ answered_in l.near l.far l.way
    by x other =
        let all = answered-in-time l n x bs b more (begins_of h.fit) h.talk h.clear h.clean was (waits-too l n other more (begun l bs b) states) h.near_kept h.far_kept in
        let few = x.few in omega (arith, all, few)

    go : (n ≡ 5) ⊎ (n ≡ 6) → length more ≤ answered_in l.near l.far l.way
    go (inl is) = by (subst Exchange (sym is) establishment) (five n is)
    go (inr is) = by (subst Exchange (sym is) release) (six n is)

-- ---- T200 does not fall due in state 8 before the enquiry is answered

module _ (l : Line) (fit : IsFit l) where
  -- In a state that awaits nothing, T200 may as well have been started by now.
  module _ (w : Clocked) (p : Pair l (begins_of fit) w) (idle : is_waiting (state_number p.near_ok.but.ends.its.state) ≡ false) where
    few : p.S ≤ w.beats
    few = let early = p.near_ok.but.early in let given = p.near_counts.given in omega (arith, early, given)

    end-now : EndOk l.near l.service l.tei 0 fit.call.near.0 l.lengths l.rate w.beats p.M w.near
    end-now = record {
      but = record {
        ends = p.near_ok.but.ends;
        clock = p.near_ok.but.clock;
        ours = p.near_ok.but.ours;
        lengths_are = p.near_ok.but.lengths_are;
        early = let given = p.near_counts.given in omega (arith, given);
        polls = let less = few in sends-later l.near.n201 (is_of asks l.near) (p.S + half l.near l.service l.tei 0 fit.call.near.0) (w.beats + half l.near l.service l.tei 0 fit.call.near.0) (omega (arith, less)) (port_of w.near.at)
            (ring l.near l.service l.tei 0 fit.call.near.0 p.near_ok.but.ends.its) p.near_ok.but.polls;
        finals = p.near_ok.but.finals;
      };
      timer = λ m waits at_m. absurd (true≢false (sym waits ∙ idle));
    }

    pair-now : (q : Pair l (begins_of fit) w) × (w.beats ≤ q.S)
    pair-now =
        let less = few in (
          record {
            both = p.both;
            S = w.beats;
            S2 = p.S2;
            near_ok = end-now;
            M = p.M;
            M2 = p.M2;
            far_ok = p.far_ok;
            near_most = p.near_most;
            far_most = let most = p.far_most in omega (arith, most, less);
            near_counts = p.near_counts;
            far_counts = p.far_counts;
          },
          omega arith,
        )

  pairs-on : (since : ℕ) (bs : List Beat) (w : Clocked) → All (IsTalk l) bs → AreClear l bs w → (p : Pair l (begins_of fit) w) × (since ≤ p.S) → (q : Pair l (begins_of fit) (after l.rate bs w)) × (since ≤ q.S)
  pairs-on since bs w talk clear =
      clear-keeps l (IsTalk l) (λ w. (p : Pair l (begins_of fit) w) × (since ≤ p.S))
      (λ b w t near far p. (pair-then l (begins_of fit) w p.0 b t near far, (let later = pair-later l (begins_of fit) w p.0 b t near far in let from = p.1 in omega (arith, later, from)))) bs talk w clear

  -- So it runs for as long as an answer takes.
  not-due : (since : ℕ) (u : Clocked) (p : Pair l (begins_of fit) u) → since ≤ p.S → u.beats < since + answered_in l.near l.far l.way → (c : Beat) → IsTalk l c → (k : ℕ) (x : Expiry)
      → due (fall_due k (asked (u.beats / l.rate) c.near_asks u.near)).clock ≡ Some x → x.timer ≡ T200 l.service l.tei → state_at l (fall_due k (asked (u.beats / l.rate) c.near_asks u.near)) ≡ Some 8 → ⊥
  not-due since u p from soon c talk k x falls timer is =
      let a = fall_due k (asked (u.beats / l.rate) c.near_asks u.near) in let g = near-comes l (begins_of fit) u p c talk k in
      let at_due = due-is a.at.line a.clock.now (T200 l.service l.tei) a.clock.running x g.ok.but.clock.here falls timer in
      let number = same_Some (state_number g.ok.but.ends.its.state) 8 (sym (state-here l.near l.service l.tei 0 fit.call.near.0 l.lengths l.rate a.at g.ok.but.ends) ∙ is) in
      let started = g.ok.timer x.moment (ap is_waiting number) at_due.0 in
      let ago = long-ago l (begins_of fit) l.lengths fit.t200.0 g.S' u.beats x.moment started
      (subst (λ k. x.moment ≤ k) g.now at_due.1) in
      let later = g.later in omega (arith, from, soon, ago, later)

module _ (l : Line) (bs : List Beat) (b : Beat) (more : List Beat) (c : Beat) (k : ℕ) (x : Expiry) (fit : IsFit l) (talk : All (IsTalk l) (bs ++ b ∷ more)) (talk_c : IsTalk l c) where
  -- As it is stated, from a world on.
  abbrev Claim : Clocked → Type 0
  Claim w =
      state_at l w.near ≡ Some 7 → due (fall_due k (asked ((after l.rate more w).beats / l.rate) c.near_asks (after l.rate more w).near)).clock ≡ Some x → x.timer ≡ T200 l.service l.tei
      → state_at l (fall_due k (asked ((after l.rate more w).beats / l.rate) c.near_asks (after l.rate more w).near)) ≡ Some 8 → ⊥

  last : All (IsTalk l) (b ∷ more)
  last = all-right (IsTalk l) bs (b ∷ more) talk

  from-beat : length more < answered_in l.near l.far l.way → AreClear l (b ∷ more) (after l.rate bs (begins l)) → Pair l (begins_of fit) (after l.rate bs (begins l)) → Claim (beat l.rate (after l.rate bs (begins l)) b)
  unfolding AreClear
  from-beat soon clear p up falls timer is =
      let w1 = beat l.rate (after l.rate bs (begins l)) b in let q = pair-then l (begins_of fit) (after l.rate bs (begins l)) p b (All-head (IsTalk l) b more last) clear.0 clear.1 in
      let number = same_Some (state_number q.near_ok.but.ends.its.state) 7 (sym (state-here l.near l.service l.tei 0 fit.call.near.0 l.lengths l.rate w1.near.at q.near_ok.but.ends) ∙ up) in
      let r = pairs-on l fit w1.beats more w1 (All-tail (IsTalk l) b more last) clear.2 (pair-now l fit w1 q (ap is_waiting number)) in let so_many = beats-then l.rate more w1 in
      not-due l fit w1.beats (after l.rate more w1) r.0 r.1 (omega (arith, so_many, soon)) c talk_c k x falls timer is

pub one-enquiry-is-enough : OneEnquiryIsEnough
one-enquiry-is-enough l bs b more c k x comes talk_c =
    let h = comes.0 in let fit = h.fit in let soon = an-enquiry-is-answered l bs b more comes in let parts = clear-parts l bs (b ∷ more) (begins l) h.clear in
    let first = all-pairs l (begins_of fit) bs (all-left (IsTalk l) bs (b ∷ more) h.talk) (begins l) parts.0 (pair-begins l (begins_of fit)) in
    let same : begun l bs b ≡ beat l.rate (after l.rate bs (begins l)) b = fold-append (beat l.rate) (begins l) bs (b ∷ []) in
    subst (Claim l bs b more c k x fit h.talk talk_c) (sym same) (from-beat l bs b more c k x fit h.talk talk_c soon parts.1 first) comes.1

-- ---- a run that meets the premises: an end comes to state 8 on a line without noise

fits : IsFit its_line
unfolding sapi_fault
fits = grind arith

asks-talk : IsTalk its_line asks_met
asks-talk = (All-cons (IsOfLink Call 0) (Establish Call 0) [] (refl, refl) (All-nil (IsOfLink Call 0)), All-nil (IsOfLink Call 0))

-- The call, the plain beats after it, and those that follow.
all-beats : (P : Beat → Type 0) → P asks_met → P plain → All P (before ++ plain ∷ replicate 3 plain)
all-beats P first one =
    All-append P before (plain ∷ replicate 3 plain) (All-append P (asks_met ∷ replicate 15 plain) (replicate 16 plain) (All-cons P asks_met (replicate 15 plain) first (All-replicate P 15 plain one)) (All-replicate P 16 plain one))
    (All-cons P plain (replicate 3 plain) one (All-replicate P 3 plain one))

undisturbed : IsUndisturbed its_line before plain (replicate 3 plain)
unfolding lines.after lines.answer lines.takes_slot exchanged read_by reading header_of control_of unnumbered_of supervisory_of teis.course teis.refusal seq distance_of named low_bits ports.after ports.answer ports.meant fall_due
undisturbed = record {
  fit = fits;
  talk = all-beats (IsTalk its_line) asks-talk (All-nil (IsOfLink Call 0), All-nil (IsOfLink Call 0));
  clear = no-noise-is-clear its_line (before ++ plain ∷ replicate 3 plain) fits (all-beats (IsTalk its_line) asks-talk (All-nil (IsOfLink Call 0), All-nil (IsOfLink Call 0))) (all-beats IsClean (refl, refl) (refl, refl));
  clean = All-cons IsClean plain (replicate 3 plain) (refl, refl) (All-replicate IsClean 3 plain (refl, refl));
  near_kept = refl;
  far_kept = refl;
}

pub an-enquiry-is-met : AnEnquiryIsMet
unfolding lines.after lines.answer lines.takes_slot exchanged read_by reading header_of control_of unnumbered_of supervisory_of teis.course teis.refusal seq distance_of named low_bits ports.after ports.answer ports.meant fall_due Enquires
an-enquiry-is-met = (undisturbed, refl, (refl, inr refl, (refl, inr refl, (refl, inr refl, tt))))
