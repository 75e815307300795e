-- A beat without noise, after an end came to a state in which it waits for an answer: its command is on its way, or the answer is.
use Rattle.laws_time.proofs.Vocabulary.{Beat, Clocked, IsClean, IsClearAt, IsTalk, Line, Link, LinkEvent, None, OctetEndpoint, Option, Parts, Port, Some, TimedEndpoint, ap, arith, asked, beat, cases_eq, comes_to, gained, gone, happens, heard_side, inl, inr, is_multiple_frame, length, option_map_or, own_side, port_of, refl, same_Some, sides-turned, state_at, state_number, subst, sym, Begins}
use Rattle.laws_time.proofs.Vocabulary.{terms, true, unwrap_or, without_first_octet, ℕ, ◌+◌, ◌/◌, ◌∙◌, ◌∷◌, ◌≡◌, ◌≤◌, ◌⊎◌, by-either}
use Rattle.model_link.specs.Events as link
use Rattle.model_link.specs.Machine as links
use Rattle.model_card.specs.ports.Port as port
use Rattle.laws_order.specs.circuit.Circuit as circuit
use Rattle.laws_time.proofs.OfCircuit.Words.{Ends, Goes, IsOwn, Moved, Pair, Pulled, at_time, far-comes, far-high, far-low, fine, half, near-comes, near-high, near-low, pair-then, pulls, ring, soon, state-here}
use Rattle.laws_time.proofs.OfCircuit.AnsweredBeat.{DueHere, from-here, to-here, due-kept, asks-moved, asks-kept, still-asked, later-expired, given-long, way-long, Hears, plain, answer-heard, command-heard, hears-moved}
use Rattle.laws_time.proofs.OfCircuit.AnsweredEnds.{Due, IsNow, due-heard, due-soon, lost, lost-more, DueAt, due-moved, due-pull, text-low, IsKept, Kept, comes-by, comes-kept}
use Rattle.laws_time.proofs.OfCircuit.AnsweredBits.{one-among, heard-here}
use Rattle.laws_time.proofs.OfCircuit.AnsweredRows.{Exchange, up-is, offer-stays}
use Rattle.laws_time.specs.circuit.LongEnough.{is_of}
use Rattle.laws_time.proofs.OfCircuit.AgainRan.{Beaten, beaten}
use Rattle.laws_time.proofs.OfCircuit.AgainLaw.{Since, gone-back, gone-there, many-of, since-one}

-- An end as it comes to the moment of a beat, and as it is pulled.
module _ (l : Line) (fit : Begins l) (w : Clocked) (p : Pair l fit w) (b : Beat) (talk : IsTalk l b) where
  pub near-come : Goes l.near l.service l.tei 0 fit.call.near.0 l.lengths l.rate p.S p.M (at_time (w.beats / l.rate) w.near) (comes_to (w.beats / l.rate) b.near_asks w.near)
  near-come = near-comes l fit w p b talk (length (asked (w.beats / l.rate) b.near_asks w.near).clock.running)

  pub far-come : Goes l.far l.service l.tei 0 fit.call.far.0 l.far_lengths l.rate p.S2 p.M2 (at_time (w.beats / l.rate) w.far) (comes_to (w.beats / l.rate) b.far_asks w.far)
  far-come = far-comes l fit w p b talk (length (asked (w.beats / l.rate) b.far_asks w.far).clock.running)

  pub near-pulls : Pulled l.near l.service l.tei 0 fit.call.near.0 (comes_to (w.beats / l.rate) b.near_asks w.near).at near-come.ok.but.ends
  near-pulls = pulls l.near l.service l.tei 0 fit.call.near.0 (comes_to (w.beats / l.rate) b.near_asks w.near).at near-come.ok.but.ends

  pub far-pulls : Pulled l.far l.service l.tei 0 fit.call.far.0 (comes_to (w.beats / l.rate) b.far_asks w.far).at far-come.ok.but.ends
  far-pulls = pulls l.far l.service l.tei 0 fit.call.far.0 (comes_to (w.beats / l.rate) b.far_asks w.far).at far-come.ok.but.ends

-- From a beat on there is no noise, and so many frames were lost by then.
pub record Ready (l : Line) (fit : Begins l) (clean base other_base : ℕ) (w : Clocked) : Type 0 where
  pub pair : Pair l fit w
  pub near_low : base ≤ lost w.near.at
  pub far_low : other_base ≤ lost w.far.at
  pub since : Since l fit.call clean w

module _ (l : Line) (fit : Begins l) (n : ℕ) (x : Exchange n) (start : ℕ) where
  -- By these octets the command is given, and the answer.
  abbrev pub asked_by : ℕ
  asked_by = start + x.late + half l.near l.service l.tei 0 fit.call.near.0

  abbrev pub answered_by : ℕ
  answered_by = start + x.late + half l.near l.service l.tei 0 fit.call.near.0 + l.way + 1 + half l.far l.service l.tei 0 fit.call.far.0

  abbrev pub NearDue : ℕ → OctetEndpoint → Type 0
  NearDue heard s = DueHere l.near l.service l.tei fit.call.near.0 x.asking start asked_by l.way heard s

  abbrev pub FarDue : ℕ → OctetEndpoint → Type 0
  FarDue heard s = DueHere l.far l.service l.tei fit.call.far.0 x.answering start answered_by l.way heard s

  abbrev pub Stage : Clocked → Type 0
  Stage w = NearDue w.beats w.near.at ⊎ FarDue w.beats w.far.at

  module _ (clean base other_base : ℕ) (soon_clean : clean + 1 ≤ start) (w : Clocked) (y : Ready l fit clean base other_base w) (b : Beat) (talk : IsTalk l b) (is_clean : IsClean b) (near_clear : IsClearAt l.near.n201 b.near_noise (gone l.rate b w).near (gone l.rate b w).far)
      (far_clear : IsClearAt l.near.n201 b.far_noise (gone l.rate b w).far (gone l.rate b w).near) where
    abbrev pub v : Clocked
    v = gone l.rate b w

    abbrev pub u : Clocked
    u = beat l.rate w b

    abbrev pub n1 : TimedEndpoint
    n1 = comes_to (w.beats / l.rate) b.near_asks w.near

    abbrev f1 : TimedEndpoint
    f1 = comes_to (w.beats / l.rate) b.far_asks w.far

    abbrev opposite : own_side l.far ≡ heard_side l.near
    opposite = fit.call.opposite.0

    abbrev pub p : Pair l fit w
    p = y.pair

    abbrev pub z : Beaten l fit.call w b
    z = beaten l fit.call w b talk y.since.both

    -- the ends after their requests and expiries, after their pulls, and after the octet that comes
    abbrev pub near1 : Ends l.near l.service l.tei 0 fit.call.near.0 n1.at
    near1 = (near-come l fit w y.pair b talk).ok.but.ends

    abbrev far1 : Ends l.far l.service l.tei 0 fit.call.far.0 f1.at
    far1 = (far-come l fit w y.pair b talk).ok.but.ends

    abbrev pub near2 : Ends l.near l.service l.tei 0 fit.call.near.0 v.near.at
    near2 = (near-pulls l fit w y.pair b talk).ends

    abbrev far2 : Ends l.far l.service l.tei 0 fit.call.far.0 v.far.at
    far2 = (far-pulls l fit w y.pair b talk).ends

    abbrev pub near_then : TimedEndpoint
    near_then = happens (port.octet z.near.value) v.near

    pub near-is : u.near ≡ without_first_octet (happens (port.octet z.near.value) v.near)
    near-is = z.near.is ∙ ap (λ o. without_first_octet (happens (port.octet (unwrap_or o z.near.value)) v.near)) is_clean.0

    far-is : u.far ≡ without_first_octet (happens (port.octet z.far.value) v.far)
    far-is = z.far.is ∙ ap (λ o. without_first_octet (happens (port.octet (unwrap_or o z.far.value)) v.far)) is_clean.1

    pub near_hears : Hears l.near l.service l.tei fit.call.near.0 l.far fit.call.far.0 l.near.n201 refl (sym fit.call.opposite.1) (sym opposite) v.near.at (circuit.happens (port.octet z.near.value) v.near.at) near2
    near_hears =
        hears-moved l.near l.service l.tei fit.call.near.0 l.far fit.call.far.0 l.near.n201 refl (sym fit.call.opposite.1) (sym opposite) v.near v.far near2 far2
        (subst (λ o. IsClearAt l.near.n201 o v.near v.far) is_clean.0 near_clear) z.near.value z.near.more z.near.comes

    abbrev pub near_mv : Moved l.near l.service l.tei 0 fit.call.near.0 v.near.at (circuit.happens (port.octet z.near.value) v.near.at) near2 (λ e. (f : Parts) × (e ≡ link.received (link.frame f)))
    near_mv = near_hears.0

    far_hears : Hears l.far l.service l.tei fit.call.far.0 l.near fit.call.near.0 l.near.n201 (sym fit.call.opposite.1) refl (sym (sides-turned l.near l.far opposite)) v.far.at (circuit.happens (port.octet z.far.value) v.far.at) far2
    far_hears =
        hears-moved l.far l.service l.tei fit.call.far.0 l.near fit.call.near.0 l.near.n201 (sym fit.call.opposite.1) refl (sym (sides-turned l.near l.far opposite)) v.far v.near far2 near2
        (subst (λ o. IsClearAt l.near.n201 o v.far v.near) is_clean.1 far_clear) z.far.value z.far.more z.far.comes

    -- what holds of the port and the link of an end, as it comes to the moment
    near-walk : (D : Port → Link → Type 0) (base : ℕ) → IsKept l.near l.service l.tei fit.call.near.0 l.lengths l.rate D → base ≤ lost w.near.at
        → (lost w.near.at ≤ base → D (port_of w.near.at) p.near_ok.but.ends.its) → Kept l.near l.service l.tei fit.call.near.0 l.lengths l.rate D base n1.at near1
    near-walk D base on low so =
        comes-kept l.near l.service l.tei fit.call.near.0 l.lengths l.rate D base on l.way (w.beats / l.rate) w.beats p.S p.M b.near_asks w.near p.near_ok p.both.near
        (near-low l fit w p) (near-high l fit w p) p.near_counts (soon l fit w) talk.0 (low, so) near1

    far-walk : (D : Port → Link → Type 0) (base : ℕ) → IsKept l.far l.service l.tei fit.call.far.0 l.far_lengths l.rate D → base ≤ lost w.far.at
        → (lost w.far.at ≤ base → D (port_of w.far.at) p.far_ok.but.ends.its) → Kept l.far l.service l.tei fit.call.far.0 l.far_lengths l.rate D base f1.at far1
    far-walk D base on low so =
        comes-kept l.far l.service l.tei fit.call.far.0 l.far_lengths l.rate D base on l.way (w.beats / l.rate) w.beats p.S2 p.M2 b.far_asks w.far p.far_ok p.both.far
        (far-low l fit w p) (far-high l fit w p) p.far_counts (soon l fit w) talk.1 (low, so) far1

    -- what is lost only grows
    pub near-lost : (lost w.near.at ≤ lost n1.at) × (lost n1.at ≤ lost v.near.at) × (lost v.near.at ≤ lost u.near.at)
    near-lost = (
      (near-walk (λ p x. Unit {0}) (lost w.near.at) (λ s u h may mv calm y. tt) (omega arith) (λ few. tt)).0,
      lost-more port.pull n1.at,
      subst (λ (e : TimedEndpoint). lost v.near.at ≤ lost e.at) (sym near-is) (lost-more (port.octet z.near.value) v.near.at),
    )

    pub far-lost : (lost w.far.at ≤ lost f1.at) × (lost f1.at ≤ lost v.far.at) × (lost v.far.at ≤ lost u.far.at)
    far-lost = (
      (far-walk (λ p x. Unit {0}) (lost w.far.at) (λ s u h may mv calm y. tt) (omega arith) (λ few. tt)).0,
      lost-more port.pull f1.at,
      subst (λ (e : TimedEndpoint). lost v.far.at ≤ lost e.at) (sym far-is) (lost-more (port.octet z.far.value) v.far.at),
    )

    -- what is in transit after the pulls
    pub ready-then : Ready l fit clean base other_base u
    ready-then =
        let few = near-lost in let few_far = far-lost in let low = y.near_low in let far_is_low = y.far_low in
        record {
          pair = pair-then l fit w p b talk near_clear far_clear;
          near_low = let f0 = few.0 in let f1 = few.1 in let f2 = few.2 in omega (arith, f0, f1, f2, low);
          far_low = let f0 = few_far.0 in let f1 = few_far.1 in let f2 = few_far.2 in omega (arith, f0, f1, f2, far_is_low);
          since = since-one l fit.call clean w b y.since z is_clean;
        }

    given-now : (length (port_of v.near.at).given ≡ w.beats + 1) × (length (port_of v.far.at).given ≡ w.beats + 1)
    given-now = (given-long w.near.at v.near.at w.beats z.near_sent p.near_counts.given, given-long w.far.at v.far.at w.beats z.far_sent p.far_counts.given)

    way-now : (length (z.far.value ∷ z.far.more) ≡ l.way + 1) × (length (z.near.value ∷ z.near.more) ≡ l.way + 1)
    way-now = (
      sym (ap length z.far.comes) ∙ way-long w.near.at v.near.at l.way z.near_sent p.near_counts.way,
      sym (ap length z.near.comes) ∙ way-long w.far.at v.far.at l.way z.far_sent p.far_counts.way,
    )

    -- the states after the beat
    pub near-state : (n : ℕ) → state_at l u.near ≡ Some n → state_number near_mv.ends.its.state ≡ n
    near-state n is =
        same_Some (state_number near_mv.ends.its.state) n (sym (state-here l.near l.service l.tei 0 fit.call.near.0 l.lengths l.rate near_then.at near_mv.ends) ∙ ap (state_at l) (sym near-is) ∙ is)

    far-state : (n : ℕ) → state_at l u.far ≡ Some n → state_number far_hears.0.ends.its.state ≡ n
    far-state n is =
        same_Some (state_number far_hears.0.ends.its.state) n
        (sym (state-here l.far l.service l.tei 0 fit.call.far.0 l.far_lengths l.rate (happens (port.octet z.far.value) v.far).at far_hears.0.ends) ∙ ap (state_at l) (sym far-is) ∙ is)

    module _ (is_waiting : state_at l u.near ≡ Some n) (is_up : n ≡ 8 → (state_at l u.far ≡ Some 7) ⊎ (state_at l u.far ≡ Some 8)) (near_few : lost u.near.at ≤ base) (far_few : lost u.far.at ≤ other_base)
        (late : start ≤ w.beats) where
      abbrev pub NearAfterPull : Type 0
      NearAfterPull = DueAt l.near l.service l.tei 0 fit.call.near.0 x.asking start asked_by l.way w.beats v.near.at near2

      far-up : n ≡ 8 → is_multiple_frame far_hears.0.ends.its.state ≡ true
      far-up is = up-is (terms l.far l.service l.tei) far_hears.0.ends.its.state (elim (is_up is) [ inl e ↦ inl (far-state 7 e) | inr e ↦ inr (far-state 8 e) ])

      -- The command is heard: the answer is put.
      command-now : IsNow (is_of x.asking l.near) start asked_by l.way w.beats (port_of v.near.at) → w.beats ≤ asked_by + l.way → FarDue (w.beats + 1) u.far.at
      command-now now soon_heard =
          let g = given-now in let c = way-now in let h = now.0 in
          let it = heard-here l.near.n201 (is_of x.asking l.near) start asked_by l.way w.beats clean (port_of v.near.at) (port_of v.far.at) z.far.value z.far.more
          (fine l.near l.service l.tei 0 fit.call.near.0 v.near.at near2) (gone-there l fit.call clean w b y.since z) now.0 now.1 soon_clean
          (many-of l.way w.beats clean (port_of v.near.at) (z.far.value ∷ z.far.more) (port_of v.far.at) (gone-there l fit.call clean w b y.since z) g.0 c.0) in
          let own = one-among (IsOwn l.near l.service l.tei 0 fit.call.near.0) (port_of v.near.at).items h.front h.o h.more h.items near2.frames in
          let text = text-low l.far l.service l.tei 0 fit.call.far.0 v.far.at far2 in let given = g.1 in let low = y.far_low in let f0 = far-lost.0 in let f1 = far-lost.1 in
          subst (λ (e : TimedEndpoint). FarDue (w.beats + 1) e.at) (sym far-is)
          (to-here l.far l.service l.tei fit.call.far.0 x.answering start answered_by l.way (w.beats + 1) (happens (port.octet z.far.value) v.far).at far_hears.0.ends
          (command-heard l.far l.service l.tei fit.call.far.0 l.near fit.call.near.0 l.near.n201 (sym fit.call.opposite.1) refl (sym (sides-turned l.near l.far opposite)) v.far.at far2 z.far.value h.o own it n x far_hears.0.ends h.its
          far-up (let few : lost (circuit.happens (port.octet z.far.value) v.far.at) ≤ other_base = subst (λ (e : TimedEndpoint). lost e.at ≤ other_base) far-is far_few in omega (arith, few, low, f0, f1)) start answered_by l.way (w.beats + 1)
          (omega (arith, text, given, late)) (omega (arith, given, soon_heard))))

      pub near-after : NearAfterPull → Stage u
      near-after due = by-either (due-heard (is_of x.asking l.near) start asked_by l.way w.beats (port_of v.near.at) (ring l.near l.service l.tei 0 fit.call.near.0 near2.its) due) (λ now.
          let text = text-low l.near l.service l.tei 0 fit.call.near.0 v.near.at near2 in let given = given-now.0 in
          inr (command-now now (due-soon (is_of x.asking l.near) start asked_by l.way w.beats (port_of v.near.at) (ring l.near l.service l.tei 0 fit.call.near.0 near2.its) (omega (arith, text, given)) due)))
          (λ later.
          inl (subst (λ (e : TimedEndpoint). NearDue (w.beats + 1) e.at) (sym near-is)
          (to-here l.near l.service l.tei fit.call.near.0 x.asking start asked_by l.way (w.beats + 1) near_then.at near_mv.ends
          (due-moved l.near l.service l.tei 0 fit.call.near.0 x.asking start asked_by l.way (w.beats + 1) v.near.at (circuit.happens (port.octet z.near.value) v.near.at) near2
          (λ e. (f : Parts) × (e ≡ link.received (link.frame f))) near_mv (λ e is. plain l.near l.service l.tei fit.call.near.0 l.far fit.call.far.0 l.near.n201 refl (sym fit.call.opposite.1) (sym opposite) e (near_mv.by e is)) later))))

      -- The answer is heard: the end waits no more.
      answer-now : x.Later near2.its.state → IsNow (is_of x.answering l.far) start answered_by l.way w.beats (port_of v.far.at) → ⊥
      answer-now still now =
          let g = given-now in let c = way-now in let h = now.0 in
          let it = heard-here l.far.n201 (is_of x.answering l.far) start answered_by l.way w.beats clean (port_of v.far.at) (port_of v.near.at) z.near.value z.near.more
          (fine l.far l.service l.tei 0 fit.call.far.0 v.far.at far2) (gone-back l fit.call clean w b y.since z) now.0 now.1 soon_clean
          (many-of l.way w.beats clean (port_of v.far.at) (z.near.value ∷ z.near.more) (port_of v.near.at) (gone-back l fit.call clean w b y.since z) g.1 c.1) in
          let own = one-among (IsOwn l.far l.service l.tei 0 fit.call.far.0) (port_of v.far.at).items h.front h.o h.more h.items far2.frames in
          answer-heard l.near l.service l.tei fit.call.near.0 l.far fit.call.far.0 l.near.n201 refl (sym fit.call.opposite.1) (sym opposite) v.near.at near2 z.near.value h.o own
          (ap (λ n. gained n (port_of v.near.at).received z.near.value) fit.call.opposite.1 ∙ it) n x near_mv.ends h.its still (near-state n is_waiting)

      far-after : x.Later near2.its.state → (DueAt l.far l.service l.tei 0 fit.call.far.0 x.answering start answered_by l.way w.beats v.far.at far2) → Stage u
      far-after still due = by-either (due-heard (is_of x.answering l.far) start answered_by l.way w.beats (port_of v.far.at) (ring l.far l.service l.tei 0 fit.call.far.0 far2.its) due)
          (λ now. absurd (answer-now still now)) (λ later.
          inr (subst (λ (e : TimedEndpoint). FarDue (w.beats + 1) e.at) (sym far-is)
          (to-here l.far l.service l.tei fit.call.far.0 x.answering start answered_by l.way (w.beats + 1) (happens (port.octet z.far.value) v.far).at far_hears.0.ends
          (due-moved l.far l.service l.tei 0 fit.call.far.0 x.answering start answered_by l.way (w.beats + 1) v.far.at (circuit.happens (port.octet z.far.value) v.far.at) far2
          (λ e. (f : Parts) × (e ≡ link.received (link.frame f))) far_hears.0
          (λ e is. plain l.far l.service l.tei fit.call.far.0 l.near fit.call.near.0 l.near.n201 (sym fit.call.opposite.1) refl (sym (sides-turned l.near l.far opposite)) e (far_hears.0.by e is)) later))))

      pub near-given : length (port_of n1.at).given ≡ w.beats
      near-given = ap (λ (p : Port). length p.given) (near-come l fit w y.pair b talk).port ∙ p.near_counts.given

      far-given : length (port_of f1.at).given ≡ w.beats
      far-given = ap (λ (p : Port). length p.given) (far-come l fit w y.pair b talk).port ∙ p.far_counts.given

      few-before : (lost n1.at ≤ base) × (lost f1.at ≤ other_base)
      few-before = grind (arith, near-lost, far-lost)

      -- A pull leaves the state.
      pull-state : near2.its.state ≡ near1.its.state
      pull-state = elim (near-pulls l fit w y.pair b talk).its_is [
        | inl same ↦ ap (λ (l : Link). l.state) same
        | inr same ↦ ap (λ (l : Link). l.state) same ∙ offer-stays (terms l.near l.service l.tei) near1.its
      ]

      -- Any beat,
      pub stage-then : state_at l w.near ≡ Some n → Stage w → Stage u
      stage-then was (inl due) =
          let given = near-given in
          let kept = near-walk (λ p y. Due (is_of x.asking l.near) start asked_by l.way w.beats p (ring l.near l.service l.tei 0 fit.call.near.0 y)) base
          (due-kept l.near l.service l.tei fit.call.near.0 l.lengths l.rate x.asking start asked_by l.way w.beats) y.near_low
          (λ few. from-here l.near l.service l.tei fit.call.near.0 x.asking start asked_by l.way w.beats w.near.at p.near_ok.but.ends due) in
          near-after (due-pull l.near l.service l.tei 0 fit.call.near.0 x.asking start asked_by l.way w.beats n1.at near1 (near-pulls l fit w y.pair b talk) (omega (arith, given)) (kept.1 few-before.0))
      stage-then was (inr due) =
          let given = far-given in
          let number = same_Some (state_number p.near_ok.but.ends.its.state) n (sym (state-here l.near l.service l.tei 0 fit.call.near.0 l.lengths l.rate w.near.at p.near_ok.but.ends) ∙ was) in
          let later =
          comes-by l.near l.service l.tei fit.call.near.0 l.lengths l.rate (λ p y. x.Still y.state) (λ p y. x.Later y.state) (λ p y. x.still_later y.state)
          (still-asked l.near l.service l.tei fit.call.near.0 l.lengths l.rate n x start asked_by l.way) (later-expired l.near l.service l.tei fit.call.near.0 l.lengths l.rate n x start asked_by l.way)
          l.way (w.beats / l.rate) w.beats p.S p.M b.near_asks w.near p.near_ok p.both.near (near-low l fit w p) (near-high l fit w p) p.near_counts (soon l fit w) talk.0
          (x.still_in p.near_ok.but.ends.its.state number) near1 in
          let kept = far-walk (λ p y. Due (is_of x.answering l.far) start answered_by l.way w.beats p (ring l.far l.service l.tei 0 fit.call.far.0 y)) other_base
          (due-kept l.far l.service l.tei fit.call.far.0 l.far_lengths l.rate x.answering start answered_by l.way w.beats) y.far_low
          (λ few. from-here l.far l.service l.tei fit.call.far.0 x.answering start answered_by l.way w.beats w.far.at p.far_ok.but.ends due) in
          far-after (subst x.Later (sym pull-state) later)
          (due-pull l.far l.service l.tei 0 fit.call.far.0 x.answering start answered_by l.way w.beats f1.at far1 (far-pulls l fit w y.pair b talk) (omega (arith, given)) (kept.1 few-before.1))

      -- and the first: the command is put before the pull, or as a frame is heard.
      pub stage-first : w.beats ≡ start → (state_at l w.near ≡ Some n → ⊥) → Stage u
      stage-first now other = go (cases_eq (state_number near2.its.state) n)
        where
          given : length (port_of n1.at).given ≡ w.beats
          given = near-given

          not-yet : state_number p.near_ok.but.ends.its.state ≡ n → ⊥
          not-yet is = other (state-here l.near l.service l.tei 0 fit.call.near.0 l.lengths l.rate w.near.at p.near_ok.but.ends ∙ ap (λ n. Some n) is)

          before : Kept l.near l.service l.tei fit.call.near.0 l.lengths l.rate (λ p y. (length p.given ≡ start) × (state_number y.state ≡ n → Due (is_of x.asking l.near) start asked_by l.way start p (ring l.near l.service l.tei 0 fit.call.near.0 y))) base n1.at near1
          before =
              let counted = p.near_counts.given in
              near-walk (λ p y. (length p.given ≡ start) × (state_number y.state ≡ n → Due (is_of x.asking l.near) start asked_by l.way start p (ring l.near l.service l.tei 0 fit.call.near.0 y))) base
              (asks-kept l.near l.service l.tei fit.call.near.0 l.lengths l.rate n x start asked_by l.way start (omega arith) (omega arith)) y.near_low
              (λ few. (counted ∙ now, λ is. absurd (not-yet is)))

          go : (state_number near2.its.state ≡ n) ⊎ (state_number near2.its.state ≡ n → ⊥) → Stage u
          go (inl was) =
              let so_many = given in
              near-after (subst (λ n. DueAt l.near l.service l.tei 0 fit.call.near.0 x.asking start asked_by l.way n v.near.at near2) (sym now)
              (due-pull l.near l.service l.tei 0 fit.call.near.0 x.asking start asked_by l.way start n1.at near1 (near-pulls l fit w y.pair b talk) (omega (arith, so_many, now))
              ((before.1 few-before.0).1 (ap state_number (sym pull-state) ∙ was))))
          go (inr none) =
              inl (subst (λ (e : TimedEndpoint). NearDue (w.beats + 1) e.at) (sym near-is)
              (to-here l.near l.service l.tei fit.call.near.0 x.asking start asked_by l.way (w.beats + 1) near_then.at near_mv.ends
              ((asks-moved l.near l.service l.tei fit.call.near.0 l.lengths l.rate n x start asked_by l.way (w.beats + 1) by-now (omega (arith, now)) v.near.at (circuit.happens (port.octet z.near.value) v.near.at) near2
              (λ e. (f : Parts) × (e ≡ link.received (link.frame f))) near_mv (λ e is. plain l.near l.service l.tei fit.call.near.0 l.far fit.call.far.0 l.near.n201 refl (sym fit.call.opposite.1) (sym opposite) e (near_mv.by e is)) none-lost
              (given-now.0, λ is. absurd (none is))).1 (near-state n is_waiting))))
            where
              none-lost : (e : LinkEvent) → near_mv.event ≡ Some e → (links.told (terms l.near l.service l.tei) e near2.its).lost ≡ 0
              none-lost e is =
                  let all = near_hears.1 e is in let few : lost (circuit.happens (port.octet z.near.value) v.near.at) ≤ base = subst (λ (e : TimedEndpoint). lost e.at ≤ base) near-is near_few in
                  let low = y.near_low in let n0 = near-lost.0 in let n1 = near-lost.1 in omega (arith, all, few, low, n0, n1)

              by-frame : (v : Option LinkEvent) → near_mv.event ≡ v → x.late ≡ 1
              by-frame None e = absurd (none (ap (λ (l : Link). state_number l.state) (sym (near_mv.link_is ∙ ap (λ v. option_map_or (λ e. links.after (terms l.near l.service l.tei) e near2.its) v near2.its) e)) ∙ near-state n is_waiting))
              by-frame (Some e) is =
                  let f = near_mv.by e is in
                  elim (x.by_frame (terms l.near l.service l.tei) f.0 near2.its (ap (λ e. state_number (links.after (terms l.near l.service l.tei) e near2.its).state) (sym f.1)
                  ∙ ap (λ (l : Link). state_number l.state) (sym (near_mv.link_is ∙ ap (λ v. option_map_or (λ e. links.after (terms l.near l.service l.tei) e near2.its) v near2.its) is)) ∙ near-state n is_waiting)) [
                    | inl was ↦ absurd (none was)
                    | inr late ↦ late
                  ]

              by-now : w.beats + 1 + half l.near l.service l.tei 0 fit.call.near.0 ≤ asked_by
              by-now = let late = by-frame near_mv.event refl in omega (arith, late, now)
