-- In a call on the circuit the end that calls rings, in state 5, and has heard nothing; or both ends are up.
use Rattle.laws_time.proofs.Vocabulary.{All, All-head, All-tail, AreClear, Beat, Bool, Called, Clocked, Config, ControlFrame, Face, FrameEndpoint, Held, IsAskedOfLink, IsClean, IsClearAt, IsFit, IsInRange, IsInRangeTerms, IsOfLink, IsTalk, IsUp, Lengths, Line, LineTold, Link, LinkEndpoint, List, None, Option, Parts, Port, Service, Some, StationStands, Step, StepAt, T200}
use Rattle.laws_time.proofs.Vocabulary.{TimedEndpoint, WasTold, Wire, [], after, answered_in, ap, arith, beat, calling, card_of, comes_to, confirmed, data_told, doing, end, fresh, gained, gone, happens, indicated, inl, inr, is_multiple_frame, is_waiting, its_sabme, length, line_at, link_in, lt-div-mul-add, map, moment_of, mul-div-le, mul-le, obeyed, octet_at, option_map}
use Rattle.laws_time.proofs.Vocabulary.{patient-goes, port_of, refl, regranted, ringing, sabme, same_Some, seeing, seen, setting, state, state_at, state_number, subst, sym, terms, true, true≢false, uncalled, ℕ, ◌*◌, ◌++◌, ◌+◌, ◌-◌, ◌/◌, ◌<◌, ◌==◌, ◌∙◌, ◌∷◌, ◌≡◌, ◌≤◌, ◌⊎◌, by-either, by-option}
use Rattle.laws_wire.proofs.UaLostRun as run
use Rattle.lapd_frame.specs.declared.timers.Timer.TheVariants as timers
use Rattle.model_link.specs.Events as link
use Rattle.model_line.specs.Event as line
use Rattle.model_card.specs.Event as frame_event
use Rattle.model_card.specs.ports.Port as port
use Rattle.model_timed.specs.Frames as timed_frames
use Rattle.laws_order.specs.circuit.Circuit as circuit
use Rattle.laws_wire.specs.Losing.{heard_in}
use Rattle.laws_wire.proofs.Ringing.{Tries}
use Rattle.laws_time.proofs.OfCircuit.ArrivAs.{station, heard_of}
use Rattle.laws_time.proofs.OfCircuit.ArrivBeat.{Reached}
use Rattle.laws_time.proofs.OfCircuit.Words.{Ends, Gone, Leads, Moved, Pair, awaits-in, begins_of, frame_steps, in-all, inside, near-gone, near-high, near-low, orders-are, prompt-inside, soon, state-here, state-is, steps-inside}
use Rattle.laws_time.proofs.Falls.{moment-keeps}
use Rattle.laws_time.proofs.Before.{Goes as TimedGoes, before-goes, begins as timed-begins}
use Rattle.laws_time.proofs.OfCircuit.Answered.{Waits, grows-all, stage-all, soon-over}
use Rattle.laws_time.proofs.OfCircuit.AnsweredEnds.{lost, its-same, DueAt}
use Rattle.laws_time.proofs.OfCircuit.AnsweredRows.{establishment, establishment-asks}
use Rattle.laws_time.proofs.OfCircuit.AnsweredRun.{Ready, Stage, asked_by, ready-then, near-lost, near_mv, near-is, near-state, near-after, z, near-come, near-pulls}
use Rattle.laws_time.proofs.OfCircuit.InCallDue.{Rings, IsUntold, untold-parts, runs_at, on-runs, KeptAt, comes-kept, pull-kept}
use Rattle.laws_time.proofs.Walk.{seen as seen_through}

-- The link of an end is that of its station.
module _ (c : Config) (service : Service) (tei : ℕ) (ranged : IsInRange c) (a : TimedEndpoint) (ends : Ends c service tei 0 ranged a.at) (there : List (List ℕ)) (ts : List LineTold) (x : FrameEndpoint)
    (is : x ≡ station there ts a.at) (n : LinkEndpoint) (stands : StationStands c service tei 0 x n) where
  pub its-is : ends.its ≡ n.link
  its-is = sym ends.stands.speaks.link ∙ ap (λ (x : FrameEndpoint). link_in (line_at x.line x.card) service 0) (sym is) ∙ stands.speaks.link

module _ (service : Service) (tei : ℕ) (c d : Config) (p q : ℕ) (face : Face c d) (back : Face d c) (rt : IsInRangeTerms (terms c service tei)) (ru : IsInRangeTerms (terms d service tei)) where
  -- It rings.
  pub record Rung (v : Wire) : Type 0 where
    pub repeats : Tries
    pub waiting : List ControlFrame
    pub way : List Parts
    pub near : Held c service tei p [] v.near (end (terms c service tei) (ringing repeats waiting) way)

  pub record BothUp (v : Wire) : Type 0 where
    pub n : LinkEndpoint
    pub m : LinkEndpoint
    pub near_told : (more : List LineTold) × (heard_in v.near ≡ confirmed service tei ∷ more)
    pub far_told : (more : List LineTold) × (heard_in v.far ≡ indicated service tei ∷ more)
    pub near : StationStands c service tei p v.near n
    pub far : StationStands d service tei q v.far m
    pub near_up : is_multiple_frame n.link.state ≡ true
    pub far_up : is_multiple_frame m.link.state ≡ true

  rings-in : (P : FrameEndpoint → Type 0) (v : Wire) → run.Rs service tei c d p q face back rt ru P v → Rung v
  rings-in P v (inl h) = record { repeats = h.repeats; waiting = []; way = []; near = h.near }
  rings-in P v (inr (inl h)) = record { repeats = h.repeats; waiting = its_sabme ∷ []; way = []; near = h.near }
  rings-in P v (inr (inr h)) = record { repeats = h.repeats; waiting = []; way = sabme (terms c service tei) ∷ []; near = h.near }

  -- What the end that is called was told of SABME begins with the indication.
  abbrev pub Begins : List LineTold → Type 0
  Begins told = (told ≡ []) ⊎ ((rest : List LineTold) × (told ≡ indicated service tei ∷ rest))

  begins-step : (x : Called) (k : StepAt) (w : Wire) → Begins x.told → Begins (seeing service tei k w x).told
  begins-step x h w h' = grind arith

  pub begins-all : (ds : List StepAt) (w : Wire) (x : Called) → Begins x.told → Begins (seen service tei ds w x).told
  unfolding seen
  begins-all [] w x h = h
  begins-all (k ∷ ds) w x h = begins-all ds (doing k w) (seeing service tei k w x) (begins-step x k w h)

  called-in : (past rest : List LineTold) → past ≡ indicated service tei ∷ rest → (b : Bool) (v : Wire) → run.IsCalled service tei c d p q face back rt ru past b v → Rung v ⊎ BothUp v
  called-in past rest begun b v (inl h) = inl (rings-in (run.Away service tei c d p q face back rt ru past b) v h)
  called-in past rest begun b v (inr (inl h)) = inl (record { repeats = h.repeats; waiting = []; way = []; near = h.near })
  called-in past rest begun b v (inr (inr (inl h))) = inl (record { repeats = h.repeats; waiting = []; way = []; near = h.near })
  called-in past rest begun b v (inr (inr (inr h))) = grind (arith, map, data_told)

  pub phase-in : (x : Called) (v : Wire) → Begins x.told → run.Phase service tei c d p q face back rt ru x v → Rung v ⊎ BothUp v
  phase-in x v first (inl (told, sent, h)) = inl (rings-in (run.Down service tei c d p q face back rt ru) v h)
  phase-in x v (inl none) (inr (some, h)) = absurd (true≢false (sym (ap (λ ts. length ts == 0) none) ∙ some))
  phase-in x v (inr (rest, is)) (inr (some, h)) = called-in x.told rest is x.sent v h

module _ (l : Line) (fit : IsFit l) (w : Clocked) (pair : Pair l (begins_of fit) w) (r : Reached l fit (calling l.service l.tei l.near l.near_line l.far l.far_line) w) where
  abbrev x : Called
  x = seen l.service l.tei r.path.steps (calling l.service l.tei l.near l.near_line l.far l.far_line) uncalled

  abbrev GoesTo : Wire → Type 0
  GoesTo f = run.Goes l.service l.tei l.near l.far 0 0 (setting l.service l.near l.far l.near_line l.far_line l.tei fit.call).face (setting l.service l.near l.far l.near_line l.far_line l.tei fit.call).back (setting l.service l.near l.far l.near_line l.far_line l.tei fit.call).near (setting l.service l.near l.far l.near_line l.far_line l.tei fit.call).far x f

  goes : GoesTo r.f
  goes = subst GoesTo r.path.leads (patient-goes l.service l.near l.far l.near_line l.far_line l.tei r.path.steps fit.call r.path.done r.path.patient)

  near-heard : heard_in goes.v.near ≡ heard_of w.near.at.told
  near-heard = ap (λ (f : Wire). heard_in f.near) (sym goes.is) ∙ ap heard_in r.same.near_is ∙ r.same.near_heard

  near-number : (n : LinkEndpoint) → StationStands l.near l.service l.tei 0 goes.v.near n → state_at l w.near ≡ Some (state_number n.link.state)
  near-number n stands =
      state-here l.near l.service l.tei 0 fit.call.near.0 l.lengths l.rate w.near.at pair.near_ok.but.ends ∙ ap (λ (x : Link). Some (state_number x.state))
      (its-is l.near l.service l.tei fit.call.near.0 w.near pair.near_ok.but.ends r.same.there r.same.ts goes.v.near (ap (λ (f : Wire). f.near) (sym goes.is) ∙ r.same.near_is) n stands)

  far-number : (m : LinkEndpoint) → StationStands l.far l.service l.tei 0 goes.v.far m → state_at l w.far ≡ Some (state_number m.link.state)
  far-number m stands =
      state-here l.far l.service l.tei 0 fit.call.far.0 l.far_lengths l.rate w.far.at pair.far_ok.but.ends ∙ ap (λ (x : Link). Some (state_number x.state))
      (its-is l.far l.service l.tei fit.call.far.0 w.far pair.far_ok.but.ends r.same.back r.same.us r.f.far r.same.far_is m
      (subst (λ (s : FrameEndpoint). StationStands l.far l.service l.tei 0 s m) (ap (λ (f : Wire). f.far) (sym goes.is)) (regranted l.far l.service l.tei 0 goes.v.far m (goes.earlier ++ goes.v.far.granted) stands)))

  -- The call came through.
  abbrev CameThrough : Type 0
  CameThrough = IsUp l w.near × IsUp l w.far × WasTold (confirmed l.service l.tei) w.near × WasTold (indicated l.service l.tei) w.far

  up-at : (a : TimedEndpoint) (n : LinkEndpoint) → state_at l a ≡ Some (state_number n.link.state) → is_multiple_frame n.link.state ≡ true → IsUp l a
  up-at a n is up = grind arith

  pub in-call : ((state_at l w.near ≡ Some 5) × (heard_of w.near.at.told ≡ [])) ⊎ ((heard_of w.near.at.told ≡ [] → ⊥) × CameThrough)
  in-call = go (phase-in l.service l.tei l.near l.far 0 0 (setting l.service l.near l.far l.near_line l.far_line l.tei fit.call).face (setting l.service l.near l.far l.near_line l.far_line l.tei fit.call).back (setting l.service l.near l.far l.near_line l.far_line l.tei fit.call).near (setting l.service l.near l.far l.near_line l.far_line l.tei fit.call).far x goes.v
      (begins-all l.service l.tei l.near l.far 0 0 (setting l.service l.near l.far l.near_line l.far_line l.tei fit.call).face (setting l.service l.near l.far l.near_line l.far_line l.tei fit.call).back (setting l.service l.near l.far l.near_line l.far_line l.tei fit.call).near (setting l.service l.near l.far l.near_line l.far_line l.tei fit.call).far r.path.steps (calling l.service l.tei l.near l.near_line l.far l.far_line) uncalled (inl refl)) goes.phase)
    where
      go : Rung l.service l.tei l.near l.far 0 0 (setting l.service l.near l.far l.near_line l.far_line l.tei fit.call).face (setting l.service l.near l.far l.near_line l.far_line l.tei fit.call).back (setting l.service l.near l.far l.near_line l.far_line l.tei fit.call).near (setting l.service l.near l.far l.near_line l.far_line l.tei fit.call).far goes.v ⊎ BothUp l.service l.tei l.near l.far 0 0 (setting l.service l.near l.far l.near_line l.far_line l.tei fit.call).face (setting l.service l.near l.far l.near_line l.far_line l.tei fit.call).back (setting l.service l.near l.far l.near_line l.far_line l.tei fit.call).near (setting l.service l.near l.far l.near_line l.far_line l.tei fit.call).far goes.v
          → ((state_at l w.near ≡ Some 5) × (heard_of w.near.at.told ≡ [])) ⊎ ((heard_of w.near.at.told ≡ [] → ⊥) × CameThrough)
      go (inl h) = inl (near-number (end (terms l.near l.service l.tei) (ringing h.repeats h.waiting) h.way) h.near.stands, sym near-heard ∙ h.near.heard)
      go (inr h) =
          let near : heard_of w.near.at.told ≡ confirmed l.service l.tei ∷ h.near_told.0 = sym near-heard ∙ h.near_told.1 in
          inr (
            (λ none. cc (sym none ∙ near)),
            (
              up-at w.near h.n (near-number h.n h.near) h.near_up,
              up-at w.far h.m (far-number h.m h.far) h.far_up,
              (h.near_told.0, near),
              (h.far_told.0, sym (ap (λ (f : Wire). heard_in f.far) (sym goes.is) ∙ ap heard_in r.same.far_is ∙ r.same.far_heard) ∙ h.far_told.1),
            ),
          )

-- ---- an end that rings on a line without noise: within T200 SABME goes again, and then it is answered in time

-- Nothing is told at the near end, beat by beat.
abbrev pub AreUntold : Line → List Beat → Clocked → Type 0
AreUntold l [] w = Unit {0}
AreUntold l (b ∷ bs) w = IsUntold (beat l.rate w b).near.at.told × AreUntold l bs (beat l.rate w b)

-- In state 5 T200 of an end falls due within its length.
module _ (c : Config) (service : Service) (tei : ℕ) (ranged : IsInRange c) (lengths : Lengths) (a : TimedEndpoint) (h : Ends c service tei 0 ranged a.at) (first : Leads (fresh c lengths) (card_of a))
    (five : state a.at.line service tei a.at.card.card ≡ Some 5) where
  abbrev number : ℕ
  number = a.at.line

  abbrev steps : List (Step frame_event.Event)
  steps = frame_steps first.steps (fresh c lengths)

  abbrev events : List frame_event.Event
  events = timed_frames.events_of steps (timed_frames.fresh c lengths)

  there : TimedGoes c lengths 0 number ranged h.ran.within service tei events (timed_frames.after_all steps (timed_frames.fresh c lengths))
  there = before-goes c lengths 0 number ranged h.ran.within service tei [] (timed_frames.fresh c lengths) steps (timed-begins c lengths 0 number ranged h.ran.within service tei) (prompt-inside 0 first.steps (fresh c lengths) first.prompt)

  same-card : timed_frames.after_all steps (timed_frames.fresh c lengths) ≡ inside (card_of a)
  same-card = sym (steps-inside first.steps (fresh c lengths)) ∙ ap inside first.leads

  o-five : (seen_through c lengths 0 number ranged h.ran.within service tei events).state ≡ 5
  o-five =
      state-is c events number ranged there.stands.all h.ran.within service tei 5
      (ap (state number service tei) (sym there.stands.card) ∙ ap (λ (t : timed_frames.TimedCard). state number service tei t.card) same-card ∙ five)

  pub t200-there : (m : ℕ) × (moment_of a.at.line (timers.T200 service tei) a.clock.running ≡ Some m) × (m ≤ a.clock.now + lengths.t200)
  t200-there =
      let o = seen_through c lengths 0 number ranged h.ran.within service tei events in
      let d = there.timers_are T200 (awaits-in o (ap is_waiting o-five)) in (
        d.0,
        ap (λ (t : timed_frames.TimedCard). moment_of number (timers.T200 service tei) t.clock.running) (sym same-card) ∙ d.1,
        subst (λ (t : timed_frames.TimedCard). d.0 ≤ t.clock.now + lengths.t200) same-card d.3,
      )

module _ (l : Line) (fit : IsFit l) (clean base other_base m : ℕ) where
  abbrev runs_now : TimedEndpoint → Option ℕ
  runs_now a = runs_at l.near l.service l.tei fit.call.near.0 l.lengths l.rate a

  abbrev ReadyNow : Clocked → Type 0
  ReadyNow w = Ready l (begins_of fit) clean base other_base w

  -- A beat.
  module _ (w : Clocked) (soon_clean : clean + 1 ≤ w.beats) (y : ReadyNow w) (b : Beat) (talk : IsTalk l b) (asked : All (λ r. IsOfLink l.service l.tei r × IsAskedOfLink l.service l.tei r) b.near_asks)
      (is_clean : IsClean b) (near_clear : IsClearAt l.near.n201 b.near_noise (gone l.rate b w).near (gone l.rate b w).far) (far_clear : IsClearAt l.near.n201 b.far_noise (gone l.rate b w).far (gone l.rate b w).near)
      (five : state_number y.pair.near_ok.but.ends.its.state ≡ 5) (five_then : state_at l (beat l.rate w b).near ≡ Some 5) (near_few : lost (beat l.rate w b).near.at ≤ base) (far_few : lost (beat l.rate w b).far.at ≤ other_base)
      (runs_m : runs_now w.near ≡ Some m) (untold_then : IsUntold (beat l.rate w b).near.at.told) where
    abbrev most : ℕ
    most = asked_by l (begins_of fit) 5 establishment w.beats

    abbrev KeptNow : (a : TimedEndpoint) → Ends l.near l.service l.tei 0 fit.call.near.0 a.at → Type 0
    KeptNow a h = KeptAt l.near l.service l.tei fit.call.near.0 l.lengths l.rate w.beats most l.way w.beats m base a h

    abbrev p : Pair l (begins_of fit) w
    p = y.pair

    first : KeptNow w.near p.near_ok.but.ends
    first = record { low_lost = y.near_low; rings = inl five; said = λ four none. never (sym five ∙ four); due = λ few five. inl runs_m }
      where
        never : ◌≡◌ {A = ℕ} 5 4 → ⊥
        never wrong = cc wrong

    abbrev come : TimedEndpoint
    come = comes_to (w.beats / l.rate) b.near_asks w.near

    came : KeptNow come (near-come l (begins_of fit) w p b talk).ok.but.ends
    came =
        let c = fit.call in
        comes-kept l.near l.service l.tei c.near.0 l.lengths l.rate w.beats most l.way w.beats m base w.beats (omega arith) (omega arith) l.way (w.beats / l.rate) w.beats p.S
        p.M b.near_asks w.near p.near_ok p.both.near (near-low l (begins_of fit) w p) (near-high l (begins_of fit) w p) p.near_counts
        (soon l (begins_of fit) w) asked talk.0 refl first (near-come l (begins_of fit) w p b talk).ok.but.ends

    given : length (port_of come.at).given ≡ w.beats
    given = ap (λ (p : Port). length p.given) (near-come l (begins_of fit) w p b talk).port ∙ p.near_counts.given

    pulled : KeptNow (gone l.rate b w).near (near-pulls l (begins_of fit) w p b talk).ends
    pulled =
        let so_many = given in
        pull-kept l.near l.service l.tei fit.call.near.0 l.lengths l.rate w.beats most l.way w.beats m base come (near-come l (begins_of fit) w p b talk).S'
        p.M (near-come l (begins_of fit) w p b talk).ok came (near-pulls l (begins_of fit) w p b talk) (omega (arith, so_many))

    abbrev hears_mv : Moved l.near l.service l.tei 0 fit.call.near.0 (gone l.rate b w).near.at
        (circuit.happens (port.octet (z l (begins_of fit) 5 establishment w.beats clean base other_base soon_clean w y b talk is_clean near_clear far_clear).near.value) (gone l.rate b w).near.at) (near-pulls l (begins_of fit) w p b talk).ends
        (λ e. (f : Parts) × (e ≡ link.received (link.frame f)))
    hears_mv = near_mv l (begins_of fit) 5 establishment w.beats clean base other_base soon_clean w y b talk is_clean near_clear far_clear

    abbrev value : ℕ
    value = (z l (begins_of fit) 5 establishment w.beats clean base other_base soon_clean w y b talk is_clean near_clear far_clear).near.value

    five-now : state_number hears_mv.ends.its.state ≡ 5
    five-now = near-state l (begins_of fit) 5 establishment w.beats clean base other_base soon_clean w y b talk is_clean near_clear far_clear 5 five_then

    five-pulled : state_number (near-pulls l (begins_of fit) w p b talk).ends.its.state ≡ 5
    five-pulled = go pulled.rings
      where
        -- what is told in the beat is told before the octet is heard
        untold-pulled : IsUntold (gone l.rate b w).near.at.told
        untold-pulled =
            (untold-parts (gone l.rate b w).near.at.told _
            (subst (λ (a : TimedEndpoint). IsUntold a.at.told) (near-is l (begins_of fit) 5 establishment w.beats clean base other_base soon_clean w y b talk is_clean near_clear far_clear) untold_then)).0

        go : Rings (near-pulls l (begins_of fit) w p b talk).ends.its.state → state_number (near-pulls l (begins_of fit) w p b talk).ends.its.state ≡ 5
        go (inl five) = five
        go (inr four) = absurd (pulled.said four untold-pulled)

    abbrev vn : TimedEndpoint
    vn = (gone l.rate b w).near

    g : Gone l.service l.tei l.way l.lengths l.rate l.near fit.call.near.0 (w.beats / l.rate) w.beats p.S
        p.M (gone l.rate b w).near
    g = near-gone l (begins_of fit) w p b talk

    -- T200 runs on as an octet is heard.
    on-heard : runs_now (happens (port.octet value) vn) ≡ runs_now vn
    on-heard = by-option (gained vn.at.card.card.config.n201 (port_of vn.at).received value) (λ is.
        ap (λ os. moment_of vn.at.line (timers.T200 l.service l.tei) (obeyed vn.at.line os vn.clock).running)
        (orders-are (octet_at vn.at.line (port.octet value)) vn.at.card None (ap (option_map line.hears) is)))
        (λ e is.
        on-runs l.near l.service l.tei fit.call.near.0 l.lengths l.rate vn (port.octet value) g.S'
        p.M g.ok.but (line.hears e) (ap (option_map line.hears) is) refl hears_mv.ends
        (ap (λ (x : Link). state_number x.state) (its-same l.near l.service l.tei 0 fit.call.near.0 vn.at g.ok.but.ends (near-pulls l (begins_of fit) w p b talk).ends) ∙ five-pulled) five-now)

    pub rings-on : (runs_now (beat l.rate w b).near ≡ Some m) ⊎ (Stage l (begins_of fit) 5 establishment w.beats (beat l.rate w b))
    rings-on =
        let few = (near-lost l (begins_of fit) 5 establishment w.beats clean base other_base soon_clean w y b talk is_clean near_clear far_clear).2 in
        by-either (pulled.due (omega (arith, few, near_few)) five-pulled)
        (λ runs_v. inl (ap runs_now (near-is l (begins_of fit) 5 establishment w.beats clean base other_base soon_clean w y b talk is_clean near_clear far_clear) ∙ on-heard ∙ runs_v)) (λ due.
        inr (near-after l (begins_of fit) 5 establishment w.beats clean base other_base soon_clean w y b talk is_clean near_clear far_clear five_then (λ e. absurd (cc e)) near_few far_few (omega arith)
        (subst (λ kind. DueAt l.near l.service l.tei 0 fit.call.near.0 kind w.beats most l.way w.beats vn.at (near-pulls l (begins_of fit) w p b talk).ends) (sym establishment-asks) due)))

  -- So many beats, as long as it rings: T200 runs on, or SABME went again in a beat by then.
  pub record Again (w : Clocked) : Type 0 where
    pub since : ℕ
    pub late : clean + 1 ≤ since
    pub soon : since ≤ m * l.rate
    pub stage : (Stage l (begins_of fit) 5 establishment since w)

  -- The moment of T200 has not come.
  not-come : (w : Clocked) → Pair l (begins_of fit) w → runs_now w.near ≡ Some m → w.beats ≤ m * l.rate
  not-come w p runs_m =
      by ((w.beats - 1) / l.rate) (lt-div-mul-add {a = w.beats - 1} {b = l.rate} fit.some)
      (subst (λ n. n < m) p.both.near_now (moment-keeps (λ t m. w.near.clock.now < m) w.near.at.line (timers.T200 l.service l.tei) w.near.clock.running m p.both.near.later runs_m))
    where
      by : (q : ℕ) → w.beats - 1 < q * l.rate + l.rate → q < m → w.beats ≤ m * l.rate
      by q high less = let up = mul-le (q + 1) l.rate m l.rate (omega (arith, less)) (omega arith) in let is : (q + 1) * l.rate ≡ q * l.rate + l.rate = grind arith in omega (arith, up, is, high)

  five-of : (w : Clocked) (p : Pair l (begins_of fit) w) → state_at l w.near ≡ Some 5 → (state_number p.near_ok.but.ends.its.state) ≡ 5
  five-of w p is = same_Some (state_number p.near_ok.but.ends.its.state) 5 (sym (state-here l.near l.service l.tei 0 fit.call.near.0 l.lengths l.rate w.near.at p.near_ok.but.ends) ∙ is)

  abbrev AskBoth : Beat → Type 0
  AskBoth b = All (λ r. IsOfLink l.service l.tei r × IsAskedOfLink l.service l.tei r) b.near_asks

  pub all-ring : (bs : List Beat) (w : Clocked) → clean + 1 ≤ w.beats → ReadyNow w → All (IsTalk l) bs → All AskBoth bs → AreClear l bs w → All IsClean bs → Waits l 5 bs w → AreUntold l bs w → state_at l w.near ≡ Some 5
      → runs_now w.near ≡ Some m → lost (after l.rate bs w).near.at ≤ base → lost (after l.rate bs w).far.at ≤ other_base → (runs_now (after l.rate bs w).near ≡ Some m) ⊎ Again (after l.rate bs w)
  unfolding AreClear Waits
  all-ring [] w late y talk asked clear is_clean states untold five runs_m near_few far_few = inl runs_m
  all-ring (b ∷ bs) w late y talk asked clear is_clean states untold five runs_m near_few far_few =
      let t = All-head (IsTalk l) b bs talk in let ts = All-tail (IsTalk l) b bs talk in let c = All-head IsClean b bs is_clean in let cs = All-tail IsClean b bs is_clean in let u = beat l.rate w b in
      let ready : ReadyNow (beat l.rate w b) = ready-then l (begins_of fit) 5 establishment w.beats clean base other_base late w y b t c clear.0 clear.1 in
      let rest = grows-all l (begins_of fit) 5 establishment w.beats clean base other_base late bs u ready ts clear.2 cs in let n = rest.near_more in let f = rest.far_more in
      let one = rings-on w late y b t (All-head AskBoth b bs asked) c clear.0 clear.1 (five-of w y.pair five) states.0 (omega (arith, n, near_few)) (omega (arith, f, far_few)) runs_m untold.0 in
      elim one [
        | inl runs_on ↦ all-ring bs u (omega (arith, late)) ready ts (All-tail AskBoth b bs asked) clear.2 cs states.2 untold.1 states.0 runs_on near_few far_few
        | inr stage ↦
            inr (record {
              since = w.beats;
              late = late;
              soon = not-come w y.pair runs_m;
              stage = stage-all l (begins_of fit) 5 establishment w.beats clean base other_base late bs u ready ts clear.2 cs states.2 near_few far_few (omega arith) states.0 stage;
            })
      ]

-- So it rings no longer than T200 and an answer's time.
module _ (l : Line) (fit : IsFit l) (clean base other_base m : ℕ) where
  pub rings-shortly : (w last : Clocked) (n : ℕ) → Pair l (begins_of fit) w → 1 ≤ w.beats → m ≤ w.near.clock.now + l.lengths.t200 → last.beats ≡ w.beats + n → Ready l (begins_of fit) clean base other_base last
      → (runs_at l.near l.service l.tei fit.call.near.0 l.lengths l.rate last.near ≡ Some m) ⊎ Again l fit clean base other_base m last → n < l.lengths.t200 * l.rate + answered_in l.near l.far l.way
  rings-shortly w last n p some_beats low so_many y = by
    where
      -- the moment of T200, in beats
      m_low : m * l.rate + 1 ≤ w.beats + l.lengths.t200 * l.rate
      m_low =
          let now_is = p.both.near_now in let up = mul-le m l.rate (w.near.clock.now + l.lengths.t200) l.rate low (omega arith) in
          let spread : (w.near.clock.now + l.lengths.t200) * l.rate ≡ l.rate * w.near.clock.now + l.lengths.t200 * l.rate = grind arith in let whole = mul-div-le (w.beats - 1) l.rate in
          let now_low : l.rate * w.near.clock.now ≤ w.beats - 1 = subst (λ n. l.rate * n ≤ w.beats - 1) (sym now_is) whole in omega (arith, up, spread, now_low, some_beats)

      by : (runs_at l.near l.service l.tei fit.call.near.0 l.lengths l.rate last.near ≡ Some m) ⊎ Again l fit clean base other_base m last → n < l.lengths.t200 * l.rate + answered_in l.near l.far l.way
      by (inl runs_m) =
          let come = not-come l fit clean base other_base m last y.pair runs_m in let low_is = m_low in let some = in-all l (begins_of fit) 0 in omega (arith, come, low_is, so_many, some)
      by (inr again) =
          let bound = soon-over l (begins_of fit) 5 establishment again.since clean base other_base again.late last y again.stage in let soon = again.soon in let low_is = m_low in
          let few = establishment.few in let some = in-all l (begins_of fit) 0 in omega (arith, bound, soon, low_is, so_many, few, some)
