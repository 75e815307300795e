-- Beats of a call without noise, in which no timer falls due: so many beats later all that an end has sent is acknowledged.
use Rattle.laws_time.proofs.Vocabulary.{All, AsksData, Beat, Begins, Clocked, HasReceived, IsClean, IsDataOf, Line, Link, List, NoneFallsDue, OctetEndpoint as Endpoint, Wire, [], after, all-left, all-right, ap, arith, as_endpoint, beat, drop, fold-append, length, length-append, length-take-le, longest, own_link, subst, sym, take, take-append-drop, ℕ, ◌*◌, ◌++◌, ◌+◌, ◌<◌, ◌∙◌, ◌≡◌, ◌≤◌}
use Rattle.laws_wire.specs.Call.{IsTalk}
use Rattle.laws_wire.specs.Wire as wire
use Rattle.laws_time.proofs.OfCircuit.AckedCall.{sum_all, far_sends, near_sends}
use Rattle.laws_time.proofs.OfCircuit.AckedOn as on
use Rattle.laws_time.proofs.OfCircuit.AckedWire.{near_takes, far_takes}
use Rattle.laws_time.proofs.OfCircuit.AgainLaw.{Since, since-all}
use Rattle.laws_time.proofs.OfCircuit.InBeatsFrames.{come-from, short-always, few-left, near-puts, far-puts}
use Rattle.laws_time.proofs.OfCircuit.InBeatsTold.{heard-all}
use Rattle.laws_time.proofs.OfCircuit.Joined.{all-talk, put_at, wire_of}
use Rattle.laws_time.proofs.OfCircuit.Led.{Both, LedTo, led-none, led-all, undue-parts, data-is, data-talks}

-- Beats in two parts.
pub split : (n : ℕ) (bs : List Beat) → n ≤ length bs → (xs : List Beat) × (ys : List Beat) × (bs ≡ xs ++ ys) × (length xs ≡ n)
split n bs few = (take n bs, drop n bs, sym (take-append-drop n bs), length-take-le n bs few)

module _ (l : Line) (fit : Begins l) where
  abbrev pub On_wire : Wire → ℕ → Type 0
  On_wire f weight = on.On l fit f weight

  abbrev pub link_at : Endpoint → Link
  link_at s = own_link l.service l.tei (as_endpoint [] s)

  -- The two ends in a call, with the frames in transit.
  pub record Now (w : Clocked) : Type 0 where
    pub there : List (List ℕ)
    pub back : List (List ℕ)
    pub joined : Both l fit.call w.near.at w.far.at w.near.at.way w.far.at.way there back
    pub weight : ℕ
    pub on_wire : On_wire (wire_of w.near.at w.far.at there back) weight

  abbrev pub LedFrom : (w : Clocked) → Now w → Clocked → Type 0
  LedFrom w h u = LedTo l fit.call (IsDataOf l) (λ q is. is) w.near.at w.far.at h.there h.back u

  pub talks : (w u : Clocked) (h : Now w) (x : LedFrom w h u) → All (IsTalk l.service l.tei) x.es
  talks w u h x = all-talk (IsDataOf l) l.service l.tei (data-is l) x.es x.talk

  unfoldable pub goes : (w u : Clocked) (h : Now w) → LedFrom w h u → Now u
  goes w u h x =
      let y = on.all-on l fit x.es (talks w u h x) (wire_of w.near.at w.far.at h.there h.back) h.weight h.on_wire in
      record { there = x.there; back = x.back; joined = x.joined; weight = y.0; on_wire = subst (λ f. On_wire f y.0) x.leads y.1 }

  -- Beats in which data alone is asked for, and no timer falls due.
  pub record Calm (bs : List Beat) (w : Clocked) : Type 0 where
    pub data_alone : All (AsksData l) bs
    pub are_clean : All IsClean bs
    pub undue : NoneFallsDue l.rate bs w

  pub calm-parts : (xs ys : List Beat) (w : Clocked) → Calm (xs ++ ys) w → Calm xs w × Calm ys (after l.rate xs w)
  calm-parts xs ys w h =
      let undue = undue-parts l.rate xs ys w h.undue in (
        record { data_alone = all-left (AsksData l) xs ys h.data_alone; are_clean = all-left IsClean xs ys h.are_clean; undue = undue.0 },
        record { data_alone = all-right (AsksData l) xs ys h.data_alone; are_clean = all-right IsClean xs ys h.are_clean; undue = undue.1 },
      )

  pub led-calm : (bs : List Beat) (w : Clocked) (h : Now w) → Calm bs w → LedFrom w h (after l.rate bs w)
  led-calm bs w h calm =
      led-all l fit.call (IsDataOf l) (λ q is. is) w.near.at w.far.at h.there h.back bs calm.data_alone calm.are_clean w calm.undue
      (led-none l fit.call (IsDataOf l) (λ q is. is) w.near.at w.far.at h.there h.back w.near.at.way w.far.at.way h.joined)

  -- Without noise from the start on.
  pub record Stands (w : Clocked) : Type 0 where
    pub since : Since l fit.call 0 w
    pub now : Now w

  unfoldable pub stands-then : (bs : List Beat) (w : Clocked) → Calm bs w → Stands w → Stands (after l.rate bs w)
  stands-then bs w calm h = record { since = since-all l fit.call 0 bs (data-talks l bs calm.data_alone) calm.are_clean w h.since; now = goes w (after l.rate bs w) h.now (led-calm bs w h.now calm) }

  -- What is put comes, and something is put.
  pub come-calm : (bs : List Beat) (w : Clocked) → Calm bs w → Stands w → longest l.near.n201 + l.way ≤ length bs → HasReceived l w.near (after l.rate bs w).far × HasReceived l w.far (after l.rate bs w).near
  come-calm bs w calm h enough = let s = short-always l fit.call w h.since.both in come-from l fit.call l.near.n201 bs (data-talks l bs calm.data_alone) calm.are_clean w h.since enough s.0 s.1

  pub puts-calm : (bs : List Beat) (w : Clocked) → Calm bs w → Stands w → longest l.near.n201 ≤ length bs → (put_at w.near.at < put_at (after l.rate bs w).near.at) × (put_at w.far.at < put_at (after l.rate bs w).far.at)
  puts-calm bs w calm h enough =
      let s = short-always l fit.call w h.since.both in let few = few-left l fit.call l.near.n201 w h.since.both s.0 s.1 in let a = few.0 in let b = few.1 in
      let talk = data-talks l bs calm.data_alone in (near-puts l fit.call bs talk w h.since.both (omega (arith, a, enough)), far-puts l fit.call bs talk w h.since.both (omega (arith, b, enough)))

  -- All that an end has sent is acknowledged once it was received, the other was asked for a frame, and that was received.
  pub record Acked (w u : Clocked) : Type 0 where
    pub near : (link_at w.near.at).s ≤ (link_at u.near.at).a
    pub far : (link_at w.far.at).s ≤ (link_at u.far.at).a

  module _ (w w1 w2 w3 : Clocked) (h : Now w) (x1 : LedFrom w h w1) (x2 : LedFrom w1 (goes w w1 h x1) w2) (x3 : LedFrom w2 (goes w1 w2 (goes w w1 h x1) x2) w3) where
    abbrev h1 : Now w1
    h1 = goes w w1 h x1

    abbrev h2 : Now w2
    h2 = goes w1 w2 h1 x2

    abbrev f0 : Wire
    f0 = wire_of w.near.at w.far.at h.there h.back

    abbrev n201 : ℕ
    n201 = l.near.n201

    same2 : wire.doing_all x2.es (wire.doing_all x1.es f0) ≡ wire_of w2.near.at w2.far.at x2.there x2.back
    unfolding goes
    same2 = ap (wire.doing_all x2.es) x1.leads ∙ x2.leads

    same3 : wire.doing_all x3.es (wire.doing_all x2.es (wire.doing_all x1.es f0)) ≡ wire_of w3.near.at w3.far.at x3.there x3.back
    unfolding goes
    same3 = ap (wire.doing_all x3.es) same2 ∙ x3.leads

    acked-near : HasReceived l w.near w1.far → put_at w1.far.at < put_at w2.far.at → HasReceived l w2.far w3.near → (link_at w.near.at).s ≤ (link_at w3.near.at).a
    unfolding goes
    acked-near first asked last =
        let put = x2.far_put in
        subst (λ (f : Wire). (own_link l.service l.tei f0.near).s ≤ (own_link l.service l.tei f.near).a) same3
        (on.near-acked l fit x1.es x2.es x3.es (talks w w1 h x1) (talks w1 w2 h1 x2) (talks w2 w3 h2 x3) f0 h.weight h.on_wire
        (heard-all n201 l.way w.near.at w.far.at w1.far.at w.near.at.way h.there (sum_all far_takes x1.es f0) h.joined.goes first x1.far_heard)
        (subst (λ f. 1 ≤ sum_all far_sends x2.es f) (sym x1.leads) (omega (arith, put, asked))) (subst (λ (f : Wire). length f.far.way ≤ sum_all near_takes x3.es f) (sym same2)
        (heard-all n201 l.way w2.far.at w2.near.at w3.near.at w2.far.at.way x2.back (sum_all near_takes x3.es (wire_of w2.near.at w2.far.at x2.there x2.back)) x2.joined.comes last x3.near_heard)))

    acked-far : HasReceived l w.far w1.near → put_at w1.near.at < put_at w2.near.at → HasReceived l w2.near w3.far → (link_at w.far.at).s ≤ (link_at w3.far.at).a
    unfolding goes
    acked-far first asked last =
        let put = x2.near_put in
        subst (λ (f : Wire). (own_link l.service l.tei f0.far).s ≤ (own_link l.service l.tei f.far).a) same3
        (on.far-acked l fit x1.es x2.es x3.es (talks w w1 h x1) (talks w1 w2 h1 x2) (talks w2 w3 h2 x3) f0 h.weight h.on_wire
        (heard-all n201 l.way w.far.at w.near.at w1.near.at w.far.at.way h.back (sum_all near_takes x1.es f0) h.joined.comes first x1.near_heard)
        (subst (λ f. 1 ≤ sum_all near_sends x2.es f) (sym x1.leads) (omega (arith, put, asked))) (subst (λ (f : Wire). length f.near.way ≤ sum_all far_takes x3.es f) (sym same2)
        (heard-all n201 l.way w2.near.at w2.far.at w3.far.at w2.near.at.way x2.there (sum_all far_takes x3.es (wire_of w2.near.at w2.far.at x2.there x2.back)) x2.joined.goes last x3.far_heard)))

  acked-in : (xs ys zs : List Beat) (w : Clocked) → Stands w → Calm xs w → Calm ys (after l.rate xs w) → Calm zs (after l.rate ys (after l.rate xs w)) → longest l.near.n201 + l.way ≤ length xs → longest l.near.n201 ≤ length ys
      → longest l.near.n201 + l.way ≤ length zs → Acked w (after l.rate zs (after l.rate ys (after l.rate xs w)))
  unfolding stands-then
  acked-in xs ys zs w h one two three a b c =
      let w1 = after l.rate xs w in let w2 = after l.rate ys w1 in let w3 = after l.rate zs w2 in let h1 = stands-then xs w one h in let h2 = stands-then ys w1 two h1 in
      let x1 = led-calm xs w h.now one in let x2 = led-calm ys w1 h1.now two in let x3 = led-calm zs w2 h2.now three in
      let first = come-calm xs w one h a in let puts = puts-calm ys w1 two h1 b in let last = come-calm zs w2 three h2 c in
      record { near = acked-near w w1 w2 w3 h.now x1 x2 x3 first.0 puts.1 last.1; far = acked-far w w1 w2 w3 h.now x1 x2 x3 first.1 puts.0 last.0 }

  -- That is 3 L + 2 D beats later.
  pub acked-then : (bs : List Beat) (w : Clocked) → Calm bs w → Stands w → 3 * longest l.near.n201 + 2 * l.way ≤ length bs → Acked w (after l.rate bs w)
  acked-then bs w calm h enough =
      let L = longest l.near.n201 in let x = split (L + l.way) bs (omega (arith, enough)) in let more = ap length x.2 ∙ length-append x.0 x.1 in let first = x.3 in
      let y = split L x.1 (omega (arith, enough, more, first)) in let rest = ap length y.2 ∙ length-append y.0 y.1 in let second = y.3 in let is = x.2 ∙ ap (λ ys. x.0 ++ ys) y.2 in
      let p = calm-parts x.0 (y.0 ++ y.1) w (subst (λ bs. Calm bs w) is calm) in let w1 = after l.rate x.0 w in let q = calm-parts y.0 y.1 w1 p.1 in
      subst (λ bs. Acked w (after l.rate bs w)) (sym is) (subst (Acked w) (sym (fold-append (beat l.rate) w x.0 (y.0 ++ y.1) ∙ fold-append (beat l.rate) w1 y.0 y.1))
      (acked-in x.0 y.0 y.1 w h p.0 q.0 q.1 (omega (arith, first)) (omega (arith, second)) (omega (arith, enough, more, first, rest, second))))
