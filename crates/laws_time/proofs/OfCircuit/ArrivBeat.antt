-- A beat of the clocked circuit is done on a wire of frames, and T200 is long enough there.
use Rattle.laws_time.proofs.Vocabulary.{All, All-cons, All-head, All-nil, All-tail, All-weaker, AreAsked, AreClear, Beat, Clocked, Establish, FrameEndpoint, HasNo, IsAsked, IsAskedOfLink, IsClearAt, IsFit, IsOfLink, IsTalk, Line, LineTold, LinkEndpoint, List, Request, TimedEndpoint, Wire, [], after, all_due, ap, arith}
use Rattle.laws_time.proofs.Vocabulary.{asked, asks, beat, calls, comes_to, drop, fold, gone, happens, hears, is_final, length, port_of, refl, subst, sym, unwrap_or, ℕ, ◌*◌, ◌+◌, ◌/◌, ◌∷◌, ◌≡◌, ◌≤◌, Some, ◌∙◌, Expiry, Timer, as_endpoint, Ran, OctetEndpoint, falls, fall_due, is_waiting, by-bool, open-here, IsFullTalkOf, IsLongEnough, IsTimelyOf, MayRepeat, awaits_in, is_poll, acting, expires}
use Rattle.laws_time.proofs.Vocabulary.{requests, sends, turned, Port, is_due, IsInRange, state_number, due, without_first, EndStep as Step, true, Option, state-is, false}
use Rattle.lapd_frame.specs.declared.timers.Timer.TheVariants as timers
use Rattle.model_card.specs.ports.Port as port
use Rattle.model_line.specs.Event as line
use Rattle.laws_wire.specs.Wire as wire
use Rattle.laws_order.specs.circuit.Circuit as circuit
use Rattle.laws_time.specs.circuit.LongEnough.{is_of}
use Rattle.laws_time.proofs.OfCircuit.ArrivAs.{station, heard_of, Becomes, asked-becomes, expired-becomes, due-becomes, undue-becomes, hears-so, heard-port, Path, path-none, path-one, path-both, path-turned}
use Rattle.laws_time.proofs.OfCircuit.ArrivSide.{IsFair, fair-parts, fair-may, parts, are-own, stands, has-none, fair-happens, fair-asks, fair-falls}
use Rattle.laws_time.proofs.OfCircuit.ArrivWay.{Going, going-with, before-long, pulled-way}
use Rattle.laws_time.proofs.OfCircuit.Words.{EndOk, Ends, Goes, Pair, RunsOurs, Sends, asks as asks_frame, asks-goes, at-moment, at_time, bare, begins_of, due-is, expired-reply, falls-keep, far-gone, fell-goes, first-of, fit-turned, fold-keeps, goes-both, goes-none, half, in-all, long-ago, near-gone, near-high, near-in-all, near-low, own-timer, pair-then, pair-turned, ring, soon, soon-then}
use Rattle.laws_time.proofs.OfCircuit.Words.{turned_line, turned_world}

-- ---- the circuit as a wire of stations: what is done at one end is done at its station

-- Two ends, with these octets in transit, and a wire.
pub record Alike (l : Line) (s r : OctetEndpoint) (ws wr : List ℕ) (f : Wire) : Type 0 where
  pub there : List (List ℕ)
  pub back : List (List ℕ)
  pub goes : Going l.near.n201 (port_of s) ws there
  pub comes : Going l.far.n201 (port_of r) wr back
  pub ts : List LineTold
  pub us : List LineTold
  pub near_is : f.near ≡ station there ts s
  pub far_is : f.far ≡ station back us r
  pub near_heard : heard_of ts ≡ heard_of s.told
  pub far_heard : heard_of us ≡ heard_of r.told

abbrev pub Same : Line → Clocked → Wire → Type 0
Same l w f = Alike l w.near.at w.far.at w.near.at.way w.far.at.way f

-- It leads there from a wire.
pub record Done (l : Line) (start : Wire) (s r : OctetEndpoint) (ws wr : List ℕ) : Type 0 where
  pub f : Wire
  pub path : Path l.service l.tei start f
  pub same : Alike l s r ws wr f

module _ (l : Line) (start : Wire) (s r : OctetEndpoint) (ws wr : List ℕ) (h : Done l start s r ws wr) where
  abbrev x : Alike l s r ws wr h.f
  x = h.same

  done-turned : Done (turned_line l) (turned start) r s wr ws
  done-turned = record {
    f = turned h.f;
    path = path-turned l.service l.tei start h.f h.path;
    same = record { there = x.back; back = x.there; goes = x.comes; comes = x.goes; ts = x.us; us = x.ts; near_is = x.far_is; far_is = x.near_is; near_heard = x.far_heard; far_heard = x.near_heard };
  }

  -- An event of the near end,
  done-event : (u : OctetEndpoint) (way : List ℕ) (there : List (List ℕ)) (e : line.Event) (act : Step) → IsFullTalkOf l.service l.tei act → IsTimelyOf act h.f
      → acting act h.f ≡ record { near = wire.happens e h.f.near; far = h.f.far } → Going l.near.n201 (port_of u) way there → Becomes (wire.happens e (station x.there x.ts s)) there u → Done l start u r way wr
  done-event u way there e act talks timely acts goes b =
      let g : Wire = record { near = wire.happens e h.f.near; far = h.f.far } in
      record {
        f = g;
        path = path-both l.service l.tei start h.f g h.path (path-one l.service l.tei act talks h.f g timely acts);
        same = record { there = there; back = x.back; goes = goes; comes = x.comes; ts = b.ts; us = x.us; near_is = ap (wire.happens e) x.near_is ∙ b.is; far_is = x.far_is; near_heard = b.heard; far_heard = x.far_heard };
      }

  -- that leaves its port: layer 3 asks, or a timer expires.
  done-silent : (u : OctetEndpoint) (e : line.Event) (act : Step) → IsFullTalkOf l.service l.tei act → IsTimelyOf act h.f → acting act h.f ≡ record { near = wire.happens e h.f.near; far = h.f.far }
      → port_of u ≡ port_of s → Becomes (wire.happens e (station x.there x.ts s)) x.there u → Done l start u r ws wr
  done-silent u e act talks timely acts port b = done-event u ws x.there e act talks timely acts (subst (λ p. Going l.near.n201 p ws x.there) (sym port) x.goes) b

  done-pulled : IsInRange l.near → Ran l.near s → s.way ≡ ws → Done l start (circuit.happens port.pull s) r (circuit.happens port.pull s).way wr
  done-pulled ranged ran is =
      let u = circuit.happens port.pull s in let goes = subst (λ ws. Going l.near.n201 (port_of s) ws x.there) (sym is) x.goes in
      by-bool (is_due (port_of s))
      (λ due. done-event u u.way (wire.happens line.next (as_endpoint x.there s)).way line.next sends tt tt refl (pulled-way l.near ranged s ran x.there goes true due) (due-becomes x.there s x.ts x.near_heard due))
      (λ due.
      let b = undue-becomes x.there s x.ts x.near_heard due in
      record {
        f = h.f;
        path = h.path;
        same = record { there = x.there; back = x.back; goes = pulled-way l.near ranged s ran x.there goes false due; comes = x.comes; ts = b.ts; us = x.us; near_is = x.near_is ∙ b.is; far_is = x.far_is; near_heard = b.heard; far_heard = x.far_heard };
      })

  -- The octets that were in transit are so no more.
  done-passed : Done l start (circuit.without_first s) (circuit.without_first r) ws wr
  done-passed = record {
    f = h.f;
    path = h.path;
    same = record { there = x.there; back = x.back; goes = x.goes; comes = x.comes; ts = x.ts; us = x.us; near_is = x.near_is; far_is = x.far_is; near_heard = x.near_heard; far_heard = x.far_heard };
  }

-- The near end hears what the far one gave, or noise in its place. (By now that may have heard something, too.)
module _ (l : Line) (start : Wire) (a z other : TimedEndpoint) (ws : List ℕ) (h : Done l start a.at z.at ws other.at.way) (ranged : IsInRange l.near) (ranged_far : IsInRange l.far) (size : l.near.n201 ≡ l.far.n201)
    (config : a.at.card.card.config ≡ l.near) (ran : Ran l.near a.at) (ran_far : Ran l.far other.at) (items : (port_of z.at).items ≡ (port_of other.at).items) (given : (port_of z.at).given ≡ (port_of other.at).given)
    (long : length other.at.way ≡ l.way + 1) (noise : Option ℕ) (clear : IsClearAt l.near.n201 noise a other) where
  abbrev y : Alike l a.at z.at ws other.at.way h.f
  y = h.same

  abbrev u : TimedEndpoint
  u = hears noise other.at.way a

  far_goes : Going l.near.n201 (port_of other.at) other.at.way y.back
  far_goes = subst (λ n. Going n (port_of other.at) other.at.way y.back) (sym size) (going-with l.far.n201 (port_of z.at) (port_of other.at) other.at.way other.at.way y.back (sym items) (sym given) refl y.comes)

  done-heard : Done l start (hears noise other.at.way a).at z.at ws (drop 1 other.at.way)
  done-heard =
      let here = heard-port l.near ranged a ran noise other.at.way in let way = drop 1 other.at.way in
      let k = hears-so l.service l.tei l.near l.far ranged_far (sym size) a config y.there y.ts y.near_heard other.at ran_far (station y.back y.us z.at) y.back noise other.at.way l.way long far_goes clear in
      let g : Wire = record { near = station y.there k.ts' u.at; far = station k.left y.us z.at } in
      let is : h.f ≡ record { near = station y.there y.ts a.at; far = station y.back y.us z.at } = λ i. record { near = y.near_is i; far = y.far_is i } in
      record {
        f = g;
        path = path-both l.service l.tei start h.f g h.path (subst (λ f. Path l.service l.tei f g) (sym is) k.path);
        same = record {
          there = y.there;
          back = k.left;
          goes = going-with l.near.n201 (port_of a.at) (port_of u.at) ws ws y.there here.0 here.1 refl y.goes;
          comes = going-with l.far.n201 (port_of other.at) (port_of z.at) way way k.left items given refl (subst (λ n. Going n (port_of other.at) way k.left) size k.goes);
          ts = k.ts';
          us = y.us;
          near_is = refl;
          far_is = refl;
          near_heard = k.heard';
          far_heard = y.far_heard;
        };
      }

-- ---- layer 3 asks, and what is due falls due, where T200 is long enough

no-polls : (n : LinkEndpoint) → HasNo asks_frame n → HasNo is_poll n
no-polls n h = grind arith

-- The states that await an answer.
same-waits : (k : ℕ) → awaits_in (Some k) ≡ is_waiting k
same-waits k = grind arith

-- What may be asked for.
abbrev pub IsBoth : Line → Request → Type 0
IsBoth l r = IsOfLink l.service l.tei r × IsAskedOfLink l.service l.tei r

-- The near end of a pair, as its moment comes.
abbrev NearGoes : (l : Line) (fit : IsFit l) (w : Clocked) → Pair l (begins_of fit) w → TimedEndpoint → Type 0
NearGoes l fit w p u = Goes l.near l.service l.tei 0 fit.call.near.0 l.lengths l.rate p.S p.M (at_time (w.beats / l.rate) w.near) u

near-at : (l : Line) (fit : IsFit l) (w : Clocked) (p : Pair l (begins_of fit) w) → EndOk l.near l.service l.tei 0 fit.call.near.0 l.lengths l.rate p.S p.M (at_time (w.beats / l.rate) w.near)
near-at l fit w p =
    at-moment l.service l.tei l.way l.lengths l.rate l.near fit.call.near.0 (w.beats / l.rate) w.beats p.S p.M [] w.near p.near_ok p.both.near (near-low l (begins_of fit) w p) (near-high l (begins_of fit) w p)
    p.near_counts (soon l (begins_of fit) w) (All-nil (IsOfLink l.service l.tei))

near-first : (l : Line) (fit : IsFit l) (w : Clocked) (p : Pair l (begins_of fit) w) → NearGoes l fit w p (at_time (w.beats / l.rate) w.near)
near-first l fit w p = goes-none l.near l.service l.tei 0 fit.call.near.0 l.lengths l.rate p.S p.M (at_time (w.beats / l.rate) w.near) (near-at l fit w p)

near-soon : (l : Line) (fit : IsFit l) (w : Clocked) (p : Pair l (begins_of fit) w) → length (port_of w.near.at).given ≤ (w.beats / l.rate + 1) * l.rate
near-soon l fit w p = let so_soon = soon l (begins_of fit) w in let given = p.near_counts.given in omega (arith, so_soon, given)

module _ (l : Line) (fit : IsFit l) (w : Clocked) (p : Pair l (begins_of fit) w) (start : Wire) (z : OctetEndpoint) (far_ends : Ends l.far l.service l.tei 0 fit.call.far.0 z)
    (far_finals : Sends l.far.n201 (is_of is_final l.far) p.M2 (port_of z) (ring l.far l.service l.tei 0 fit.call.far.0 far_ends.its)) (given_far : length (port_of z).given ≡ w.beats) where
  abbrev NearDone : TimedEndpoint → Type 0
  NearDone u = Done l start u.at z w.near.at.way w.far.at.way

  now-soon : (u : TimedEndpoint) → NearGoes l fit w p u → length (port_of u.at).given ≤ (u.clock.now + 1) * l.rate
  now-soon u g = soon-then l.near l.service l.tei 0 fit.call.near.0 l.lengths l.rate p.S p.M (at_time (w.beats / l.rate) w.near) u g (near-soon l fit w p)

  -- T200 falls due: no answer is under way.
  long : (u : TimedEndpoint) (g : NearGoes l fit w p u) (there back : List (List ℕ)) (goes : Going l.near.n201 (port_of u.at) w.near.at.way there) (comes : Going l.far.n201 (port_of z) w.far.at.way back)
      (ts us : List LineTold) (e : Expiry) → due u.clock ≡ Some e → e.timer ≡ timers.T200 l.service l.tei → IsLongEnough l.service l.tei (station there ts u.at) (station back us z)
  long u g there back goes comes ts us e is same awaits =
      let ends = g.ok.but.ends in let call = fit.call in let X = station there ts u.at in
      let its : LinkEndpoint = record (bare l.near l.service l.tei 0 call.near.0 ends.its) { way = parts l.near l.service l.tei call.near.0 there (are-own l.near l.service l.tei call.near.0 u.at ends w.near.at.way there goes) } in
      let m : LinkEndpoint = record (bare l.far l.service l.tei 0 call.far.0 far_ends.its) { way = parts l.far l.service l.tei call.far.0 back (are-own l.far l.service l.tei call.far.0 z far_ends w.far.at.way back comes) } in
      let X_stands = stands l.near l.service l.tei call.near.0 u.at ends w.near.at.way there goes ts in let at_due = due-is u.at.line u.clock.now (timers.T200 l.service l.tei) u.clock.running e g.ok.but.clock.here is same in
      let waits : is_waiting (state_number ends.its.state) ≡ true = sym (same-waits (state_number ends.its.state)) ∙ sym (ap awaits_in (state-is l.service l.tei l.near 0 X its X_stands)) ∙ awaits in
      let due_ago = long-ago l (begins_of fit) l.lengths fit.t200.0 g.S' w.beats e.moment (g.ok.timer e.moment waits at_due.0) (subst (λ k. e.moment ≤ k) g.now at_due.1) in
      let heard_long = before-long l.near.n201 (port_of u.at) w.near.at.way there goes w.beats l.way (ap (λ (p : Port). length p.given) g.port ∙ p.near_counts.given) p.near_counts.way in
      let heard_far = before-long l.far.n201 (port_of z) w.far.at.way back comes w.beats l.way given_far p.far_counts.way in
      let all = near-in-all l (begins_of fit) g.S' in let all_far = in-all l (begins_of fit) p.S in let most = p.far_most in let later = g.later in
      open-here l.service l.tei l.near l.far 0 0 X (station back us z) its m X_stands (stands l.far l.service l.tei call.far.0 z far_ends w.far.at.way back comes us)
      (record {
        commands = no-polls its (has-none l.near l.service l.tei call.near.0 u.at ends w.near.at.way there goes asks_frame (g.S' + half l.near l.service l.tei 0 call.near.0) g.ok.but.polls (omega (arith, due_ago, heard_long, all)));
        responses = has-none l.far l.service l.tei call.far.0 z far_ends w.far.at.way back comes is_final p.M2 far_finals (omega (arith, later, due_ago, heard_far, all_far, most));
      })

  module _ (u : TimedEndpoint) (g : NearGoes l fit w p u) (h : NearDone u) (e : Expiry) (is : due u.clock ≡ Some e) where
    abbrev falls_so : Timer → TimedEndpoint
    falls_so timer = happens (port.expiry timer) (record u { clock = without_first u.clock })

    abbrev k : Alike l u.at z w.near.at.way w.far.at.way h.f
    k = h.same

    fell-with : (timer : Timer) → Rattle.laws_wire.specs.Losing.IsOfLink l.service l.tei timer → IsTimelyOf (expires timer) h.f → port_of (falls_so timer).at ≡ port_of u.at → NearDone (falls_so timer)
    fell-with timer own timely port =
        done-silent l start u.at z w.near.at.way w.far.at.way h (falls_so timer).at (line.expiry timer) (expires timer) own timely refl port (expired-becomes timer k.there u.at k.ts k.near_heard)

    t200-timely : e.timer ≡ timers.T200 l.service l.tei → IsFair (falls_so (timers.T200 l.service l.tei)).at.told → IsTimelyOf (expires (timers.T200 l.service l.tei)) h.f
    t200-timely same fair =
        let c = fit.call in let X = station k.there k.ts u.at in let told = ap (λ (z : FrameEndpoint). z.told) (expired-reply (timers.T200 l.service l.tei) u.at []) in let ends = g.ok.but.ends in
        let its : LinkEndpoint = record (bare l.near l.service l.tei 0 c.near.0 ends.its) { way = parts l.near l.service l.tei c.near.0 k.there (are-own l.near l.service l.tei c.near.0 u.at ends w.near.at.way k.there k.goes) } in
        let is_so : h.f ≡ record { near = station k.there k.ts u.at; far = station k.back k.us z } = λ i. record { near = k.near_is i; far = k.far_is i } in
        subst (λ (f : Wire). IsLongEnough l.service l.tei f.near f.far × MayRepeat l.service l.tei f.near) (sym is_so) (
          long u g k.there k.back k.goes k.comes k.ts k.us e is same,
          fair-may l.service l.tei 0 l.near X its (stands l.near l.service l.tei c.near.0 u.at ends w.near.at.way k.there k.goes k.ts)
              (fair-parts u.at.told (wire.told_by (wire.answered (line.expiry (timers.T200 l.service l.tei)) X)) (subst IsFair told fair)).1,
        )

    fell : port_of (falls u e).at ≡ port_of u.at → IsFair (falls u e).at.told → NearDone (falls u e)
    fell =
        own-timer l.service l.tei (λ timer. e.timer ≡ timer → port_of (falls_so timer).at ≡ port_of u.at → IsFair (falls_so timer).at.told → NearDone (falls_so timer))
        (λ same port fair. fell-with (timers.T200 l.service l.tei) (refl, refl) (t200-timely same fair) port) (λ same port fair. fell-with (timers.T203 l.service l.tei) (refl, refl) tt port)
        e.timer (first-of (RunsOurs l.service l.tei) u.clock.running u.clock.now e g.ok.but.ours is) refl

  abbrev Kept : TimedEndpoint → Type 0
  Kept u = NearGoes l fit w p u × (IsFair u.at.told → Done l start u.at z w.near.at.way w.far.at.way)

  near-came : (a : TimedEndpoint) → NearGoes l fit w p a → NearDone a → (rs : List Request) → All (IsBoth l) rs → (n : ℕ) → Kept (fall_due n (fold asks a rs))
  near-came a g h rs both n =
      let c = fit.call in let t = at_time (w.beats / l.rate) w.near in
      falls-keep Kept (λ e u is y.
      let g = fell-goes l.near l.service l.tei 0 c.near.0 l.lengths l.rate u y.0.S' p.M y.0.ok (now-soon u y.0) e is in (
        goes-both l.near l.service l.tei 0 c.near.0 l.lengths l.rate p.S p.M t u (falls u e) y.0 g,
        λ fair. fell u y.0 (y.1 (fair-happens (port.expiry e.timer) (record u { clock = without_first u.clock }) fair)) e is g.port fair,
      )) n (fold asks a rs)
      (fold-keeps asks (IsBoth l) Kept (λ r u is y.
      let g = asks-goes l.near l.service l.tei 0 c.near.0 l.lengths l.rate u y.0.S' p.M y.0.ok (now-soon u y.0) r is.0 in (
        goes-both l.near l.service l.tei 0 c.near.0 l.lengths l.rate p.S p.M t u (asks u r) y.0 g,
        λ fair. let d = y.1 (fair-happens (port.request r) u fair) in
            done-silent l start u.at z w.near.at.way w.far.at.way d (asks u r).at (line.request r) (requests r) is.1 tt refl g.port (asked-becomes r d.same.there u.at d.same.ts d.same.near_heard),
      )) rs both a (g, λ fair. h))

-- ---- a beat

-- It leads on from where layer 3 of the near end has asked for something already.
module _ (l : Line) (fit : IsFit l) (w : Clocked) (p : Pair l (begins_of fit) w) (b : Beat) (talk : IsTalk l b) (start : Wire) (a : TimedEndpoint) (g : NearGoes l fit w p a)
    (h : Done l start a.at w.far.at w.near.at.way w.far.at.way) (rs : List Request) (is : comes_to (w.beats / l.rate) b.near_asks w.near ≡ all_due (fold asks a rs)) (both : All (IsBoth l) rs)
    (far_both : All (IsBoth l) b.far_asks) (fair : IsFair (gone l.rate b w).near.at.told) (far_fair : IsFair (gone l.rate b w).far.at.told)
    (clear_near : IsClearAt l.near.n201 b.near_noise (gone l.rate b w).near (gone l.rate b w).far) (clear_far : IsClearAt l.near.n201 b.far_noise (gone l.rate b w).far (gone l.rate b w).near) where
  abbrev near_came : TimedEndpoint
  near_came = comes_to (w.beats / l.rate) b.near_asks w.near

  abbrev far_came : TimedEndpoint
  far_came = comes_to (w.beats / l.rate) b.far_asks w.far

  abbrev vn : TimedEndpoint
  vn = (gone l.rate b w).near

  abbrev vf : TimedEndpoint
  vf = (gone l.rate b w).far

  near : NearGoes l fit w p (comes_to (w.beats / l.rate) b.near_asks w.near) × Done l start (comes_to (w.beats / l.rate) b.near_asks w.near).at w.far.at w.near.at.way w.far.at.way
  near =
      let x = near-came l fit w p start w.far.at p.far_ok.but.ends p.far_ok.but.finals p.far_counts.given a g h rs both (length (fold asks a rs).clock.running) in
      subst (λ (v : TimedEndpoint). NearGoes l fit w p v × Done l start v.at w.far.at w.near.at.way w.far.at.way) (sym is) (x.0, x.1 (subst (λ (v : TimedEndpoint). IsFair v.at.told) is (fair-happens port.pull near_came fair)))

  far : NearGoes (turned_line l) (fit-turned l fit) (turned_world w) (pair-turned l (begins_of fit) w p) far_came × Done (turned_line l) (turned start) far_came.at near_came.at w.far.at.way w.near.at.way
  far =
      let t = pair-turned l (begins_of fit) w p in
      let x = near-came (turned_line l) (fit-turned l fit) (turned_world w) t (turned start) near_came.at near.0.ok.but.ends near.0.ok.but.finals (ap (λ (p : Port). length p.given) near.0.port ∙ p.near_counts.given)
      (at_time (w.beats / l.rate) w.far) (near-first (turned_line l) (fit-turned l fit) (turned_world w) t) (done-turned l start near_came.at w.far.at w.near.at.way w.far.at.way near.1)
      b.far_asks far_both (length (asked (w.beats / l.rate) b.far_asks w.far).clock.running) in (x.0, x.1 (fair-happens port.pull far_came far_fair))

  pulled : Done l start (gone l.rate b w).near.at (gone l.rate b w).far.at (gone l.rate b w).near.at.way (gone l.rate b w).far.at.way
  pulled =
      let c = fit.call in let x = done-pulled (turned_line l) (turned start) far_came.at near_came.at w.far.at.way w.near.at.way far.1 c.far.0 far.0.ok.but.ends.ran far.0.way in
      done-pulled l start near_came.at vf.at w.near.at.way vf.at.way (done-turned (turned_line l) (turned start) vf.at near_came.at vf.at.way w.near.at.way x) c.near.0 near.0.ok.but.ends.ran near.0.way

  pub beat-done : Done l start (beat l.rate w b).near.at (beat l.rate w b).far.at (beat l.rate w b).near.at.way (beat l.rate w b).far.at.way
  beat-done =
      let c = fit.call in let k = near-gone l (begins_of fit) w p b talk in let m = far-gone l (begins_of fit) w p b talk in let near_ran = k.ok.but.ends.ran in let far_ran = m.ok.but.ends.ran in
      let vn' = hears b.near_noise vf.at.way vn in let vf' = hears b.far_noise vn.at.way vf in let ws = drop 1 vn.at.way in let wr = drop 1 vf.at.way in
      let near_port = heard-port l.near c.near.0 vn near_ran b.near_noise vf.at.way in let far_port = heard-port l.far c.far.0 vf far_ran b.far_noise vn.at.way in
      let x = done-heard l start vn vf vf vn.at.way pulled c.near.0 c.far.0 c.opposite.1 k.ok.but.ends.stands.config near_ran far_ran refl refl m.way b.near_noise clear_near in
      let y = done-heard (turned_line l) (turned start) vf vn' vn wr (done-turned l start vn'.at vf.at vn.at.way wr x) c.far.0 c.near.0 (sym c.opposite.1) m.ok.but.ends.stands.config far_ran near_ran near_port.0 near_port.1 k.way
      b.far_noise (subst (λ n. IsClearAt n b.far_noise vf vn) c.opposite.1 clear_far) in
      subst (λ ws. Done l start (beat l.rate w b).near.at (beat l.rate w b).far.at ws (beat l.rate w b).far.at.way) (sym (ap (drop 1) near_port.2))
      (subst (λ wr. Done l start (beat l.rate w b).near.at (beat l.rate w b).far.at ws wr) (sym (ap (drop 1) far_port.2))
      (done-passed l start vn'.at vf'.at ws wr (done-turned (turned_line l) (turned start) vf'.at vn'.at wr ws y)))

-- ---- a call of the clocked circuit is one on a wire of frames, where T200 is long enough

-- What is told later leaves what was told.
fair-hears : (noise : Option ℕ) (way : List ℕ) (a : TimedEndpoint) → IsFair (hears noise way a).at.told → IsFair a.at.told
fair-hears noise h a fair = grind (arith, fair-happens, unwrap_or)

fair-comes : (moment : ℕ) (rs : List Request) (a : TimedEndpoint) → IsFair (comes_to moment rs a).at.told → IsFair a.at.told
fair-comes moment rs a fair = fair-asks rs (at_time moment a) (fair-falls (length (asked moment rs a).clock.running) (asked moment rs a) fair)

abbrev pub IsFairBoth : Clocked → Type 0
IsFairBoth w = IsFair w.near.at.told × IsFair w.far.at.told

fair-gone : (rate : ℕ) (b : Beat) (w : Clocked) → IsFairBoth (beat rate w b) → IsFairBoth (gone rate b w)
fair-gone rate b w fair = grind (arith, fair-hears, gone)

fair-before : (rate : ℕ) (b : Beat) (w : Clocked) → IsFairBoth (beat rate w b) → IsFairBoth w
fair-before rate b w fair =
    let v = fair-gone rate b w fair in (
      fair-comes (w.beats / rate) b.near_asks w.near (fair-happens port.pull (comes_to (w.beats / rate) b.near_asks w.near) v.0),
      fair-comes (w.beats / rate) b.far_asks w.far (fair-happens port.pull (comes_to (w.beats / rate) b.far_asks w.far) v.1),
    )

pub fair-all : (rate : ℕ) (bs : List Beat) (w : Clocked) → IsFairBoth (after rate bs w) → IsFairBoth w
fair-all rate [] w fair = fair
fair-all rate (b ∷ bs) w fair = fair-before rate b w (fair-all rate bs (beat rate w b) fair)

module _ (l : Line) (fit : IsFit l) where
  of-call : (r : Request) → IsAsked l r → IsOfLink l.service l.tei r
  of-call other is = grind arith

  pub all-of-link : (rs : List Request) → All (IsAsked l) rs → All (IsOfLink l.service l.tei) rs
  all-of-link = All-weaker (IsAsked l) (IsOfLink l.service l.tei) of-call

  both-of : (r : Request) → IsAsked l r → IsOfLink l.service l.tei r × IsAskedOfLink l.service l.tei r
  both-of r is = grind arith

  abbrev pub Reached : Wire → Clocked → Type 0
  Reached start w = Done l start w.near.at w.far.at w.near.at.way w.far.at.way

  -- One beat.
  one-beat : (start : Wire) (w : Clocked) (b : Beat) → Pair l (begins_of fit) w → AreAsked l b → AreClear l (b ∷ []) w → IsFairBoth (beat l.rate w b) → Reached start w → Reached start (beat l.rate w b)
  unfolding AreClear
  one-beat start w b p are_asked clear fair h =
      let talk : IsTalk l b = (all-of-link b.near_asks are_asked.0, all-of-link b.far_asks are_asked.1) in let now = fair-gone l.rate b w fair in
      beat-done l fit w p b talk start (at_time (w.beats / l.rate) w.near) (near-first l fit w p) h b.near_asks refl (All-weaker (IsAsked l) (IsBoth l) both-of b.near_asks are_asked.0)
      (All-weaker (IsAsked l) (IsBoth l) both-of b.far_asks are_asked.1) now.0 now.1 clear.0 clear.1

  pub all-beats : (start : Wire) (bs : List Beat) (w : Clocked) → Pair l (begins_of fit) w → All (AreAsked l) bs → AreClear l bs w → IsFairBoth (after l.rate bs w) → Reached start w → Reached start (after l.rate bs w)
  unfolding AreClear
  all-beats start [] w p all clear fair h = h
  all-beats start (b ∷ bs) w p all clear fair h =
      let now = All-head (AreAsked l) b bs all in let talk : IsTalk l b = (all-of-link b.near_asks now.0, all-of-link b.far_asks now.1) in let u = beat l.rate w b in
      all-beats start bs u (pair-then l (begins_of fit) w p b talk clear.0 clear.1) (All-tail (AreAsked l) b bs all) clear.2 fair (one-beat start w b p now (clear.0, clear.1, tt) (fair-all l.rate bs u fair) h)

  -- The first beat, in which layer 3 asks for the establishment first of all.
  module _ (w : Clocked) (p : Pair l (begins_of fit) w) (goes : Going l.near.n201 (port_of w.near.at) w.near.at.way []) (comes : Going l.far.n201 (port_of w.far.at) w.far.at.way [])
      (ts us : List LineTold) (near_heard : heard_of ts ≡ heard_of w.near.at.told) (far_heard : heard_of us ≡ heard_of w.far.at.told) (b : Beat) (are_asked : AreAsked l b) where
    abbrev ask : Request
    ask = Establish l.service l.tei

    abbrev pub start : Wire
    start = record { near = wire.happens (line.request (Establish l.service l.tei)) (station [] ts w.near.at); far = station [] us w.far.at }

    first-talk : IsTalk l (calls l b)
    first-talk = (All-cons (IsOfLink l.service l.tei) (Establish l.service l.tei) b.near_asks (refl, refl) (all-of-link b.near_asks are_asked.0), all-of-link b.far_asks are_asked.1)

    first-beat : AreClear l (calls l b ∷ []) w → IsFairBoth (beat l.rate w (calls l b)) → Reached start (beat l.rate w (calls l b))
    unfolding AreClear
    first-beat clear fair =
        let now = fair-gone l.rate (calls l b) w fair in let t = at_time (w.beats / l.rate) w.near in let x = asked-becomes ask [] w.near.at ts near_heard in
        let g = asks-goes l.near l.service l.tei 0 fit.call.near.0 l.lengths l.rate t p.S p.M (near-at l fit w p) (near-soon l fit w p) ask (refl, refl) in
        beat-done l fit w p (calls l b) first-talk start (asks t ask) g
        (record {
          f = start;
          path = path-none l.service l.tei start start refl;
          same = record {
            there = [];
            back = [];
            goes = subst (λ p. Going l.near.n201 p w.near.at.way []) (sym g.port) goes;
            comes = comes;
            ts = x.ts;
            us = us;
            near_is = x.is;
            far_is = refl;
            near_heard = x.heard;
            far_heard = far_heard;
          };
        })
        b.near_asks refl (All-weaker (IsAsked l) (IsBoth l) both-of b.near_asks are_asked.0) (All-weaker (IsAsked l) (IsBoth l) both-of b.far_asks are_asked.1) now.0 now.1 clear.0 clear.1

    pub reached-by-from : (bs : List Beat) → All (AreAsked l) bs → AreClear l (calls l b ∷ bs) w → IsFairBoth (after l.rate (calls l b ∷ bs) w) → Reached start (after l.rate (calls l b ∷ bs) w)
    unfolding AreClear
    reached-by-from bs all clear fair =
        let u = beat l.rate w (calls l b) in
        all-beats start bs u (pair-then l (begins_of fit) w p (calls l b) first-talk clear.0 clear.1) all clear.2 fair (first-beat (clear.0, clear.1, tt) (fair-all l.rate bs u fair))
