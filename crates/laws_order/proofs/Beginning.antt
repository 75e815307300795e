-- Two ends that are in step to whoever watches them face each other as links do.
use Rattle.laws_order.proofs.Vocabulary.{is_some, has_tei, on-line, LineTold, ◌≡◌, ℕ, zero, suc, ◌+◌, ◌-◌, ◌<◌, ◌≤◌, true, false, IsTrue, List, [], ◌∷◌, ◌++◌, map, length, take, drop, slice_get, Option, Some, None, refl, sym, ap, ◌∙◌, subst, arith, length-drop, true≢false, All-append, All-cons, All-nil, option_map, option_map_or, unwrap_or, Service, Parts, ControlFrame, TeiAssigned}
use Rattle.laws_order.proofs.Vocabulary.{AwaitingRelease, Terms, T200, Link, is_multiple_frame, frame_of, Direction, frames_of, Carried, Rising, Config, IsInRange, Line, link_in, link_of, place_in, line_at, fresh_is_sound, frames_always_sound, Endpoint, Wire, EndStep, requests, turned, happens, StepAt, endpoint, assigned, calling, came, hears, request, Assign, Event, at, state_here, of_link_on}
use Rattle.laws_order.proofs.Vocabulary.{Past, Known, known, AreOfStep, IsInStep, FaceInStep, kept_by, FramesEvent, its, here-at, view-is, kept-now, seen-before, number-up, timely-now, after_all-append, length-take, state_in, window, Establish, min, drop-drop, HaveTheirTimers, run-stands, agrees-now, all-wait, waiting-now, is_up}
use Rattle.model_link.specs.Link.{fresh as fresh_link}
use Rattle.model_card.specs.Card.{fresh}
use Rattle.model_card.specs.Machine as machine
use Rattle.model_card.specs.Run.{after_all, IsAtLine}
use Rattle.model_card.specs.Sound as card_sound
use Rattle.laws_wire.specs.Wire.{acting, at_near, at_far, doing, doing_all, with_first_of}
use Rattle.laws_order.proofs.Acknowledged.{place-of, acknowledged-now}
use Rattle.laws_order.proofs.Pairs.{link_here, facing, Pair, IsWell, proper}

-- ---- endpoints and their pasts

pub past-well : (s : Endpoint) → Past s → IsWell s
past-well s p = assumption (subst card_sound.IsSound (sym p.is) (frames_always_sound (fresh s.card.config) p.events (fresh_is_sound s.card.config p.line.0) p.at_lines))

-- from the start of a card, and one event more, of whatever line
pub past-begun : (c : Config) (line : ℕ) → IsInRange c → line < c.lines → Past (endpoint c line)
unfolding after_all
past-begun c line ranged within = record { events = []; at_lines = All-nil (IsAtLine (fresh c)); is = refl; line = (ranged, within) }

pub past-event : (s : Endpoint) (e : FramesEvent) (way granted : List (List ℕ)) (told : List LineTold) → Past s → e.line < s.card.config.lines
    → Past (record { card = machine.after e s.card; line = s.line; way = way; granted = granted; told = told })
unfolding after_all
past-event s e way granted told p here = record {
  events = p.events ++ e ∷ [];
  at_lines = All-append (IsAtLine (fresh s.card.config)) p.events (e ∷ []) p.at_lines (All-cons (IsAtLine (fresh s.card.config)) e [] here (All-nil (IsAtLine (fresh s.card.config))));
  is = ap (machine.after e) p.is ∙ sym (after_all-append (fresh s.card.config) p.events (e ∷ []));
  line = p.line;
}

pub past-same : (s : Endpoint) (way granted : List (List ℕ)) (told : List LineTold) → Past s → Past (record { card = s.card; line = s.line; way = way; granted = granted; told = told })
past-same s way granted told p = record { events = p.events; at_lines = p.at_lines; is = p.is; line = p.line }

pub past-happens : (s : Endpoint) → Past s → (e : Event) → Past (happens e s)
past-happens s p e = let s' = happens e s in past-event s (at s.line e) s'.way s'.granted s'.told p p.line.1

pub record Pasts (w : Wire) : Type 0 where
  pub near : Past w.near
  pub far : Past w.far

past-first : (way : List (List ℕ)) (s : Endpoint) → Past s → Past (with_first_of way s)
past-first [] s p = p
past-first (octets ∷ rest) s p = past-happens s p (hears (came s.card.config.n201 octets))

pub past-acted : (act : EndStep) (w : Wire) → Pasts w → Pasts (acting act w)
past-acted (requests r) w h = record { near = past-happens w.near h.near (request r); far = h.far }
past-acted act w h = grind (arith, past-happens, past-first, past-same)

pub past-done : (d : StepAt) (w : Wire) → Pasts w → Pasts (doing d w)
past-done (at_near act) w h = past-acted act w h
past-done (at_far act) w h = let x = past-acted act (turned w) (record { near = h.far; far = h.near }) in record { near = x.far; far = x.near }

pub past-all : (ds : List StepAt) (w : Wire) → Pasts w → Pasts (doing_all ds w)
unfolding doing_all
past-all [] w h = h
past-all (d ∷ ds) w h = past-all ds (doing d w) (past-done d w h)

pub past-calling : (service : Service) (tei : ℕ) (c : Config) (line : ℕ) (d : Config) (other : ℕ) → IsInRange c → line < c.lines → IsInRange d → other < d.lines
    → Pasts (calling service tei c line d other)
past-calling service tei c line d other ranged within ranged' within' = record {
  near = past-happens (assigned c line tei) (past-happens (endpoint c line) (past-begun c line ranged within) (request (Assign tei))) (request (Establish service tei));
  far = past-happens (endpoint d other) (past-begun d other ranged' within') (request (Assign tei));
}

-- ---- what is known is so

-- What is known of a link in state 7 or 8.
abbrev pub known_of : Link → Known
known_of l = record { told = l.r; acknowledged = l.a; kept = drop l.a l.contents; waiting = l.waiting }

module _ (service : Service) (tei : ℕ) where
  line-known : (s : Endpoint) (p : Past s) → let l = link_of service tei (line_at s.line (after_all (fresh s.card.config) p.events)) in
      is_multiple_frame l.state ≡ true → known service tei s p ≡ known_of l
  line-known s p up = λ i. record { told = told i; acknowledged = acknowledged i; kept = kept i; waiting = waiting i }
    where
      c : Config
      c = s.card.config

      line : Line
      line = its c s.line p.line.0 p.line.1 service tei p.events

      l : Link
      l = link_of service tei (its s.card.config s.line p.line.0 p.line.1 service tei p.events)

      n : Known
      n = known service tei s p

      placed : (place : ℕ) × (place_in (its s.card.config s.line p.line.0 p.line.1 service tei p.events) tei ≡ Some place)
      placed = place-of service tei line up

      told : n.told ≡ l.r
      told =
          let seen = seen-before c p.events s.line p.line.0 p.at_lines p.line.1 service tei placed.0 placed.1 in
          grind (arith, view-is, agrees-now, number-up, run-stands)

      acknowledged : n.acknowledged ≡ l.a
      acknowledged = acknowledged-now c s.line p.line.0 p.line.1 service tei p.events p.at_lines up

      kept : n.kept ≡ drop l.a l.contents
      kept = kept-now c s.line p.line.0 p.line.1 service tei p.events p.at_lines placed.0 placed.1

      waiting : n.waiting ≡ l.waiting
      waiting =
          waiting-now c s.line p.line.0 p.line.1 service tei p.events p.at_lines placed.0 placed.1
          ∙ all-wait c p.events s.line p.line.0 p.at_lines p.line.1 service tei placed.0 placed.1

  pub known-is : (s : Endpoint) (p : Past s) → is_multiple_frame (link_here service tei s).state ≡ true → known service tei s p ≡ known_of (link_here service tei s)
  known-is s p up = grind (arith, line-known)

  -- what `Card::state` tells
  pub up-here : (s : Endpoint) → option_map_or is_up (state_here service tei s) false ≡ is_multiple_frame (link_here service tei s).state
  up-here s = grind (arith, number-up)

  pub six-here : (s : Endpoint) → state_here service tei s ≡ Some 6 → (link_here service tei s).state ≡ AwaitingRelease
  six-here s = grind arith

  pub four-here : (s : Endpoint) → unwrap_or (state_here service tei s) 4 ≡ 4 → (link_here service tei s).state ≡ TeiAssigned
  four-here s = grind arith

  pub on-here : (s : Endpoint) → is_some (state_here service tei s) ≡ true → has_tei tei (line_at s.line s.card) ≡ true
  on-here s = go (place_in (line_at s.line s.card) tei) refl
    where
      go : (o : Option ℕ) → place_in (line_at s.line s.card) tei ≡ o → is_some (option_map (state_in (line_at s.line s.card) service) o) ≡ true → has_tei tei (line_at s.line s.card) ≡ true
      go None off e = absurd (true≢false (sym e))
      go (Some place) on e = on-line (line_at s.line s.card) tei place on

  -- T200 runs in state 6.
  pub six-runs : (s : Endpoint) → Past s → (link_here service tei s).state ≡ AwaitingRelease → (link_here service tei s).running ≡ Some T200
  six-runs s p = go (place_in (line_at s.line s.card) tei)
    where
      timed : HaveTheirTimers (line_at s.line s.card)
      timed =
          subst (λ card. HaveTheirTimers (line_at s.line card)) (sym p.is)
          ((timely-now s.card.config p.events s.line p.line.0 p.at_lines p.line.1 service tei).lines s.line
          (here-at s.card.config s.line p.line.0 p.line.1 service tei p.events p.at_lines))

      go : (o : Option ℕ) → let l = option_map_or (link_in (line_at s.line s.card) service) o fresh_link in l.state ≡ AwaitingRelease → l.running ≡ Some T200
      go o is = grind (arith, timed)

-- ---- what is in step is what two links that face each other have on the line

get-dropped : (n : ℕ) (xs : List (List ℕ)) (i : ℕ) → slice_get (drop n xs) i ≡ slice_get xs (n + i)
get-dropped zero xs i = let same : i ≡ 0 + i = omega arith in ap (slice_get xs) same
get-dropped (suc n) [] i = refl
get-dropped (suc n) (x ∷ xs) i = let same : suc (n + i) ≡ suc n + i = omega arith in get-dropped n xs i ∙ ap (slice_get (x ∷ xs)) same

-- what is kept within the window
pub within-window : (r a k : ℕ) (kept : List (List ℕ)) → r ≤ a + length kept → r ≤ a + k → r ≤ a + length (take k kept)
within-window r a k kept all most = let size : length (take k kept) ≡ min k (length kept) = length-take k kept in omega (arith, all, most, size)

some-kept : (r a k : ℕ) (kept : List (List ℕ)) → r ≤ a + length (take k kept) → (r ≤ a + length kept) × (r ≤ a + k)
some-kept r a k kept low = let size : length (take k kept) ≡ min k (length kept) = length-take k kept in (omega (arith, low, size), omega (arith, low, size))

module _ (k : ℕ) (l : Link) (small : k ≤ 127) where
  carried-of : (low m : ℕ) → m ≤ l.a + k → (fs : List Parts) → AreOfStep k (known_of l) low fs → Carried l.contents (l.a + k) m fs
  carried-of low m high [] h = high
  carried-of low m high (f ∷ fs) (r, up, x, h) = (l.a + k, high, (grind (arith, get-dropped)), carried-of r (l.a + k) (omega arith) fs h)

rising-of : (k : ℕ) (n : Known) (low : ℕ) (fs : List Parts) → AreOfStep k n low fs → Rising low n.told fs
rising-of k n low [] h = h
rising-of k n low (f ∷ fs) (r, up, x, h) = (r, up, (grind arith), rising-of k n r fs h)

frames-mapped : (t : Terms) (ws : List ControlFrame) → frames_of t ws ≡ map (frame_of t) ws
frames-mapped t [] = refl
frames-mapped t (w ∷ ws) = ap (λ fs. frame_of t w ∷ fs) (frames-mapped t ws)

module _ (service : Service) (tei : ℕ) where
  abbrev pub link_known : Endpoint → Known
  link_known s = known_of (link_here service tei s)

  -- what the second endpoint has received of the contents of the first
  abbrev pub had : Endpoint → Endpoint → List (List ℕ)
  had s u = take (link_here service tei u).r (link_here service tei s).contents

  begins-one : (s u : Endpoint) → IsWell s → IsInStep service tei s (link_known s) (link_known u) → IsInStep service tei u (link_known u) (link_known s) → (ds : List (List ℕ))
      → Direction (facing service tei s ds) (facing service tei u (had s u))
  begins-one s u well b d ds =
      let l = link_here service tei s in
      let r = (link_here service tei u).r in
      let k = window s.card.config service in
      let its = proper service tei s well (sym (up-here service tei s) ∙ b.up) in
      let both = some-kept r l.a k (drop l.a l.contents) b.kept in
      grind (arith, length-drop, of_link_on, frames-mapped, carried-of, link_here, rising-of)

  -- what is known of two ends is what their links have
  pub from-links : (w : Wire) (p : Past w.near) (q : Past w.far) → IsTrue (is_multiple_frame (link_here service tei w.near).state)
      → IsTrue (is_multiple_frame (link_here service tei w.far).state) → (P : Known → Known → Type 0) → P (link_known w.near) (link_known w.far)
      → P (known service tei w.near p) (known service tei w.far q)
  from-links w p q up others P h = grind (arith, known-is)

  to-links : (w : Wire) (p : Past w.near) (q : Past w.far) → IsTrue (is_multiple_frame (link_here service tei w.near).state)
      → IsTrue (is_multiple_frame (link_here service tei w.far).state) → (P : Known → Known → Type 0) → P (known service tei w.near p) (known service tei w.far q)
      → P (link_known w.near) (link_known w.far)
  to-links w p q up others P h = grind (arith, known-is)

  pub step-known : (w : Wire) (p : Past w.near) (q : Past w.far) → FaceInStep service tei w (link_known w.near) (link_known w.far)
      → FaceInStep service tei w (known service tei w.near p) (known service tei w.far q)
  step-known w p q h = from-links w p q (sym (up-here service tei w.near) ∙ h.0.up) (sym (up-here service tei w.far) ∙ h.1.up) (FaceInStep service tei w) h

  pub begins-pair : (w : Wire) (p : Past w.near) (q : Past w.far) → FaceInStep service tei w (known service tei w.near p) (known service tei w.far q)
      → Pair service tei w (had w.far w.near) (had w.near w.far)
  begins-pair w p q known-step =
      let up = (sym (up-here service tei w.near) ∙ known-step.0.up) in
      let others-up = (sym (up-here service tei w.far) ∙ known-step.1.up) in
      let h = to-links w p q up others-up (FaceInStep service tei w) known-step in
      let near = past-well w.near p in
      let far = past-well w.far q in
      let its = proper service tei w.near near up in
      let others = proper service tei w.far far others-up in
      record {
        near = near;
        far = far;
        sides = h.2;
        joined = (grind (arith, begins-one w.near w.far near h.0 h.1 (had w.far w.near), begins-one w.far w.near far h.1 h.0 (had w.near w.far)));
      }

  -- and what is kept of it
  pub kept-is : (w : Wire) (p : Past w.near) (q : Past w.far) → IsTrue (is_multiple_frame (link_here service tei w.near).state) → IsTrue (is_multiple_frame (link_here service tei w.far).state)
      → (link_here service tei w.near).a ≤ (link_here service tei w.far).r
      → kept_by (known service tei w.near p) (known service tei w.far q) ≡ drop (link_here service tei w.far).r (link_here service tei w.near).contents
  kept-is w p q up others low =
      let l = link_here service tei w.near in
      let r = (link_here service tei w.far).r in
      let on : l.a + (r - l.a) ≡ r = omega (arith, low) in
      from-links w p q up others (λ n m. kept_by n m ≡ drop r l.contents) (drop-drop (r - l.a) l.a l.contents ∙ ap (λ i. drop i l.contents) on)
