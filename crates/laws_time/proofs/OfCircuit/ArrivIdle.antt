-- Before the call nothing is asked: no frame goes, no timer runs, and nothing is told but what noise makes.
use Rattle.laws_time.proofs.Vocabulary.{All, All-nil, AreAsked, AreClear, Beat, Clocked, Config, Establish, FrameEndpoint, IsClearAt, IsFit, IsFrame, IsIdle as AsksNothing, IsInRange, IsOfLink, IsTalk, Lengths, Line, List, None, OctetEndpoint, Option, Ran, Request, Service, Some, StationStands, TimedEndpoint, [], after, answered, ap, append-nil, arith, as_endpoint}
use Rattle.laws_time.proofs.Vocabulary.{asked, at, beat, begins, calls, comes_to, cond, drop, endpoint, fall_due, false, fold-append, fresh_link, gained, gave, gives-none, gone, happens, hears, is_due, length, line_after, line_answer, next, obeyed, octet_at, octet_orders, option_map, orders_in, port_of, refl, set-get_or, stopped, subst, sym, takes_slot, true, unwrap_or, ℕ, ◌++◌}
use Rattle.laws_time.proofs.Vocabulary.{◌+◌, ◌/◌, ◌<◌, ◌∙◌, ◌∷◌, ◌≡◌, ◌≤◌, by-bool, by-either, some-in}
use Rattle.model_bits.specs.Stream as stream
use Rattle.model_line.specs.Event as line
use Rattle.model_card.specs.Machine as machine
use Rattle.model_card.specs.ports.Port as port
use Rattle.laws_wire.specs.Call as call
use Rattle.laws_wire.specs.Wire as wire
use Rattle.laws_order.specs.circuit.Circuit as circuit
use Rattle.laws_wire.proofs.Beginning.{answers}
use Rattle.laws_time.proofs.OfCircuit.Words.{Pair, at_time, bare, begins_of, clear-keeps, clear-parts, far-gone, fit-turned, near-comes, near-gone, none-ordered, orders-are, pair-begins, pair-then, pair-turned, port-is, station-is, turned_beat, turned_line, turned_world, way-is}
use Rattle.laws_time.proofs.OfCircuit.ArrivAs.{station, heard_of, Becomes, none-becomes, dropped-becomes, due-becomes, undue-becomes, heard-port}
use Rattle.laws_time.proofs.OfCircuit.ArrivWay.{Going, IsNoFrame, comes, pulled-way, going-with, first-flow}
use Rattle.laws_time.proofs.OfCircuit.ArrivBeat.{Reached, IsFairBoth, reached-by-from}

-- A call for the next frame that gives none leaves the station.
pub untaken : (s : FrameEndpoint) → wire.answered next s ≡ gave None → wire.happens next s ≡ s
unfolding line_after line_answer takes_slot
untaken s none = grind (arith, set-get_or, append-nil)

-- A card that has just begun, with the TEI assigned, gives none.
pub idle-answer : (service : Service) (c : Config) (ranged : IsInRange c) (number tei : ℕ) (within : number < c.lines) (few : tei ≤ 126) → wire.answered next (call.assigned c number tei) ≡ gave None
idle-answer service c ranged number tei within few =
    let h = (answers service tei c ranged few number within).stands in let s = call.assigned c number tei in
    gives-none service tei 0 s (bare c service tei 0 ranged fresh_link) (subst (λ k. StationStands k service tei 0 s (bare c service tei 0 ranged fresh_link)) (sym h.config) h) refl

-- An end at which nothing was asked.
pub record IsIdle (c : Config) (number tei : ℕ) (a : TimedEndpoint) : Type 0 where
  pub same : station [] (call.assigned c number tei).told a.at ≡ call.assigned c number tei
  pub heard : heard_of (call.assigned c number tei).told ≡ heard_of a.at.told
  pub none_run : a.clock.running ≡ []

-- Nothing is due there.
pub comes-none : (moment : ℕ) (rs : List Request) (a : TimedEndpoint) → rs ≡ [] → a.clock.running ≡ [] → comes_to moment rs a ≡ at_time moment a
unfolding fall_due
comes-none moment rs a none idle = ap (λ rs. comes_to moment rs a) none ∙ ap (λ xs. fall_due (length xs) (at_time moment a)) idle

module _ (service : Service) (c : Config) (ranged : IsInRange c) (number tei : ℕ) (within : number < c.lines) (few : tei ≤ 126) where
  abbrev first : FrameEndpoint
  first = call.assigned c number tei

  pub idle-at : (moment : ℕ) (a : TimedEndpoint) → IsIdle c number tei a → IsIdle c number tei (at_time moment a)
  idle-at moment a h = record { same = h.same; heard = h.heard; none_run = h.none_run }

  -- after an event that orders nothing
  becomes-idle : (a : TimedEndpoint) (ev : port.Event) → IsIdle c number tei a → octet_orders (answered ev a.at) ≡ [] → Becomes (station [] first.told a.at) [] (circuit.happens ev a.at) → IsIdle c number tei (happens ev a)
  becomes-idle a ev h none b = grind arith

  -- An octet is pulled.
  module _ (a : TimedEndpoint) (h : IsIdle c number tei a) (ran : Ran c a.at) (goes : Going c.n201 (port_of a.at) a.at.way []) where
    abbrev x : FrameEndpoint
    x = station [] first.told a.at

    gives : wire.answered next (station [] first.told a.at) ≡ gave None
    gives = ap (λ s. wire.answered next s) h.same ∙ idle-answer service c ranged number tei within few

    pub pulls-idle : IsIdle c number tei (happens port.pull a) × Going c.n201 (port_of (happens port.pull a).at) (happens port.pull a).at.way []
    pulls-idle = by-bool (is_due (port_of a.at)) (λ due.
        let b = due-becomes [] a.at first.told h.heard due in let same = untaken x gives in let way : (wire.happens next (as_endpoint [] a.at)).way ≡ [] = ap (λ a. wire.frames_by a) gives in
        let orders = orders-are (octet_at a.at.line port.pull) a.at.card (Some next) (ap (λ b. cond b (Some next) None) due) ∙ ap orders_in gives in
        let there = pulled-way c ranged a.at ran [] goes true due in (
          becomes-idle a port.pull h orders (record { ts = b.ts; is = sym same ∙ b.is ∙ ap (λ w. station w b.ts (happens port.pull a).at) way; heard = b.heard }),
          subst (Going c.n201 (port_of (happens port.pull a).at) (happens port.pull a).at.way) way there,
        ))
        (λ due.
        let orders = orders-are (octet_at a.at.line port.pull) a.at.card None (ap (λ b. cond b (Some next) None) due) in
        (becomes-idle a port.pull h orders (undue-becomes [] a.at first.told h.heard due), pulled-way c ranged a.at ran [] goes false due))

  -- An octet comes.
  module _ (d : Config) (ranged_far : IsInRange d) (size : d.n201 ≡ c.n201) (a : TimedEndpoint) (config : a.at.card.card.config ≡ c) (h : IsIdle c number tei a)
      (other : OctetEndpoint) (ran : Ran d other) (noise : Option ℕ) where
    module _ (value : ℕ) (more : List ℕ) (goes : Going c.n201 (port_of other) (value ∷ more) [])
        (clear : (e : stream.Event) → gained c.n201 (port_of a.at).received (unwrap_or noise value) ≡ Some e → IsFrame e
        → (before : List ℕ) × ((port_of other).given ≡ before ++ value ∷ more) × (gained c.n201 before value ≡ Some e)) where
      abbrev got : ℕ
      got = unwrap_or noise value

      here : (o : Option stream.Event) → gained c.n201 (port_of a.at).received (unwrap_or noise value) ≡ o → gained a.at.card.card.config.n201 (port_of a.at).received (unwrap_or noise value) ≡ o
      here o is = ap (λ (k : Config). gained k.n201 (port_of a.at).received got) config ∙ is

      dropped-orders : (cause : _) → orders_in (machine.answer (at a.at.line (line.hears (stream.dropped cause))) a.at.card.card) ≡ []
      unfolding line_answer takes_slot
      dropped-orders cause = refl

      still : (o : Option stream.Event) → gained c.n201 (port_of a.at).received (unwrap_or noise value) ≡ o → IsNoFrame o → IsIdle c number tei (happens (port.octet (unwrap_or noise value)) a)
      still None is none =
          becomes-idle a (port.octet got) h (orders-are (octet_at a.at.line (port.octet got)) a.at.card None (ap (option_map line.hears) (here None is))) (none-becomes got [] a.at first.told h.heard (here None is))
      still (Some (stream.dropped cause)) is none =
          becomes-idle a (port.octet got) h
          (orders-are (octet_at a.at.line (port.octet got)) a.at.card (Some (line.hears (stream.dropped cause))) (ap (option_map line.hears) (here (Some (stream.dropped cause)) is)) ∙ dropped-orders cause)
          (dropped-becomes got [] a.at first.told h.heard cause (here (Some (stream.dropped cause)) is))
      still (Some (stream.frame octets)) is none = absurd (none (stream.frame octets) refl tt)
      still (Some (stream.overlong head)) is none = absurd (none (stream.overlong head) refl tt)

      hears-one : IsIdle c number tei (happens (port.octet (unwrap_or noise value)) a) × Going c.n201 (port_of other) more []
      hears-one =
          by-either (comes c.n201 d ranged_far size other ran [] value more goes (gained c.n201 (port_of a.at).received (unwrap_or noise value)) clear)
          (λ y. (still (gained c.n201 (port_of a.at).received got) refl y.0, y.1)) (λ y. absurd (some-in [] y.0 y.1 y.2))

    pub hears-idle : (way : List ℕ) (n : ℕ) → length way ≡ n + 1 → Going c.n201 (port_of other) way []
        → ((value : ℕ) (more : List ℕ) (e : stream.Event) → way ≡ value ∷ more → gained c.n201 (port_of a.at).received (unwrap_or noise value) ≡ Some e → IsFrame e
        → (before : List ℕ) × ((port_of other).given ≡ before ++ way) × (gained c.n201 before value ≡ Some e))
        → IsIdle c number tei (hears noise way a) × Going c.n201 (port_of other) (drop 1 way) []
    hears-idle [] n long goes clear = absurd (omega (arith, long))
    hears-idle (value ∷ more) n long goes clear = hears-one value more goes (λ e gains so. clear value more e refl gains so)

-- ---- the circuit begins as a call on a wire, as soon as it is asked for

idle-first : (c : Config) (tei number way : ℕ) (ranged : IsInRange c) (within : number < c.lines) (lengths : Lengths) → IsIdle c number tei (endpoint c number lengths way tei)
idle-first c tei number way ranged within lengths =
    let s = endpoint c number lengths way tei in let same = station-is c ranged number tei way within in let told = ap (λ (x : FrameEndpoint). x.told) same in
    record {
      same = subst (λ ts. station [] ts s.at ≡ call.assigned c number tei) told same;
      heard = ap heard_of (sym told);
      none_run = ap (λ os. (obeyed number os (stopped lengths)).running) (none-ordered c ranged number tei way within);
    }

going-first : (c : Config) (ranged : IsInRange c) (tei number way : ℕ) (within : number < c.lines) (lengths : Lengths) → let s = endpoint c number lengths way tei in Going c.n201 (port_of s.at) s.at.way []
going-first c ranged tei number way within lengths =
    let s = endpoint c number lengths way tei in record { many = way; before = []; flow = first-flow c.n201 way (port_of s.at) s.at.way [] (port-is c ranged number tei way within) refl (way-is c ranged number tei way within) }

module _ (l : Line) (fit : IsFit l) where
  -- Nothing was asked for.
  pub record IdleNow (w : Clocked) : Type 0 where
    pub pair : Pair l (begins_of fit) w
    pub near : IsIdle l.near l.near_line l.tei w.near
    pub far : IsIdle l.far l.far_line l.tei w.far
    pub goes : Going l.near.n201 (port_of w.near.at) w.near.at.way []
    pub comes : Going l.far.n201 (port_of w.far.at) w.far.at.way []

  pub idle-begins : IdleNow (begins l)
  idle-begins = record {
    pair = pair-begins l (begins_of fit);
    near = idle-first l.near l.tei l.near_line l.way fit.call.near.0 fit.call.near.1 l.lengths;
    far = idle-first l.far l.tei l.far_line l.way fit.call.far.0 fit.call.far.1 l.far_lengths;
    goes = going-first l.near fit.call.near.0 l.tei l.near_line l.way fit.call.near.1 l.lengths;
    comes = going-first l.far fit.call.far.0 l.tei l.far_line l.way fit.call.far.1 l.far_lengths;
  }

  nothing-talks : (b : Beat) → AsksNothing b → IsTalk l b
  nothing-talks b nothing = ((subst (All (IsOfLink l.service l.tei)) (sym nothing.0) (All-nil (IsOfLink l.service l.tei))), (subst (All (IsOfLink l.service l.tei)) (sym nothing.1) (All-nil (IsOfLink l.service l.tei))))

  near-pulled : (w : Clocked) (h : IdleNow w) (b : Beat) (nothing : AsksNothing b) → let v = (gone l.rate b w).near in IsIdle l.near l.near_line l.tei v × Going l.near.n201 (port_of v.at) v.at.way []
  near-pulled w h b nothing =
      let c = fit.call in let same = comes-none (w.beats / l.rate) b.near_asks w.near nothing.0 h.near.none_run in
      pulls-idle l.service l.near c.near.0 l.near_line l.tei c.near.1 c.terminal (comes_to (w.beats / l.rate) b.near_asks w.near)
      (subst (IsIdle l.near l.near_line l.tei) (sym same) (idle-at l.service l.near c.near.0 l.near_line l.tei c.near.1 c.terminal (w.beats / l.rate) w.near h.near))
      (near-comes l (begins_of fit) w h.pair b (nothing-talks b nothing) (length (asked (w.beats / l.rate) b.near_asks w.near).clock.running)).ok.but.ends.ran
      (subst (λ (z : TimedEndpoint). Going l.near.n201 (port_of z.at) z.at.way []) (sym same) h.goes)

-- From the other side.
abbrev idle-turned : (l : Line) (fit : IsFit l) (w : Clocked) → IdleNow l fit w → IdleNow (turned_line l) (fit-turned l fit) (turned_world w)
idle-turned l fit w h = record { pair = pair-turned l (begins_of fit) w h.pair; near = h.far; far = h.near; goes = h.comes; comes = h.goes }

-- The near end hears an octet of the far one.
near-heard : (l : Line) (fit : IsFit l) (w : Clocked) (h : IdleNow l fit w) (b : Beat) (nothing : AsksNothing b) → IsClearAt l.near.n201 b.near_noise (gone l.rate b w).near (gone l.rate b w).far
    → let u = beat l.rate w b in IsIdle l.near l.near_line l.tei u.near × Going l.far.n201 (port_of u.far.at) u.far.at.way []
near-heard l fit w h b nothing clear =
    let c = fit.call in let size = fit.call.opposite.1 in let vn = (gone l.rate b w).near in let vf = (gone l.rate b w).far in let f = hears b.far_noise vn.at.way vf in
    let near_has = near-gone l (begins_of fit) w h.pair b (nothing-talks l fit b nothing) in let far_has = far-gone l (begins_of fit) w h.pair b (nothing-talks l fit b nothing) in
    let far_pulled = near-pulled (turned_line l) (fit-turned l fit) (turned_world w) (idle-turned l fit w h) (turned_beat b) (nothing.1, nothing.0) in
    let x = hears-idle l.service l.near c.near.0 l.near_line l.tei c.near.1 c.terminal l.far c.far.0 (sym size) vn near_has.ok.but.ends.stands.config (near-pulled l fit w h b nothing).0 vf.at
    far_has.ok.but.ends.ran b.near_noise vf.at.way l.way far_has.way (subst (λ n. Going n (port_of vf.at) vf.at.way []) (sym size) far_pulled.1) clear in
    let same = heard-port l.far c.far.0 vf far_has.ok.but.ends.ran b.far_noise vn.at.way in (
      record { same = x.0.same; heard = x.0.heard; none_run = x.0.none_run },
      going-with l.far.n201 (port_of vf.at) (port_of f.at) (drop 1 vf.at.way) (drop 1 f.at.way) [] same.0 same.1 (ap (drop 1) same.2)
          (subst (λ n. Going n (port_of vf.at) (drop 1 vf.at.way) []) size x.1),
    )

module _ (l : Line) (fit : IsFit l) where
  idle-beat : (w : Clocked) (h : IdleNow l fit w) (b : Beat) → AsksNothing b → let v = gone l.rate b w in IsClearAt l.near.n201 b.near_noise v.near v.far → IsClearAt l.near.n201 b.far_noise v.far v.near
      → IdleNow l fit (beat l.rate w b)
  idle-beat w h b nothing clear_near clear_far =
      let v = gone l.rate b w in let x = near-heard l fit w h b nothing clear_near in
      let y = near-heard (turned_line l) (fit-turned l fit) (turned_world w) (idle-turned l fit w h) (turned_beat b) (nothing.1, nothing.0)
      (subst (λ n. IsClearAt n b.far_noise v.far v.near) fit.call.opposite.1 clear_far) in
      record { pair = pair-then l (begins_of fit) w h.pair b (nothing-talks l fit b nothing) clear_near clear_far; near = x.0; far = y.0; goes = y.1; comes = x.1 }

  pub all-idle : (before : List Beat) → All AsksNothing before → (w : Clocked) → IdleNow l fit w → AreClear l before w → IdleNow l fit (after l.rate before w)
  all-idle before all w h clear = clear-keeps l AsksNothing (IdleNow l fit) (λ b w nothing near far h. idle-beat w h b nothing near far) before all w clear h

  pub reached : (before : List Beat) (b : Beat) (bs : List Beat) → All AsksNothing before → AreAsked l b → All (AreAsked l) bs → AreClear l (before ++ calls l b ∷ bs) (begins l)
      → IsFairBoth (after l.rate (before ++ calls l b ∷ bs) (begins l))
      → Reached l fit (call.calling l.service l.tei l.near l.near_line l.far l.far_line) (after l.rate (before ++ calls l b ∷ bs) (begins l))
  reached before b bs nothing are_asked all clear fair =
      let v = after l.rate before (begins l) in let parts = clear-parts l before (calls l b ∷ bs) (begins l) clear in let h = all-idle before nothing (begins l) (idle-begins l fit) parts.0 in
      let both : after l.rate (before ++ calls l b ∷ bs) (begins l) ≡ after l.rate (calls l b ∷ bs) v = fold-append (beat l.rate) (begins l) before (calls l b ∷ bs) in
      subst (Reached l fit (call.calling l.service l.tei l.near l.near_line l.far l.far_line)) (sym both) (subst (λ w. Reached l fit w (after l.rate (calls l b ∷ bs) v))
      (λ i. record { near = wire.happens (line.request (Establish l.service l.tei)) (h.near.same i); far = h.far.same i })
      (reached-by-from l fit v h.pair h.goes h.comes (call.assigned l.near l.near_line l.tei).told (call.assigned l.far l.far_line l.tei).told h.near.heard h.far.heard b are_asked bs all parts.1
      (subst IsFairBoth both fair)))
