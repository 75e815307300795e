-- An end that rings, one thing at a time: T200 runs on, or SABME is due again; as long as no frame is lost.
use Rattle.laws_time.proofs.Vocabulary.{All, All-nil, AreOctets, Bool, ClearBusy, Config, ControlFrame, Data, Expiry, IsAskedOfLink as IsAsked, IsInRange, IsOfLink, Lengths, LineTold, Link, LinkEvent, LinkTimer, List, None, Option, Port, Request, Sabme, Service, SetBusy, Some, State, T200, T203, Terms, TimedEndpoint, Timer, [], aim_of_expiry, aim_of_request, and-false, by-bool}
use Rattle.laws_time.proofs.Vocabulary.{answers, ap, arith, as_heard, asks, at_requested, at_timer, by_request, comes_to, command_in, cond, contents_given, due, expired, falls, false, flat_map, for_layer_3, happens, inl, inr, is_due, is_of, is_same, is_waiting, length, link_after as after, link_runs, moment_of, moves}
use Rattle.laws_time.proofs.Vocabulary.{none-of-both, obeyed, octet_at, option_map_or, place_in, port_of, refl, said_by, state, state_number, subst, sym, terms, true, view_of, without_first, ℕ, ◌&&◌, ◌*◌, ◌++◌, ◌+◌, ◌<◌, ◌==◌, ◌||◌, ◌∙◌, ◌≡◌, ◌≤◌, ◌⊎◌}
use Rattle.lapd_frame.specs.declared.timers.Timer.TheVariants as timers
use Rattle.model_link.specs.Events as link
use Rattle.model_link.specs.Machine as links
use Rattle.model_line.specs.Event as line
use Rattle.model_card.specs.ports.Port as port
use Rattle.laws_order.specs.circuit.Circuit as circuit
use Rattle.model_link.specs.Link.{may_repeat}
use Rattle.std.proofs.lemmas.List.Concat.{flat_map-append}
use Rattle.model_line.specs.Line.{Line}
use Rattle.laws_link.specs.States.{by_expiry}
use Rattle.laws_time.proofs.Falls.{dropped}
use Rattle.laws_time.proofs.OfCircuit.Words.{Counts, EndBut, EndOk, Ends, Goes, IsOrdinary, Moved, Pulled, Rests, RunsOurs, all-keep, at-moment, at_time, awaits-in, but-gone, ends-asked, ends-expired, expired-event, first-of, gone, half, is_own_t200, meant_at, o-is, orders-are, own-timer, past, still-runs, t200-there}
use Rattle.laws_time.proofs.OfCircuit.AnsweredEnds.{lost, lost-more, lost-expired, expired-told, its-same, DueAt, due-same, due-moved, frame-put, text-low, due-pull}
use Rattle.laws_time.proofs.OfCircuit.AnsweredRows.{Puts, establishes, leads, sabme-in, offer-stays}

-- ---- the link

abbrev pub Rings : State → Type 0
Rings s = (state_number s ≡ 5) ⊎ (state_number s ≡ 4)

-- A timer expires in state 5 or 4: T200 leads from 5 to 5 or 4, and nothing else moves.
expiry-closed : (s : State) (timer : LinkTimer) (b again : Bool) → Rings s → Rings (cond b (by_expiry s timer again) s) × (state_number (cond b (by_expiry s timer again) s) ≡ 5 → state_number s ≡ 5)
expiry-closed s timer b again h1z = grind arith

-- Nothing was told layer 3: so it was at any time before.
abbrev pub IsUntold : List LineTold → Type 0
IsUntold ts = flat_map for_layer_3 ts ≡ []

pub untold-parts : (ts us : List LineTold) → IsUntold (ts ++ us) → IsUntold ts × IsUntold us
untold-parts ts us none = none-of-both (flat_map for_layer_3 ts) (flat_map for_layer_3 us) (sym (flat_map-append for_layer_3 ts us) ∙ none)

-- An end that gives up is told so.
given-up : (t : Terms) (its : LinkTimer) (l : Link) → state_number l.state ≡ 5 → state_number (after t (expired its) l).state ≡ 4 → IsUntold (said_by (links.course t (expired its) l)) → ⊥
given-up t its l five four none = grind arith

-- SABME is put again as T200 expires there.
pub sabme-again : (t : Terms) (l : Link) → state_number (after t (expired T200) l).state ≡ 5 → link_runs T200 l.running ≡ true → Puts t establishes (expired T200) l
sabme-again t l is run =
    let to = (after t (expired T200) l).state in (
      answers (as_heard t (expired T200)) l,
      record { command = true; control = Sabme true },
      [],
      ap (λ fs. answers (as_heard t (expired T200)) l ++ fs) (ap (λ b. cond (moves l.state to || b) (command_in to l) []) run ∙ always (moves l.state to) (command_in to l) ∙ sabme-in t to l is),
      refl,
    )
  where
    always : (b : Bool) (fs : List ControlFrame) → cond (b || true) fs [] ≡ fs
    always true fs = refl
    always false fs = refl

module _ (c : Config) (service : Service) (tei : ℕ) (ranged : IsInRange c) (lengths : Lengths) (rate : ℕ) where
  abbrev pub runs_at : TimedEndpoint → Option ℕ
  runs_at a = moment_of a.at.line (timers.T200 service tei) a.clock.running

  -- T200 runs on by anything else than its expiry that leaves the link in state 5.
  module _ (a : TimedEndpoint) (ev : port.Event) (S M : ℕ) (h : EndBut c service tei 0 ranged lengths rate S M a) (what : line.Event) (is : meant_at (octet_at a.at.line ev) a.at.card ≡ Some what)
      (other : is_own_t200 service tei what ≡ false) (next : Ends c service tei 0 ranged (circuit.happens ev a.at)) where
    pub on-runs : state_number h.ends.its.state ≡ 5 → state_number next.its.state ≡ 5 → runs_at (happens ev a) ≡ runs_at a
    on-runs five then_five = still-runs c service tei 0 ranged lengths rate a ev S M M h what is next other (then_five ∙ sym five) (ap is_waiting five)

  -- What is kept: T200 falls due at this moment, or SABME is due.
  module _ (low most way heard : ℕ) (m base : ℕ) where
    abbrev pub IsDue : (a : TimedEndpoint) → Ends c service tei 0 ranged a.at → Type 0
    IsDue a h = (runs_at a ≡ Some m) ⊎ DueAt c service tei 0 ranged establishes low most way heard a.at h

    pub record Kept (a : TimedEndpoint) (h : Ends c service tei 0 ranged a.at) : Type 0 where
      pub low_lost : base ≤ lost a.at
      pub rings : Rings h.its.state
      pub said : state_number h.its.state ≡ 4 → IsUntold a.at.told → ⊥
      pub due : lost a.at ≤ base → state_number h.its.state ≡ 5 → IsDue a h

    pub kept-same : (a : TimedEndpoint) (h k : Ends c service tei 0 ranged a.at) → Kept a h → Kept a k
    kept-same a h k x =
        let same = its-same c service tei 0 ranged a.at h k in
        record {
          low_lost = x.low_lost;
          rings = subst (λ (l : Link). Rings l.state) same x.rings;
          said = λ four. x.said (ap (λ (l : Link). state_number l.state) same ∙ four);
          due = λ few five. go (x.due few (ap (λ (l : Link). state_number l.state) same ∙ five));
        }
      where
        go : IsDue a h → IsDue a k
        go (inl runs_on) = inl runs_on
        go (inr due) = inr (due-same c service tei 0 ranged establishes low most way heard a.at h k due)

    abbrev pub Then : port.Event → TimedEndpoint → Type 0
    Then ev a = (k : Ends c service tei 0 ranged (happens ev a).at) × Kept (happens ev a) k

    -- Layer 3 asks for what leaves the state.
    module _ (a : TimedEndpoint) (S M : ℕ) (h : EndBut c service tei 0 ranged lengths rate S M a) (x : Kept a h.ends) (r : Request) (its : link.Request)
        (aims : (l : Line) → aim_of_request r l ≡ at_requested service tei its (place_in l tei)) (octets : AreOctets (contents_given r)) (mild : (s : State) → by_request s its ≡ s) where
      mv : Moved c service tei 0 ranged a.at (circuit.happens (port.request r) a.at) h.ends (λ e. e ≡ link.requested its false)
      mv = ends-asked c service tei 0 ranged a.at h.ends r its aims octets

      same-state : mv.ends.its.state ≡ h.ends.its.state
      same-state = ap (λ (l : Link). l.state) mv.link_is ∙ go mv.event mv.by
        where
          go : (v : Option LinkEvent) → ((e : LinkEvent) → v ≡ Some e → e ≡ link.requested its false) → (option_map_or (λ e. links.after (terms c service tei) e h.ends.its) v h.ends.its).state ≡ h.ends.its.state
          go None by = refl
          go (Some e) by = ap (λ e. (links.after (terms c service tei) e h.ends.its).state) (by e refl) ∙ leads (terms c service tei) (link.requested its false) h.ends.its ∙ mild h.ends.its.state

      pub asked-kept : Then (port.request r) a
      asked-kept =
          let more = lost-more (port.request r) a.at in let low_is = x.low_lost in (
            mv.ends,
            record {
              low_lost = omega (arith, more, low_is);
              rings = subst Rings (sym same-state) x.rings;
              said = λ four none. x.said (ap state_number (sym same-state) ∙ four) (untold-parts a.at.told _ none).0;
              due = λ few five.
                  let was = ap state_number (sym same-state) ∙ five in go was five (x.due (omega (arith, more, few)) was);
            },
          )
        where
          go : state_number h.ends.its.state ≡ 5 → state_number mv.ends.its.state ≡ 5 → IsDue a h.ends → IsDue (happens (port.request r) a) mv.ends
          go was five (inl runs_now) = inl (on-runs a (port.request r) S M h (line.request r) refl refl mv.ends was five ∙ runs_now)
          go was five (inr due) =
              inr (due-moved c service tei 0 ranged establishes low most way heard a.at (circuit.happens (port.request r) a.at) h.ends (λ e. e ≡ link.requested its false) mv
              (λ e is. subst IsOrdinary (sym (mv.by e is)) tt) due)

    -- A timer of the link falls due: of T200 SABME is put again.
    module _ (a : TimedEndpoint) (S M : ℕ) (h : EndOk c service tei 0 ranged lengths rate S M a) (x : Kept a h.but.ends) (e : Expiry) (falls_now : due a.clock ≡ Some e)
        (low_given : low ≤ length (port_of a.at).given) (soon_given : length (port_of a.at).given + half c service tei 0 ranged ≤ most) where
      abbrev but : EndBut c service tei 0 ranged lengths rate S M (gone c service tei 0 ranged lengths rate a)
      but = but-gone c service tei 0 ranged lengths rate a S M h.but

      -- In state 5 T200 runs.
      runs-there : state_number h.but.ends.its.state ≡ 5 → link_runs T200 h.but.ends.its.running ≡ true
      runs-there five =
          let o = (view_of c service tei a.at.line (past c a h.but.ends.ran (port.expiry (timers.T200 service tei)))).link in
          let o_is : o.state ≡ state_number h.but.ends.its.state = o-is c service tei 0 ranged lengths rate a (port.expiry (timers.T200 service tei)) S M M h.but (line.expiry (timers.T200 service tei)) refl in
          sym (t200-there c service tei 0 ranged lengths rate a S M h.but) ∙ awaits-in o (ap is_waiting (o_is ∙ five))

      module _ (timer : Timer) (its : LinkTimer) (aims : (l : Line) → aim_of_expiry timer l ≡ at_timer service tei its (place_in l tei)) where
        fell_mv : Moved c service tei 0 ranged a.at (circuit.happens (port.expiry timer) a.at) h.but.ends (λ e. e ≡ link.expired its)
        fell_mv = ends-expired c service tei 0 ranged a.at h.but.ends timer its aims

        its-event : fell_mv.event ≡ Some (link.expired its)
        unfolding fell_mv
        its-event = expired-event c service tei 0 ranged a.at h.but.ends timer its aims

        its-state : fell_mv.ends.its.state ≡ cond (link_runs its h.but.ends.its.running) (by_expiry h.but.ends.its.state its (may_repeat (terms c service tei) h.but.ends.its)) h.but.ends.its.state
        its-state =
            ap (λ (l : Link). l.state) (fell_mv.link_is ∙ ap (λ v. option_map_or (λ e. links.after (terms c service tei) e h.but.ends.its) v h.but.ends.its) its-event)
            ∙ leads (terms c service tei) (link.expired its) h.but.ends.its

        closed : Rings fell_mv.ends.its.state × (state_number fell_mv.ends.its.state ≡ 5 → state_number h.but.ends.its.state ≡ 5)
        closed = grind (arith, its-state, expiry-closed)

        -- what it is told, if it gives up
        fell-told : (circuit.happens (port.expiry timer) a.at).told ≡ a.at.told ++ said_by (links.course (terms c service tei) (link.expired its) h.but.ends.its)
        fell-told = expired-told c service tei 0 ranged a.at h.but.ends timer its aims

        fell-said : state_number fell_mv.ends.its.state ≡ 4 → IsUntold (circuit.happens (port.expiry timer) a.at).told → ⊥
        fell-said four none = grind (arith, said_by, links.course, terms, untold-parts, fell-told, state_number, links.after, state, fell_mv, option_map_or, its-event, given-up)

        expired-kept : ((lost (circuit.happens (port.expiry timer) a.at) ≤ base) → state_number h.but.ends.its.state ≡ 5 → state_number fell_mv.ends.its.state ≡ 5 → IsDue (happens (port.expiry timer) (record a { clock = without_first a.clock })) fell_mv.ends)
            → Then (port.expiry timer) (record a { clock = without_first a.clock })
        expired-kept on =
            let more = lost-more (port.expiry timer) a.at in let low_is = x.low_lost in (
              fell_mv.ends,
              record { low_lost = omega (arith, more, low_is); rings = closed.0; said = fell-said; due = λ few five. on few (closed.1 five) five },
            )

      t200-kept : Then (port.expiry (timers.T200 service tei)) (record a { clock = without_first a.clock })
      t200-kept =
          expired-kept (timers.T200 service tei) T200 (λ l. refl) (λ few five then_five.
          let y = fell_mv (timers.T200 service tei) T200 (λ l. refl) in let ev = its-event (timers.T200 service tei) T200 (λ l. refl) in
          let all = lost-expired c service tei 0 ranged a.at h.but.ends (timers.T200 service tei) T200 (λ l. refl) in let low_is = x.low_lost in
          let text = text-low c service tei 0 ranged a.at h.but.ends in
          let after_five = ap (λ (l : Link). state_number l.state) (sym (y.link_is ∙ ap (λ v. option_map_or (λ e. links.after (terms c service tei) e h.but.ends.its) v h.but.ends.its) ev)) ∙ then_five in
          inr (frame-put c service tei 0 ranged establishes low most way heard a.at (circuit.happens (port.expiry (timers.T200 service tei)) a.at) h.but.ends (λ e. e ≡ link.expired T200) y
          (λ e is. subst IsOrdinary (sym (y.by e is)) tt) (link.expired T200) ev (sabme-again (terms c service tei) h.but.ends.its after_five (runs-there five)) (omega (arith, few, all, low_is))
          (omega (arith, text, low_given)) soon_given))

      t203-kept : e.timer ≡ timers.T203 service tei → Then (port.expiry (timers.T203 service tei)) (record a { clock = without_first a.clock })
      t203-kept same =
          let y = fell_mv (timers.T203 service tei) T203 (λ l. refl) in let more = lost-more (port.expiry (timers.T203 service tei)) a.at in
          expired-kept (timers.T203 service tei) T203 (λ l. refl) (λ few five then_five. go five then_five (x.due (omega (arith, more, few)) five))
        where
          other : is_of a.at.line (timers.T200 service tei) e ≡ false
          other = ap (λ t. (e.line == a.at.line) && is_same t (timers.T200 service tei)) same ∙ and-false (e.line == a.at.line)

          go : state_number h.but.ends.its.state ≡ 5 → state_number (fell_mv (timers.T203 service tei) T203 (λ l. refl)).ends.its.state ≡ 5 → IsDue a h.but.ends
              → IsDue (happens (port.expiry (timers.T203 service tei)) (record a { clock = without_first a.clock })) (fell_mv (timers.T203 service tei) T203 (λ l. refl)).ends
          go five then_five (inl runs_now) =
              inl (on-runs (record a { clock = without_first a.clock }) (port.expiry (timers.T203 service tei)) S M but (line.expiry (timers.T203 service tei)) refl refl (fell_mv (timers.T203 service tei) T203 (λ l. refl)).ends five then_five
              ∙ dropped a.at.line (timers.T200 service tei) e a.clock.running a.clock.now falls_now other ∙ runs_now)
          go five then_five (inr is_due) =
              let y = fell_mv (timers.T203 service tei) T203 (λ l. refl) in
              inr (due-moved c service tei 0 ranged establishes low most way heard a.at (circuit.happens (port.expiry (timers.T203 service tei)) a.at) h.but.ends (λ e. e ≡ link.expired T203) y
              (λ e is. subst IsOrdinary (sym (y.by e is)) tt) is_due)

      pub falls-kept : Then (port.expiry e.timer) (record a { clock = without_first a.clock })
      falls-kept =
          own-timer service tei (λ timer. e.timer ≡ timer → Then (port.expiry timer) (record a { clock = without_first a.clock })) (λ same. t200-kept) t203-kept
          e.timer (first-of (RunsOurs service tei) a.clock.running a.clock.now e h.but.ours falls_now) refl

-- ---- an end that rings, as its moment comes and an octet is pulled: T200 runs on, or SABME is due again

module _ (c : Config) (service : Service) (tei : ℕ) (ranged : IsInRange c) (lengths : Lengths) (rate : ℕ) (low most way heard : ℕ) (m base : ℕ) where
  abbrev pub KeptAt : (a : TimedEndpoint) → Ends c service tei 0 ranged a.at → Type 0
  KeptAt a h = Kept c service tei ranged lengths rate low most way heard m base a h

  abbrev IsBoth : Request → Type 0
  IsBoth r = IsOfLink service tei r × IsAsked service tei r

  asks-one : (r : Request) (S M : ℕ) (a : TimedEndpoint) (h : (EndOk c service tei 0 ranged lengths rate S M a)) → KeptAt a h.but.ends → IsBoth r → Then c service tei ranged lengths rate low most way heard m base (port.request r) a
  asks-one (Data s t contents) S M a h x is =
      asked-kept c service tei ranged lengths rate low most way heard m base a S M h.but x (Data s t contents) (link.Data contents)
      (λ l. λ i. at_requested (is.0.0 i) (is.0.1 i) (link.Data contents) (place_in l (is.0.1 i))) is.0.2 (λ state. stays state contents)
    where
      stays : (s : State) (contents : List ℕ) → by_request s (link.Data contents) ≡ s
      stays s contents = grind arith
  asks-one (SetBusy s t) S M a h x is =
      asked-kept c service tei ranged lengths rate low most way heard m base a S M h.but x (SetBusy s t) link.SetBusy
      (λ l. λ i. at_requested (is.0.0 i) (is.0.1 i) link.SetBusy (place_in l (is.0.1 i))) (All-nil (λ octet. octet < 256)) (λ state. grind arith)
  asks-one (ClearBusy s t) S M a h x is =
      asked-kept c service tei ranged lengths rate low most way heard m base a S M h.but x (ClearBusy s t) link.ClearBusy
      (λ l. λ i. at_requested (is.0.0 i) (is.0.1 i) link.ClearBusy (place_in l (is.0.1 i))) (All-nil (λ octet. octet < 256)) (λ state. grind arith)
  asks-one other S M a h x is = absurd is.1

  -- So many octets were given.
  module _ (g : ℕ) (low_given : low ≤ g) (soon_given : g + half c service tei 0 ranged ≤ most) where
    -- What is kept, however the end is seen.
    abbrev On : TimedEndpoint → Type 0
    On u = (length (port_of u.at).given ≡ g) × ((k : Ends c service tei 0 ranged u.at) → KeptAt u k)

    on-then : (S M : ℕ) (u v : TimedEndpoint) → (length (port_of u.at).given ≡ g) → Goes c service tei 0 ranged lengths rate S M u v → (k : Ends c service tei 0 ranged v.at) × KeptAt v k → On v
    on-then S M u v given g then = (ap (λ (p : Port). length p.given) g.port ∙ given, λ k. kept-same c service tei ranged lengths rate low most way heard m base v then.0 k then.1)

    -- The moment comes.
    module _ (transit moment n S M : ℕ) (rs : List Request) (a : TimedEndpoint) (h : (EndOk c service tei 0 ranged lengths rate S M a)) (rests : Rests a) (now_low : a.clock.now ≤ moment) (high : moment ≤ a.clock.now + 1)
        (counts : Counts service tei transit lengths rate c ranged n a) (soon : n + 1 ≤ (moment + 1) * rate) (all : All IsBoth rs) (of_link : All (IsOfLink service tei) rs) (here : n ≡ g) where
      pub comes-kept : KeptAt a h.but.ends → (k : Ends c service tei 0 ranged (comes_to moment rs a).at) → KeptAt (comes_to moment rs a) k
      comes-kept x k =
          let t = at_time moment a in let ok = at-moment service tei transit lengths rate c ranged moment n S M rs a h rests now_low high counts soon of_link in let given = counts.given in
          let at_first : KeptAt t ok.but.ends = kept-same c service tei ranged lengths rate low most way heard m base t h.but.ends ok.but.ends (record { low_lost = x.low_lost; rings = x.rings; said = x.said; due = x.due }) in
          (all-keep c service tei 0 ranged lengths rate On IsBoth (λ r is. is.0) (λ r u S M ok g is on. on-then S M u (asks u r) on.0 g (asks-one r S M u ok (on.1 ok.but.ends) is))
          (λ e u S M ok g is on. let many = on.0 in
          on-then S M u (falls u e) on.0 g (falls-kept c service tei ranged lengths rate low most way heard m base u S M ok (on.1 ok.but.ends) e is (omega (arith, many, low_given)) (omega (arith, many, soon_given))))
          S M moment rs all a ok (omega (arith, given, soon)) (given ∙ here, λ k. kept-same c service tei ranged lengths rate low most way heard m base t ok.but.ends k at_first)).1.1 k

  -- An octet is pulled.
  module _ (a : TimedEndpoint) (S M : ℕ) (h : (EndOk c service tei 0 ranged lengths rate S M a)) (x : KeptAt a h.but.ends) (y : Pulled c service tei 0 ranged a.at h.but.ends) (few : heard ≤ length (port_of a.at).given) where
    same-state-rings : y.ends.its.state ≡ h.but.ends.its.state
    same-state-rings = grind (arith, offer-stays)

    on-pull : state_number h.but.ends.its.state ≡ 5 → state_number y.ends.its.state ≡ 5 → runs_at c service tei ranged lengths rate (happens port.pull a) ≡ runs_at c service tei ranged lengths rate a
    on-pull five then = by-bool (is_due (port_of a.at))
        (λ e. on-runs c service tei ranged lengths rate a port.pull S M h.but line.next (ap (λ b. cond b (Some line.next) None) e) refl y.ends five then) (λ e.
        ap (λ os. moment_of a.at.line (timers.T200 service tei) (obeyed a.at.line os a.clock).running)
        (orders-are (octet_at a.at.line port.pull) a.at.card None (ap (λ b. cond b (Some line.next) None) e)))

    pub pull-kept : KeptAt (happens port.pull a) y.ends
    pull-kept =
        let more = lost-more port.pull a.at in let low_is = x.low_lost in
        record {
          low_lost = omega (arith, more, low_is);
          rings = subst Rings (sym same-state-rings) x.rings;
          said = λ four none. x.said (ap state_number (sym same-state-rings) ∙ four) (untold-parts a.at.told _ none).0;
          due = λ few_lost five. go (ap state_number (sym same-state-rings) ∙ five) five (x.due (omega (arith, more, few_lost)) (ap state_number (sym same-state-rings) ∙ five));
        }
      where
        go : state_number h.but.ends.its.state ≡ 5 → state_number y.ends.its.state ≡ 5 → IsDue c service tei ranged lengths rate low most way heard m base a h.but.ends
            → IsDue c service tei ranged lengths rate low most way heard m base (happens port.pull a) y.ends
        go was five (inl runs_now) = inl (on-pull was five ∙ runs_now)
        go was five (inr due) = inr (due-pull c service tei 0 ranged establishes low most way heard a.at h.but.ends y few due)
