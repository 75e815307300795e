-- An end of the clocked circuit after each event: what is under way from it, and until when T200 runs.
use Rattle.laws_time.proofs.Vocabulary.{All, All-append, All-cons, All-nil, AllByRecursion, AreAtLines, AreOctets, Bool, Clock, Config, ControlFrame, Expiry, IsInRange, IsOfLink, Lengths, Link, LinkEvent, List, None, Observed, OctetCard, OctetEndpoint, Option, Request, Service, Some, T200, T203, TimedCard, TimedEndpoint, Timer, View, [], after_all-append, aim_of_request, and-false, is_some, is_on}
use Rattle.laws_time.proofs.Vocabulary.{answer as ports_answer, answered, ap, append-nil, arith, as_heard, asked-way, asks as asks_acts, at, at_requested, card_of, comes_to, contents_given, due, eq-eqb, eqb-true, fall_due, falls, false, fold, frames_after_all, fresh_link, happens, is_anew, is_final, is_of as is_of_acts, is_same, is_time, is_waiting, length, line_at, link_in, link_of, link_runs}
use Rattle.laws_time.proofs.Vocabulary.{meant_all, meant_at_lines, moment_at, moment_of, obeyed, octet_at, octet_orders, option_map_or, orders_in, place_in, port-after, port_of, ports_fresh, ports_fresh as fresh, put, refined_card, refl, room, runs, same_Some, state, state_number, subst, sym, take, terms, true, true≢false, view_behind, view_of, within-ports, without_first, ℕ, ◌*◌, ◌++◌, ◌+◌, ◌∙◌}
use Rattle.laws_time.proofs.Vocabulary.{◌∷◌, ◌≡◌, ◌≤◌, Ran, by-bool}
use Rattle.lapd_frame.specs.declared.timers.Timer.TheVariants as timers
use Rattle.model_link.specs.Machine as links
use Rattle.model_line.specs.Event as line
use Rattle.model_card.specs.Card as cards
use Rattle.model_card.specs.Event as frame_event
use Rattle.model_card.specs.Run as frame_runs
use Rattle.model_card.specs.ports.Port as port
use Rattle.laws_order.specs.circuit.Circuit as circuit
use Rattle.model_card.specs.Machine as machine
use Rattle.model_link.specs.Events as link
unfoldable use Rattle.model_card.specs.ports.Run.{after_all}
use Rattle.model_line.specs.Line.{Line}
use Rattle.laws_time.specs.circuit.LongEnough.{is_of}
use Rattle.laws_time.proofs.Moments.{lengths-stay, now-stays, own-timer, is_own_t200}
use Rattle.laws_time.proofs.OctetsMean.{meant_at, orders-are, event-inside}
use Rattle.laws_time.proofs.Links.{state-is, view-then, on-where, stays-on}
use Rattle.laws_time.proofs.OfCircuit.Ends.{Stands, stands-on, rest-of, stands-without, at_time, fold-keeps, falls-keep, comes-both, comes-keep, first-of as first-of-acts}
use Rattle.laws_time.proofs.OfCircuit.Sender.{asks, is_asked, put-asks-not, put-ends-not, first-of, heard-asks, heard-time, Sends, sends-later}
use Rattle.laws_time.proofs.OfCircuit.Orders.{starts-anew, runs-on, AreOurs, RunsOurs, ours-obeyed, awaits-in, of-link, expires-ours, request-ours, counts-on, not-anew}
use Rattle.laws_time.proofs.OfCircuit.Open.{ring, half, waiting-then, puts-none, puts-by-now, IsOrdinary}
use Rattle.laws_time.proofs.OfCircuit.Standing.{Ends, Moved, ends-asked, ends-expired, bare}
use Rattle.laws_time.proofs.Before.{expired-anew}
use Rattle.laws_time.proofs.Falls.{dropped}
use Rattle.laws_time.proofs.Sending.{t200-is}

-- An end at which something happens, as the events of its card have it.
module _ (c : Config) (a : TimedEndpoint) (ran : Ran c a.at) (ev : port.Event) where
  abbrev pub past : List frame_event.Event
  past = meant_all (fresh c) ran.events

  pub all-past : AreAtLines (cards.fresh c) (meant_all (fresh c) ran.events)
  all-past = meant_at_lines (fresh c) ran.events ran.at_lines

  pub here-is : a.at.card.card ≡ frame_runs.after_all (cards.fresh c) (meant_all (fresh c) ran.events)
  here-is = ap (λ (m : OctetCard). m.card) ran.is ∙ refined_card (fresh c) ran.events

  -- It means this.
  module _ (what : line.Event) (is : meant_at (octet_at a.at.line ev) a.at.card ≡ Some what) where
    pub next-card : (circuit.happens ev a.at).card.card ≡ frame_runs.after_all (cards.fresh c) (meant_all (fresh c) ran.events ++ at a.at.line what ∷ [])
    unfolding frames_after_all
    next-card =
        ap (λ (t : TimedCard). t.card) (event-inside (octet_at a.at.line ev) (card_of a) (Some what) is)
        ∙ ap (machine.after (at a.at.line what)) here-is ∙ sym (after_all-append (cards.fresh c) past (at a.at.line what ∷ []))

    pub all-then : AreAtLines (cards.fresh c) (meant_all (fresh c) ran.events ++ at a.at.line what ∷ [])
    all-then =
        All-append (frame_runs.IsAtLine (cards.fresh c)) past (at a.at.line what ∷ []) all-past
        (All-cons (frame_runs.IsAtLine (cards.fresh c)) (at a.at.line what) [] ran.within (All-nil (frame_runs.IsAtLine (cards.fresh c))))

    pub clock-is : obeyed a.at.line (octet_orders (answered ev a.at)) a.clock ≡ obeyed a.at.line (orders_in (moment_at c (meant_all (fresh c) ran.events) a.at.line what).answer) a.clock
    clock-is =
        ap (λ os. obeyed a.at.line os a.clock) (orders-are (octet_at a.at.line ev) a.at.card (Some what) is)
        ∙ ap (λ card. obeyed a.at.line (orders_in (machine.answer (at a.at.line what) card)) a.clock) here-is

module _ (c : Config) (service : Service) (tei place : ℕ) (ranged : IsInRange c) (lengths : Lengths) (rate : ℕ) where
  -- An end up to the timer.
  pub record EndBut (S M : ℕ) (a : TimedEndpoint) : Type 0 where
    pub ends : Ends c service tei place ranged a.at
    pub clock : Stands a
    pub ours : AllByRecursion (RunsOurs service tei) a.clock.running
    pub lengths_are : a.clock.lengths ≡ lengths
    pub early : S ≤ length (port_of a.at).given
    pub polls : Sends c.n201 (is_of asks c) (S + half c service tei place ranged) (port_of a.at) (ring c service tei place ranged ends.its)
    pub finals : Sends c.n201 (is_of is_final c) M (port_of a.at) (ring c service tei place ranged ends.its)

  abbrev pub IsLong : ℕ → Link → ℕ → Clock → Type 0
  IsLong S l number k = (m : ℕ) → is_waiting (state_number l.state) ≡ true → moment_of number (timers.T200 service tei) k.running ≡ Some m → S + lengths.t200 * rate ≤ (m + 1) * rate

  pub record EndOk (S M : ℕ) (a : TimedEndpoint) : Type 0 where
    pub but : EndBut S M a
    pub timer : IsLong S but.ends.its a.at.line a.clock

  pub record Then (S M : ℕ) (a : TimedEndpoint) : Type 0 where
    pub S' : ℕ
    pub later : S ≤ S'
    pub ok : EndOk S' M a

  -- The state of its link.
  pub state-here : (s : OctetEndpoint) (h : Ends c service tei place ranged s) → state s.line service tei s.card.card ≡ Some (state_number h.its.state)
  state-here s h = grind arith

  module _ (a : TimedEndpoint) (ev : port.Event) (S M M' : ℕ) (h : EndBut S M a) where
    -- It means this.
    module _ (what : line.Event) (is : meant_at (octet_at a.at.line ev) a.at.card ≡ Some what) where
      abbrev pub o : Observed
      o = (view_of c service tei a.at.line (past c a h.ends.ran ev)).link

      abbrev pub q : Observed
      q = (view_behind c service tei a.at.line (past c a h.ends.ran ev) what).link

      pub o-is : (view_of c service tei a.at.line (meant_all (fresh c) h.ends.ran.events)).link.state ≡ state_number h.ends.its.state
      o-is =
          state-is c (past c a h.ends.ran ev) a.at.line ranged (all-past c a h.ends.ran ev) h.ends.ran.within service tei (state_number h.ends.its.state)
          (ap (state a.at.line service tei) (sym (here-is c a h.ends.ran ev)) ∙ state-here a.at h.ends)

      pub q-is : (k : Ends c service tei place ranged (circuit.happens ev a.at)) → (view_behind c service tei a.at.line (meant_all (fresh c) h.ends.ran.events) what).link.state ≡ state_number k.its.state
      q-is k =
          ap (λ (v : View). v.link.state) (sym (view-then c service tei a.at.line (past c a h.ends.ran ev) (at a.at.line what)))
          ∙ state-is c ((past c a h.ends.ran ev) ++ at a.at.line what ∷ []) a.at.line ranged (all-then c a h.ends.ran ev what is) h.ends.ran.within service tei (state_number k.its.state)
          (ap (state a.at.line service tei) (sym (next-card c a h.ends.ran ev what is)) ∙ state-here (circuit.happens ev a.at) k)

      -- In a state that awaits an answer T200 runs on, if nothing but its own expiry leads there, and the state stays.
      pub still-runs : (k : Ends c service tei place ranged (circuit.happens ev a.at)) → is_own_t200 service tei what ≡ false → state_number k.its.state ≡ state_number h.ends.its.state → is_waiting (state_number h.ends.its.state) ≡ true
          → moment_of a.at.line (timers.T200 service tei) (happens ev a).clock.running ≡ moment_of a.at.line (timers.T200 service tei) a.clock.running
      still-runs k other stays waiting =
          let number = a.at.line in let its = timers.T200 service tei in let before = past c a h.ends.ran ev in let all = all-past c a h.ends.ran ev in let within = h.ends.ran.within in
          let on = on-where c before number ranged all within service tei (ap is_some (ap (state number service tei) (sym (here-is c a h.ends.ran ev)) ∙ state-here a.at h.ends)) in
          let on_then = ap (λ (v : View). is_on tei v.teis) (sym (view-then c service tei number before (at number what)))
          ∙ on-where c (before ++ at number what ∷ []) number ranged (all-then c a h.ends.ran ev what is) within service tei
          (ap is_some (ap (state number service tei) (sym (next-card c a h.ends.ran ev what is)) ∙ state-here (circuit.happens ev a.at) k)) in
          let by = stays-on c before number ranged all within service tei what on on_then in let same : q.state ≡ o.state = q-is k ∙ stays ∙ sym o-is in
          let few : q.expiries ≤ o.expiries = subst (λ (q : Observed). q.expiries ≤ o.expiries) (sym by) (counts-on c service tei what (moment_at c before number what).answer o other) in
          let waits = ap is_waiting o-is ∙ waiting in
          ap (λ (k : Clock). moment_of number its k.running) (clock-is c a h.ends.ran ev what is)
          ∙ runs-on c before number ranged all within service tei what a.clock waits same (not-anew c before number ranged all within service tei what a.clock waits same few)

      -- The end moves, and no octet is pulled.
      module _ (may : LinkEvent → Type 0) (mv : Moved c service tei place ranged a.at (circuit.happens ev a.at) h.ends may) (ordinary : (e : LinkEvent) → mv.event ≡ Some e → IsOrdinary e)
          (asked : (e : LinkEvent) → mv.event ≡ Some e → is_asked e ≡ true → length (port_of a.at).given + half c service tei place ranged ≤ M') (less : M ≤ M')
          (own : AreOurs service tei (octet_orders (answered ev a.at))) (soon : length (port_of a.at).given ≤ (a.clock.now + 1) * rate)
          (time : (e : LinkEvent) → mv.event ≡ Some e → is_time e h.ends.its ≡ true → is_anew c service tei T200 (view_of c service tei a.at.line (meant_all (fresh c) h.ends.ran.events)).link
          (view_behind c service tei a.at.line (meant_all (fresh c) h.ends.ran.events) what).link what ≡ true)
          (old : is_anew c service tei T200 (view_of c service tei a.at.line (meant_all (fresh c) h.ends.ran.events)).link
          (view_behind c service tei a.at.line (meant_all (fresh c) h.ends.ran.events) what).link what ≡ false → IsLong S h.ends.its a.at.line a.clock) where
        -- what is put
        abbrev putting : Option LinkEvent → List ControlFrame
        putting None = []
        putting (Some e) = take (room (terms c service tei) h.ends.its) (put (as_heard (terms c service tei) e) h.ends.its (links.after (terms c service tei) e h.ends.its).state)

        put-is : (v : Option LinkEvent) → mv.event ≡ v → mv.ends.its.waiting ≡ h.ends.its.waiting ++ putting v
        put-is v h1z = grind (arith, append-nil, waiting-then)

        finals-now : Sends c.n201 (is_of is_final c) M' (port_of (circuit.happens ev a.at)) (ring c service tei place ranged mv.ends.its)
        finals-now = go mv.event refl
          where
            before : Sends c.n201 (is_of is_final c) M' (port_of a.at) (ring c service tei place ranged h.ends.its)
            before = sends-later c.n201 (is_of is_final c) M M' less (port_of a.at) (ring c service tei place ranged h.ends.its) h.finals

            none-put : AllByRecursion (λ f. is_final f.command f.control ≡ false) (putting mv.event) → Sends c.n201 (is_of is_final c) M' (port_of (circuit.happens ev a.at)) (ring c service tei place ranged mv.ends.its)
            none-put none = puts-none c service tei place ranged is_final a.at (circuit.happens ev a.at) h.ends mv.ends M' mv.items mv.given (putting mv.event) (put-is mv.event refl) none before

            by-asked : (x : LinkEvent) → mv.event ≡ Some x → (b : Bool) → is_asked x ≡ b → Sends c.n201 (is_of is_final c) M' (port_of (circuit.happens ev a.at)) (ring c service tei place ranged mv.ends.its)
            by-asked x e true is_so = puts-by-now c service tei place ranged is_final a.at (circuit.happens ev a.at) h.ends mv.ends M' mv.items mv.given (putting mv.event) (put-is mv.event refl) (asked x e is_so) before
            by-asked x e false is_so =
                none-put (subst (λ v. AllByRecursion (λ f. is_final f.command f.control ≡ false) (putting v)) (sym e)
                (first-of (λ f. is_final f.command f.control ≡ false) (room (terms c service tei) h.ends.its) (put (as_heard (terms c service tei) x) h.ends.its (links.after (terms c service tei) x h.ends.its).state)
                (put-ends-not (as_heard (terms c service tei) x) h.ends.its (links.after (terms c service tei) x h.ends.its).state (heard-asks (terms c service tei) x is_so))))

            go : (v : Option LinkEvent) → mv.event ≡ v → Sends c.n201 (is_of is_final c) M' (port_of (circuit.happens ev a.at)) (ring c service tei place ranged mv.ends.its)
            go None e = none-put (subst (λ v. AllByRecursion (λ f. is_final f.command f.control ≡ false) (putting v)) (sym e) tt)
            go (Some x) e = by-asked x e (is_asked x) refl

        abbrev anew : Bool
        anew = is_anew c service tei T200 (view_of c service tei a.at.line (meant_all (fresh c) h.ends.ran.events)).link
            (view_behind c service tei a.at.line (meant_all (fresh c) h.ends.ran.events) what).link what

        abbrev Asks : ℕ → Type 0
        Asks most = Sends c.n201 (is_of asks c) most (port_of (circuit.happens ev a.at)) (ring c service tei place ranged mv.ends.its)

        polls-by-now : Asks (length (port_of a.at).given + half c service tei place ranged)
        polls-by-now =
            puts-by-now c service tei place ranged asks a.at (circuit.happens ev a.at) h.ends mv.ends (length (port_of a.at).given + half c service tei place ranged) mv.items mv.given
            (putting mv.event) (put-is mv.event refl) (omega arith)
            (sends-later c.n201 (is_of asks c) (S + half c service tei place ranged) (length (port_of a.at).given + half c service tei place ranged) (let e = h.early in omega (arith, e)) (port_of a.at)
            (ring c service tei place ranged h.ends.its) h.polls)

        ok-with : (S' : ℕ) → S ≤ S' → S' ≤ length (port_of a.at).given → Asks (S' + half c service tei place ranged) → IsLong S' mv.ends.its a.at.line (happens ev a).clock → Then S M' (happens ev a)
        ok-with S' later early polls timer = record {
          S' = S';
          later = later;
          ok = record {
            but = record {
              ends = mv.ends;
              clock = stands-on ev a h.clock;
              ours = ours-obeyed service tei a.at.line a.clock (octet_orders (answered ev a.at)) own h.ours;
              lengths_are = lengths-stay a.at.line a.clock (octet_orders (answered ev a.at)) ∙ h.lengths_are;
              early = let same : length (port_of (circuit.happens ev a.at)).given ≡ length (port_of a.at).given = ap length mv.given in omega (arith, early, same);
              polls = polls;
              finals = finals-now;
            };
            timer = timer;
          };
        }

        -- T200 is started anew
        spread : (now r : ℕ) → (now + lengths.t200 + 1) * r ≡ (now + 1) * r + lengths.t200 * r
        spread now r = grind arith

        timer-anew : anew ≡ true → IsLong (length (port_of a.at).given) mv.ends.its a.at.line (happens ev a).clock
        timer-anew e m waits at_m = let all = all-past c a h.ends.ran ev in let clock = clock-is c a h.ends.ran ev what is in grind (arith, starts-anew, all, is_waiting, q-is, same_Some, moment_of, clock, length, port_of, spread)

        -- or runs on
        no-move : anew ≡ false → (view_of c service tei a.at.line (meant_all (fresh c) h.ends.ran.events)).link.state ≡ (view_behind c service tei a.at.line (meant_all (fresh c) h.ends.ran.events) what).link.state
        no-move e = same-states (view_of c service tei a.at.line (past c a h.ends.ran ev)).link (view_behind c service tei a.at.line (past c a h.ends.ran ev) what).link e
          where
            same-states : (o q : Observed) → is_anew c service tei T200 o q what ≡ false → o.state ≡ q.state
            same-states o q none = grind (arith, eqb-true)

        timer-on : anew ≡ false → IsLong S mv.ends.its a.at.line (happens ev a).clock
        timer-on e m waits at_m = let all = all-past c a h.ends.ran ev in let clock = clock-is c a h.ends.ran ev what is in grind (arith, no-move, is_waiting, view_of, q-is, runs-on, all, o-is, moment_of, clock)

        no-polls : anew ≡ false → AllByRecursion (λ f. asks f.command f.control ≡ false) (putting mv.event)
        no-polls none = grind (arith, eq-eqb, o-is, no-move, q-is, heard-time, first-of, put-asks-not)

        pub moved-on : Then S M' (happens ev a)
        moved-on = by-bool anew (λ e. ok-with (length (port_of a.at).given) h.early (omega arith) polls-by-now (timer-anew e)) (λ e.
            ok-with S (omega arith) h.early
            (puts-none c service tei place ranged asks a.at (circuit.happens ev a.at) h.ends mv.ends (S + half c service tei place ranged) mv.items mv.given (putting mv.event) (put-is mv.event refl) (no-polls e) h.polls)
            (timer-on e))

-- ---- what happens at an end of the clocked circuit, one thing at a time: layer 3 asks, and a timer falls due

-- An expiry puts no octet on the way.
expired-way : (timer : Timer) (s : OctetEndpoint) → (circuit.happens (port.expiry timer) s).way ≡ s.way
unfolding ports_answer
expired-way timer s = ap (λ os. s.way ++ os) (grind arith) ∙ append-nil s.way

module _ (c : Config) (service : Service) (tei place : ℕ) (ranged : IsInRange c) (lengths : Lengths) (rate : ℕ) where
  abbrev pub End : ℕ → ℕ → TimedEndpoint → Type 0
  End S M a = EndOk c service tei place ranged lengths rate S M a

  -- Octets stay as they are, and time does.
  pub record Goes (S M : ℕ) (a u : TimedEndpoint) : Type 0 where
    pub S' : ℕ
    pub later : S ≤ S'
    pub ok : End S' M u
    pub port : port_of u.at ≡ port_of a.at
    pub way : u.at.way ≡ a.at.way
    pub now : u.clock.now ≡ a.clock.now

  pub goes-none : (S M : ℕ) (a : TimedEndpoint) → End S M a → Goes S M a a
  goes-none S M a h = record { S' = S; later = omega arith; ok = h; port = refl; way = refl; now = refl }

  pub goes-both : (S M : ℕ) (a u v : TimedEndpoint) (g : Goes S M a u) → Goes g.S' M u v → Goes S M a v
  goes-both h h' a u v g k = grind arith

  -- So much was given when this moment came.
  abbrev pub IsSoon : TimedEndpoint → Type 0
  IsSoon a = length (port_of a.at).given ≤ (a.clock.now + 1) * rate

  pub soon-then : (S M : ℕ) (a u : TimedEndpoint) → Goes S M a u → IsSoon a → IsSoon u
  soon-then h h' a u g soon = grind arith

  -- Layer 3 asks.
  module _ (a : TimedEndpoint) (S M : ℕ) (h : End S M a) (soon : IsSoon a) where
    module _ (r : Request) (asked : link.Request) (aims : (l : Line) → aim_of_request r l ≡ at_requested service tei asked (place_in l tei)) (octets : AreOctets (contents_given r)) where
      mv : Moved c service tei place ranged a.at (circuit.happens (port.request r) a.at) h.but.ends (λ e. e ≡ link.requested asked false)
      mv = ends-asked c service tei place ranged a.at h.but.ends r asked aims octets

      then : Then c service tei place ranged lengths rate S M (happens (port.request r) a)
      then =
          moved-on c service tei place ranged lengths rate a (port.request r) S M M h.but (line.request r) refl (λ e. e ≡ link.requested asked false) mv
          (λ e is. subst IsOrdinary (sym (mv.by e is)) tt) (λ e is asks_it. absurd (true≢false (sym asks_it ∙ ap is_asked (mv.by e is))))
          (omega arith) (request-ours service tei c a.at [] place (bare c service tei place ranged h.but.ends.its) h.but.ends.stands r asked aims) soon
          (λ e is time. absurd (true≢false (sym time ∙ ap (λ e. is_time e h.but.ends.its) (mv.by e is)))) (λ none. h.timer)

      asked-goes : Goes S M a (happens (port.request r) a)
      asked-goes = record {
        S' = then.S';
        later = then.later;
        ok = then.ok;
        port = port-after a.at (port.request r) (within-ports c ranged a.at h.but.ends.ran);
        way = asked-way r a.at;
        now = now-stays a.at.line a.clock (octet_orders (answered (port.request r) a.at));
      }

    pub asks-goes : (r : Request) → IsOfLink service tei r → Goes S M a (happens (port.request r) a)
    asks-goes r is = let x = of-link service tei r is in asked-goes r x.0 x.1 x.2

  pub all-asked : (S M : ℕ) (rs : List Request) (a : TimedEndpoint) → End S M a → IsSoon a → All (IsOfLink service tei) rs → Goes S M a (fold asks_acts a rs)
  all-asked S M rs a h soon all =
      fold-keeps asks_acts (IsOfLink service tei) (Goes S M a) (λ r u is g. goes-both S M a u (asks_acts u r) g (asks-goes u g.S' M g.ok (soon-then S M a u g soon) r is)) rs all a (goes-none S M a h)

  -- A timer falls due: it runs no more, and expires.
  abbrev pub gone : TimedEndpoint → TimedEndpoint
  gone a = record a { clock = without_first a.clock }

  module _ (a : TimedEndpoint) (S M : ℕ) (h : EndBut c service tei place ranged lengths rate S M a) where
    abbrev pub but-gone : EndBut c service tei place ranged lengths rate S M (gone a)
    but-gone = record {
      ends = h.ends;
      clock = stands-without a h.clock;
      ours = rest-of (RunsOurs service tei) a.clock.running h.ours;
      lengths_are = h.lengths_are;
      early = h.early;
      polls = h.polls;
      finals = h.finals;
    }

    -- T200 runs if it runs in the link.
    pub t200-there : runs T200 (view_of c service tei a.at.line (meant_all (ports_fresh c) h.ends.ran.events)).link ≡ link_runs T200 h.ends.its.running
    t200-there =
        let ev = port.expiry (timers.T200 service tei) in
        t200-is c (past c a h.ends.ran ev) a.at.line ranged (all-past c a h.ends.ran ev) h.ends.ran.within service tei ∙ ap (λ (l : Link). link_runs T200 l.running)
        (ap (λ card. link_of service tei (line_at a.at.line card)) (sym (here-is c a h.ends.ran ev))
        ∙ ap (λ o. option_map_or (link_in (line_at a.at.line a.at.card.card) service) o fresh_link) h.ends.stands.speaks.placed ∙ h.ends.stands.speaks.link)

  module _ (a : TimedEndpoint) (S M : ℕ) (h : End S M a) (soon : IsSoon a) (x : Expiry) (is : due a.clock ≡ Some x) where
    abbrev but : EndBut c service tei place ranged lengths rate S M (gone a)
    but = but-gone a S M h.but

    abbrev before : List Rattle.model_card.specs.Event.Event
    before = meant_all (ports_fresh c) h.but.ends.ran.events

    abbrev o_acts : Observed
    o_acts = (view_of c service tei a.at.line before).link

    -- T200 that runs is started anew, or stops.
    anew-then : runs T200 o_acts ≡ true
        → is_anew c service tei T200 o_acts (view_behind c service tei a.at.line before (line.expiry (timers.T200 service tei))).link (line.expiry (timers.T200 service tei)) ≡ true
    anew-then run = expired-anew c a.at.line ranged h.but.ends.ran.within service tei before (all-past c (gone a) but.ends.ran (port.expiry (timers.T200 service tei))) T200 run

    t200-then : Then c service tei place ranged lengths rate S M (happens (port.expiry (timers.T200 service tei)) (gone a))
    t200-then =
        let its = link.expired T200 in let mv = ends-expired c service tei place ranged a.at h.but.ends (timers.T200 service tei) T200 (λ l. refl) in
        moved-on c service tei place ranged lengths rate (gone a) (port.expiry (timers.T200 service tei)) S M M but (line.expiry (timers.T200 service tei)) refl (λ e. e ≡ its) mv
        (λ e is. subst IsOrdinary (sym (mv.by e is)) tt) (λ e is asks_it. absurd (true≢false (sym asks_it ∙ ap is_asked (mv.by e is))))
        (omega arith) (expires-ours service tei c a.at [] place (bare c service tei place ranged h.but.ends.its) h.but.ends.stands (timers.T200 service tei) T200 (λ l. refl)) soon
        (λ e is time. anew-then (t200-there a S M h.but
        ∙ sym (ap (λ e. is_time e h.but.ends.its) (mv.by e is)) ∙ time)) (λ none m waits at_m. absurd (true≢false (sym (anew-then (awaits-in o_acts
        (ap is_waiting (o-is c service tei place ranged lengths rate (gone a) (port.expiry (timers.T200 service tei)) S M M but (line.expiry (timers.T200 service tei)) refl) ∙ waits))) ∙ none)))

    t203-then : x.timer ≡ timers.T203 service tei → Then c service tei place ranged lengths rate S M (happens (port.expiry (timers.T203 service tei)) (gone a))
    t203-then same =
        let its = link.expired T203 in let mv = ends-expired c service tei place ranged a.at h.but.ends (timers.T203 service tei) T203 (λ l. refl) in
        let other : is_of_acts a.at.line (timers.T200 service tei) x ≡ false = grind (arith, is_same, and-false) in
        moved-on c service tei place ranged lengths rate (gone a) (port.expiry (timers.T203 service tei)) S M M but (line.expiry (timers.T203 service tei)) refl (λ e. e ≡ its) mv
        (λ e is. subst IsOrdinary (sym (mv.by e is)) tt) (λ e is asks_it. absurd (true≢false (sym asks_it ∙ ap is_asked (mv.by e is))))
        (omega arith) (expires-ours service tei c a.at [] place (bare c service tei place ranged h.but.ends.its) h.but.ends.stands (timers.T203 service tei) T203 (λ l. refl)) soon
        (λ e is time. absurd (true≢false (sym time ∙ ap (λ e. is_time e h.but.ends.its) (mv.by e is))))
        (λ none m waits at_m. h.timer m waits (sym (dropped a.at.line (timers.T200 service tei) x a.clock.running a.clock.now is other) ∙ at_m))

    goes-with : (timer : Timer) → Then c service tei place ranged lengths rate S M (happens (port.expiry timer) (gone a)) → Goes S M a (happens (port.expiry timer) (gone a))
    goes-with timer then = record {
      S' = then.S';
      later = then.later;
      ok = then.ok;
      port = port-after a.at (port.expiry timer) (within-ports c ranged a.at h.but.ends.ran);
      way = expired-way timer a.at;
      now = now-stays a.at.line (without_first a.clock) (octet_orders (answered (port.expiry timer) a.at));
    }

    pub fell-goes : Goes S M a (falls a x)
    fell-goes =
        own-timer service tei (λ timer. x.timer ≡ timer → Goes S M a (happens (port.expiry timer) (gone a))) (λ same. goes-with (timers.T200 service tei) t200-then)
        (λ same. goes-with (timers.T203 service tei) (t203-then same)) x.timer (first-of-acts (RunsOurs service tei) a.clock.running a.clock.now x h.but.ours is) refl

  pub all-fall : (n S M : ℕ) (a : TimedEndpoint) → End S M a → IsSoon a → Goes S M a (fall_due n a)
  all-fall n S M a h soon = falls-keep (Goes S M a) (λ x u is g. goes-both S M a u (falls u x) g (fell-goes u g.S' M g.ok (soon-then S M a u g soon) x is)) n a (goes-none S M a h)

  -- What each request and each expiry keeps at an end, is kept as it comes to its moment.
  pub all-keep : (P : TimedEndpoint → Type 0) (Q : Request → Type 0) → ((r : Request) → Q r → IsOfLink service tei r)
      → ((r : Request) (u : TimedEndpoint) (S M : ℕ) → End S M u → Goes S M u (asks_acts u r) → Q r → P u → P (asks_acts u r))
      → ((x : Expiry) (u : TimedEndpoint) (S M : ℕ) → End S M u → Goes S M u (falls u x) → due u.clock ≡ Some x → P u → P (falls u x))
      → (S M moment : ℕ) (rs : List Request) → All Q rs → (a : TimedEndpoint) → End S M (at_time moment a) → IsSoon (at_time moment a) → P (at_time moment a)
      → Goes S M (at_time moment a) (comes_to moment rs a) × P (comes_to moment rs a)
  all-keep P Q own ask fall S M moment rs all a h soon p =
      let t = at_time moment a in
      comes-keep (λ u. Goes S M t u × P u) Q
      (λ r u is w. let g = asks-goes u w.0.S' M w.0.ok (soon-then S M t u w.0 soon) r (own r is) in (goes-both S M t u (asks_acts u r) w.0 g, ask r u w.0.S' M w.0.ok g is w.1))
      (λ x u is w. let g = fell-goes u w.0.S' M w.0.ok (soon-then S M t u w.0 soon) x is in (goes-both S M t u (falls u x) w.0 g, fall x u w.0.S' M w.0.ok g is w.1))
      moment rs all a (goes-none S M t h, p)

  pub all-both : (P R : TimedEndpoint → Type 0) (Q : Request → Type 0) → ((r : Request) → Q r → IsOfLink service tei r)
      → ((r : Request) (u : TimedEndpoint) (S M : ℕ) → End S M u → Goes S M u (asks_acts u r) → Q r → P u → P (asks_acts u r)) → ((u : TimedEndpoint) → P u → R u)
      → ((x : Expiry) (u : TimedEndpoint) (S M : ℕ) → End S M u → Goes S M u (falls u x) → due u.clock ≡ Some x → R u → R (falls u x))
      → (S M moment : ℕ) (rs : List Request) → All Q rs → (a : TimedEndpoint) → End S M (at_time moment a) → IsSoon (at_time moment a) → P (at_time moment a)
      → Goes S M (at_time moment a) (comes_to moment rs a) × R (comes_to moment rs a)
  all-both P R Q own ask less fall S M moment rs all a h soon p =
      let t = at_time moment a in
      comes-both (λ u. Goes S M t u × P u) (λ u. Goes S M t u × R u) Q
      (λ r u is w. let g = asks-goes u w.0.S' M w.0.ok (soon-then S M t u w.0 soon) r (own r is) in (goes-both S M t u (asks_acts u r) w.0 g, ask r u w.0.S' M w.0.ok g is w.1))
      (λ u w. (w.0, less u w.1))
      (λ x u is w. let g = fell-goes u w.0.S' M w.0.ok (soon-then S M t u w.0 soon) x is in (goes-both S M t u (falls u x) w.0 g, fall x u w.0.S' M w.0.ok g is w.1))
      moment rs all a (goes-none S M t h, p)
