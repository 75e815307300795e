-- T200 of an end after an event: it was started anew, or it awaits the same answer as before.
use Rattle.laws_time.proofs.Vocabulary.{Answer, AreAtLines, AwaitingEstablishment, Bool, Card, Clock, Config, Established, IsInRange, Lengths, Link, LinkEndpoint, List, None, Observed, OctetEndpoint as Endpoint, Option, Parts, Ran, Service, Some, StationStands, T200, TeiAssigned, TimedCard, TimedEndpoint, View, []}
use Rattle.laws_time.proofs.Vocabulary.{anew, answered, ap, arith, as_endpoint, at, awaits, brings, by_event, by_frame, by_frame_begun, by_heard, card_of, cond, eqb-true, expiry, false, fold, frame_of, happens, holds, inl, inr, is_anew, is_multiple_frame, is_on, is_some, is_up, its_frame, line_at, link_of, malformed, meant_all, moment_at}
use Rattle.laws_time.proofs.Vocabulary.{moment_of, not, numbers-now, obeyed, octet_at, octet_orders, on-line-now, option_map_or, orders_in, place_in, ports_fresh as fresh, refl, renews, runs, state_number, subst, sym, true, view_behind, view_of, ℕ, ◌%◌, ◌&&◌, ◌++◌, ◌+◌, ◌<◌, ◌||◌, ◌∙◌, ◌∷◌, ◌≡◌, ◌≤◌, ◌⊎◌}
use Rattle.lapd_frame.specs.declared.timers.Timer.TheVariants as timers
use Rattle.model_bits.specs.Stream as stream
use Rattle.model_line.specs.Event as line
use Rattle.model_card.specs.Card as cards
use Rattle.model_card.specs.Event as frame_event
use Rattle.model_card.specs.Run as frame_runs
use Rattle.model_card.specs.ports.Port as port
use Rattle.model_line.specs.Event.{hears}
use Rattle.model_line.specs.Line.{Line}
use Rattle.laws_trace.proofs.ObservedShape.{known_of}
use Rattle.laws_trace.proofs.SeenAs.{seen-before, known-up}
use Rattle.laws_trace.proofs.TimerClaims.{IsKnown}
use Rattle.laws_time.proofs.Ordered.{moment-left}
use Rattle.laws_time.proofs.OfCircuit.AckedOn.{Open}
use Rattle.laws_time.proofs.OfCircuit.Led.{IsOrdinary}
use Rattle.laws_time.proofs.OfCircuit.Words.{all-past, all-then, at_time, clock-is, event-inside, here-is, lengths-stay, meant_at, next-card, now-stays, past, stays-on, view-then}
use Rattle.laws_time.proofs.OfCircuit.AckedCall.{Moves}

-- ---- orders

by-orders : (now was renewed : Bool) (due : ℕ) (before : Option ℕ) (m : ℕ) → (before ≡ Some m → was ≡ true) → cond (now && (not was || renewed)) (Some due) (cond (was && not now) None before) ≡ Some m
    → (now ≡ true) × ((m ≡ due) ⊎ ((before ≡ Some m) × (renewed ≡ false)))
by-orders now was renewed due before m h1z h2z = grind arith

-- An event of the line, of a card that began, after these events.
module _ (c : Config) (events : List frame_event.Event) (number : ℕ) (ranged : IsInRange c) (all : AreAtLines (cards.fresh c) events) (within : number < c.lines) (service : Service) (tei : ℕ) (what : line.Event) (k : Clock) where
  abbrev o : Observed
  o = (view_of c service tei number events).link

  abbrev q : Observed
  q = (view_behind c service tei number events what).link

  pub t200-then : (m : ℕ) → (moment_of number (timers.T200 service tei) k.running ≡ Some m → awaits o ≡ true) → moment_of number (timers.T200 service tei) (obeyed number (orders_in (moment_at c events number what).answer) k).running ≡ Some m
      → (awaits q ≡ true) × ((m ≡ k.now + k.lengths.t200) ⊎ ((moment_of number (timers.T200 service tei) k.running ≡ Some m) × (is_anew c service tei T200 o q what ≡ false)))
  t200-then m h is =
      by-orders (runs T200 q) (runs T200 o) (is_anew c service tei T200 o q what) (k.now + k.lengths.t200) (moment_of number (timers.T200 service tei) k.running) m h
      (sym (moment-left c events number ranged all within service tei what k T200) ∙ is)

-- ---- what is heard acknowledges something, or starts no timer anew

module _ (c : Config) (o : Observed) (up : o.state ≡ 7) (free : o.busy ≡ false) where
  abbrev Same : Observed → Bool → Type 0
  Same q renewed = q.state ≡ 7 → awaits q ≡ true → renewed ≡ false → q.acknowledged ≡ o.acknowledged

  by-control : (f : Parts) → Same (by_frame c o f) (renews T200 o.acknowledged o.busy f.control)
  by-control f = grind (arith, eqb-true)

  pub heard-same : (service : Service) (tei : ℕ) (e : stream.Event) → Same (by_heard c service tei e o) (brings (renews T200 o.acknowledged o.busy) c service tei (hears e))
  heard-same service tei e = grind (arith, is_some, malformed, its_frame, frame_of, is_up, anew, option_map_or, by_frame, renews, by-control)

-- ---- what an observer knows of a link

pub record IsSeen (o : Observed) (l : Link) : Type 0 where
  pub state : o.state ≡ state_number l.state
  pub numbers : is_multiple_frame l.state ≡ true → IsKnown (known_of o) l.a l.s l.peer_busy

pub seen-at : (c : Config) (events : List frame_event.Event) (number : ℕ) (ranged : IsInRange c) (all : AreAtLines (cards.fresh c) events) (within : number < c.lines) (service : Service) (tei : ℕ) (l : Line)
    → line_at number (frame_runs.after_all (cards.fresh c) events) ≡ l → (place : ℕ) → place_in l tei ≡ Some place → IsSeen (view_of c service tei number events).link (link_of service tei l)
seen-at c events number ranged all within service tei l is place on = grind (arith, line_at, frame_runs.after_all, cards.fresh, seen-before, place_in, holds, link_of, view_of, numbers-now, known-up)

-- The states of a link in a call; and those in which it awaits an answer.
abbrev pub IsFine : Link → Type 0
IsFine l = (l.state ≡ TeiAssigned) ⊎ ((l.state ≡ AwaitingEstablishment) ⊎ Open l)

abbrev pub Awaits : Link → Type 0
Awaits l = (l.state ≡ AwaitingEstablishment) ⊎ (Open l × (l.a < l.s))

module _ (o : Observed) (l : Link) (x : IsSeen o l) where
  open-known : Open l → (o.state ≡ 7) × (o.acknowledged ≡ l.a % 128) × (o.next ≡ l.s % 128) × (o.busy ≡ false)
  open-known h = grind arith

  pub link-awaits : Awaits l → awaits o ≡ true
  link-awaits h1z = grind (arith, open-known)

  pub awaits-link : IsFine l → awaits o ≡ true → Awaits l
  awaits-link h waits = grind arith

-- ---- T200 of an end in a call, event by event: until when it runs at least, by what is not acknowledged yet

-- ---- an event that is no expiry

abbrev pub IsNoExpiry : line.Event → Type 0
IsNoExpiry (expiry timer) = ⊥
IsNoExpiry other = Unit {0}

one-same : (c : Config) (service : Service) (tei : ℕ) (o_event : Observed) (f : List ℕ) → (by_frame_begun c service tei o_event f).acknowledged ≡ o_event.acknowledged
one-same c service tei o_event f = grind arith

begun-same : (c : Config) (service : Service) (tei : ℕ) (fs : List (List ℕ)) (o_event : Observed) → (fold (by_frame_begun c service tei) o_event fs).acknowledged ≡ o_event.acknowledged
begun-same c service tei [] o_event = refl
begun-same c service tei (f ∷ fs) o_event = begun-same c service tei fs (by_frame_begun c service tei o_event f) ∙ one-same c service tei o_event f

event-same : (c : Config) (service : Service) (tei : ℕ) (what : line.Event) (a : Answer) (o_event : Observed) → IsNoExpiry what → o_event.state ≡ 7 → o_event.busy ≡ false → (by_event c service tei what a o_event).state ≡ 7 → awaits (by_event c service tei what a o_event) ≡ true
    → brings (renews T200 o_event.acknowledged o_event.busy) c service tei what ≡ false → (by_event c service tei what a o_event).acknowledged ≡ o_event.acknowledged
event-same c service tei what a o_event h1z h2z h3z h4z h5z h6z = grind (arith, heard-same, begun-same)

-- neither another state, nor a frame that renews it
record NotAnew (o_event q_event : Observed) (renewed : Bool) : Type 0 where
  state : o_event.state ≡ q_event.state
  none : o_event.state ≡ 7 → renewed ≡ false

kept-so : (c : Config) (service : Service) (tei : ℕ) (o_event q_event : Observed) (what : line.Event) → is_anew c service tei T200 o_event q_event what ≡ false → NotAnew o_event q_event (brings (renews T200 o_event.acknowledged o_event.busy) c service tei what)
kept-so c service tei o_event q_event what e = grind arith

module _ (c : Config) (ranged : IsInRange c) (service : Service) (tei : ℕ) where
  abbrev pub link_now : TimedEndpoint → Link
  link_now a = link_of service tei (line_at a.at.line a.at.card.card)

  abbrev pub t200_at : TimedEndpoint → Option ℕ
  t200_at a = moment_of a.at.line (timers.T200 service tei) a.clock.running

  abbrev pub IsPlaced : TimedEndpoint → Type 0
  IsPlaced a = (place : ℕ) × (place_in (line_at a.at.line a.at.card.card) tei ≡ Some place)

  on-at : (events : List frame_event.Event) (number : ℕ) (all : AreAtLines (cards.fresh c) events) (within : number < c.lines) (l : Line) → line_at number (frame_runs.after_all (cards.fresh c) events) ≡ l → ((place : ℕ) × (place_in l tei ≡ Some place))
      → is_on tei (view_of c service tei number events).teis ≡ true
  on-at events number all within l is on = grind (arith, on-line-now)

  module _ (a : TimedEndpoint) (ran : Ran c a.at) (ev : port.Event) where
    abbrev number : ℕ
    number = a.at.line

    -- It means nothing.
    pub none-happens : meant_at (octet_at a.at.line ev) a.at.card ≡ None → ((happens ev a).at.card.card ≡ a.at.card.card) × ((happens ev a).clock ≡ a.clock)
    none-happens none = let x = event-inside (octet_at a.at.line ev) (card_of a) None none in (ap (λ (t : TimedCard). t.card) x, ap (λ (t : TimedCard). t.clock) x)

    -- It means this.
    module _ (what : line.Event) (is : meant_at (octet_at a.at.line ev) a.at.card ≡ Some what) where
      abbrev o_event : Observed
      o_event = (view_of c service tei a.at.line (meant_all (fresh c) ran.events)).link

      abbrev q_event : Observed
      q_event = (view_behind c service tei a.at.line (meant_all (fresh c) ran.events) what).link

      seen : IsPlaced a → IsSeen (view_of c service tei a.at.line (meant_all (fresh c) ran.events)).link (link_now a)
      seen on = seen-at c (past c a ran ev) number ranged (all-past c a ran ev) ran.within service tei (line_at number a.at.card.card) (ap (line_at number) (sym (here-is c a ran ev))) on.0 on.1

      seen-then : IsPlaced (happens ev a) → IsSeen (view_behind c service tei a.at.line (meant_all (fresh c) ran.events) what).link (link_now (happens ev a))
      seen-then on =
          subst (λ (v : View). IsSeen v.link (link_now (happens ev a))) (view-then c service tei number (past c a ran ev) (at number what))
          (seen-at c (past c a ran ev ++ at number what ∷ []) number ranged (all-then c a ran ev what is) ran.within service tei (line_at number (happens ev a).at.card.card) (ap (line_at number) (sym (next-card c a ran ev what is))) on.0 on.1)

      by : IsPlaced a → IsPlaced (happens ev a) → (view_behind c service tei a.at.line (meant_all (fresh c) ran.events) what).link ≡ by_event c service tei what (moment_at c (meant_all (fresh c) ran.events) a.at.line what).answer (view_of c service tei a.at.line (meant_all (fresh c) ran.events)).link
      by on on_then =
          stays-on c (past c a ran ev) number ranged (all-past c a ran ev) ran.within service tei what
          (on-at (past c a ran ev) number (all-past c a ran ev) ran.within (line_at number a.at.card.card) (ap (line_at number) (sym (here-is c a ran ev))) on)
          (ap (λ (v : View). is_on tei v.teis) (sym (view-then c service tei number (past c a ran ev) (at number what)))
          ∙ on-at (past c a ran ev ++ at number what ∷ []) number (all-then c a ran ev what is) ran.within (line_at number (happens ev a).at.card.card) (ap (line_at number) (sym (next-card c a ran ev what is))) on_then)

      -- T200 runs until then, since it was started anew, or as before.
      pub record Runs (m : ℕ) : Type 0 where
        pub waits : Awaits (link_now (happens ev a))
        pub since : (m ≡ a.clock.now + a.clock.lengths.t200) ⊎ ((t200_at a ≡ Some m) × (Open (link_now (happens ev a)) → Open (link_now a) × ((link_now (happens ev a)).a ≡ (link_now a).a)))

      module _ (on : IsPlaced a) (on_then : IsPlaced (happens ev a)) (fine : IsFine (link_now a)) (fine_then : IsFine (link_now (happens ev a))) (moves : Open (link_now a) → Open (link_now (happens ev a)) → Moves (link_now a) (link_now (happens ev a)))
          (none : IsNoExpiry what) where
        is-open : Open (link_now (happens ev a)) → state_number (link_now a).state ≡ state_number (link_now (happens ev a)).state → Open (link_now a)
        is-open h same = grind arith

        same-a : is_anew c service tei T200 o_event q_event what ≡ false → Open (link_now (happens ev a)) → awaits q_event ≡ true → Open (link_now a) × ((link_now (happens ev a)).a ≡ (link_now a).a)
        same-a kept h waits = grind (arith, kept-so, seen, seen-then, state_number, happens, is-open, is_multiple_frame, by, event-same, moment_at, awaits)

        pub runs-then : (m : ℕ) → (t200_at a ≡ Some m → Awaits (link_now a)) → t200_at (happens ev a) ≡ Some m → Runs m
        runs-then m awaited at_m =
            let x = t200-then c (past c a ran ev) number ranged (all-past c a ran ev) ran.within service tei what a.clock m (λ before. link-awaits o_event (link_now a) (seen on) (awaited before)) (ap (λ (k : Clock). moment_of number (timers.T200 service tei) k.running) (sym (clock-is c a ran ev what is)) ∙ at_m) in
            record { waits = awaits-link q_event (link_now (happens ev a)) (seen-then on_then) fine_then x.0; since = go x.0 x.1 }
          where
            go : awaits q_event ≡ true → (m ≡ a.clock.now + a.clock.lengths.t200) ⊎ ((t200_at a ≡ Some m) × (is_anew c service tei T200 o_event q_event what ≡ false))
                → (m ≡ a.clock.now + a.clock.lengths.t200) ⊎ ((t200_at a ≡ Some m) × (Open (link_now (happens ev a)) → Open (link_now a) × ((link_now (happens ev a)).a ≡ (link_now a).a)))
            go waits (inl is) = inl is
            go waits (inr (before, kept)) = inr (before, λ h. same-a kept h waits)

-- ---- an end of a call with its clock: what is kept by an event, and by a beat

ordinary : (n201 : ℕ) (ev : port.Event) (p : port.Port) (what : line.Event) → IsOrdinary ev → port.meant n201 ev p ≡ Some what → IsNoExpiry what
ordinary n201 ev p what none is = grind arith

not-both : (l : Link) → Open l → l.state ≡ AwaitingEstablishment → {X : Type 0} → X
not-both l h is = let e : Established ≡ AwaitingEstablishment = sym h.state ∙ is in absurd (cc e)

module _ (service : Service) (tei : ℕ) (c : Config) (ranged : IsInRange c) (ls : Lengths) where
  -- An end in a call.
  abbrev pub its_link : Endpoint → Link
  its_link s = link_of service tei (line_at s.line s.card.card)

  pub record Facts (s : Endpoint) : Type 0 where
    pub way : List (List ℕ)
    pub place : ℕ
    pub n : LinkEndpoint
    pub stands : StationStands c service tei place (as_endpoint way s) n
    pub fine : IsFine (its_link s)

  -- Old: until when T200 runs at least, if so much is acknowledged. It was started before, or in this millisecond while something was not
  -- acknowledged.
  module _ (Old : ℕ → ℕ → Type 0) where
    abbrev pub Due : ℕ → ℕ → ℕ → ℕ → Type 0
    Due now a s m = Old a m ⊎ ((a < s) × (now + ls.t200 ≤ m))

    -- T200 runs for its time, and a link awaits an answer meanwhile.
    abbrev pub Claim : (ℕ → ℕ → ℕ → Type 0) → Link → ℕ → Type 0
    Claim until l m = (ls.t200 ≤ m) × Awaits l × (Open l → until l.a l.s m)

    pub record Timed (now : ℕ) (a : TimedEndpoint) : Type 0 where
      pub ran : Ran c a.at
      pub now_is : a.clock.now ≡ now
      pub lengths : a.clock.lengths ≡ ls
      pub claim : (m : ℕ) → moment_of a.at.line (timers.T200 service tei) a.clock.running ≡ Some m → Claim (Due now) (its_link a.at) m

    module _ (now : ℕ) (a : TimedEndpoint) (ev : port.Event) (h : Timed now a) (ran : Ran c (happens ev a).at) (before : Facts a.at) (then : Facts (happens ev a).at) (none : IsOrdinary ev)
        (moves : Open (its_link a.at) → Open (its_link (happens ev a).at) → Moves (its_link a.at) (its_link (happens ev a).at)) where
      abbrev ClaimOf : Card → Clock → Type 0
      ClaimOf card clock = (m : ℕ) → moment_of a.at.line (timers.T200 service tei) clock.running ≡ Some m → Claim (Due now) (link_of service tei (line_at a.at.line card)) m

      abbrev l' : Link
      l' = its_link (happens ev a).at

      less : Awaits l' → Open l' → l'.a < l'.s
      less h1z h2z = grind (arith, not-both)

      goes-on : (m : ℕ) → Due now (its_link a.at).a (its_link a.at).s m → l'.a ≡ (its_link a.at).a → (its_link a.at).s ≤ l'.s → Due now l'.a l'.s m
      goes-on m h same more = grind arith

      due : (m : ℕ) → Awaits l' → Open l' → (m ≡ a.clock.now + a.clock.lengths.t200) ⊎ ((t200_at c ranged service tei a ≡ Some m) × (Open l' → Open (its_link a.at) × (l'.a ≡ (its_link a.at).a))) → Due now l'.a l'.s m
      due m waits open_then (inl is) = grind (arith, less)
      due m waits open_then (inr (was, kept)) = let k = kept open_then in let more = (moves k.0 open_then).sent in goes-on m ((h.claim m was).2 k.0) k.1 more

      long : (m : ℕ) (X : Type 0) → (m ≡ a.clock.now + a.clock.lengths.t200) ⊎ ((t200_at c ranged service tei a ≡ Some m) × X) → ls.t200 ≤ m
      long m X (inl is) = let t = ap (λ (ls : Lengths). ls.t200) h.lengths in omega (arith, is, t)
      long m X (inr (was, kept)) = (h.claim m was).0

      runs-claim : (what : line.Event) (is : meant_at (octet_at a.at.line ev) a.at.card ≡ Some what) (m : ℕ) → Runs c ranged service tei a h.ran ev what is m → Claim (Due now) l' m
      runs-claim what is m x = (long m _ x.since, x.waits, λ open_then. due m x.waits open_then x.since)

      by-meaning : (o : Option line.Event) → meant_at (octet_at a.at.line ev) a.at.card ≡ o → ClaimOf (happens ev a).at.card.card (happens ev a).clock
      by-meaning None is =
          let same = none-happens c ranged service tei a h.ran ev is in
          subst (λ clock. ClaimOf (happens ev a).at.card.card clock) (sym same.1) (subst (λ card. ClaimOf card a.clock) (sym same.0) h.claim)
      by-meaning (Some what) is =
          λ m at_m.
          runs-claim what is m
          (runs-then c ranged service tei a h.ran ev what is (before.place, before.stands.speaks.placed) (then.place, then.stands.speaks.placed) before.fine then.fine moves (ordinary a.at.card.card.config.n201 ev _ what none is) m (λ was. (h.claim m was).1) at_m)

      pub timed-then : Timed now (happens ev a)
      timed-then =
          let orders = octet_orders (answered ev a.at) in
          record {
            ran = ran;
            now_is = now-stays a.at.line a.clock orders ∙ h.now_is;
            lengths = lengths-stay a.at.line a.clock orders ∙ h.lengths;
            claim = by-meaning (meant_at (octet_at a.at.line ev) a.at.card) refl;
          }

    -- Between two beats.
    pub record Held (a : TimedEndpoint) : Type 0 where
      pub ran : Ran c a.at
      pub lengths : a.clock.lengths ≡ ls
      pub claim : (m : ℕ) → moment_of a.at.line (timers.T200 service tei) a.clock.running ≡ Some m → Claim (λ acked sent m. Old acked m) (its_link a.at) m

    pub beat-begins : (now : ℕ) (a : TimedEndpoint) → Held a → Timed now (at_time now a)
    beat-begins now a h = record { ran = h.ran; now_is = refl; lengths = h.lengths; claim = λ m at_m. let x = h.claim m at_m in (x.0, x.1, λ open_now. inl (x.2 open_now)) }
