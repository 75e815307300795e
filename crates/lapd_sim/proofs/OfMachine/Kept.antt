-- What each line of a script keeps: the timers that run are in order, of lines of the card, and later than the moment.
use Rattle.lapd_sim.proofs.OfMachine.Vocabulary.{◌≡◌, ℕ, zero, suc, ◌<◌, Bool, true, false, cond, drop, nat_le, List, [], ◌∷◌, replicate, Option, Some, None, refl, sym, subst, arith, All, AllByRecursion, leb-false, none-some, All-nil, All-cons, All-head, All-tail, All-map, All-replicate, IsInOrder, AreInRange, Expiry, Clock, obeyed}
use Rattle.lapd_sim.proofs.OfMachine.Vocabulary.{is_before, first_due, due_by, all_later, all-run, in-order, octet, pull, expiry, request, orders_in, Board, Event, at, reply, IsAtLine, AreAtLines, Setup, happened, Scene, with_event, with_events, octets_at, downs, Pulls}
use Rattle.lapd_sim.proofs.OfMachine.Vocabulary.{one_pull, pulls, at_expiry, expired, expiries, expiry_events, Call, Packet, Deactivate, Down}
use Rattle.lapd_clock.specs.Timer.{Timer}
use Rattle.model_timed.proofs.Orders.{now-stays}
use Rattle.lapd_sim.proofs.OfMachine.Expiries.{runs_long, happens_in_range}

-- ---- events

-- The timers that run, on a card of so many lines.
pub record Ticks (c : Clock) (lines : ℕ) : Type 0 where
  pub in_order : IsInOrder is_before c.running
  pub on_lines : AllByRecursion (λ (e : Expiry). e.line < lines) c.running
  pub lengths : AreInRange c.lengths

-- And all are later than the moment.
pub record Kept (c : Clock) (lines : ℕ) : Type 0 where
  pub ticks : Ticks c lines
  pub later : AllByRecursion (λ (e : Expiry). c.now < e.moment) c.running

abbrev pub TicksOn : Setup → Type 0
TicksOn b = Ticks b.clock b.board.config.lines

abbrev pub IsKept : Setup → Type 0
IsKept b = Kept b.clock b.board.config.lines

event_ticks : (b : Setup) (e : Event) → IsAtLine b.board e → TicksOn b → TicksOn (happened b e)
event_ticks b e within t =
    let orders = orders_in (reply e b.board) in
    record {
      in_order = in-order e.line b.clock orders t.in_order;
      on_lines = all-run (λ x. x.line < b.board.config.lines) e.line b.clock orders (λ timer. within) t.on_lines;
      lengths = happens_in_range b e t.lengths;
    }

event_kept : (b : Setup) (e : Event) → IsAtLine b.board e → IsKept b → IsKept (happened b e)
event_kept b e within k =
    let orders = orders_in (reply e b.board) in
    record {
      ticks = event_ticks b e within k.ticks;
      later = subst (λ n. AllByRecursion (λ (x : Expiry). n < x.moment) (obeyed e.line orders b.clock).running) (sym (now-stays e.line b.clock orders))
          (all-run (λ x. b.clock.now < x.moment) e.line b.clock orders (λ timer. omega (arith, runs_long b.clock.lengths timer k.ticks.lengths)) k.later);
    }

pub events_kept : (events : List Event) (s : Scene) → AreAtLines s.setup.board events → IsKept s.setup → IsKept (with_events events s).setup
events_kept [] s within k = k
events_kept (e ∷ events) s within k =
    events_kept events (with_event s e) (All-tail (IsAtLine s.setup.board) e events within) (event_kept s.setup e (All-head (IsAtLine s.setup.board) e events within) k)

pub pulls_kept : (count number : ℕ) (p : Pulls) → number < p.setup.board.config.lines → IsKept p.setup → IsKept (pulls count number p).setup
pulls_kept zero number p within k = k
pulls_kept (suc count) number p within k = pulls_kept count number (one_pull number p) within (event_kept p.setup (at number pull) within k)

-- the events of a line are at it
pub octets_within : (card : Board) (number : ℕ) (octets : List ℕ) → number < card.config.lines → AreAtLines card (octets_at number octets)
octets_within card number octets within = All-map (IsAtLine card) (λ value. at number (octet value)) octets (λ i d below. within)

pub downs_within : (card : Board) (number : ℕ) (teis : List ℕ) → number < card.config.lines → AreAtLines card (downs number teis)
downs_within card number [] within = All-cons (IsAtLine card) (at number (request Down)) [] within (All-nil (IsAtLine card))
downs_within card number (tei ∷ teis) within =
    let call : Event = at number (request (Deactivate Call tei)) in
    let packet : Event = at number (request (Deactivate Packet tei)) in
    All-cons (IsAtLine card) call (packet ∷ downs number teis) within (All-cons (IsAtLine card) packet (downs number teis) within (downs_within card number teis within))

pub pulls_within : (card : Board) (number count : ℕ) → number < card.config.lines → AreAtLines card (replicate count (at number pull))
pulls_within card number count within = All-replicate (IsAtLine card) count (at number pull) within

-- ---- what falls due

-- what holds of all holds of the first that is due, and of the others
first_has : (P : ℕ → Type 0) (es : List Expiry) (end : ℕ) (due : ℕ × Timer) → first_due es end ≡ Some due → AllByRecursion (λ (e : Expiry). P e.line) es → P due.0
first_has P es end due is h = grind (arith, none-some, nat_le)

rest_have : (P : Expiry → Type 0) (es : List Expiry) → AllByRecursion P es → AllByRecursion P (drop 1 es)
rest_have P [] h = h
rest_have P (e ∷ es) h = h.1

rest_sorted : (es : List Expiry) → IsInOrder is_before es → IsInOrder is_before (drop 1 es)
rest_sorted [] h = h
rest_sorted (e ∷ es) h = h.1

due_ticks : (b : Setup) → TicksOn b → TicksOn (at_expiry b)
due_ticks b t = record {
  in_order = rest_sorted b.clock.running t.in_order;
  on_lines = rest_have (λ x. x.line < b.board.config.lines) b.clock.running t.on_lines;
  lengths = t.lengths;
}

-- what holds where nothing is due, and of an expiry before others, holds of a wait
module _ (end : ℕ) (P : Scene → Scene → List Event → Type 0) (over : (s : Scene) → P s s [])
    (then : (s : Scene) (due : ℕ × Timer) (t : Scene) (es : List Event) → due_by end s.setup.clock ≡ Some due → P (expired due.0 due.1 s) t es → P s t (at due.0 (expiry due.1) ∷ es)) where
  pub by_expiry : (most : ℕ) (s : Scene) → P s (expiries most end s) (expiry_events most end s)
  by_expiry zero s = over s
  by_expiry (suc most) s = go (λ next. by_expiry most next) (due_by end s.setup.clock) refl
    where
      go : ((next : Scene) → P next (expiries most end next) (expiry_events most end next)) → (o : Option (ℕ × Timer)) → due_by end s.setup.clock ≡ o
          → P s (elim o as (λ o. Scene) [ None ↦ s | Some due ↦ expiries most end (expired due.0 due.1 s) ])
          (elim o as (λ o. List Event) [ None ↦ [] | Some due ↦ at due.0 (expiry due.1) ∷ expiry_events most end (expired due.0 due.1 s) ])
      go more None is = over s
      go more (Some due) is = then s due _ _ is (more (expired due.0 due.1 s))

-- The events of a wait are at lines of the card, as its timers are.
pub record Waited (s t : Scene) (events : List Event) : Type 0 where
  pub within : AreAtLines s.setup.board events
  pub ticks : TicksOn t.setup

pub wait_ticks : (most end : ℕ) (s : Scene) → TicksOn s.setup → Waited s (expiries most end s) (expiry_events most end s)
wait_ticks most end s =
    by_expiry end (λ s t es. TicksOn s.setup → Waited s t es) (λ s k. record { within = All-nil (IsAtLine s.setup.board); ticks = k })
    (λ s due t es is more k.
    let e : Event = at due.0 (expiry due.1) in
    let here = first_has (λ line. line < s.setup.board.config.lines) s.setup.clock.running end due is k.on_lines in
    let rest = more (event_ticks (at_expiry s.setup) e here (due_ticks s.setup k)) in
    record { within = All-cons (IsAtLine s.setup.board) e es here rest.within; ticks = rest.ticks })
    most s

-- they stay in order while it lasts
pub wait_sorts : (most end : ℕ) (s : Scene) → IsInOrder is_before s.setup.clock.running → IsInOrder is_before (expiries most end s).setup.clock.running
wait_sorts most end s =
    by_expiry end (λ s t es. IsInOrder is_before s.setup.clock.running → IsInOrder is_before t.setup.clock.running) (λ s h. h)
    (λ s due t es is more h.
    let b = at_expiry s.setup in
    more (in-order due.0 b.clock (orders_in (reply (at due.0 (expiry due.1)) b.board)) (rest_sorted s.setup.clock.running h)))
    most s

-- where none is due, all are later
pub none_later : (es : List Expiry) (end : ℕ) → IsInOrder is_before es → first_due es end ≡ None → All (λ (e : Expiry). end < e.moment) es
none_later [] end order is = All-nil (λ (e : Expiry). end < e.moment)
none_later (e ∷ es) end order is = all_later e es end order (go (nat_le e.moment end) refl is)
  where
    go : (b : Bool) → nat_le e.moment end ≡ b → cond {A = Option (ℕ × Timer)} b (Some (e.line, e.timer)) None ≡ None → end < e.moment
    go true _ is = let due : ℕ × Timer = (e.line, e.timer) in absurd (none-some due (sym is))
    go false after is = leb-false e.moment end after
