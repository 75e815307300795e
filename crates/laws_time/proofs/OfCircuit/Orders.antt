-- All that is ordered at an end is of its link's timers.
use Rattle.laws_time.proofs.Vocabulary.{All-filter, All-nil, All-put_in_order, AllByRecursion, Answer, AreAtLines, AreOctets, Bool, Card, ClearBusy, Clock, Config, Course, Data, Establish, Event, Expiry, IsInRange, IsOfLink, IsSound, Link, LinkEndpoint, LinkTimer, List, None, Observed, OctetEndpoint as Endpoint, Ok, Option, Order, Parts, PoolFull, Refusal, Release, Request, Sent, by-bool}
use Rattle.laws_time.proofs.Vocabulary.{Service, SetBusy, Some, Speaks, Start, StationStands, Stop, T200, T203, Timer, [], aim_of_expiry, aim_of_request, answered, ap, arith, as_endpoint, asks-told, at, at_requested, at_timer, awaits, by_event, came, comes-told, cond, contents_given, eq-eqb, eqb-true, expires-told, expiry_of, false, gained, has_lines, heard_side, is_anew, is_before, is_due}
use Rattle.laws_time.proofs.Vocabulary.{is_of, is_order_of, is_timer_of, is_waiting, le-ltb, line_answer, line_at, line_sound, link_number, link_runs as runs, moment_at, moment_of, next_of, not, obey, obeyed, octet_at, octet_orders, of_request, option_map, order_for, orders_for, orders_in, own-is, place_in, port_of, reading, refl, refusal, runs as runs_moment, sapi_of, subst}
use Rattle.laws_time.proofs.Vocabulary.{sym, takes-own, takes_slot, terms, told_of_link, true, unless_refused_told, view_behind, view_of, wants_room, with_given_frame, without, ℕ, ◌&&◌, ◌++◌, ◌+◌, ◌<◌, ◌==◌, ◌||◌, ◌∙◌, ◌∷◌, ◌≡◌, ◌≤◌}
use Rattle.model_bits.specs.Stream as stream
use Rattle.model_link.specs.Events as link
use Rattle.model_link.specs.Machine as links
use Rattle.model_line.specs.Event as line
use Rattle.model_card.specs.Machine as machine
use Rattle.model_card.specs.ports.Port as port
use Rattle.lapd_frame.specs.declared.timers.Timer.TheVariants as timers
use Rattle.model_card.specs.Card as cards
use Rattle.model_line.specs.Line.{Line}
use Rattle.model_line.specs.Event.{hears}
use Rattle.laws_time.proofs.OctetsMean.{meant_at, orders-are}
use Rattle.laws_time.proofs.Moments.{own-timer, is_own_t200}
use Rattle.laws_time.proofs.Ordered.{moment-left}
use Rattle.laws_time.proofs.Effects.{sent-like}

module _ (service : Service) (tei : ℕ) where
  abbrev pub IsOurs : Order → Type 0
  IsOurs o = is_order_of service tei o ≡ true

  abbrev pub AreOurs : List Order → Type 0
  AreOurs os = AllByRecursion IsOurs os

  abbrev pub RunsOurs : Expiry → Type 0
  RunsOurs x = is_timer_of service tei x.timer ≡ true

  -- So only these run.
  pub ours-obeyed : (number : ℕ) (k : Clock) (orders : List Order) → AreOurs orders → AllByRecursion RunsOurs k.running → AllByRecursion RunsOurs (obeyed number orders k).running
  ours-obeyed number k [] own all = all
  ours-obeyed number k (Start timer ∷ orders) own all =
      ours-obeyed number (obey number k (Start timer)) orders own.1
      (All-put_in_order is_before RunsOurs (expiry_of number timer k) (without number timer k.running) own.0 (All-filter RunsOurs (λ e. not (is_of number timer e)) k.running all))
  ours-obeyed number k (Stop timer ∷ orders) own all = ours-obeyed number (obey number k (Stop timer)) orders own.1 (All-filter RunsOurs (λ e. not (is_of number timer e)) k.running all)

  module _ (c : Config) where
    both : (xs ys : List Order) → AreOurs xs → AreOurs ys → AreOurs (xs ++ ys)
    both [] ys h g = g
    both (x ∷ xs) ys h g = (h.0, both xs ys h.1 g)

    one-timer : (timer : LinkTimer) (a b d : Option LinkTimer) → AreOurs (order_for (terms c service tei) timer a b d)
    one-timer h a b d = grind (arith, runs, not, cond, own-is)

    its-orders : (a b d : Option LinkTimer) → AreOurs (orders_for (terms c service tei) a b d)
    its-orders a b d = both (order_for (terms c service tei) T200 a b d) (order_for (terms c service tei) T203 a b d) (one-timer T200 a b d) (one-timer T203 a b d)

    told-ours : (e : link.Event) (x : Link) → AreOurs (orders_in (line.told (told_of_link (links.told (terms c service tei) e x))))
    told-ours e x = let y = links.course (terms c service tei) e x in its-orders x.running y.started y.link.running

    -- What is ordered by each event of the line.
    module _ (place number : ℕ) (card : Card) (config : card.config ≡ c) (x : Link) (sound : IsSound card.config (line_at number card)) (h : Speaks card.config service tei place x (line_at number card)) where
      abbrev l : Line
      l = line_at number card

      abbrev Ordered : line.Event → Type 0
      Ordered what = AreOurs (orders_in (machine.answer (at number what) card))

      told-so : (e : link.Event) (a : Answer) → a ≡ line.told (told_of_link (links.told (terms card.config service tei) e x)) → AreOurs (orders_in a)
      told-so e a is = subst (λ a. AreOurs (orders_in a)) (sym is) (subst (λ (k : Config). AreOurs (orders_in (line.told (told_of_link (links.told (terms k service tei) e x))))) (sym config) (told-ours e x))

      pub expiry-ours : (timer : Timer) (its : LinkTimer) → ((l : Line) → aim_of_expiry timer l ≡ at_timer service tei its (place_in l tei)) → Ordered (line.expiry timer)
      unfolding takes_slot
      expiry-ours timer its aims =
          told-so (link.expired its) (line_answer card.config (line.expiry timer) (line_at number card)) (expires-told card.config service tei place (line_at number card) sound x h timer its (aims (line_at number card)))

      pub heard-ours : (f : Parts) (octets : List ℕ) → came card.config.n201 octets ≡ stream.frame octets → reading (heard_side card.config) octets ≡ Ok f → f.address.sapi ≡ sapi_of service → f.address.tei ≡ tei
          → Ordered (line.hears (stream.frame octets))
      unfolding takes_slot
      heard-ours f octets whole read sapi by =
          told-so (link.received (link.frame f)) (line_answer card.config (line.hears (stream.frame octets)) (line_at number card))
          (ap (λ e. line_answer card.config (line.hears e) (line_at number card)) (sym whole) ∙ comes-told card.config service tei place (line_at number card) sound x h f octets whole read sapi by)

      pub dropped-ours : (cause : _) → Ordered (line.hears (stream.dropped cause))
      unfolding takes_slot line_answer
      dropped-ours cause = tt

      pub asked-ours : (r : Request) (asked : link.Request) → ((l : Line) → aim_of_request r l ≡ at_requested service tei asked (place_in l tei)) → Ordered (line.request r)
      unfolding line_answer
      asked-ours r asked aims = by-room (wants_room (at number (line.request r)) card) refl
        where
          in-line : (o : Option Refusal) → refusal card.config false r (line_at number card) ≡ o → AreOurs (orders_in (line_answer card.config (line.request r) (line_at number card)))
          in-line (Some why) is = subst (λ o. AreOurs (orders_in (unless_refused_told o (of_request card.config r (line_at number card))))) (sym is) tt
          in-line None is =
              told-so (link.requested asked false) (line_answer card.config (line.request r) (line_at number card))
              (asks-told card.config service tei place (line_at number card) sound x h r asked (aims (line_at number card)) is)

          by-room : (b : Bool) → wants_room (at number (line.request r)) card ≡ b → AreOurs (orders_in (machine.answer (at number (line.request r)) card))
          by-room true is = subst (λ b. AreOurs (orders_in (cond b (line.refused PoolFull) (line_answer card.config (line.request r) (line_at number card))))) (sym is) tt
          by-room false is =
              subst (λ b. AreOurs (orders_in (cond b (line.refused PoolFull) (line_answer card.config (line.request r) (line_at number card))))) (sym is)
              (in-line (refusal card.config false r (line_at number card)) refl)

      pub next-ours : Ordered line.next
      unfolding takes_slot line_answer
      next-ours =
          subst (λ o. AreOurs (orders_in (line.gave (option_map next_of o)))) (sym (takes-own card.config service tei place (line_at number card) sound x h))
          (subst (λ (k : Config). AreOurs (orders_in (line.gave (option_map next_of (option_map (with_given_frame card.config (line_at number card) (link_number place service) (terms card.config service tei)) (links.given (terms k service tei) x)))))) (sym config)
          ((by (links.course (terms c service tei) link.offer x) (links.course (terms c service tei) link.offer x).sent)))
        where
          by : (y : Course) (o : Option Sent) → AreOurs (orders_in (line.gave (option_map next_of (option_map (with_given_frame card.config (line_at number card) (link_number place service) (terms card.config service tei)) (links.given_of (terms c service tei) x y o)))))
          by y None = tt
          by y (Some sent) = its-orders x.running y.started y.link.running

-- ---- what is ordered at an end of a call is of its link's timers

module _ (service : Service) (tei : ℕ) where
  -- What layer 3 asks for of the link, and which of its timers expires.
  pub of-link : (r : Request) → IsOfLink service tei r → (asked : link.Request) × ((l : Line) → aim_of_request r l ≡ at_requested service tei asked (place_in l tei)) × AreOctets (contents_given r)
  of-link (Establish by to) is = (link.Establish, (λ l. λ i. at_requested (is.0 i) (is.1 i) link.Establish (place_in l (is.1 i))), All-nil (λ octet. octet < 256))
  of-link (Release by to) is = (link.Release, (λ l. λ i. at_requested (is.0 i) (is.1 i) link.Release (place_in l (is.1 i))), All-nil (λ octet. octet < 256))
  of-link (SetBusy by to) is = (link.SetBusy, (λ l. λ i. at_requested (is.0 i) (is.1 i) link.SetBusy (place_in l (is.1 i))), All-nil (λ octet. octet < 256))
  of-link (ClearBusy by to) is = (link.ClearBusy, (λ l. λ i. at_requested (is.0 i) (is.1 i) link.ClearBusy (place_in l (is.1 i))), All-nil (λ octet. octet < 256))
  of-link (Data by to contents) is = (link.Data contents, (λ l. λ i. at_requested (is.0 i) (is.1 i) (link.Data contents) (place_in l (is.1 i))), is.2)
  of-link other is = absurd is

  pub of-timer : (timer : Timer) → is_timer_of service tei timer ≡ true → (its : LinkTimer) × ((l : Line) → aim_of_expiry timer l ≡ at_timer service tei its (place_in l tei))
  of-timer = own-timer service tei (λ timer. (its : LinkTimer) × ((l : Line) → aim_of_expiry timer l ≡ at_timer service tei its (place_in l tei))) (T200, λ l. refl) (T203, λ l. refl)

module _ (service : Service) (tei : ℕ) (c : Config) (s : Endpoint) (way : List (List ℕ)) (place : ℕ) (n : LinkEndpoint) (stands : StationStands c service tei place (as_endpoint way s) n) where
  sound-line : IsSound s.card.card.config (line_at s.line s.card.card)
  sound-line = line_sound s.card.card s.line (has_lines s.card.card stands.sound) (subst (λ (k : Config). s.line < k.lines) (sym stands.config) stands.within)

  speaks-here : Speaks s.card.card.config service tei place n.link (line_at s.line s.card.card)
  speaks-here = subst (λ (k : Config). Speaks k service tei place n.link (line_at s.line s.card.card)) (sym stands.config) stands.speaks

  abbrev Ours : port.Event → Type 0
  Ours ev = AreOurs service tei (octet_orders (answered ev s))

  means-ours : (ev : port.Event) (what : line.Event) → meant_at (octet_at s.line ev) s.card ≡ Some what → AreOurs service tei (orders_in (machine.answer (at s.line what) s.card.card)) → Ours ev
  means-ours ev what is own = subst (AreOurs service tei) (sym (orders-are (octet_at s.line ev) s.card (Some what) is)) own

  pub nothing-ours : (ev : port.Event) → meant_at (octet_at s.line ev) s.card ≡ None → Ours ev
  nothing-ours ev is = subst (AreOurs service tei) (sym (orders-are (octet_at s.line ev) s.card None is)) tt

  pub request-ours : (r : Request) (asked : link.Request) → ((l : Line) → aim_of_request r l ≡ at_requested service tei asked (place_in l tei)) → Ours (port.request r)
  request-ours r asked aims = means-ours (port.request r) (line.request r) refl (asked-ours service tei c place s.line s.card.card stands.config n.link sound-line speaks-here r asked aims)

  pub expires-ours : (timer : Timer) (its : LinkTimer) → ((l : Line) → aim_of_expiry timer l ≡ at_timer service tei its (place_in l tei)) → Ours (port.expiry timer)
  expires-ours timer its aims = means-ours (port.expiry timer) (line.expiry timer) refl (expiry-ours service tei c place s.line s.card.card stands.config n.link sound-line speaks-here timer its aims)

  pub pull-ours : Ours port.pull
  pull-ours = by-bool (is_due (port_of s))
      (λ e. means-ours port.pull line.next (ap (λ b. cond b (Some line.next) None) e) (next-ours service tei c place s.line s.card.card stands.config n.link sound-line speaks-here))
      (λ e. nothing-ours port.pull (ap (λ b. cond b (Some line.next) None) e))

  pub dropped-heard : (value : ℕ) (cause : _) → gained s.card.card.config.n201 (port_of s).received value ≡ Some (stream.dropped cause) → Ours (port.octet value)
  dropped-heard value cause e =
      means-ours (port.octet value) (line.hears (stream.dropped cause)) (ap (option_map line.hears) e) (dropped-ours service tei c place s.line s.card.card stands.config n.link sound-line speaks-here cause)

  pub frame-heard : (value : ℕ) (octets : List ℕ) → gained s.card.card.config.n201 (port_of s).received value ≡ Some (stream.frame octets) → (f : Parts) → came s.card.card.config.n201 octets ≡ stream.frame octets
      → reading (heard_side s.card.card.config) octets ≡ Ok f → f.address.sapi ≡ sapi_of service → f.address.tei ≡ tei → Ours (port.octet value)
  frame-heard value octets e f whole read sapi by =
      means-ours (port.octet value) (line.hears (stream.frame octets)) (ap (option_map line.hears) e) (heard-ours service tei c place s.line s.card.card stands.config n.link sound-line speaks-here f octets whole read sapi by)

-- ---- when T200 falls due in a state that awaits an answer: as long after the command as it runs

pub awaits-in : (o : Observed) → is_waiting o.state ≡ true → awaits o ≡ true
awaits-in o is = grind arith

pub not-7 : (n : ℕ) → is_waiting n ≡ true → (n == 7) ≡ false
not-7 n is = grind (arith, eqb-true)

-- T200 alone counts expiries.
pub counts-on : (c : Config) (service : Service) (tei : ℕ) (what : line.Event) (a : Answer) (o : Observed) → is_own_t200 service tei what ≡ false → (by_event c service tei what a o).expiries ≤ o.expiries
counts-on c service tei what a o h1z = grind (arith, sent-like)

-- An event of the line, of a card that began, after these events.
module _ (c : Config) (events : List Event) (number : ℕ) (ranged : IsInRange c) (all : AreAtLines (cards.fresh c) events) (within : number < c.lines) (service : Service) (tei : ℕ) (what : line.Event) (k : Clock) where
  abbrev o : Observed
  o = (view_of c service tei number events).link

  abbrev q : Observed
  q = (view_behind c service tei number events what).link

  abbrev its : Timer
  its = timers.T200 service tei

  -- the link comes to await an answer, or awaits another one
  pub starts-anew : is_waiting q.state ≡ true → is_anew c service tei T200 o q what ≡ true → moment_of number its (obeyed number (orders_in (moment_at c events number what).answer) k).running ≡ Some (k.now + k.lengths.t200)
  starts-anew waits anew =
      moment-left c events number ranged all within service tei what k T200
      ∙ ap (λ b. cond (b && (not (runs_moment T200 o) || is_anew c service tei T200 o q what)) (Some (k.now + k.lengths.t200)) (cond (runs_moment T200 o && not b) None (moment_of number its k.running))) (awaits-in q waits)
      ∙ ap (λ b. cond (not (runs_moment T200 o) || b) (Some (k.now + k.lengths.t200)) (cond (runs_moment T200 o && false) None (moment_of number its k.running))) anew ∙ or-true (runs_moment T200 o)
    where
      or-true : (r : Bool) → cond (not r || true) (Some (k.now + k.lengths.t200)) (cond (r && false) None (moment_of number its k.running)) ≡ Some (k.now + k.lengths.t200)
      or-true true = refl
      or-true false = refl

  -- it goes on to await the answer
  pub runs-on : is_waiting o.state ≡ true → q.state ≡ o.state → is_anew c service tei T200 o q what ≡ false → moment_of number its (obeyed number (orders_in (moment_at c events number what).answer) k).running ≡ moment_of number its k.running
  runs-on waits same none =
      moment-left c events number ranged all within service tei what k T200
      ∙ ap (λ b. cond (runs_moment T200 q && (not b || is_anew c service tei T200 o q what)) (Some (k.now + k.lengths.t200)) (cond (b && not (runs_moment T200 q)) None (moment_of number its k.running))) (awaits-in o waits)
      ∙ ap (λ b. cond (runs_moment T200 q && b) (Some (k.now + k.lengths.t200)) (cond (not (runs_moment T200 q)) None (moment_of number its k.running))) none
      ∙ ap (λ b. cond (b && false) (Some (k.now + k.lengths.t200)) (cond (not b) None (moment_of number its k.running))) (awaits-in q (ap is_waiting same ∙ waits))

  pub not-anew : is_waiting o.state ≡ true → q.state ≡ o.state → q.expiries ≤ o.expiries → is_anew c service tei T200 o q what ≡ false
  not-anew waits same few = grind (arith, not-7, le-ltb, eq-eqb)
