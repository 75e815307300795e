-- What an observer knows of a link after a list of events.
use Rattle.laws_trace.proofs.Vocabulary.{true≢false}
use Rattle.laws_trace.proofs.Vocabulary.{arith, ◌≡◌, ℕ, ◌+◌, ◌<◌, ◌==◌, ◌⊎◌, not, Bool, true, false, cond, List, [], ◌∷◌, Option, Some, None, is_some, refl, sym, ap, ◌∙◌, subst, eq-eqb, fold, IfSome, option_map_or, get_or-replicate, All-head, All-tail, Service, State, Link, state_number, Config, Line, fresh_line, link_of, place_in, state_of, has_tei, IsInRange, is-off, nowhere, Card}
use Rattle.laws_trace.proofs.Vocabulary.{line_at, at, moments, fresh_is_sound, after_is_sound, AllHaveTheirTimers, timely-after, begins-timely-card, eqb-true, fresh_link, fresh, CardEvent as Event, after, card_answer as answer, Moment, after_all, IsAtLine, AreAtLines, managing_is_on as is_on, led, Observed, View, at_first, in_state, by_event, views, view_of, moment_of, view_behind, seen}
use Rattle.laws_trace.proofs.Vocabulary.{CardIsSound as IsSound}
use Rattle.model_line.specs.Event as line_event
use Rattle.laws_trace.proofs.MovesWatched.{repeated}
use Rattle.laws_trace.proofs.TimersWatched.{Known, nothing_yet, learned, watch}
use Rattle.laws_trace.proofs.States as states
use Rattle.laws_trace.proofs.States.{is_state, differ}
use Rattle.laws_trace.proofs.News.{moment-asked}
use Rattle.laws_trace.proofs.NewsOfEvent.{IsAskedOf}
use Rattle.laws_trace.proofs.NewsOfLink.{Asks}
use Rattle.laws_trace.proofs.NewsWatched.{Wanted, none_wanted, then_owes, then_wanted, wish_of, Owing, none_owed, owing}
use Rattle.laws_trace.proofs.LinkLed.{on-line}
use Rattle.laws_trace.proofs.LinksMove.{IsCountOf, IsOwingOf, differ-self, own-led, moment-counted}
use Rattle.laws_trace.proofs.MovesOfLink.{Counts}
use Rattle.laws_trace.proofs.Tracked.{Tracks}
use Rattle.laws_trace.proofs.TeisAreManaged.{moment-follows, fresh-follows}
use Rattle.laws_trace.proofs.ObservedShape.{When, Shape}
use Rattle.laws_trace.proofs.Observed.{IsSeen, counted_by, goes-on, comes}
use Rattle.laws_trace.proofs.TimerClaims.{Agrees}
use Rattle.laws_trace.proofs.TimersAreTimely.{none-learned, moment-known, begins-true, sound-now, timely-now, config-now}
use Rattle.laws_trace.proofs.TimersOfEvent.{IsTrueOf, state-on, off-fresh, off-state}
use Rattle.laws_trace.proofs.MovesWatched as moves
use Rattle.laws_trace.proofs.NewsWatched as news
use Rattle.laws_trace.proofs.Runs.{apart}

-- A state is told where the TEI is on the line.
abbrev pub IsFrom : Option ℕ → Known → Type 0
IsFrom from k = ((from ≡ None) × (k ≡ nothing_yet)) ⊎ ((x : State) × (from ≡ Some (state_number x)) × Shape x k)

module _ (service : Service) (tei : ℕ) where
  pub from-is : (l : Line) (k : Known) → IsTrueOf service tei k l → IsFrom (state_of service tei l) k
  from-is l k h = grind (arith, off-state, Agrees, off-fresh, state-on)

  pub is-told : (l : Line) → has_tei tei l ≡ is_some (state_of service tei l)
  is-told l = go (place_in l tei) refl
    where
      go : (o : Option ℕ) → place_in l tei ≡ o → has_tei tei l ≡ is_some (state_of service tei l)
      go None off = is-off l.management.places tei off ∙ sym (ap is_some (off-state service tei l off))
      go (Some place) on = on-line l tei place on ∙ sym (ap is_some (state-on service tei l place on))

  -- One moment, by the states before and behind it.
  module _ (c : Config) (k : Known) (asked : Wanted) (owed : Bool) (n : ℕ) (o : Observed) where
    abbrev Seen : Option ℕ → Option ℕ → Event → Card → Observed → Type 0
    Seen from to e card q =
        let l = learned c service tei from to k (seen e.what (answer e card)) in
        IsSeen to l (then_wanted from to (wish_of c service tei e.what (answer e card)) asked)
        (then_owes from to (wish_of c service tei e.what (answer e card)) owed (not (l.next == l.acknowledged))) (cond (differ from to) (moves.first c from (states.expired_of service tei e.what)) (n + counted_by c service tei e.what)) q

    abbrev Led : Option ℕ → Option ℕ → Event → Card → Type 0
    Led from to e card = IfSome to (λ state. state ≡ option_map_or (moves.led c service tei k asked.owed n e.what (seen e.what (answer e card))) from 4)

    moves-on : (from : Option ℕ) → IsFrom from k → IsSeen from k asked owed n o → (to : Option ℕ) (e : Event) (card : Card) → Led from to e card
        → Seen from to e card (cond (not (is_some to)) (in_state 1) (cond (is_some from) (by_event c service tei e.what (answer e card) o) (in_state 4)))
    moves-on from o h to e card led = grind (arith, is_some, comes, goes-on, IsSeen)

    -- nothing at this line
    renewed : (from : Option ℕ) → IsSeen from k asked owed n o → IsSeen from k asked (cond (is_state 5 from) owed (not (k.next == k.acknowledged))) n o
    renewed from h = grind (arith, IsSeen, When)

-- A release that is owed is one of what is asked.
pub owing-of : (service : Service) (tei : ℕ) (l : Line) (asked : Wanted) → IsAskedOf service tei asked l → IsOwingOf service tei asked.owed l
owing-of service tei l asked h = grind arith

-- What is known beside it.
pub record Holds (c : Config) (service : Service) (tei : ℕ) (k : Known) (asked : Wanted) (owed : Bool) (n : ℕ) (l : Line) (v : View) : Type 0 where
  pub true_of : IsTrueOf service tei k l
  pub counts_of : IsCountOf service tei n l
  pub asks_of : IsAskedOf service tei asked l
  pub follows : Tracks c v.teis l.management l.own
  pub link_is : IsSeen (state_of service tei l) k asked owed n v.link

module _ (service : Service) (tei number : ℕ) where
  module _ (card : Card) (s : IsSound card) (timely : AllHaveTheirTimers card) (e : Event) (here : IsAtLine card e)
      (k : Known) (asked : Wanted) (w : Owing) (known_is : w.known ≡ k) (n : ℕ) (v : View) (h : Holds card.config service tei k asked w.outstanding n (line_at number card) v) where
    abbrev c : Config
    c = card.config

    abbrev m : Moment
    m = record { card = card; event = e; answer = answer e card }

    abbrev later : Line
    later = line_at number (after e card)

    abbrev from : Option ℕ
    from = state_of service tei (line_at number card)

    abbrev to : Option ℕ
    to = state_of service tei (line_at number (after e card))

    follows-then : Tracks c (led c number v.teis e) later.management later.own
    follows-then = moment-follows card e number v.teis s here h.follows

    on-before : is_on tei v.teis ≡ is_some from
    on-before = h.follows.on.same tei ∙ is-told service tei (line_at number card)

    abbrev Next : Bool → Bool → Bool → Type 0
    Next b is was =
        let l = learned c service tei from to k (cond b (seen e.what (answer e card)) []) in
        IsSeen to l (cond b (then_wanted from to (wish_of c service tei e.what (answer e card)) asked) asked)
        (then_owes from to (cond b (wish_of c service tei e.what (answer e card)) None) w.outstanding (not (l.next == l.acknowledged)))
        (cond (not b) n (cond (differ from to) (moves.first c from (states.expired_of service tei e.what)) (n + counted_by c service tei e.what)))
        (cond (not is) (in_state 1) (cond was (cond b (by_event c service tei e.what (answer e card) v.link) v.link) (in_state 4)))

    abbrev its-from : ℕ → Option ℕ
    its-from number = state_of service tei (line_at number card)

    abbrev its-to : ℕ → Option ℕ
    its-to number = state_of service tei (line_at number (after e card))

    at-rest : (x : Option ℕ) → IsSeen x k asked (cond (is_state 5 x) w.outstanding (not (k.next == k.acknowledged))) n v.link
        → IsSeen x k asked (then_owes x x None w.outstanding (not (k.next == k.acknowledged))) n (cond (not (is_some x)) (in_state 1) (cond (is_some x) v.link (in_state 4)))
    at-rest x h = grind (arith, differ-self)

    by-line : (b : Bool) → (e.line == number) ≡ b → Next b (is_some to) (is_some from)
    by-line true is =
        let same : number ≡ e.line = sym (eqb-true e.line number is) in
        moves-on service tei c k asked w.outstanding n v.link from (from-is service tei (line_at number card) k h.true_of) h.link_is to e card
        (subst (λ number. Led service tei c k asked w.outstanding n v.link (its-from number) (its-to number) e card) (sym same)
        (own-led service tei number card s timely e here k n (subst (λ number. IsTrueOf service tei k (line_at number card)) same h.true_of)
        (subst (λ number. IsCountOf service tei n (line_at number card)) same h.counts_of)
        asked.owed (owing-of service tei (line_at e.line card) asked (subst (λ number. IsAskedOf service tei asked (line_at number card)) same h.asks_of))))
    by-line false other =
        let same : to ≡ from = ap (state_of service tei) (apart card e number (λ same. true≢false (sym (eq-eqb e.line number (sym same)) ∙ other))) in
        subst (λ (x : Option ℕ). let l = learned c service tei from x k [] in
        IsSeen x l asked (then_owes from x None w.outstanding (not (l.next == l.acknowledged))) n (cond (not (is_some x)) (in_state 1) (cond (is_some from) v.link (in_state 4))))
        (sym same)
        (subst (λ l. IsSeen from l asked (then_owes from from None w.outstanding (not (l.next == l.acknowledged))) n (cond (not (is_some from)) (in_state 1) (cond (is_some from) v.link (in_state 4))))
        (sym (none-learned service tei number c (line_at number card) k h.true_of)) (at-rest from (renewed service tei c k asked w.outstanding n v.link from h.link_is)))

    pub holds-then : Holds c service tei (watch c service tei number k m) (news.asked service tei number asked m) (owing c service tei number w m).outstanding (repeated service tei number n m) later
        (views c service tei number v m)
    holds-then = record {
      true_of = moment-known service tei number card s timely e here k h.true_of;
      counts_of = moment-counted service tei number card s timely e here k n h.true_of h.counts_of;
      asks_of = moment-asked service tei number card s timely e here asked h.asks_of (not ((link_of service tei (line_at number card)).s == (link_of service tei (line_at number card)).a)) refl;
      follows = follows-then;
      link_is =
          subst (λ (x : Known). let l = watch c service tei number x m in IsSeen to (watch c service tei number k m) (news.asked service tei number asked m)
          (then_owes from to (cond (e.line == number) (wish_of c service tei e.what (answer e card)) None) w.outstanding (not (l.next == l.acknowledged))) (repeated service tei number n m) (views c service tei number v m).link) (sym known_is)
          (subst (λ is. Next (e.line == number) is (is_on tei v.teis)) (sym (follows-then.on.same tei ∙ is-told service tei later))
          (subst (λ was. Next (e.line == number) (is_some to) was) (sym on-before) (by-line (e.line == number) refl)));
    }

    pub known-then : (owing c service tei number w m).known ≡ watch c service tei number k m
    known-then = ap (λ x. watch c service tei number x m) known_is

  pub run-holds : (card : Card) (events : List Event) → IsSound card → AllHaveTheirTimers card → AreAtLines card events
      → (k : Known) (asked : Wanted) (w : Owing) → w.known ≡ k → (n : ℕ) (v : View) → Holds card.config service tei k asked w.outstanding n (line_at number card) v
      → let ms = moments card events in let c = card.config in
      Holds c service tei (fold (watch c service tei number) k ms) (fold (news.asked service tei number) asked ms) (fold (owing c service tei number) w ms).outstanding (fold (repeated service tei number) n ms)
      (line_at number (after_all card events)) (fold (views c service tei number) v ms)
  unfolding moments after_all
  run-holds card [] s timely all k asked w is n v h = h
  run-holds card (e ∷ events) s timely all k asked w is n v h =
      let here = All-head (IsAtLine card) e events all in
      let m : Moment = record { card = card; event = e; answer = answer e card } in
      run-holds (after e card) events (after_is_sound card e s here) (timely-after card e s timely here) (All-tail (IsAtLine card) e events all)
      (watch card.config service tei number k m) (news.asked service tei number asked m) (owing card.config service tei number w m) (known-then card s timely e here k asked w is n v h)
      (repeated service tei number n m) (views card.config service tei number v m) (holds-then card s timely e here k asked w is n v h)

-- From a fresh card on.
module _ (c : Config) (events : List Event) (number : ℕ) (ranged : IsInRange c) (all : AreAtLines (fresh c) events) (within : number < c.lines) (service : Service) (tei : ℕ) where
  start : line_at number (fresh c) ≡ fresh_line c
  start = get_or-replicate c.lines number (fresh_line c) (fresh_line c) within

  off : state_of service tei (line_at number (fresh c)) ≡ None
  off = ap (state_of service tei) start ∙ off-state service tei (fresh_line c) (nowhere c tei)

  pub off-link : link_of service tei (line_at number (fresh c)) ≡ fresh_link
  off-link = ap (link_of service tei) start ∙ off-fresh service tei (fresh_line c) (nowhere c tei)

  pub at-start : Holds c service tei nothing_yet none_wanted false 0 (line_at number (fresh c)) at_first
  at-start = record {
    true_of = begins-true c events number ranged all within service tei;
    counts_of = subst (λ (y : Link). Counts y.state 0 y.repeats) (sym off-link) tt;
    asks_of = subst (λ (y : Link). Asks y.state none_wanted y.asked y.owed) (sym off-link) tt;
    follows = subst (λ (l : Line). Tracks c at_first.teis l.management l.own) (sym start) (fresh-follows c);
    link_is = subst (λ o. IsSeen o nothing_yet none_wanted false 0 (in_state 1)) (sym off) refl;
  }

  pub holds-now : let ms = moments (fresh c) events in
      Holds c service tei (fold (watch c service tei number) nothing_yet ms) (fold (news.asked service tei number) none_wanted ms) (fold (owing c service tei number) none_owed ms).outstanding
      (fold (repeated service tei number) 0 ms) (line_at number (after_all (fresh c) events)) (view_of c service tei number events)
  holds-now = run-holds service tei number (fresh c) events (fresh_is_sound c ranged) (begins-timely-card c) all nothing_yet none_wanted none_owed refl 0 at_first at-start

  -- as it is configured
  pub holds-here : let ms = moments (fresh c) events in
      Holds (after_all (fresh c) events).config service tei (fold (watch c service tei number) nothing_yet ms) (fold (news.asked service tei number) none_wanted ms)
      (fold (owing c service tei number) none_owed ms).outstanding (fold (repeated service tei number) 0 ms) (line_at number (after_all (fresh c) events)) (view_of c service tei number events)
  holds-here =
      let ms = moments (fresh c) events in
      subst (λ (d : Config). Holds d service tei (fold (watch c service tei number) nothing_yet ms) (fold (news.asked service tei number) none_wanted ms)
      (fold (owing c service tei number) none_owed ms).outstanding (fold (repeated service tei number) 0 ms) (line_at number (after_all (fresh c) events)) (view_of c service tei number events))
      (sym (config-now c events number ranged all within service tei)) holds-now

  abbrev numbers : Known
  numbers = fold (watch c service tei number) nothing_yet (moments (fresh c) events)

  abbrev owes_now : Owing
  owes_now = fold (owing c service tei number) none_owed (moments (fresh c) events)

  pub known-is : (ms : List Moment) (k : Known) (w : Owing) → w.known ≡ k → (fold (owing c service tei number) w ms).known ≡ fold (watch c service tei number) k ms
  known-is [] k w is = is
  known-is (m ∷ ms) k w is = known-is ms (watch c service tei number k m) (owing c service tei number w m) (ap (λ x. watch c service tei number x m) is)

  -- and behind an event more
  pub holds-behind : (what : line_event.Event) → let m = moment_of c events number what in
      Holds c service tei (watch c service tei number numbers m) (news.asked service tei number (fold (news.asked service tei number) none_wanted (moments (fresh c) events)) m)
      (owing c service tei number owes_now m).outstanding (repeated service tei number (fold (repeated service tei number) 0 (moments (fresh c) events)) m)
      (line_at number (after (at number what) (after_all (fresh c) events))) (view_behind c service tei number events what)
  holds-behind what =
      let card = after_all (fresh c) events in
      let m = moment_of c events number what in
      let kept = config-now c events number ranged all within service tei in
      let here : number < card.config.lines = subst (λ (c : Config). number < c.lines) (sym kept) within in
      let asked = fold (news.asked service tei number) none_wanted (moments (fresh c) events) in
      let n = fold (repeated service tei number) 0 (moments (fresh c) events) in
      let v = view_of c service tei number events in
      subst (λ (d : Config). Holds d service tei (watch d service tei number numbers m) (news.asked service tei number asked m) (owing d service tei number owes_now m).outstanding
      (repeated service tei number n m) (line_at number (after (at number what) card)) (views d service tei number v m)) kept
      (holds-then service tei number card (sound-now c events number ranged all within service tei) (timely-now c events number ranged all within service tei) (at number what) here
      numbers asked owes_now (known-is (moments (fresh c) events) nothing_yet none_owed refl) n v holds-here)
