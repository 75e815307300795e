-- When the timers of links run, and when they are started: the law.
use Rattle.laws_trace.proofs.Vocabulary.{true≢false}
use Rattle.laws_trace.proofs.Vocabulary.{◌≡◌, ℕ, ◌+◌, ◌==◌, ◌&&◌, ◌||◌, ◌<◌, ◌≤◌, not, Bool, true, false, cond, List, [], ◌∷◌, ◌++◌, get_or, set, Option, Some, None, refl, sym, ap, ◌∙◌, subst, arith, eq-eqb, fold, option_map_or, and_parts, get_or-set_same, get_or-replicate, All-nil, All-cons, All-head, All-tail, Service, HasItsTimer, needed_in, State, LinkTimer, Link, obeyed, runs, Config}
use Rattle.laws_trace.proofs.Vocabulary.{orders_in, Line, fresh_line, link_of, link_in, link_number, place_in, state_of, terms, IsInRange, sound_in, terms_in_range, place_of-is, Card, line_at, is_full, at, moments, fresh_is_sound, after_is_sound, has_lines, by_room, line_sound, runs_at_callers, AllHaveTheirTimers, needed-run, needs-none, timely-all, timely-after, begins-timely-card, timer_of}
use Rattle.laws_trace.proofs.Vocabulary.{is_needed, left_by, HaveTheirTimers, nowhere, Timer, eqb-true, T200, T203, fresh_link, fresh, CardEvent as Event, after, card_answer as answer, Moment, after_all, IsAtLine, AreAtLines, CardIsSound as IsSound, seen, Always, or_comm, TimerT203, TimerT200}
use Rattle.model_link.specs.Sound as link_sound
use Rattle.model_line.specs.Event as line_event
use Rattle.model_line.specs.Machine as lines
use Rattle.laws_trace.proofs.TimersWatched.{Known, nothing_yet, learned, watch, awaits, is_anew, TimersRun}
use Rattle.laws_trace.proofs.States.{is_state}
use Rattle.laws_trace.proofs.Runs.{nothing-seen, apart}
use Rattle.laws_trace.proofs.TimerClaims.{Agrees, told_state}
use Rattle.laws_trace.proofs.TimersOfEvent.{IsTrueOf, state-on, off-fresh, off-state, needed-is, event-known}
use Rattle.laws_trace.proofs.TimersStarted.{event-started, event-ordered}
use Rattle.laws_trace.proofs.OrdersOfLink.{its_orders, order_by}

module _ (service : Service) (tei number : ℕ) where
  -- Where the pool is full, nothing is seen, and nothing changes.
  pub none-learned : (c : Config) (l : Line) (k : Known) → IsTrueOf service tei k l → learned c service tei (state_of service tei l) (state_of service tei l) k [] ≡ k
  none-learned c l k h = grind (arith, learned, off-state, Agrees, off-fresh, state-on)

  -- One event of a card.
  module _ (card : Card) (s : IsSound card) (timely : AllHaveTheirTimers card) (e : Event) (here : IsAtLine card e) where
    abbrev l : Line
    l = line_at e.line card

    abbrev own : Line
    own = lines.after card.config e.what l

    now : get_or (set card.lines e.line own) e.line (fresh_line card.config) ≡ own
    now = get_or-set_same card.lines e.line own (fresh_line card.config) (omega (arith, s.count, here))

    own-known : (k : Known) → IsTrueOf service tei k l
        → IsTrueOf service tei (learned card.config service tei (state_of service tei l) (state_of service tei (line_at e.line (after e card))) k (seen e.what (answer e card))) (line_at e.line (after e card))
    own-known k h =
        by_room (λ ls a. let x = get_or ls e.line (fresh_line card.config) in
        IsTrueOf service tei (learned card.config service tei (state_of service tei l) (state_of service tei x) k (seen e.what a)) x) e card
        (λ full.
        subst (λ t. IsTrueOf service tei (learned card.config service tei (state_of service tei l) (state_of service tei l) k t) l)
        (sym (nothing-seen card.config e.what l ((and_parts (lines.takes_slot card.config e.what l) (is_full card) full).0)))
        (subst (λ k. IsTrueOf service tei k l) (sym (none-learned card.config l k h)) h))
        (λ room.
        subst (λ x. IsTrueOf service tei (learned card.config service tei (state_of service tei l) (state_of service tei x) k (seen e.what (lines.answer card.config e.what l))) x) (sym now)
        (event-known card.config s.config l (line_sound card e.line (has_lines card s) here) (timely.lines e.line here) service tei k h e.what))

    abbrev moment_of : Moment
    moment_of = record { card = card; event = e; answer = answer e card }

    pub moment-known : (k : Known) → IsTrueOf service tei k (line_at number card) → IsTrueOf service tei (watch card.config service tei number k moment_of) (line_at number (after e card))
    moment-known k h = go (e.line == number) refl
      where
        go : (b : Bool) → (e.line == number) ≡ b
            → IsTrueOf service tei (learned card.config service tei (state_of service tei (line_at number card)) (state_of service tei (line_at number (after e card))) k
            (cond b (seen e.what (answer e card)) [])) (line_at number (after e card))
        go true is =
            subst (λ n. IsTrueOf service tei (learned card.config service tei (state_of service tei (line_at n card)) (state_of service tei (line_at n (after e card))) k
            (seen e.what (answer e card))) (line_at n (after e card))) (eqb-true e.line number is)
            (own-known k (subst (λ n. IsTrueOf service tei k (line_at n card)) (sym (eqb-true e.line number is)) h))
        go false other =
            subst (λ (x : Line). IsTrueOf service tei (learned card.config service tei (state_of service tei (line_at number card)) (state_of service tei x) k []) x)
            (sym (apart card e number (λ same. true≢false (sym (eq-eqb e.line number (sym same)) ∙ other))))
            (subst (λ k. IsTrueOf service tei k (line_at number card)) (sym (none-learned card.config (line_at number card) k h)) h)

    -- what is ordered of the timers of the link
    idle : (needs : Bool) (its : Timer) → order_by false needs needs its ≡ []
    idle needs its = grind arith

    abbrev pub Ordered : Line → line_event.Answer → Type 0
    Ordered x a =
        let one = TimerT200 service tei in
        let other = TimerT203 service tei in
        its_orders service tei (orders_in a)
        ≡ order_by (obeyed one false (orders_in a)) (is_needed one l) (is_needed one x) one ++ order_by (obeyed other false (orders_in a)) (is_needed other l) (is_needed other x) other

    pub own-ordered : (k : Known) → IsTrueOf service tei k l → Ordered (line_at e.line (after e card)) (answer e card)
    own-ordered k h =
        by_room (λ ls a. Ordered (get_or ls e.line (fresh_line card.config)) a) e card
        (λ full.
        sym (ap (λ xs. xs ++ order_by false (is_needed (TimerT203 service tei) l) (is_needed (TimerT203 service tei) l) (TimerT203 service tei))
        (idle (is_needed (TimerT200 service tei) l) (TimerT200 service tei))
        ∙ idle (is_needed (TimerT203 service tei) l) (TimerT203 service tei)))
        (λ room.
        subst (λ x. Ordered x (lines.answer card.config e.what l)) (sym now)
        (event-ordered card.config s.config l (line_sound card e.line (has_lines card s) here) (timely.lines e.line here) service tei k h e.what))

    -- a request that finds the pool full orders nothing
    pub own-started : (k : Known) → IsTrueOf service tei k l → (timer : LinkTimer) → let its = timer_of service tei timer in
        let was = left_by e.what its (is_needed its l) in
        obeyed its false (orders_in (answer e card)) ≡ (obeyed its was (orders_in (answer e card))
        && (not was || is_anew card.config service tei timer k (state_of service tei l) (state_of service tei (line_at e.line (after e card))) (seen e.what (answer e card))))
    own-started k h timer =
        let its = timer_of service tei timer in
        let was = left_by e.what its (is_needed its l) in
        by_room (λ ls a. obeyed its false (orders_in a) ≡ (obeyed its was (orders_in a)
        && (not was || is_anew card.config service tei timer k (state_of service tei l) (state_of service tei (get_or ls e.line (fresh_line card.config))) (seen e.what a)))) e card
        (λ full.
        sym (ap (λ t. was && (not was || is_anew card.config service tei timer k (state_of service tei l) (state_of service tei l) t))
        (nothing-seen card.config e.what l ((and_parts (lines.takes_slot card.config e.what l) (is_full card) full).0)) ∙ never l k h timer was))
        (λ room.
        subst (λ x. obeyed its false (orders_in (lines.answer card.config e.what l)) ≡ (obeyed its was (orders_in (lines.answer card.config e.what l))
        && (not was || is_anew card.config service tei timer k (state_of service tei l) (state_of service tei x) (seen e.what (lines.answer card.config e.what l))))) (sym now)
        (event-started card.config s.config l (line_sound card e.line (has_lines card s) here) (timely.lines e.line here) service tei k h e.what timer))
      where
        -- nothing is due where nothing is seen
        never : (l : Line) (k : Known) → IsTrueOf service tei k l → (timer : LinkTimer) (was : Bool) → (was && (not was || is_anew card.config service tei timer k (state_of service tei l) (state_of service tei l) [])) ≡ false
        never l k h timer was = grind (arith, is_anew, told_state, off-state, state-on)

  -- Over a run.
  pub run-known : (card : Card) (events : List Event) → IsSound card → AllHaveTheirTimers card → AreAtLines card events → (k : Known) → IsTrueOf service tei k (line_at number card)
      → IsTrueOf service tei (fold (watch card.config service tei number) k (moments card events)) (line_at number (after_all card events))
  unfolding moments after_all
  run-known card [] s timely all k h = h
  run-known card (e ∷ events) s timely all k h =
      let here = All-head (IsAtLine card) e events all in
      run-known (after e card) events (after_is_sound card e s here) (timely-after card e s timely here) (All-tail (IsAtLine card) e events all)
      (watch card.config service tei number k (record { card = card; event = e; answer = answer e card })) (moment-known card s timely e here k h)

-- From a fresh card on.
module _ (c : Config) (events : List Event) (number : ℕ) (ranged : IsInRange c) (all : AreAtLines (fresh c) events) (within : number < c.lines) (service : Service) (tei : ℕ) where
  abbrev card : Card
  card = after_all (fresh c) events

  abbrev line : Line
  line = line_at number (after_all (fresh c) events)

  abbrev known : Known
  known = fold (watch c service tei number) nothing_yet (moments (fresh c) events)

  sound-card : (m : Card) (events : List Event) → IsSound m → AreAtLines m events → IsSound (after_all m events)
  unfolding after_all
  sound-card m [] s all = s
  sound-card m (e ∷ events) s all = sound-card (after e m) events (after_is_sound m e s (All-head (IsAtLine m) e events all)) (All-tail (IsAtLine m) e events all)

  config-same : (m : Card) (events : List Event) → (after_all m events).config ≡ m.config
  unfolding after_all
  config-same m [] = refl
  config-same m (e ∷ events) = config-same (after e m) events

  pub sound-now : IsSound card
  sound-now = sound-card (fresh c) events (fresh_is_sound c ranged) all

  pub timely-now : AllHaveTheirTimers card
  timely-now = timely-all (fresh c) events (fresh_is_sound c ranged) (begins-timely-card c) all

  pub config-now : card.config ≡ c
  config-now = config-same (fresh c) events

  pub begins-true : IsTrueOf service tei nothing_yet (line_at number (fresh c))
  begins-true =
      let start : line_at number (fresh c) ≡ fresh_line c = get_or-replicate c.lines number (fresh_line c) (fresh_line c) within in
      let off : link_of service tei (line_at number (fresh c)) ≡ fresh_link =
      ap (link_of service tei) start ∙ ap (λ o. option_map_or (link_in (fresh_line c) service) o fresh_link) (nowhere c tei) in
      subst (λ (x : Link). Agrees x.state nothing_yet x.a x.s x.peer_busy) (sym off) refl

  pub true-now : IsTrueOf service tei known line
  true-now = run-known service tei number (fresh c) events (fresh_is_sound c ranged) (begins-timely-card c) all nothing_yet begins-true

  pub callers-run : (timer : LinkTimer) → let its = timer_of service tei timer in runs_at_callers number its false (moments (fresh c) events) ≡ is_needed its line
  callers-run timer =
      let its = timer_of service tei timer in
      ap (λ b. runs_at_callers number its b (moments (fresh c) events)) (sym (needs-none c number its within))
      ∙ needed-run (fresh c) events (fresh_is_sound c ranged) (begins-timely-card c) all number its within

-- Which timer runs, by what is known.
module _ (service : Service) (tei : ℕ) (k : Known) where
  abbrev Run : Option ℕ → Option LinkTimer → Type 0
  Run state running = (runs T200 running ≡ awaits k state) × (runs T203 running ≡ (is_state 7 state && not (awaits k state)))

  pub by-state : (state : State) (l : Link) → Agrees state k l.a l.s l.peer_busy → l.a ≤ l.s → l.s ≤ l.a + 127 → Run (told_state state) (needed_in state l)
  by-state state l h ordered within = grind (arith, eq-eqb, eqb-true, or_comm)

-- The law: a module once more, so that its parts have names.
module _ (c : Config) (events : List Event) (number : ℕ) (ranged : IsInRange c) (all : AreAtLines (fresh c) events) (within : number < c.lines) (service : Service) (tei : ℕ) where
  abbrev at_end : Card
  at_end = after_all (fresh c) events

  abbrev its_line : Line
  its_line = line_at number (after_all (fresh c) events)

  abbrev its_link : Link
  its_link = link_of service tei (line_at number (after_all (fresh c) events))

  abbrev is_known : Known
  is_known = fold (watch c service tei number) nothing_yet (moments (fresh c) events)

  here-now : number < (after_all (fresh c) events).config.lines
  here-now = subst (λ (c : Config). number < c.lines) (sym (config-now c events number ranged all within service tei)) within

  its-timers : HaveTheirTimers its_line
  its-timers = (timely-now c events number ranged all within service tei).lines number here-now

  runs-so : (timer : LinkTimer) → runs_at_callers number (timer_of service tei timer) false (moments (fresh c) events) ≡ runs timer its_link.running
  runs-so timer = callers-run c events number ranged all within service tei timer ∙ needed-is service tei its_line its-timers timer

  run-in : (o : Option ℕ) → place_in its_line tei ≡ o → Run service tei is_known (state_of service tei its_line) its_link.running
  run-in None off = grind (arith, off-state, off-fresh)
  run-in (Some place) on =
      let s = sound-now c events number ranged all within service tei in
      let sound_line = line_sound at_end number (has_lines at_end s) here-now in
      let placed = (place_of-is its_line.management.places tei place on).1 in
      let t = terms at_end.config service tei in
      let sound : link_sound.IsSound t its_link =
      subst (link_sound.IsSound t) (sym (ap (λ o. option_map_or (link_in its_line service) o fresh_link) on)) (sound_in at_end.config s.config its_line sound_line service tei place placed) in
      let ordered : its_link.a ≤ its_link.s = sound.ordered in
      let small : t.k ≤ 127 = (terms_in_range at_end.config s.config service tei (sound_line.management.table.range place tei placed)).k_high in
      let timed : HasItsTimer its_link = subst HasItsTimer (sym (ap (λ o. option_map_or (link_in its_line service) o fresh_link) on)) (its-timers.links (link_number place service)) in
      subst (λ state. Run service tei is_known state its_link.running) (sym (state-on service tei its_line place on))
      (subst (λ r. Run service tei is_known (told_state its_link.state) r) (sym timed.running)
      (by-state service tei is_known its_link.state its_link (true-now c events number ranged all within service tei) ordered (omega (arith, small))))

  pub run-law : (runs_at_callers number (timer_of service tei T200) false (moments (fresh c) events) ≡ awaits is_known (state_of service tei its_line))
      × (runs_at_callers number (timer_of service tei T203) false (moments (fresh c) events) ≡ (is_state 7 (state_of service tei its_line) && not (awaits is_known (state_of service tei its_line))))
  run-law = let h = run-in (place_in its_line tei) refl in (runs-so T200 ∙ h.0, runs-so T203 ∙ h.1)

  -- an event behind these
  pub started-law : (what : line_event.Event) (timer : LinkTimer) → IsAtLine (after_all (fresh c) events) (at number what) →
      let its = timer_of service tei timer in
      let e = at number what in
      let ran = left_by what its (runs_at_callers number its false (moments (fresh c) events)) in
      obeyed its false (orders_in (answer e at_end)) ≡ (obeyed its ran (orders_in (answer e at_end))
      && (not ran || is_anew c service tei timer is_known (state_of service tei its_line) (state_of service tei (line_at number (after e at_end))) (seen what (answer e at_end))))
  started-law what timer is_at =
      let its = timer_of service tei timer in
      let e = at number what in
      subst (λ (d : Config). obeyed its false (orders_in (answer e at_end)) ≡ (obeyed its (left_by what its (runs_at_callers number its false (moments (fresh c) events))) (orders_in (answer e at_end))
      && (not (left_by what its (runs_at_callers number its false (moments (fresh c) events)))
      || is_anew d service tei timer is_known (state_of service tei its_line) (state_of service tei (line_at number (after e at_end))) (seen what (answer e at_end)))))
      (config-now c events number ranged all within service tei)
      (subst (λ b. obeyed its false (orders_in (answer e at_end)) ≡ (obeyed its (left_by what its b) (orders_in (answer e at_end))
      && (not (left_by what its b) || is_anew at_end.config service tei timer is_known (state_of service tei its_line) (state_of service tei (line_at number (after e at_end))) (seen what (answer e at_end)))))
      (sym (callers-run c events number ranged all within service tei timer))
      (own-started service tei number at_end (sound-now c events number ranged all within service tei) (timely-now c events number ranged all within service tei) e is_at is_known
      (true-now c events number ranged all within service tei) timer))

pub timers-run : Always TimersRun
timers-run c events number ranged all within service tei = run-law c events number ranged all within service tei

-- the events before are at lines of the card
pub front-at : (m : Card) (before : List Event) (e : Event) (behind : List Event) → AreAtLines m (before ++ e ∷ behind) → AreAtLines m before
front-at m [] e behind all = All-nil (IsAtLine m)
front-at m (x ∷ before) e behind all =
    All-cons (IsAtLine m) x before (All-head (IsAtLine m) x (before ++ e ∷ behind) all) (front-at m before e behind (All-tail (IsAtLine m) x (before ++ e ∷ behind) all))

pub itself : (n : ℕ) → (n == n) ≡ true
itself n = eq-eqb n n refl
