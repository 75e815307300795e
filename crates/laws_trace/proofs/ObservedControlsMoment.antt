-- The control frames of a link that are due in a moment, by what the observer knows.
use Rattle.laws_trace.proofs.Vocabulary.{◌≡◌, inl, inr, ℕ, ◌<◌, ◌+◌, ◌-◌, ◌==◌, ◌&&◌, ◌||◌, not, Bool, true, false, cond, length, take, List, [], ◌++◌, Option, Some, None, is_some, refl, sym, ap, ◌∙◌, subst, eq-eqb, arith, le-ltb, true≢false, nat_lt, option_map_or, none-some, Service, Parts, State, state_number, Config, hears, expiry, request, next, Answer, link_of, place_in, state_of}
use Rattle.laws_trace.proofs.Vocabulary.{ControlFrame, lost_in, is_granted, AllHaveTheirTimers, Card, line_at, at, eqb-true, lt-ltb, Request, CardEvent as Event, after, card_answer as answer, Moment, IsAtLine, brought, frame_of, its_frame, managing_is_on as is_on, led, due, Observed, View, in_state, by_event, by_heard, enters, views, is_up, Seen, trace_frame_in as frame_in, seen, seen_told}
use Rattle.laws_trace.proofs.Vocabulary.{seen_granted, seen_in, CardIsSound as IsSound, StreamEvent}
use Rattle.model_line.specs.Event as line_event
use Rattle.laws_trace.specs.ControlFrames as now_due
use Rattle.laws_trace.proofs.ControlsSeen.{answers_seen, heard-answers, begun-none}
use Rattle.laws_trace.proofs.ControlsWatched as old
use Rattle.laws_trace.proofs.DeliveriesWatched.{Standing, busy_asked}
use Rattle.laws_trace.proofs.LinksMove.{differ-self}
use Rattle.laws_trace.proofs.MovesWatched as moves
use Rattle.laws_trace.proofs.MovesWatched.{repeated}
use Rattle.laws_trace.proofs.NewsWatched as news
use Rattle.laws_trace.proofs.NewsWatched.{Wanted, Owing, owing}
use Rattle.laws_trace.proofs.ObservedAnswers.{is_answered, card-answered}
use Rattle.laws_trace.proofs.ObservedControls.{by-heard, asked-answers-is, busies, still-busy, none-led, AsBusy, unchanged, as-busy-before}
use Rattle.laws_trace.proofs.ObservedCount.{Same, Agree}
use Rattle.laws_trace.proofs.ObservedCounted.{StandsCalm, agrees-then}
use Rattle.laws_trace.proofs.ObservedFacts.{Facts, facts, state-is, differs-is}
use Rattle.laws_trace.proofs.Observed.{IsObserved}
use Rattle.laws_trace.proofs.ObservedRun.{Holds, holds-then, is-told}
use Rattle.laws_trace.proofs.Standing.{standing}
use Rattle.laws_trace.proofs.StandingOfLink.{calm}
use Rattle.laws_trace.proofs.States.{is_state, differ, expired_of, one_more}
use Rattle.laws_trace.proofs.TimersOfEvent.{state-on, off-state}
use Rattle.laws_trace.proofs.TimersWatched.{Known, watch}
use Rattle.laws_trace.proofs.ObservedControlsSeen.{none-mapped, frame-leads, granted-busy, asked-moves}
use Rattle.laws_trace.proofs.Facts.{either-none, as-busy}
use Rattle.laws_trace.proofs.Runs.{apart}

module _ (service : Service) (tei number : ℕ) where
  module _ (card : Card) (s : IsSound card) (timely : AllHaveTheirTimers card) (e : Event) (here : IsAtLine card e)
      (k : Known) (asked : Wanted) (w : Owing) (known_is : w.known ≡ k) (m : ℕ) (v : View) (h : Holds card.config service tei k asked w.outstanding m (line_at number card) v)
      (n : ℕ) (busy rejected : Bool) (stands : StandsCalm service tei number n busy rejected (line_at number card)) (agree : Agree v.link (calm n busy rejected)) where
    abbrev c : Config
    c = card.config

    abbrev its : Moment
    its = record { card = card; event = e; answer = answer e card }

    abbrev a : Answer
    a = answer e card

    abbrev o : Observed
    o = v.link

    abbrev was : Standing
    was = calm n busy rejected

    abbrev from : Option ℕ
    from = state_of service tei (line_at number card)

    abbrev to : Option ℕ
    to = state_of service tei (line_at number (after e card))

    abbrev on-before : Bool
    on-before = is_on tei v.teis

    abbrev on-then : Bool
    on-then = is_on tei (led c number v.teis e)

    -- what is seen, and how the link stands behind it, by whether the event is one of this line
    abbrev shown-by : Bool → List Seen
    shown-by b = cond b (seen e.what a) []

    abbrev stands-by : Bool → Standing
    stands-by b = standing service tei c (calm n busy rejected) (cond b (seen e.what (answer e card)) [])

    abbrev q : Observed
    q = (views c service tei number v its).link

    abbrev Puts : Bool → Type 0
    Puts b =
        let u = stands-by b in
        (option_map_or (λ state. answers_seen c service tei was u state (shown-by b)) from []
        ++ cond (differ from to || (b && option_map_or one_more (expired_of service tei e.what) 0 == 1)) (old.command_of u to) [])
        ≡ cond (b && not (o.state == 1)) (now_due.put_in c service tei o q its) []

    before : Facts from k asked w.outstanding m o
    before = facts c service tei k asked w.outstanding m (line_at number card) v h

    behind : Facts to (watch c service tei number k its) (news.asked service tei number asked its) (owing c service tei number w its).outstanding (repeated service tei number m its) q
    behind = facts c service tei (watch c service tei number k its) (news.asked service tei number asked its) (owing c service tei number w its).outstanding (repeated service tei number m its)
        (line_at number (after e card)) (views c service tei number v its) (holds-then service tei number card s timely e here k asked w known_is m v h)

    agrees : Agree q (stands-by (e.line == number))
    agrees = agrees-then service tei number card s timely e here k asked w known_is m v h n busy rejected stands agree

    on-is-so : on-before ≡ is_some from
    on-is-so = h.follows.on.same tei ∙ is-told service tei (line_at number card)

    -- Another line's event.
    other-puts : line_at number (after e card) ≡ line_at number card → Puts false
    other-puts same = grind (arith, differ, old.command_of, none-mapped, differ-self)

    -- Where the TEI is not on the line.
    module _ (off : from ≡ None) (first : o ≡ in_state 1) where
      comes : (is : Bool) → to ≡ Some (cond (not is) (in_state 1) (in_state 4)).state → (u : Standing) → old.command_of u to ≡ []
      comes is o u = grind (arith, old.command_of)

      none-commanded : (u : Standing) → old.command_of u to ≡ []
      none-commanded u = go behind
        where
          go : Facts to (watch c service tei number k its) (news.asked service tei number asked its) (owing c service tei number w its).outstanding (repeated service tei number m its) q → old.command_of u to ≡ []
          go (inl y) = ap (old.command_of u) y.0
          go (inr y) =
              comes on-then
              (y.1 ∙ ap (λ s. Some s) (sym y.2.state_is)
              ∙ ap (λ was. Some (cond (not on-then) (in_state 1) (cond was (cond (e.line == number) (by_event c service tei e.what a o) o) (in_state 4))).state) (on-is-so ∙ ap is_some off)) u

    -- Where it is.
    module _ (mine : (e.line == number) ≡ true) (x : State) (there : from ≡ Some (state_number x)) (own : IsObserved (state_number x) k asked w.outstanding m o) where
      abbrev state : o.state ≡ state_number x
      state = own.state_is

      abbrev u' : Standing
      u' = stands-by true

      from-is : from ≡ Some o.state
      from-is = there ∙ ap (λ s. Some s) (sym state)

      same-line : number ≡ e.line
      same-line = sym (eqb-true e.line number mine)

      q-is : (is : Bool) → on-then ≡ is → q ≡ cond (not is) (in_state 1) (by_event c service tei e.what a o)
      q-is is then = grind (arith, on-is-so, is_some)

      on-by : (known : (due c e.what v.teis).on ≡ v.teis.on) → on-then ≡ true
      on-by known = grind (arith, on-is-so, is_some)

      -- a frame that comes
      heard-there : (e' : StreamEvent) → e.what ≡ hears e' → (f : Parts) → its_frame service tei (frame_of c e') ≡ Some f → is_up o.state ≡ true
          → is_answered (nat_lt c.n201 (length f.info)) f.control ≡ true → Same q u'.told.count u'.busy u'.rejected
      heard-there e' what f frame up answered = go (place_in (line_at number card) tei) refl
        where
          is-at : at number (hears e') ≡ e
          is-at = λ i. record { line = same-line i; what = sym what i }

          stays : on-then ≡ true
          stays = on-by (ap (λ z. (due c z v.teis).on) what ∙ frame-leads c service tei e' f v.teis frame)

          q-now : q ≡ by_heard c service tei e' o
          q-now = q-is true stays ∙ ap (λ z. by_event c service tei z a o) what

          go : (p : Option ℕ) → place_in (line_at number card) tei ≡ p → Same q u'.told.count u'.busy u'.rejected
          go None off = absurd (none-some (state_number x) (sym (off-state service tei (line_at number card) off) ∙ there))
          go (Some place) on =
              let l = link_of service tei (line_at number card) in
              let inner : state_number x ≡ state_number l.state = cc (sym there ∙ state-on service tei (line_at number card) place on) in
              subst (λ (p : Observed). Same p u'.told.count u'.busy u'.rejected) (sym q-now)
              (subst (λ (z : Event). let u = standing service tei c (calm n busy rejected) (seen z.what (answer z card)) in Same (by_heard c service tei e' o) u.told.count u.busy u.rejected) is-at
              (card-answered card s number e' (subst (λ i. i < c.lines) (sym same-line) here) service tei place on n stands.0 busy rejected stands.1 o (state ∙ inner) up (agree up) f frame answered))

      -- a request
      asked-there : (r : Request) → e.what ≡ request r → answers_seen c service tei was u' o.state (seen_granted r a ++ seen_told a) ≡ cond (is_granted a) (now_due.changed o q) []
      asked-there r what = asked-answers-is c service tei o q was u' agree r a (subst (λ b. Agree q (stands-by b)) mine agrees) down kept
        where
          down : is_up o.state ≡ false → is_up q.state ≡ false
          down none = go on-then refl
            where
              go : (is : Bool) → on-then ≡ is → is_up q.state ≡ false
              go true is = ap (λ (p : Observed). is_up p.state) (q-is true is) ∙ ap (λ z. is_up (by_event c service tei z a o).state) what ∙ asked-moves c service tei r a o none
              go false is = ap (λ (p : Observed). is_up p.state) (q-is false is)

          kept : is_granted a ≡ true → is_up o.state ≡ true → is_up q.state ≡ false → old.changed was u' ≡ []
          kept granted up none = grind (arith, old.receipt, busies, as-busy, busy_asked, standing, calm, granted-busy, still-busy, on-by, none-led)

      -- where no frame comes, and nothing is granted
      nothing-changes : (what : line_event.Event) → e.what ≡ what → brought c service tei what ≡ None → ((r : Request) → what ≡ request r → is_granted a ≡ false) → now_due.changed o q ≡ []
      nothing-changes what is none idle = go on-then refl
        where
          go : (is : Bool) → on-then ≡ is → now_due.changed o q ≡ []
          go false off = ap (now_due.changed o) (q-is false off)
          go true on = unchanged o q (subst (AsBusy o) (sym (q-is true on ∙ ap (λ z. by_event c service tei z a o) is)) (as-busy-before c service tei o what a none idle))

      by-default : (f : Option Parts) → (f ≡ None → now_due.changed o q ≡ [])
          → option_map_or (λ (f : Parts). now_due.answer_to c o q f f.control) f [] ≡ option_map_or (λ (f : Parts). now_due.answer_to c o q f f.control) f (now_due.changed o q)
      by-default f none = grind arith

      asked-so : (r : Request) → e.what ≡ request r → (b : Bool) → is_granted a ≡ b → cond b (now_due.changed o q) [] ≡ now_due.changed o q
      asked-so r is true granted = refl
      asked-so r is false refused = sym (nothing-changes (request r) is refl (λ r' same. refused))

      answers-so : (what : line_event.Event) → e.what ≡ what → answers_seen c service tei was u' o.state (seen what a) ≡ now_due.answers c service tei o q what
      answers-so (hears e') is =
          heard-answers c service tei was u' o.state (hears e') a e' refl ∙ by-heard c service tei o q was u' agree e' (heard-there e' is)
          ∙ by-default (its_frame service tei (frame_of c e')) (λ none. nothing-changes (hears e') is none (λ r same. cc same))
      answers-so (expiry timer) is = (grind arith) ∙ sym (nothing-changes (expiry timer) is refl (λ r same. cc same))
      answers-so (request r) is = asked-there r is ∙ asked-so r is (is_granted a) refl
      answers-so next is = begun-none c service tei was u' o.state (frame_in a) ∙ sym (nothing-changes next is refl (λ r same. cc same))

      -- a command
      abbrev l' : Known
      l' = watch c service tei number k its

      abbrev asks' : Wanted
      asks' = news.asked service tei number asked its

      abbrev owes' : Bool
      owes' = (owing c service tei number w its).outstanding

      abbrev m' : ℕ
      m' = repeated service tei number m its

      -- T200 expires where its expiries become more
      abbrev again : ℕ
      again = option_map_or one_more (expired_of service tei e.what) 0

      abbrev C : List ControlFrame
      C = now_due.command_of q

      abbrev Commands : Type 0
      Commands = cond (not (o.state == q.state) || (again == 1)) C [] ≡ cond (enters o q) C []

      abbrev differs : (o.state == q.state) ≡ true → differ from to ≡ false
      differs same = sym (differs-is from to k l' asked asks' w.outstanding owes' m m' o q before behind) ∙ ap not same

      count-is : (o.state == q.state) ≡ true → m' ≡ m + again
      count-is same = let first = moves.first c from (expired_of service tei e.what) in
          ap (λ b. cond (not b) m (cond (differ from to) first (m + again))) mine ∙ ap (λ b. cond b first (m + again)) (differs same)

      by-state : (y : State) → IsObserved (state_number y) l' asks' owes' m' q → Commands
      by-state y i = grind (arith, eqb-true, count-is, lt-ltb, le-ltb, either-none)

      commands-so : Facts to l' asks' owes' m' q → Commands
      commands-so o = grind (arith, either-none, by-state)

      command-so : old.command_of u' to ≡ now_due.command_of q
      command-so = grind (arith, is_state, old.receipt, state-is, behind, agrees, eqb-true)

      on-puts : Puts true
      on-puts = grind (arith, differ, old.command_of, answers_seen, from-is, answers-so, command-so, differs-is, before, behind, commands-so)

    pub puts-by : (b : Bool) → (e.line == number) ≡ b → Puts b
    puts-by false other = other-puts (apart card e number (λ same. true≢false (sym (eq-eqb e.line number (sym same)) ∙ other)))
    puts-by true mine = grind (arith, before, Facts, differ, one_more, expired_of, answers_seen, old.command_of, none-commanded, either-none, on-puts)

    abbrev u-then : Standing
    u-then = standing service tei c (calm n busy rejected) (seen_in number its)

    abbrev puts : List ControlFrame
    puts = cond (e.line == number && not (o.state == 1)) (now_due.put_in c service tei o q its) []

    pub due-same : old.due_in c service tei number was u-then its ≡ take (length puts - lost_in a) puts
    due-same = ap (λ xs. take (length xs - lost_in a) xs) (puts-by (e.line == number) refl)
