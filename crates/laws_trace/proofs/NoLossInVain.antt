-- Nothing is told as lost in vain: the law.
use Rattle.laws_trace.proofs.Vocabulary.{◌≡◌, ℕ, ◌+◌, ◌-◌, ◌<◌, ◌≤◌, ◌==◌, ◌&&◌, Bool, true, false, cond, List, [], length, get_or, Option, Some, None, refl, sym, ap, ◌∙◌, subst, ◌⊎◌, inl, inr, arith, eq-eqb, true≢false, fold, le-ltb, and_parts, option_map_or, get_or-set_same, PoolFull, Refusal, Service, Call, place_of-is, is_on-at, service-same, ControlFrame, Config, Aim, at_none, at_link}
use Rattle.laws_trace.proofs.Vocabulary.{of_aim, aim_of_expiry, aim_of_heard, hears, expiry, request, next, Answer, refused, Line, fresh_line, has_tei, link_of, aim_of, unless_refused, unless_refused_told, at_requested, aim_of_request, heard_aims, IsInRange, lost_in, deactivates, HaveTheirTimers, AllHaveTheirTimers, Card, line_at, is_full, at, fresh_is_sound, has_lines, by_room, line_sound}
use Rattle.laws_trace.proofs.Vocabulary.{Moment}
use Rattle.laws_trace.proofs.Vocabulary.{config-stays, at_no_link, Event, refusal, IsSound, after, card_answer as answer, after_all, AreAtLines, always_sound, put_in, managing_is_on as is_on, due, managed_after, Observed, View, by_event, view_of, view_behind, moment_of, is_empty, outgoing_of, seen, trace_of, Always, by-down, fresh, LinkRequest, StreamEvent, CardEvent}
use Rattle.model_teis.specs.terminal.Events as terminals
use Rattle.model_teis.proofs.OfTerminal.Brief.{none_lost}
use Rattle.model_line.specs.Effect.{at_terminal, told_of_management}
use Rattle.model_line.specs.Line.{terminal_in, with_terminal}
use Rattle.model_line.specs.Machine as lines
use Rattle.model_card.specs.Sound as card_sound
use Rattle.laws_trace.specs.NoLossInVain.{puts_by, NoLossInVain}
use Rattle.laws_trace.proofs.ObservedControls.{unchanged}
use Rattle.laws_trace.proofs.Addressed.{at-some-place}
use Rattle.laws_trace.proofs.DeliveriesKept.{run-stands}
use Rattle.laws_trace.proofs.DeliveriesRun.{IsCount}
use Rattle.laws_trace.proofs.DeliveriesWatched.{Standing, at_first as watched_first, stand}
use Rattle.laws_trace.proofs.LineAtEnd.{line-at-end, link-at-end}
use Rattle.laws_trace.proofs.LinksMove.{none-expires}
use Rattle.laws_trace.proofs.LossesAtLine.{one-loses, event-loses}
use Rattle.laws_trace.proofs.ManagingNotes.{behind, is_management}
use Rattle.laws_trace.proofs.NewsOfLeaving.{one-stays}
use Rattle.laws_trace.proofs.ObservedRun.{holds-behind}
use Rattle.laws_trace.proofs.OneLink.{Goes, is_at_link, event-goes}
use Rattle.laws_trace.proofs.OwedNow.{Put, no-put, puts-so}
use Rattle.laws_trace.proofs.Plain.{all-wait}
use Rattle.laws_trace.proofs.Runs.{nothing-seen}
use Rattle.laws_trace.proofs.SeenAs.{tei-seen}
use Rattle.laws_trace.proofs.Standing.{standing, stand-is}
use Rattle.laws_trace.proofs.StandingOfLink.{calm, IsStanding}
use Rattle.laws_trace.proofs.States.{one_more}
use Rattle.laws_trace.proofs.TeisAreManaged.{shows-behind}
use Rattle.laws_trace.proofs.TimersAreTimely.{timely-now}
use Rattle.laws_trace.proofs.WaitingNow.{waiting-now}
use Rattle.laws_trace.proofs.Facts.{either-none}

-- A link that is deactivated puts none.
none-put : (c : Config) (service : Service) (tei : ℕ) (m : Moment) (o : Observed) → deactivates service tei m.event.what ≡ true → put_in c service tei o (by_event c service tei m.event.what m.answer o) m ≡ []
none-put c service tei m o down = grind (arith, eq-eqb, le-ltb, either-none, unchanged)

-- One event of a line.
abbrev NoLoss : Aim → Type 0
NoLoss (at_none what) = what.lost ≡ 0
NoLoss other = Unit {0}

module _ (c : Config) (l : Line) where
  heard-none : (e : StreamEvent) → NoLoss (aim_of_heard c l e)
  heard-none e = heard_aims c l NoLoss (λ cause. refl) (λ its by place what at. tt) (λ info. tt) (λ parts service to. refl) e

  asked-none : (its : Service) (by : ℕ) (asked : LinkRequest) (o : Option ℕ) → NoLoss (at_requested its by asked o)
  asked-none its by asked o = grind arith

-- A link that stays on the line loses so many by an event.
abbrev Puts : Service → ℕ → ℕ → Bool → Bool → Config → Line → Event → Answer → Line → List ControlFrame
Puts service tei n busy rejected c l e a x = Put service tei n busy rejected c (standing service tei c (calm n busy rejected) (seen e a)) l e (seen e a) x

record LosesSome (c : Config) (l : Line) (e : Event) (a : Answer) (x : Line) : Type 0 where
  service : Service
  tei : ℕ
  was_on : has_tei tei l ≡ true
  is_on : has_tei tei x ≡ true
  exact : (n : ℕ) (busy rejected : Bool) → IsCount (link_of service tei l) n → IsStanding (link_of service tei l) busy rejected
      → lost_in a ≡ length (link_of service tei l).waiting + length (Puts service tei n busy rejected c l e a x) - c.control

module _ (c : Config) (ranged : IsInRange c) (l : Line) (s : IsSound c l) (timed : HaveTheirTimers l) (e : Event) (other : e ≡ next → ⊥) where
  abbrev a : Answer
  a = lines.answer c e l

  abbrev then : Line
  then = lines.after c e l

  -- an event of a link
  by-link : (service : Service) (tei : ℕ) → is_at_link service tei (aim_of c e l) ≡ true → 0 < lost_in a → LosesSome c l e a then
  by-link service tei at some = go (event-goes c e l service tei s)
    where
      go : Goes c service tei e l then a → LosesSome c l e a then
      go (inl x) = absurd (true≢false (sym at ∙ x.aims))
      go (inr (inr x)) = let none : lost_in a ≡ 0 = x.lost in absurd (omega (arith, some, none))
      go (inr (inl x)) =
          let on = is_on-at l.management.places x.place tei (place_of-is l.management.places tei x.place x.placed).1 in
          let stays = one-stays service tei c e l s on x.place x.event x.aimed in
          record {
            service = service;
            tei = tei;
            was_on = on;
            is_on = stays;
            exact = λ n busy rejected count stands.
                subst (λ w. lost_in a ≡ length (link_of service tei l).waiting + length (Put service tei n busy rejected c w l e (seen e a) then) - c.control)
                (sym (stand-is service tei c e l n busy rejected))
                (one-loses service tei c ranged e l s timed n busy rejected count stands x (grind arith) stays);
          }

  by-aim : (aim : Aim) → aim_of c e l ≡ aim → is_management aim ≡ false → NoLoss aim → lost_in a ≡ (of_aim c aim l).told.lost → 0 < lost_in a → LosesSome c l e a then
  by-aim at_no_link is unmanaged none lost_is some =
      let zero : lost_in a ≡ 0 = lost_is ∙ by-down c l s (λ f. f.told.lost ≡ 0) refl in absurd (omega (arith, some, zero))
  by-aim (at_link service tei place event) is unmanaged none lost_is some =
      by-link service tei (ap (is_at_link service tei) is ∙ ap (λ b. b && tei == tei) (service-same service) ∙ eq-eqb tei tei refl) some
  by-aim (at_terminal te) is unmanaged none lost_is some =
      let t = terminals.told te (terminal_in l) in
      let behind_it = behind c (told_of_management t) (with_terminal (terminals.after te (terminal_in l)) l) t.change in
      let zero : lost_in a ≡ 0 = lost_is ∙ behind_it.lost ∙ none_lost te (terminal_in l) in absurd (omega (arith, some, zero))
  by-aim aim is unmanaged none lost_is some = grind arith

none-less : 0 < 0 → ⊥
none-less some = omega (arith, some)

event-loses-some : (c : Config) → IsInRange c → (l : Line) → IsSound c l → HaveTheirTimers l → (e : Event) → is_management (aim_of c e l) ≡ false → 0 < lost_in (lines.answer c e l)
    → LosesSome c l e (lines.answer c e l) (lines.after c e l)
unfolding lines.after lines.answer
event-loses-some c ranged l s timed (hears what) unmanaged some = by-aim c ranged l s timed (hears what) (λ e. cc e) (aim_of_heard c l what) refl unmanaged (heard-none c l what) refl some
event-loses-some c ranged l s timed (expiry timer) unmanaged some = by-aim c ranged l s timed (expiry timer) (λ e. cc e) (aim_of_expiry timer l) refl unmanaged (grind arith) refl some
event-loses-some c ranged l s timed (request r) unmanaged some = go (refusal c false r l) refl unmanaged some
  where
    go : (o : Option Refusal) → refusal c false r l ≡ o → is_management (unless_refused o (aim_of_request r l)) ≡ false
        → 0 < lost_in (unless_refused_told o (of_aim c (unless_refused o (aim_of_request r l)) l))
        → LosesSome c l (request r) (unless_refused_told o (of_aim c (unless_refused o (aim_of_request r l)) l)) (of_aim c (unless_refused o (aim_of_request r l)) l).line
    go (Some why) is unmanaged some = absurd (none-less some)
    go None is unmanaged some =
        subst (λ (o : Option Refusal). LosesSome c l (request r) (unless_refused_told o (of_aim c (unless_refused o (aim_of_request r l)) l)) (of_aim c (unless_refused o (aim_of_request r l)) l).line) is
        (by-aim c ranged l s timed (request r) (λ e. cc e) (aim_of_request r l) (ap (λ o. unless_refused o (aim_of_request r l)) is) unmanaged (grind (arith, asked-none))
        (ap (λ o. lost_in (unless_refused_told o (of_aim c (unless_refused o (aim_of_request r l)) l))) is)
        (subst (λ (o : Option Refusal). 0 < lost_in (unless_refused_told o (of_aim c (unless_refused o (aim_of_request r l)) l))) (sym is) some))
event-loses-some c ranged l s timed next unmanaged some = absurd (none-less some)

card-loses : (k : Card) (number : ℕ) (e : Event) → card_sound.IsSound k → AllHaveTheirTimers k → number < k.config.lines → is_management (aim_of k.config e (line_at number k)) ≡ false
    → let a = answer (at number e) k in 0 < lost_in a → LosesSome k.config (line_at number k) e a (line_at number (after (at number e) k))
card-loses k number e s timely here unmanaged =
    let c = k.config in
    let l = line_at number k in
    by_room (λ ls a. 0 < lost_in a → LosesSome c l e a (get_or ls number (fresh_line c))) (at number e) k (λ full some. absurd (none-less some))
    (λ room.
    subst (λ (x : Line). 0 < lost_in (lines.answer c e l) → LosesSome c l e (lines.answer c e l) x) (sym (get_or-set_same k.lines number (lines.after c e l) (fresh_line c) (omega (arith, s.count, here))))
    (event-loses-some c s.config l (line_sound k number (has_lines k s) here) (timely.lines number here) e unmanaged))

-- So does each link of which frames are put, unless it is deactivated, which puts none.
own-loses : (service : Service) (tei n : ℕ) (busy rejected : Bool) (k : Card) (number : ℕ) (e : Event) → card_sound.IsSound k → AllHaveTheirTimers k → number < k.config.lines
    → let l = line_at number k in let a = answer (at number e) k in let x = line_at number (after (at number e) k) in
    IsCount (link_of service tei l) n → IsStanding (link_of service tei l) busy rejected → has_tei tei l ≡ true → has_tei tei x ≡ true → deactivates service tei e ≡ false
    → is_empty (Puts service tei n busy rejected k.config l e a x) ≡ false
    → lost_in a ≡ length (link_of service tei l).waiting + length (Puts service tei n busy rejected k.config l e a x) - k.config.control
own-loses service tei n busy rejected k number e s timely here count stands was-on is-on stays =
    let c = k.config in
    let l = line_at number k in
    by_room (λ ls a. let x = get_or ls number (fresh_line c) in has_tei tei x ≡ true → Exact c l a x) (at number e) k
    (λ full _ some.
    let takes = (and_parts (lines.takes_slot c e l) (is_full k) full).0 in
    let none : Puts service tei n busy rejected c l e (refused PoolFull) l ≡ [] =
    ap (λ t. Put service tei n busy rejected c (standing service tei c (calm n busy rejected) t) l e t l) (nothing-seen c e l takes)
    ∙ no-put service tei n busy rejected c l e (ap (λ o. option_map_or one_more o 0) (none-expires c service tei e l takes)) in
    absurd (true≢false (sym (ap is_empty none) ∙ some)))
    (λ room.
    subst (λ (x : Line). has_tei tei x ≡ true → Exact c l (lines.answer c e l) x) (sym (get_or-set_same k.lines number (lines.after c e l) (fresh_line c) (omega (arith, s.count, here))))
    (λ on.
    subst (λ w. let puts = Put service tei n busy rejected c w l e (seen e (lines.answer c e l)) (lines.after c e l) in
    is_empty puts ≡ false → lost_in (lines.answer c e l) ≡ length (link_of service tei l).waiting + length puts - c.control) (sym (stand-is service tei c e l n busy rejected))
    (event-loses service tei c s.config e l (line_sound k number (has_lines k s) here) (timely.lines number here) n busy rejected count stands was-on on stays)))
    is-on
  where
    Exact : Config → Line → Answer → Line → Type 0
    Exact c l a x =
        is_empty (Puts service tei n busy rejected c l e a x) ≡ false → lost_in a ≡ length (link_of service tei l).waiting + length (Puts service tei n busy rejected c l e a x) - c.control

module _ (c : Config) (events : List CardEvent) (number : ℕ) (ranged : IsInRange c) (all : AreAtLines (fresh c) events) (within : number < c.lines) (what : Event) where
  abbrev k : Card
  k = after_all (fresh c) events

  abbrev l : Line
  l = line_at number k

  abbrev x : Line
  x = line_at number (after (at number what) k)

  abbrev its-answer : Answer
  its-answer = answer (at number what) k

  abbrev messages : ℕ
  messages = (due c what (managed_after c number events)).lost

  kept : k.config ≡ c
  kept = config-stays (fresh c) events

  sound : card_sound.IsSound k
  sound = always_sound (fresh c) events (fresh_is_sound c ranged) all

  here : number < k.config.lines
  here = subst (λ (d : Config). number < d.lines) (sym kept) within

  module _ (service : Service) (tei : ℕ) where
    abbrev v : View
    v = view_of c service tei number events

    abbrev u : View
    u = view_behind c service tei number events what

    abbrev w : Standing
    w = fold (stand c service tei) watched_first (trace_of c events number)

    abbrev Stays : Bool
    Stays = is_on tei u.teis && is_on tei v.teis

    timely : AllHaveTheirTimers k
    timely = timely-now c events number ranged all within service tei

    was-on : is_on tei v.teis ≡ has_tei tei l
    was-on = tei-seen c events number ranged all within service tei

    is-on-then : is_on tei u.teis ≡ has_tei tei x
    is-on-then = (holds-behind c events number ranged all within service tei what).follows.on.same tei

    abbrev Its : Config → List ControlFrame
    Its d = Puts service tei w.told.count w.busy w.rejected d l what its-answer x

    module _ (on : has_tei tei l ≡ true) (on-then : has_tei tei x ≡ true) where
      stays-on : Stays ≡ true
      stays-on = ap (λ b. b && is_on tei v.teis) (is-on-then ∙ on-then) ∙ was-on ∙ on

      its-puts : Its c ≡ puts_by c number events what service tei
      its-puts =
          let p = at-some-place l tei on in
          let q = at-some-place x tei on-then in
          puts-so c number ranged within service tei events all what p.0 q.0 p.1 q.1
          ∙ sym (ap (λ b. cond b (put_in c service tei v.link u.link (moment_of c events number what)) []) stays-on)

      waits-are : (outgoing_of c service tei number events).waiting ≡ (link_of service tei l).waiting
      waits-are =
          let p = at-some-place l tei on in
          waiting-now c number ranged within service tei events all p.0 p.1 ∙ all-wait c events number ranged all within service tei p.0 p.1

      link-is : u.link ≡ by_event c service tei what its-answer v.link
      link-is = grind (arith, by_event, is-on-then, was-on, eq-eqb)

      loses : is_empty (puts_by c number events what service tei) ≡ false
          → lost_in its-answer ≡ length (outgoing_of c service tei number events).waiting + length (puts_by c number events what service tei) - c.control
      loses some = go (deactivates service tei what) refl
        where
          go : (b : Bool) → deactivates service tei what ≡ b
              → lost_in its-answer ≡ length (outgoing_of c service tei number events).waiting + length (puts_by c number events what service tei) - c.control
          go true down =
              let none : puts_by c number events what service tei ≡ [] =
              ap (λ b. cond b (put_in c service tei v.link u.link (moment_of c events number what)) []) stays-on
              ∙ ap (λ (q : Observed). put_in c service tei v.link q (moment_of c events number what)) link-is
              ∙ none-put c service tei (moment_of c events number what) v.link down in
              absurd (true≢false (sym (ap is_empty none) ∙ some))
          go false stays =
              let s = run-stands c events number ranged all within service tei in
              let exact = subst (λ (d : Config). is_empty (Its d) ≡ false → lost_in its-answer ≡ length (link_of service tei l).waiting + length (Its d) - d.control) kept
              (own-loses service tei w.told.count w.busy w.rejected k number what sound timely here s.1 s.2 on on-then stays) in
              exact (ap is_empty its-puts ∙ some) ∙ ap (λ fs. length (link_of service tei l).waiting + length fs - c.control) its-puts
              ∙ ap (λ ws. length ws + length (puts_by c number events what service tei) - c.control) (sym waits-are)

    of-link : is_empty (puts_by c number events what service tei) ≡ false
        → lost_in its-answer ≡ length (outgoing_of c service tei number events).waiting + length (puts_by c number events what service tei) - c.control
    of-link some = go Stays refl some
      where
        go : (b : Bool) → Stays ≡ b → is_empty (cond b (put_in c service tei v.link u.link (moment_of c events number what)) []) ≡ false
            → lost_in its-answer ≡ length (outgoing_of c service tei number events).waiting + length (puts_by c number events what service tei) - c.control
        go true both some =
            let parts = and_parts (is_on tei u.teis) (is_on tei v.teis) both in
            loses (sym was-on ∙ parts.1) (sym is-on-then ∙ parts.0) (subst (λ b. is_empty (cond b (put_in c service tei v.link u.link (moment_of c events number what)) []) ≡ false) (sym both) some)
        go false off some = absurd (true≢false some)

  of-messages : ((service : Service) (tei : ℕ) → puts_by c number events what service tei ≡ []) → lost_in its-answer ≡ messages
  of-messages none = go (shows-behind c events number ranged all within what).lost
    where
      some-lost : is_management (aim_of k.config what l) ≡ false → 0 < lost_in its-answer → ⊥
      some-lost unmanaged some =
          let y = card-loses k number what sound (timely Call 0) here unmanaged some in
          let service = y.service in
          let tei = y.tei in
          let s = run-stands c events number ranged all within service tei in
          let w = fold (stand c service tei) watched_first (trace_of c events number) in
          let own = link_of service tei l in
          let exact : lost_in its-answer ≡ length own.waiting + length (Its service tei c) - c.control =
          subst (λ (d : Config). lost_in its-answer ≡ length own.waiting + length (Its service tei d) - d.control) kept (y.exact w.told.count w.busy w.rejected s.1 s.2) in
          let p = at-some-place l tei y.was_on in
          let few : length own.waiting ≤ c.control = (link-at-end c l ranged (line-at-end c events number ranged all within) service tei p.0 p.1).ring in
          omega (arith, exact, ap length (its-puts service tei y.was_on y.is_on ∙ none service tei), few, some)

      go : (lost_in its-answer ≡ messages) ⊎ ((messages ≡ 0) × (is_management (aim_of c what l) ≡ false)) → lost_in its-answer ≡ messages
      go o = grind (arith, some-lost, is_management, kept)

pub no-loss-in-vain : Always NoLossInVain
no-loss-in-vain c events number ranged all within what = grind (arith, of-link c events number ranged all within what, of-messages c events number ranged all within what)
