-- What the observer knows of a link gives the laws of it, by what follows its parts.
use Rattle.laws_trace.proofs.Vocabulary.{arith, lt-ltb, config-stays, ◌≡◌, ℕ, ◌<◌, ◌==◌, ◌&&◌, ◌||◌, inl, inr, not, Bool, false, cond, List, [], ◌∷◌, ◌++◌, map, Option, Some, None, is_some, refl, sym, ap, ◌∙◌, subst, fold, filter, nat_le, list_any, Note, Error, Service, State, LinkTimer, state_number, Config, orders_in, Line, state_of, IsInRange, obeyed, notes_of, timer_of, left_by}
use Rattle.laws_trace.proofs.Vocabulary.{runs_at_callers, line_at, at, moments, unwrap_or, fresh, CardEvent as Event, after, Moment, after_all, AreAtLines, managing_is_on as is_on, NewsIsTold, Observed, View, view_of, moment_of, view_behind, TimersRun, Seen, seen, Always, renews, is_outstanding}
use Rattle.model_line.specs.Event as line_event
use Rattle.laws_trace.specs.LinksMove.{LinksMove}
use Rattle.laws_trace.proofs.MovesWatched.{repeated}
use Rattle.laws_trace.proofs.NewsWatched.{Wanted, none_wanted, Owing, none_owed, owing}
use Rattle.laws_trace.proofs.Observed.{IsObserved}
use Rattle.laws_trace.proofs.ObservedFacts.{Facts, facts, told-so, numbers-are, state-is, owed-is, asked-is, wanted-is, down-is, up-is, seen-is, differs-is, brings-is}
use Rattle.laws_trace.proofs.ObservedShape.{known_of}
use Rattle.laws_trace.proofs.ObservedRun.{Holds, holds-now, holds-behind, is-told}
use Rattle.laws_trace.proofs.TimersAreTimely.{front-at, itself, config-now, started-law, timers-run}
use Rattle.laws_trace.proofs.TimersWatched.{Known, nothing_yet, watch}
use Rattle.laws_trace.proofs.States.{is_state, differ}
use Rattle.laws_trace.specs.News as now_news
use Rattle.laws_trace.proofs.News as old_news
use Rattle.laws_trace.proofs.NewsWatched as news
use Rattle.laws_trace.proofs.TimersWatched as known
use Rattle.laws_trace.proofs.Facts.{not-one}

-- The link moves to another state, or the frame that comes starts its timer anew.
abbrev pub moved_or_renewed : Config → Service → ℕ → LinkTimer → Observed → Observed → line_event.Event → Bool
moved_or_renewed c service tei timer was now what = not (was.state == now.state) || (was.state == 7 && now_news.brings (renews timer was.acknowledged was.busy) c service tei what)

-- The laws.
module _ (c : Config) (events : List Event) (number : ℕ) (ranged : IsInRange c) (all : AreAtLines (fresh c) events) (within : number < c.lines) (service : Service) (tei : ℕ) where
  abbrev its_line : Line
  its_line = line_at number (after_all (fresh c) events)

  abbrev k : Known
  k = fold (watch c service tei number) nothing_yet (moments (fresh c) events)

  abbrev was_asked : Wanted
  was_asked = fold (news.asked service tei number) none_wanted (moments (fresh c) events)

  abbrev w : Owing
  w = fold (owing c service tei number) none_owed (moments (fresh c) events)

  abbrev n : ℕ
  n = fold (repeated service tei number) 0 (moments (fresh c) events)

  abbrev v : View
  v = view_of c service tei number events

  pub holds : Holds c service tei k was_asked w.outstanding n its_line v
  holds = holds-now c events number ranged all within service tei

  pub known-now : Facts (state_of service tei its_line) k was_asked w.outstanding n v.link
  known-now = facts c service tei k was_asked w.outstanding n its_line v holds

  pub on-line-now : is_on tei v.teis ≡ is_some (state_of service tei its_line)
  on-line-now = holds.follows.on.same tei ∙ is-told service tei its_line

  pub moved-so : state_of service tei its_line ≡ cond (is_on tei v.teis) (Some v.link.state) None
  moved-so = grind (arith, told-so, known-now, on-line-now)

  pub numbers-now : known_of v.link ≡ k
  numbers-now = numbers-are (state_of service tei its_line) k was_asked w.outstanding n v.link known-now

  -- behind an event
  module _ (what : line_event.Event) where
    abbrev m : Moment
    m = moment_of c events number what

    abbrev next_line : Line
    next_line = line_at number (after (at number what) (after_all (fresh c) events))

    abbrev l : Known
    l = watch c service tei number k m

    abbrev then_asked : Wanted
    then_asked = news.asked service tei number was_asked m

    abbrev x : Owing
    x = owing c service tei number w m

    abbrev r : ℕ
    r = repeated service tei number n m

    abbrev u : View
    u = view_behind c service tei number events what

    pub known-then : Facts (state_of service tei next_line) l then_asked x.outstanding r u.link
    known-then = facts c service tei l then_asked x.outstanding r next_line u (holds-behind c events number ranged all within service tei what)

pub links-move-so : Always LinksMove
links-move-so c events number ranged all within service tei = grind (arith, fresh, lt-ltb, config-stays, moved-so)

pub timers-run-so : Always TimersRun
timers-run-so c events number ranged all within service tei =
    let is = known-now c events number ranged all within service tei in
    let h = timers-run c events number ranged all within service tei in
    let o = (view_of c service tei number events).link in grind (arith, known.awaits, state-is, is_state)

-- Behind an event of the line.
module _ (c : Config) (before : List Event) (number : ℕ) (ranged : IsInRange c) (all : AreAtLines (fresh c) before) (within : number < c.lines) (service : Service) (tei : ℕ) (what : line_event.Event) where
  abbrev was : Observed
  was = (view_of c service tei number before).link

  abbrev now : Observed
  now = (view_behind c service tei number before what).link

  abbrev its_moment : Moment
  its_moment = moment_of c before number what

  abbrev from : Option ℕ
  from = state_of service tei (line_at number (after_all (fresh c) before))

  abbrev to : Option ℕ
  to = state_of service tei (line_at number (after (at number what) (after_all (fresh c) before)))

  abbrev its_numbers : Known
  its_numbers = fold (watch c service tei number) nothing_yet (moments (fresh c) before)

  abbrev its_asked : Wanted
  its_asked = fold (news.asked service tei number) none_wanted (moments (fresh c) before)

  abbrev its_owed : Bool
  its_owed = (fold (owing c service tei number) none_owed (moments (fresh c) before)).outstanding

  abbrev its_count : ℕ
  its_count = fold (repeated service tei number) 0 (moments (fresh c) before)

  is-before : Facts from its_numbers its_asked its_owed its_count was
  is-before = known-now c before number ranged all within service tei

  abbrev old_anew : LinkTimer → List Seen → Bool
  old_anew timer t = known.is_anew c service tei timer its_numbers from to t

  pub anew-is : (timer : LinkTimer) → moved_or_renewed c service tei timer was now what ≡ old_anew timer (seen what its_moment.answer)
  anew-is timer =
      ap (λ b. b || (was.state == 7 && now_news.brings (renews timer was.acknowledged was.busy) c service tei what))
      (differs-is from to its_numbers _ its_asked _ its_owed _ its_count _ was now is-before (known-then c before number ranged all within service tei what))
      ∙ ap (λ b. differ from to || (b && now_news.brings (renews timer was.acknowledged was.busy) c service tei what)) (state-is from its_numbers its_asked its_owed its_count was 7 refl is-before)
      ∙ ap (λ (z : Known). differ from to || (is_state 7 from && now_news.brings (renews timer z.acknowledged z.busy) c service tei what)) (numbers-are from its_numbers its_asked its_owed its_count was is-before)
      ∙ ap (λ b. differ from to || (is_state 7 from && b)) (sym (brings-is c service tei (known.renews timer its_numbers) what its_moment.answer))

  abbrev old_due : List Seen → List Note
  old_due t =
      news.due service tei (now_news.wrong c service tei what was.state (unwrap_or to 1)) its_asked
      (list_any (known.brings now_news.is_xid c service tei) t) (list_any (known.brings now_news.is_sabme c service tei) t)
      (now_news.releases service tei what its_moment.answer) its_owed was.state (unwrap_or to 4)

  pub due-is : (x : State) → IsObserved (state_number x) its_numbers its_asked its_owed its_count was
      → map (Error service tei) (now_news.wrong c service tei what was.state now.state)
      ++ now_news.due service tei (now_news.brings now_news.is_xid c service tei what) (now_news.brings now_news.is_sabme c service tei what) (now_news.releases service tei what its_moment.answer) was now.state
      ≡ old_due (seen what its_moment.answer)
  due-is x h =
      let its = known-then c before number ranged all within service tei what in
      let ended : nat_le now.state 4 ≡ (unwrap_or to 4 == 4) = down-is to _ _ _ _ now its in
      let up : (now.state == 7) ≡ (unwrap_or to 4 == 7) = up-is to _ _ _ _ now its in
      let stood : now.state ≡ unwrap_or to 1 = seen-is to _ _ _ _ now its in
      let was_owed : is_outstanding was ≡ its_owed = owed-is from its_numbers its_asked its_owed its_count was x h in
      let had_asked : (was.state == 5 && was.asked) ≡ (was.state == 5 && its_asked.asked) = asked-is from its_numbers its_asked its_owed its_count was x h in
      let had_wanted : (was.state == 5 && was.owed) ≡ (was.state == 5 && its_asked.owed) = wanted-is from its_numbers its_asked its_owed its_count was x h in
      let an_xid = brings-is c service tei now_news.is_xid what its_moment.answer in
      let a_sabme = brings-is c service tei now_news.is_sabme what its_moment.answer in
      let began : was.state ≡ state_number x = h.state_is in
      grind (arith, nat_le, news.due)

-- when a timer is started
pub started-so : (c : Config) (before : List Event) (number : ℕ) (ranged : IsInRange c) (all : AreAtLines (fresh c) before) (within : number < c.lines) (service : Service) (tei : ℕ) (timer : LinkTimer) (what : line_event.Event) →
    let its = timer_of service tei timer in
    let orders = orders_in (moment_of c before number what).answer in
    let ran = left_by what its (runs_at_callers number its false (moments (fresh c) before)) in
    obeyed its false orders ≡ (obeyed its ran orders
    && (not ran || moved_or_renewed c service tei timer (view_of c service tei number before).link (view_behind c service tei number before what).link what))
started-so c before number ranged all within service tei timer what =
    let its = timer_of service tei timer in
    let here : number < (after_all (fresh c) before).config.lines = subst (λ (c : Config). number < c.lines) (sym (config-now c before number ranged all within service tei)) within in
    grind (arith, started-law, anew-is)

module _ (c : Config) (events : List Event) (number : ℕ) (ranged : IsInRange c) (all : AreAtLines (fresh c) events) (within : number < c.lines) (service : Service) (tei : ℕ)
    (before : List Event) (what : line_event.Event) (behind : List Event) (is : events ≡ before ++ at number what ∷ behind) where
  front : AreAtLines (fresh c) before
  front = front-at (fresh c) before (at number what) behind (subst (AreAtLines (fresh c)) is all)

  abbrev o : Observed
  o = (view_of c service tei number before).link

  abbrev IsDue : Bool → Type 0
  IsDue off =
      let a = (moment_of c before number what).answer in
      let to = (view_behind c service tei number before what).link.state in
      filter (now_news.is_news service tei) (notes_of a)
      ≡ cond off [] (map (Error service tei) (now_news.wrong c service tei what o.state to)
      ++ now_news.due service tei (now_news.brings now_news.is_xid c service tei what) (now_news.brings now_news.is_sabme c service tei what) (now_news.releases service tei what a) o to)

  news-so : Facts (state_of service tei (line_at number (after_all (fresh c) before))) (fold (watch c service tei number) nothing_yet (moments (fresh c) before))
      (fold (news.asked service tei number) none_wanted (moments (fresh c) before)) (fold (owing c service tei number) none_owed (moments (fresh c) before)).outstanding
      (fold (repeated service tei number) 0 (moments (fresh c) before)) (view_of c service tei number before).link → IsDue (o.state == 1)
  news-so (inl y) =
      subst IsDue (sym (ap (λ (o : Observed). o.state == 1) y.2)) (old_news.none-is-told c before number ranged front within service tei what y.0)
  news-so (inr y) =
      subst IsDue (sym (ap (λ s. s == 1) y.2.state_is ∙ not-one y.0))
      (old_news.news-is-told c events number ranged all within service tei before what behind is o.state (y.1 ∙ ap (λ s. Some s) (sym y.2.state_is))
      ∙ ap (λ b. old_due c before number ranged front within service tei what (cond b (seen what (moment_of c before number what).answer) [])) (itself number)
      ∙ sym (due-is c before number ranged front within service tei what y.0 y.2))

pub news-is-told-so : Always NewsIsTold
news-is-told-so c events number ranged all within service tei before what behind is =
    news-so c events number ranged all within service tei before what behind is
    (known-now c before number ranged (front-at (fresh c) before (at number what) behind (subst (AreAtLines (fresh c)) is all)) within service tei)
