-- What an observer knows of a link of a TEI on the line: its state, and in states 7 and 8 V(A).
use Rattle.laws_trace.proofs.Vocabulary.{arith, ◌≡◌, ℕ, ◌%◌, ◌<◌, ◌==◌, Bool, true, List, Some, fold, Service, State, Link, is_multiple_frame, state_number, Config, Line, has_tei, link_of, place_in, IsInRange, line_at, at, moments, fresh, CardEvent as Event, after, after_all, AreAtLines, managing_is_on as is_on, Observed, View, view_of, moment_of, view_behind}
use Rattle.model_line.specs.Event as line_event
use Rattle.laws_trace.proofs.MovesWatched.{repeated}
use Rattle.laws_trace.proofs.NewsWatched as news
use Rattle.laws_trace.proofs.NewsWatched.{Wanted, none_wanted, Owing, none_owed, owing}
use Rattle.laws_trace.proofs.NewsOfEvent.{IsAskedOf}
use Rattle.laws_trace.proofs.NewsOfLink.{Asks}
use Rattle.laws_trace.proofs.News.{asked-now, asked-behind}
use Rattle.laws_trace.proofs.Observed.{IsObserved, IsSeen}
use Rattle.laws_trace.proofs.ObservedShape.{When}
use Rattle.laws_trace.proofs.ObservedRun.{Holds, holds-now, holds-behind}
use Rattle.laws_trace.proofs.TimerClaims.{Agrees, IsKnown}
use Rattle.laws_trace.proofs.TimersOfEvent.{state-on}
use Rattle.laws_trace.proofs.TimersWatched.{Known, nothing_yet, watch}

-- In these it is known how far a link is.
pub known-up : (state : State) (k : Known) (a s : ℕ) (busy : Bool) → is_multiple_frame state ≡ true → Agrees state k a s busy → IsKnown k a s busy
known-up state k a s busy up h = grind arith

pub record IsSeenAs (k : Link) (o : Observed) : Type 0 where
  pub state_is : o.state ≡ state_number k.state
  pub acknowledged_is : is_multiple_frame k.state ≡ true → o.acknowledged ≡ k.a % 128
  pub asked_is : (state_number k.state == 5) ≡ true → o.asked ≡ k.asked
  pub owed_is : (state_number k.state == 5) ≡ true → o.owed ≡ k.owed

seen-as : (c : Config) (service : Service) (tei : ℕ) (k : Known) (asked : Wanted) (owed : Bool) (n : ℕ) (l : Line) (v : View) → Holds c service tei k asked owed n l v → IsAskedOf service tei asked l
    → (place : ℕ) → place_in l tei ≡ Some place → IsSeenAs (link_of service tei l) v.link
seen-as c service tei k asked owed n l v h asks place on = grind (arith, IsObserved, IsSeen, state-on, Known, known-up, When, Asks)

-- After a list of events, and behind one more.
module _ (c : Config) (events : List Event) (number : ℕ) (ranged : IsInRange c) (all : AreAtLines (fresh c) events) (within : number < c.lines) (service : Service) (tei : ℕ) where
  abbrev known : Known
  known = fold (watch c service tei number) nothing_yet (moments (fresh c) events)

  abbrev asks : Wanted
  asks = fold (news.asked service tei number) none_wanted (moments (fresh c) events)

  abbrev owes : Owing
  owes = fold (owing c service tei number) none_owed (moments (fresh c) events)

  abbrev count : ℕ
  count = fold (repeated service tei number) 0 (moments (fresh c) events)

  pub seen-before : (place : ℕ) → place_in (line_at number (after_all (fresh c) events)) tei ≡ Some place
      → IsSeenAs (link_of service tei (line_at number (after_all (fresh c) events))) (view_of c service tei number events).link
  seen-before place on =
      seen-as c service tei known asks owes.outstanding count (line_at number (after_all (fresh c) events)) (view_of c service tei number events)
      (holds-now c events number ranged all within service tei) (asked-now c events number ranged all within service tei) place on

  pub tei-seen : is_on tei (view_of c service tei number events).teis ≡ has_tei tei (line_at number (after_all (fresh c) events))
  tei-seen = (holds-now c events number ranged all within service tei).follows.on.same tei

  pub seen-behind : (what : line_event.Event) (place : ℕ) → place_in (line_at number (after (at number what) (after_all (fresh c) events))) tei ≡ Some place
      → IsSeenAs (link_of service tei (line_at number (after (at number what) (after_all (fresh c) events)))) (view_behind c service tei number events what).link
  seen-behind what place on =
      let m = moment_of c events number what in
      seen-as c service tei (watch c service tei number known m) (news.asked service tei number asks m) (owing c service tei number owes m).outstanding (repeated service tei number count m)
      (line_at number (after (at number what) (after_all (fresh c) events))) (view_behind c service tei number events what)
      (holds-behind c events number ranged all within service tei what) (asked-behind c events number ranged all within service tei what) place on
