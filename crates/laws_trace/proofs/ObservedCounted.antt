-- What an observer knows of this side of a link, after a list of events.
use Rattle.laws_trace.proofs.Vocabulary.{arith, ◌≡◌, ℕ, ◌==◌, not, Bool, true, cond, List, [], ◌∷◌, Option, Some, None, is_some, refl, sym, ap, ◌∙◌, subst, true≢false, inl, inr, fold, and_parts, All-head, All-tail, fold-append, PoolFull, Service, state_number, Config, refused, Line, link_of, place_in, state_of, Card, line_at, is_full, moments, after_is_sound, has_lines, by_room, line_sound}
use Rattle.laws_trace.proofs.Vocabulary.{AllHaveTheirTimers, timely-after, eqb-true, CardEvent as Event, after, card_answer as answer, Moment, after_all, IsAtLine, AreAtLines, managing_is_on as is_on, led, Observed, View, in_state, by_event, views, seen, seen_in, trace, CardIsSound as IsSound}
use Rattle.model_line.specs.Event as line_event
use Rattle.model_line.specs.Machine as lines
use Rattle.laws_trace.proofs.ControlFrames.{moment}
use Rattle.laws_trace.proofs.DeliveriesRun.{IsCount}
use Rattle.laws_trace.proofs.DeliveriesWatched.{stand}
use Rattle.laws_trace.proofs.MovesWatched.{repeated}
use Rattle.laws_trace.proofs.NewsWatched as news
use Rattle.laws_trace.proofs.NewsWatched.{Wanted, Owing, owing}
use Rattle.laws_trace.proofs.ObservedCount.{Agree, stands-behind}
use Rattle.laws_trace.proofs.ObservedRun.{Holds, holds-then, known-then, is-told}
use Rattle.laws_trace.proofs.Runs.{nothing-seen}
use Rattle.laws_trace.proofs.Standing.{standing, stand-is}
use Rattle.laws_trace.proofs.StandingOfLink.{calm, IsStanding}
use Rattle.laws_trace.proofs.TimersOfEvent.{state-on, off-state}
use Rattle.laws_trace.proofs.TimersWatched.{Known, watch}
use Rattle.laws_trace.proofs.ObservedFacts.{Facts, facts}

-- A request that finds the pool full moves nothing.
pub still : (c : Config) (service : Service) (tei : ℕ) (e : line_event.Event) (l : Line) (o : Observed) → lines.takes_slot c e l ≡ true → by_event c service tei e (refused PoolFull) o ≡ o
unfolding lines.takes_slot
still c service tei e l o takes = grind arith

module _ (service : Service) (tei number : ℕ) where
  abbrev pub StandsCalm : ℕ → Bool → Bool → Line → Type 0
  StandsCalm n busy rejected l = IsCount (link_of service tei l) n × IsStanding (link_of service tei l) busy rejected

  -- One event of the line.
  own-behind : (card : Card) → IsSound card → (e : Event) → IsAtLine card e → (n : ℕ) (busy rejected : Bool) → let l = line_at e.line card in StandsCalm n busy rejected l
      → (place : ℕ) → place_in l tei ≡ Some place → (o : Observed) → o.state ≡ state_number (link_of service tei l).state → Agree o (calm n busy rejected)
      → Agree (by_event card.config service tei e.what (answer e card) o) (standing service tei card.config (calm n busy rejected) (seen e.what (answer e card)))
  own-behind card s e here n busy rejected stands place on o is agree =
      let c = card.config in
      let l = line_at e.line card in
      by_room (λ ls a. Agree (by_event c service tei e.what a o) (standing service tei c (calm n busy rejected) (seen e.what a))) e card
      (λ full.
      let takes = (and_parts (lines.takes_slot c e.what l) (is_full card) full).0 in
      subst (λ t. Agree (by_event c service tei e.what (refused PoolFull) o) (standing service tei c (calm n busy rejected) t)) (sym (nothing-seen c e.what l takes))
      (subst (λ p. Agree p (calm n busy rejected)) (sym (still c service tei e.what l o takes)) agree))
      (λ room.
      subst (Agree (by_event c service tei e.what (lines.answer c e.what l) o)) (sym (stand-is service tei c e.what l n busy rejected))
      (stands-behind service tei c s.config l (line_sound card e.line (has_lines card s) here) e.what place on n stands.0 busy rejected stands.1 o is agree))

  module _ (card : Card) (s : IsSound card) (timely : AllHaveTheirTimers card) (e : Event) (here : IsAtLine card e)
      (k : Known) (asked : Wanted) (w : Owing) (known_is : w.known ≡ k) (m : ℕ) (v : View) (h : Holds card.config service tei k asked w.outstanding m (line_at number card) v)
      (n : ℕ) (busy rejected : Bool) (stands : StandsCalm n busy rejected (line_at number card)) (agree : Agree v.link (calm n busy rejected)) where
    abbrev c : Config
    c = card.config

    abbrev its : Moment
    its = record { card = card; event = e; answer = answer e card }

    abbrev Next : Bool → Bool → Bool → Type 0
    Next b is was =
        Agree (cond (not is) (in_state 1) (cond was (cond b (by_event c service tei e.what (answer e card) v.link) v.link) (in_state 4)))
        (standing service tei c (calm n busy rejected) (cond b (seen e.what (answer e card)) []))

    by-line : (b : Bool) → (e.line == number) ≡ b → (is was : Bool) → was ≡ is_some (state_of service tei (line_at number card)) → Next b is was
    by-line true eq true true on =
        go (place_in (line_at number card) tei) refl (facts c service tei k asked w.outstanding m (line_at number card) v h)
      where
        go : (p : Option ℕ) → place_in (line_at number card) tei ≡ p → Facts (state_of service tei (line_at number card)) k asked w.outstanding m v.link → Next true true true
        go None off facts = absurd (true≢false (on ∙ ap is_some (off-state service tei (line_at number card) off)))
        go (Some place) at (inl y) = absurd (true≢false (on ∙ ap is_some y.0))
        go (Some place) at (inr y) =
            let same : number ≡ e.line = sym (eqb-true e.line number eq) in
            let l = link_of service tei (line_at number card) in
            let some : Some (state_number y.0) ≡ Some (state_number l.state) = sym y.1 ∙ state-on service tei (line_at number card) place at in
            own-behind card s e here n busy rejected (subst (λ i. StandsCalm n busy rejected (line_at i card)) same stands) place (subst (λ i. place_in (line_at i card) tei ≡ Some place) same at) v.link
            (subst (λ i. v.link.state ≡ state_number (link_of service tei (line_at i card)).state) same (y.2.state_is ∙ (cc some))) agree
    by-line b eq is was on = grind arith

    pub agrees-then : Agree (views c service tei number v its).link (standing service tei c (calm n busy rejected) (seen_in number its))
    agrees-then =
        by-line (e.line == number) refl (is_on tei (led c number v.teis e)) (is_on tei v.teis) (h.follows.on.same tei ∙ is-told service tei (line_at number card))

  pub run-agrees : (card : Card) (events : List Event) → IsSound card → AllHaveTheirTimers card → AreAtLines card events
      → (k : Known) (asked : Wanted) (w : Owing) → w.known ≡ k → (m : ℕ) (v : View) → Holds card.config service tei k asked w.outstanding m (line_at number card) v
      → (n : ℕ) (busy rejected : Bool) → StandsCalm n busy rejected (line_at number card) → Agree v.link (calm n busy rejected)
      → Agree (fold (views card.config service tei number) v (moments card events)).link (standing service tei card.config (calm n busy rejected) (trace number (moments card events)))
  unfolding moments after_all
  run-agrees card [] s timely all k asked w is m v h n busy rejected stands agree = agree
  run-agrees card (e ∷ events) s timely all k asked w is m v h n busy rejected stands agree =
      let here = All-head (IsAtLine card) e events all in
      let its : Moment = record { card = card; event = e; answer = answer e card } in
      let c = card.config in
      let x = moment service tei n busy rejected card e number s timely here stands (e.line == number) refl in
      let first = seen_in number its in
      let rest = trace number (moments (after e card) events) in
      let u = standing service tei c (calm n busy rejected) first in
      let v2 = views c service tei number v its in
      let kept : u ≡ calm u.told.count u.busy u.rejected = (ap (λ o. record { told = record { frame = o; count = u.told.count }; busy = u.busy; rejected = u.rejected }) x.quiet_is) in
      subst (Agree (fold (views c service tei number) v2 (moments (after e card) events)).link) (sym (fold-append (stand c service tei) (calm n busy rejected) first rest))
      (subst (λ z. Agree (fold (views c service tei number) v2 (moments (after e card) events)).link (standing service tei c z rest)) (sym kept)
      (run-agrees (after e card) events (after_is_sound card e s here) (timely-after card e s timely here) (All-tail (IsAtLine card) e events all)
      (watch c service tei number k its) (news.asked service tei number asked its) (owing c service tei number w its) (known-then service tei number card s timely e here k asked w is m v h)
      (repeated service tei number m its) v2 (holds-then service tei number card s timely e here k asked w is m v h) u.told.count u.busy u.rejected (x.count, x.stands)
      (subst (Agree v2.link) kept (agrees-then card s timely e here k asked w is m v h n busy rejected stands agree))))
