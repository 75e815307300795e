-- What the observer knows of this side of a link from the start on.
use Rattle.laws_trace.proofs.Vocabulary.{ℕ, ◌<◌, false, List, refl, sym, ap, subst, true≢false, fold, Service, Link, Config, IsInRange, fresh_is_sound, begins-timely-card, fresh, CardEvent as Event, AreAtLines, view_of, trace_of, arith}
use Rattle.laws_trace.specs.Observer as observer
use Rattle.laws_trace.proofs.DeliveriesWatched.{at_first, stand}
use Rattle.laws_trace.proofs.NewsWatched.{none_wanted, none_owed}
use Rattle.laws_trace.proofs.ObservedCount.{Agree}
use Rattle.laws_trace.proofs.ObservedCounted.{run-agrees}
use Rattle.laws_trace.proofs.ObservedRun.{at-start, off-link}
use Rattle.laws_trace.proofs.StandingOfLink.{IsStanding}
use Rattle.laws_trace.proofs.TimersWatched as known
use Rattle.laws_trace.proofs.Facts.{never}

module _ (c : Config) (events : List Event) (number : ℕ) (ranged : IsInRange c) (all : AreAtLines (fresh c) events) (within : number < c.lines) (service : Service) (tei : ℕ) where
  pub agrees-now : Agree (view_of c service tei number events).link (fold (stand c service tei) at_first (trace_of c events number))
  agrees-now =
      let off = off-link c events number ranged all within service tei in
      run-agrees service tei number (fresh c) events (fresh_is_sound c ranged) (begins-timely-card c) all known.nothing_yet none_wanted none_owed refl 0 observer.at_first
      (at-start c events number ranged all within service tei) 0 false false
      ((λ up. ap (λ (k : Link). k.r) off), subst (λ (k : Link). IsStanding k false false) (sym off) (grind (arith, never))) (λ up. absurd (true≢false (sym up)))
