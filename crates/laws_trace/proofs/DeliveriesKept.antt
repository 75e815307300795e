-- How a link stands by what is heard and noted: over runs.
use Rattle.laws_trace.proofs.Vocabulary.{arith, ◌≡◌, ℕ, ◌<◌, Bool, false, List, [], ◌++◌, None, refl, sym, ap, ◌∙◌, subst, option_map_or, get_or-replicate, fold-append, Service, Link, Config, Line, link_in, link_of, fresh_line, IsInRange, nowhere, line_at, fresh_is_sound, fresh_link as fresh, Event, line_after as after, answer, IsSound, after_all, AreAtLines, Seen, seen, trace_of, CardEvent}
use Rattle.model_card.specs.Card as cards
use Rattle.laws_trace.proofs.DeliveriesWatched.{Standing, at_first, stand}
use Rattle.laws_trace.proofs.DeliveriesRun.{IsCount, event-told}
use Rattle.laws_trace.proofs.Runs.{run-shows}
use Rattle.laws_trace.proofs.Standing.{standing, stand-is, event-stands}
use Rattle.laws_trace.proofs.StandingOfLink.{calm, IsStanding}
use Rattle.laws_trace.proofs.Facts.{never}

module _ (c : Config) (service : Service) (tei : ℕ) where
  abbrev pub Passes : Standing → List Seen → Link → Type 0
  Passes w t k =
      let now = standing service tei c w t in
      (now.told.frame ≡ None) × IsCount k now.told.count × IsStanding k now.busy now.rejected

  pub event-passes : IsInRange c → (e : Event) (l : Line) → IsSound c l → (m : ℕ) (busy rejected : Bool) → IsCount (link_of service tei l) m
      → IsStanding (link_of service tei l) busy rejected → Passes (calm m busy rejected) (seen e (answer c e l)) (link_of service tei (after c e l))
  event-passes ranged e l s m busy rejected count stands =
      let is = stand-is service tei c e l m busy rejected in
      let new = link_of service tei (after c e l) in (
        ap (λ (w : Standing). w.told.frame) is,
        subst (λ (w : Standing). IsCount new w.told.count) (sym is) ((event-told c ranged l s e service tei m count).1),
        subst (λ (w : Standing). IsStanding new w.busy w.rejected) (sym is) (event-stands service tei c ranged l s e m count busy rejected stands).0,
      )

-- Over runs.
abbrev NeedsNothing : Config → Line → Type 0
NeedsNothing c l = Unit {0}

abbrev Shows : Config → Line → List Seen → Line → Type 0
Shows c k t l =
    (service : Service) (tei m : ℕ) (busy rejected : Bool) → IsCount (link_of service tei k) m → IsStanding (link_of service tei k) busy rejected
    → Passes c service tei (calm m busy rejected) t (link_of service tei l)

rests : (c : Config) (l : Line) → Shows c l [] l
rests c l service tei m busy rejected count stands = (refl, count, stands)

joins : (c : Config) (k l m : Line) (t u : List Seen) → Shows c k t l → Shows c l u m → Shows c k (t ++ u) m
joins c k l m t u h i service tei n busy rejected count stands =
    let first = h service tei n busy rejected count stands in
    let w = standing service tei c (calm n busy rejected) t in
    let kept : calm w.told.count w.busy w.rejected ≡ w = ap (λ o. record { told = record { frame = o; count = w.told.count }; busy = w.busy; rejected = w.rejected }) (sym first.0) in
    grind (arith, standing, fold-append, stand)

steps : (c : Config) → IsInRange c → (e : Event) (l : Line) → IsSound c l → NeedsNothing c l → Shows c l (seen e (answer c e l)) (after c e l) × NeedsNothing c (after c e l)
steps c ranged e l s stands = ((λ service tei m busy rejected count own. event-passes c service tei ranged e l s m busy rejected count own), tt)

pub run-stands : (c : Config) (events : List CardEvent) (number : ℕ) → IsInRange c → AreAtLines (cards.fresh c) events → number < c.lines → (service : Service) (tei : ℕ)
    → Passes c service tei at_first (trace_of c events number) (link_of service tei (line_at number (after_all (cards.fresh c) events)))
run-stands c events number ranged all within service tei =
    let start : line_at number (cards.fresh c) ≡ fresh_line c = get_or-replicate c.lines number (fresh_line c) (fresh_line c) within in
    let off : link_of service tei (line_at number (cards.fresh c)) ≡ fresh =
    ap (link_of service tei) start ∙ ap (λ o. option_map_or (link_in (fresh_line c) service) o fresh) (nowhere c tei) in
    (run-shows NeedsNothing Shows rests joins steps (cards.fresh c) events number (fresh_is_sound c ranged) all tt).0 service tei 0 false false (λ up. ap (λ (k : Link). k.r) off)
    (subst (λ (k : Link). IsStanding k false false) (sym off) (grind (arith, never)))
