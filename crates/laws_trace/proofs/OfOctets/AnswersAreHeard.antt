-- What answers a poll, SABME or DISC is heard within a number of pulls: the law.
use Rattle.laws_trace.proofs.Vocabulary.{◌≡◌, ℕ, ◌+◌, ◌<◌, ◌≤◌, All, List, ◌++◌, map, sym, ap, ◌∙◌, subst, Service, Config, IsInRange, control_text, link_at, link_count, line_at, all-left, all-right, Card, OctetCard, OfEachLine, octets_given, refines, port_at, meant_all, outgoing_of, ports_fresh as fresh, PortsEvent as Event, PortsAreAtLines as AreAtLines, ports_after_all as after_all}
use Rattle.laws_trace.proofs.Vocabulary.{octets_are}
use Rattle.laws_trace.proofs.Vocabulary.{config_stays, most_frames_before}
use Rattle.model_card.specs.Card as cards
use Rattle.model_card.specs.Event as frames
use Rattle.model_card.specs.Run as runs
use Rattle.model_card.specs.ports.Pulls.{most_pulls_behind, pulls_of}
use Rattle.model_card.specs.ports.Run.{IsAtLine}
use Rattle.model_card.proofs.OfPorts.Reaching.{after_all_append, reached_fresh, reached_after_all}
use Rattle.laws_line.specs.card.PromisesOfTakes.{StaysAt, IsNotDeactivated, priority_added_at}
use Rattle.laws_line.specs.card.WaitingIsHeard.{AreHeardSince}
use Rattle.laws_line.proofs.OfCard.GoingOut.{waiting_heard}
use Rattle.laws_trace.specs.AnswersAreGiven.{texts}
use Rattle.laws_trace.specs.octets.AnswersAreHeard.{IsPulled, AllThatWaitsIsHeard}
use Rattle.laws_trace.proofs.AnswersAreGiven as given
use Rattle.laws_trace.proofs.OfOctets.Emptied.{meant_both}
use Rattle.laws_trace.proofs.Vocabulary.{arith}

module _ (c : Config) (before behind : List Event) (number : ℕ) (ranged : IsInRange c) (all : AreAtLines (fresh c) (before ++ behind)) (within : number < c.lines)
    (service : Service) (tei : ℕ) (h : IsPulled c number service tei before behind) where
  abbrev m : OctetCard
  m = after_all (fresh c) before

  abbrev first : List frames.Event
  first = meant_all (fresh c) before

  abbrev rest : List frames.Event
  rest = meant_all m behind

  these : runs.AreAtLines (cards.fresh c) (first ++ rest)
  these = subst (runs.AreAtLines (cards.fresh c)) (meant_both (fresh c) before behind) ((refines (fresh c) (before ++ behind)).at_lines all)

  abbrev there : Card
  there = runs.after_all (cards.fresh c) first

  same : m.card ≡ there
  same = (refines (fresh c) before).card

  kept : m.card.config ≡ c
  kept = config_stays (fresh c) before

  before-lines : AreAtLines (fresh c) before
  before-lines = all-left (IsAtLine (fresh c)) before behind all

  behind-lines : AreAtLines m behind
  behind-lines = subst (λ (d : Config). All (λ (e : Event). e.line < d.lines) behind) (sym kept) (all-right (IsAtLine (fresh c)) before behind all)

  abbrev link : ℕ
  link = given.link c number ranged within service tei first rest these h.stays

  Heard : Card → Config → Type 0
  Heard k d =
      number < d.lines → link < link_count d → StaysAt number link tei k rest → IsNotDeactivated number link tei rest
      → most_pulls_behind d.n201 (most_frames_before d + priority_added_at number k rest + 1) ≤ pulls_of number behind
      → AreHeardSince d.n201 (port_at number m).given (port_at number (after_all m behind)).given (map (control_text d link tei) (link_at link (line_at number k)).waiting)

  heard : Heard m.card m.card.config
  unfolding Heard
  heard few some on up enough = waiting_heard m behind (reached_after_all (fresh c) before (reached_fresh c ranged) before-lines) behind-lines number link tei few some on up enough

  pub since : AreHeardSince c.n201 (octets_given c before number) (octets_given c (before ++ behind) number) (texts c service tei (outgoing_of c service tei number first).waiting)
  unfolding Heard
  since =
      let so : Heard there c = subst (λ k. Heard k c) same (subst (Heard m.card) kept heard) in
      let enough : most_pulls_behind c.n201 (most_frames_before c + priority_added_at number there rest + 1) ≤ pulls_of number behind =
      subst (λ n. most_pulls_behind c.n201 (most_frames_before c + n + 1) ≤ pulls_of number behind) (given.come-so c number ranged within first rest these) h.enough in
      let before-is = octets_are c before number ranged before-lines within in
      let after-is = ap (λ m. (port_at number m).given) (sym (after_all_append (fresh c) before behind)) ∙ octets_are c (before ++ behind) number ranged all within in
      subst (λ octets. AreHeardSince c.n201 octets (octets_given c (before ++ behind) number) (texts c service tei (outgoing_of c service tei number first).waiting)) before-is
      (subst (λ octets. AreHeardSince c.n201 (port_at number m).given octets (texts c service tei (outgoing_of c service tei number first).waiting)) after-is
      (subst (AreHeardSince c.n201 (port_at number m).given (port_at number (after_all m behind)).given) (given.texts-are c number ranged within service tei first rest these h.stays)
      (so within (given.link-few c number ranged within service tei first rest these h.stays) (given.link-stays c number ranged within service tei first rest these h.stays)
      (given.link-up c number ranged within service tei first rest these h.stays) enough)))

pub waiting-is-heard : OfEachLine AllThatWaitsIsHeard
waiting-is-heard c events number ranged all within before behind service tei split h = grind (arith, since)
