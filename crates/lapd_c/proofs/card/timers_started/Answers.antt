-- Hand-written answers for `timers_started`: they stand beside a card of either kind, and no link of it has changed.
use Rattle.lapd_c.proofs.Vocabulary.{◌≡◌, IfSome, sym, subst, card_in}
use Rattle.model_card.specs.declared.kinds.CardKind.{CardKind}
use Rattle.lapd_clock.specs.Given.{lengths_of}
use Rattle.lapd_timed.specs.Stands.{ChangesStand, TimersStand}
use Rattle.model_timed.specs.Changes.{unmarked}
use Rattle.model_timed.specs.Clock.{stopped}
use Rattle.lapd_c.specs.Calls.{fresh}
use Rattle.lapd_c.proofs.Starting.{lines-begun, marks-begun, timers-begun}
use Rattle.lapd_c.proofs.card.timers_started.Goals as goal

pub returns : goal.returns
returns c = record {
  lines = subst (λ o. IfSome o (λ timers. timers.lines ≡ c.args.config.lines)) (sym c.ok.ensures.value) (lines-begun c.args.config c.from-lines.result c.start.result c.start.ensures.lines (sym c.from-lines.ensures));
  stopped = subst (λ o. IfSome o (λ timers. (kind : CardKind) → TimersStand timers (card_in (fresh kind c.args.config)) (stopped (lengths_of c.args.lengths)))) (sym c.ok.ensures.value)
      (timers-begun c.args.config c.from-lines.result c.from-terminals.result (stopped (lengths_of c.args.lengths)) c.start.result c.start.ensures.stopped
      (sym c.from-lines.ensures) (sym c.from-terminals.ensures) c.requires);
  unmarked = subst (λ o. IfSome o (λ timers. (kind : CardKind) → ChangesStand timers (card_in (fresh kind c.args.config)) unmarked)) (sym c.ok.ensures.value)
      (marks-begun c.args.config c.from-lines.result c.from-terminals.result c.start.result c.start.ensures.unmarked (sym c.from-lines.ensures) (sym c.from-terminals.ensures));
}
