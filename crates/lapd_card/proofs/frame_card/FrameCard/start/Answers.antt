-- Hand-written answers for `FrameCard::start`.
use Rattle.lapd_card.proofs.Vocabulary.{sym, ◌∙◌, fresh}
use Rattle.lapd_card.proofs.Begins.{fresh_stands, none_is_counted, no_fault}
use Rattle.lapd_card.proofs.frame_card.FrameCard.start.Goals as goal

pub lines-requires : goal.lines-requires
lines-requires g c = (no_fault c.args.config (g.S.Shelf.store c.args.shelf) (sym c.fault_of.ensures ∙ c.in_default.is)).0

pub invariant_of-result : goal.invariant_of-result
invariant_of-result g c = (fresh c.args.config, fresh_stands c.args.config c.in_ok-lines.lines.items c.in_ok-lines.ensures g.S.Shelf.store c.args.shelf c.none.result c.none.ensures (sym c.fault_of.ensures ∙ c.in_default.is))

pub returns-clause-fresh : goal.returns-clause-fresh
returns-clause-fresh g c = fresh_stands c.args.config c.in_ok-lines.lines.items c.in_ok-lines.ensures g.S.Shelf.store c.args.shelf c.none.result c.none.ensures (sym c.fault_of.ensures ∙ c.in_default.is)

pub returns-clause-counters : goal.returns-clause-counters
returns-clause-counters g c = none_is_counted c.args.config c.in_ok-lines.lines.items c.in_ok-lines.ensures
