-- Hand-written answers for `Card::start`.
use Rattle.lapd_card.proofs.Vocabulary.{arith, ranges_of, start_fault}
use Rattle.model_card.specs.ports.Card.{fresh}
use Rattle.lapd_card.proofs.OctetsBegin.{no_fault, none_begun, fresh_stands}
use Rattle.lapd_card.proofs.card.Card.start.Goals as goal

pub ports-requires : goal.ports-requires
ports-requires g c = omega (arith, (ranges_of c.args.config c.in_ok-frames.ensures.fresh.reached.config).n201.most)

pub invariant_of-result : goal.invariant_of-result
invariant_of-result g c = (fresh c.args.config, fresh_stands g.S.Shelf.store c.args.config c.in_ok-frames.ensures.config c.in_ok-frames.ensures.fresh c.in_ok-ports.ensures)

pub returns-clause-fresh : goal.returns-clause-fresh
returns-clause-fresh g c = fresh_stands g.S.Shelf.store c.args.config c.in_ok-frames.ensures.config c.in_ok-frames.ensures.fresh c.in_ok-ports.ensures

pub returns-clause-fault : goal.returns-clause-fault
returns-clause-fault g c = no_fault _ _ (start_fault c.args.config (g.S.Shelf.store c.args.shelf)) (λ f is. cc) c.in_ok-frames.ensures.fault

pub returns-in_err-frames-clause-config : goal.returns-in_err-frames-clause-config
returns-in_err-frames-clause-config g c = none_begun _ _ c.from_residual.ensures.0

pub returns-in_err-frames-clause-shelf : goal.returns-in_err-frames-clause-shelf
returns-in_err-frames-clause-shelf g c = none_begun _ _ c.from_residual.ensures.0

pub returns-in_err-frames-clause-fresh : goal.returns-in_err-frames-clause-fresh
returns-in_err-frames-clause-fresh g c = none_begun _ _ c.from_residual.ensures.0

pub returns-in_err-frames-clause-counters : goal.returns-in_err-frames-clause-counters
returns-in_err-frames-clause-counters g c = none_begun _ _ c.from_residual.ensures.0

pub returns-in_err-ports-clause-config : goal.returns-in_err-ports-clause-config
returns-in_err-ports-clause-config g c = none_begun _ _ c.from_residual-in_err-ports.ensures.0

pub returns-in_err-ports-clause-shelf : goal.returns-in_err-ports-clause-shelf
returns-in_err-ports-clause-shelf g c = none_begun _ _ c.from_residual-in_err-ports.ensures.0

pub returns-in_err-ports-clause-fresh : goal.returns-in_err-ports-clause-fresh
returns-in_err-ports-clause-fresh g c = none_begun _ _ c.from_residual-in_err-ports.ensures.0

pub returns-in_err-ports-clause-counters : goal.returns-in_err-ports-clause-counters
returns-in_err-ports-clause-counters g c = none_begun _ _ c.from_residual-in_err-ports.ensures.0

pub returns-clause-otherwise : goal.returns-clause-otherwise
returns-clause-otherwise g c = c.in_ok-frames.ensures.otherwise

pub returns-clause-config : goal.returns-clause-config
returns-clause-config g c = c.in_ok-frames.ensures.config

pub returns-clause-shelf : goal.returns-clause-shelf
returns-clause-shelf g c = c.in_ok-frames.ensures.shelf

pub returns-clause-counters : goal.returns-clause-counters
returns-clause-counters g c = c.in_ok-frames.ensures.counters
