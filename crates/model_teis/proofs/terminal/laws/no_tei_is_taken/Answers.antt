-- Hand-written answers for `no_tei_is_taken`.
use Rattle.model_teis.proofs.OfTerminal.LawLemmas.{changes_are_told}
use Rattle.model_teis.proofs.OfTerminal.Told.{none_is_taken}
use Rattle.model_teis.proofs.OfTerminal.Given.{each_was_given}
use Rattle.model_teis.proofs.terminal.laws.no_tei_is_taken.Goals as goal

pub returns-clause-told : goal.returns-clause-told
returns-clause-told c = changes_are_told

pub returns-clause-given : goal.returns-clause-given
returns-clause-given c = none_is_taken

pub returns-clause-each : goal.returns-clause-each
returns-clause-each c = each_was_given
