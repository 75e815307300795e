-- Hand-written answers for `FrameLine::restore`.
use Rattle.lapd_line.proofs.Vocabulary.{refl}
use Rattle.lapd_line.proofs.RestoredWhole.{line_restored}
use Rattle.lapd_line.proofs.LinkSteps.{on_ok}
use Rattle.lapd_line.proofs.frame_line.FrameLine.restore.Goals as goal

pub restore-requires-clause-fresh : goal.restore-requires-clause-fresh
restore-requires-clause-fresh g c =
    let (others, st) = c.requires.fresh in
    (others, st.layer)

pub returns-clause-read : goal.returns-clause-read
returns-clause-read g c =
    on_ok c.restore.result (line_restored c.args.self.now (g.S.Shelf.store c.args.shelf.now) c.restore.new.self (g.S.Shelf.store c.restore.new.shelf)) c.restore.ensures.read

pub returns-clause-none : goal.returns-clause-none
returns-clause-none g c = c.restore.ensures.none

pub returns-clause-config : goal.returns-clause-config
returns-clause-config g c = c.restore.ensures.config

pub returns-clause-counters : goal.returns-clause-counters
returns-clause-counters g c = refl

pub returns-clause-limits : goal.returns-clause-limits
returns-clause-limits g c = c.restore.ensures.limits

pub returns-clause-used : goal.returns-clause-used
returns-clause-used g c = c.restore.ensures.used
