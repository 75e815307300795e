-- Hand-written answers for `Managing::restore`.
use Rattle.lapd_line.proofs.Vocabulary.{sym, subst, OnErr, on_err_weaker}
use Rattle.lapd_image.specs.Reads.{HasNone}
use Rattle.lapd_line.specs.ImageParts.{teis_image, AreSavedTeis}
use Rattle.lapd_line.proofs.RestoredTeis.{of_network, of_terminal}
use Rattle.lapd_line.proofs.managing.Managing.restore.Goals as goal

pub returns-in-Network-clause-none : goal.returns-in-Network-clause-none
returns-in-Network-clause-none c =
    subst (λ x. OnErr c.restore.result (HasNone teis_image (AreSavedTeis x) c.args.reader.now)) (sym c.in-Network.is)
    (on_err_weaker c.restore.result (of_network c.in-Network.own) c.restore.ensures.none)

pub returns-in-Terminal-clause-none : goal.returns-in-Terminal-clause-none
returns-in-Terminal-clause-none c =
    subst (λ x. OnErr c.restore-in-Terminal.result (HasNone teis_image (AreSavedTeis x) c.args.reader.now)) (sym c.in-Terminal.is)
    (on_err_weaker c.restore-in-Terminal.result (of_terminal c.in-Terminal.own) c.restore-in-Terminal.ensures.none)
