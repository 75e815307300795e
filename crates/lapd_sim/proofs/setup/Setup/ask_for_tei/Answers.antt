-- Hand-written answers for `Setup::ask_for_tei`.
use Rattle.lapd_sim.proofs.Vocabulary.{SetupStands}
use Rattle.lapd_sim.proofs.Scenes.{there, obeyed}
use Rattle.lapd_sim.specs.machine.Steps.{after_asking}
use Rattle.lapd_sim.proofs.setup.Setup.ask_for_tei.Goals as goal

pub returns : goal.returns
returns g c = λ m h.
    obeyed c.ask.result _ c.written.ensures _ _ (SetupStands _) _ _
    (there c.args.self.now m h c.in_ok-line.ensures.0 c.in_ok-line.ensures.1 after_asking) (c.ask.ensures.told m h)
