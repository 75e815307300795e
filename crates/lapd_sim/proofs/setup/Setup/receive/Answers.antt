-- Hand-written answers for `Setup::receive`.
use Rattle.lapd_sim.proofs.Vocabulary.{after_rx, SetupStands}
use Rattle.lapd_sim.proofs.Scenes.{there_octets, obeyed}
use Rattle.lapd_sim.proofs.setup.Setup.receive.Goals as goal

pub returns : goal.returns
returns g c = λ m h.
    obeyed c.hear.result _ c.written.ensures _ _ (SetupStands _) _ _
    (there_octets c.args.self.now m h c.in_ok-line.ensures.0 c.in_ok-line.ensures.1 (λ n. after_rx n c.args.octets.now) c.in_ok-for_octets.ensures) (c.hear.ensures m h)
