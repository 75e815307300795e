-- Hand-written answers for `Setup::bring_down`.
use Rattle.lapd_sim.proofs.Vocabulary.{subst, on, downs, after_down, with_events, scene, Tells, SetupStands}
use Rattle.lapd_sim.proofs.Scenes.{there, obeyed}
use Rattle.lapd_sim.proofs.setup.Setup.bring_down.Goals as goal

pub returns : goal.returns
returns g c = λ m h.
    obeyed c.give_up.result _ c.written.ensures _ _ (SetupStands _) _ _ (there c.args.self.now m h c.in_ok-line.ensures.0 c.in_ok-line.ensures.1 after_down)
    (subst (λ teis. Tells c.give_up.result (on g.T.Target.taken c.args.page.now) (on g.T.Target.taken c.give_up.new.page) (SetupStands c.give_up.new.self) (with_events (downs c.in_ok-line.line teis) (scene m)))
    (c.teis_on-count.ensures.teis m h) (c.give_up.ensures m h))
