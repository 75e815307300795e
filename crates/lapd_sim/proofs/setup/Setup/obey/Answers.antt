-- Hand-written answers for `Setup::obey`.
use Rattle.lapd_sim.proofs.Vocabulary.{refl, ◌≡◌, sym, subst, ap, ◌∙◌, AnyCard, AnyStands, Machine, Config, scene, SetupStands, stored_text, limit}
use Rattle.lapd_card.specs.Kinds as kinds
use Rattle.lapd_sim.specs.machine.Steps.{after_stored, held}
use Rattle.lapd_sim.proofs.Boards.{held_on}
use Rattle.lapd_sim.proofs.Playing.{takes_none}
use Rattle.lapd_sim.proofs.Scenes.{obeyed, on_ok, tells}
use Rattle.lapd_sim.proofs.setup.Setup.obey.Goals as goal

pub returns-in-Stored : goal.returns-in-Stored
returns-in-Stored g c = λ m h.
    rw c.in-Stored.is
    (takes_none _ _ _ _ m (SetupStands _) _ (obeyed c.put_stored.result _ c.written.ensures _ _ (SetupStands c.args.self.now) _ (after_stored (scene m)) refl
    (tells c.put_stored.result _ _ (SetupStands c.args.self.now) (after_stored (scene m)) (record (scene m) { text = stored_text c.stored.result c.limit.result })
    (ap (λ n. record (scene m) { text = stored_text n c.limit.result }) (held_on c.args.self.now.timed.card m.board h.board c.stored.result (subst (λ (k : AnyCard). (n : Machine) → AnyStands k n → c.stored.result ≡ kinds.stored n) c.card.ensures c.stored.ensures))
    ∙ ap (λ n. record (scene m) { text = stored_text (held m.board) n }) (c.limit.ensures ∙ ap (λ (d : Config). limit d) (sym h.config)))
    c.put_stored.ensures (on_ok c.put_stored.result h))))
