-- Hand-written answers for `LinkLayer::give_up_units`.
use Rattle.lapd_line.proofs.Vocabulary.{subst, ◌∙◌, arith, drop, drop-drop, LayerStands}
use Rattle.lapd_line.proofs.GivingUp.{all_given_up}
use Rattle.lapd_line.proofs.link_layer.LinkLayer.give_up_units.Goals as goal

pub loop-given_up-preserved : goal.loop-given_up-preserved
loop-given_up-preserved g c =
    let n = c.loop-given_up.given_up in
    let before = c.loop-given_up.invariant in
    let one = c.give_up_unit.ensures in
    record {
      config = one.config ∙ before.config;
      limits = record {
        slots = one.limits.slots ∙ before.limits.slots;
        width = one.limits.width ∙ before.limits.width;
      };
      after = λ others m st.
          subst (λ ds. LayerStands c.give_up_unit.new.self (g.S.Shelf.store c.give_up_unit.new.shelf) others (record m { units = ds })) (drop-drop 1 n m.units)
          (one.after others (record m { units = drop n m.units }) (before.after others m st));
    }

pub returns-clause-after : goal.returns-clause-after
returns-clause-after g c =
    all_given_up c.args.self.now c.loop-given_up.self (g.S.Shelf.store c.args.shelf.now) (g.S.Shelf.store c.loop-given_up.shelf) c.loop-given_up.given_up (omega (arith, c.len-given_up-end.ensures, c.loop-given_up-test.false)) c.loop-given_up.invariant.after
