-- Hand-written answers for `LinkLayer::give_up`.
use Rattle.lapd_line.proofs.Vocabulary.{[], at_management, without_units, down}
use Rattle.lapd_line.proofs.GivingUp.{given_up}
use Rattle.lapd_line.proofs.link_layer.LinkLayer.give_up.Goals as goal

pub change-requires-clause-changing : goal.change-requires-clause-changing
change-requires-clause-changing g c =
    let (others, m, st) = c.requires.stands in
    let mid = c.give_up_units.new.self in
    (at_management down, mid.teis, c.give_up-told.ensures.answers mid.config, (others, without_units m, c.give_up_units.ensures.after others m st))

pub returns : goal.returns
returns g c =
    let units = c.give_up_units.ensures in
    given_up units.config units.limits units.after
    (c.change.ensures (at_management down) c.give_up_units.new.self.teis [] (c.give_up-told.ensures.answers c.give_up_units.new.self.config))
