-- Hand-written answers for `LinkLayer::unnumbered`.
use Rattle.lapd_line.proofs.Vocabulary.{◌≡◌, true, false, [], arith, drop_for, Unserved, addressed, reaches_link}
use Rattle.model_link.specs.Events as link
use Rattle.lapd_line.proofs.AddressSteps.{serves_as, unnumbered_reaches, unnumbered_unserved}
use Rattle.lapd_line.proofs.link_layer.LinkLayer.unnumbered.Goals as goal

pub returns-then-reaches_link : goal.returns-then-reaches_link
returns-then-reaches_link g c =
    let reading = c.args.self.now.config.reading in
    let reaches : reaches_link reading c.args.unit ≡ true = cc in
    serves_as (λ others m st. unnumbered_reaches reading c.args.unit (addressed m c.args.address link.overlong (drop_for Unserved)) reaches) (c.malformed.ensures [] (omega arith))

pub returns : goal.returns
returns g c =
    let reading = c.args.self.now.config.reading in
    let unserved : reaches_link reading c.args.unit ≡ false = cc in
    serves_as (λ others m st. unnumbered_unserved reading c.args.unit (addressed m c.args.address link.overlong (drop_for Unserved)) unserved) c.unserved.ensures
