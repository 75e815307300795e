-- Hand-written answers for `LinkLayer::unserved`.
use Rattle.lapd_line.proofs.Vocabulary.{◌≡◌, [], inl, inr, ap, ◌∙◌, Unserved, drop_for, unless_at_link, aim_at}
use Rattle.model_link.specs.Events as link
use Rattle.lapd_line.proofs.AddressSteps.{aimed, serves_as, serves_none}
use Rattle.lapd_line.proofs.link_layer.LinkLayer.unserved.Goals as goal

pub returns-in-Management : goal.returns-in-Management
returns-in-Management g c =
    let unserved : unless_at_link (aim_at c.addressee.result link.overlong (drop_for Unserved)) ≡ drop_for Unserved = elim c.in-Management.is [
      | inl e ↦ ap (λ whom. unless_at_link (aim_at whom link.overlong (drop_for Unserved))) e
      | inr at ↦ ap (λ whom. unless_at_link (aim_at whom link.overlong (drop_for Unserved))) at.3
    ] in
    serves_as (λ others m st. ap unless_at_link (aimed c.args.self.now (g.S.Shelf.store c.args.shelf.now) others m c.args.address link.overlong (drop_for Unserved) _ c.addressee.ensures.is st) ∙ unserved)
    (serves_none c.args.self.now (g.S.Shelf.store c.args.shelf.now) [] c.tell_drop.new.report _ (c.tell_drop.ensures []))

pub returns-in-Nobody : goal.returns-in-Nobody
returns-in-Nobody g c =
    serves_as (λ others m st. ap unless_at_link (aimed c.args.self.now (g.S.Shelf.store c.args.shelf.now) others m c.args.address link.overlong (drop_for Unserved) _ c.in-Nobody.ensures.is st))
    (serves_none c.args.self.now (g.S.Shelf.store c.args.shelf.now) [] c.tell_drop-in-Nobody.new.report _ (c.tell_drop-in-Nobody.ensures []))
