-- Hand-written answers for `Card::contents`.
use Rattle.lapd_card.proofs.Vocabulary.{refl, sym, ap, ◌∙◌, told_at, told_beside, told_in}
use Rattle.lapd_card.proofs.OnePort.{port-there, told_bare, told_there}
use Rattle.lapd_card.proofs.card.Card.contents.Goals as goal

pub index-port-requires : goal.index-port-requires
index-port-requires g c = port-there g.S.Shelf.store _ c.args.self.now c.args.line _ c.self.invariant c.self.view_is c.requires c.self.inside.ports.ok.0

pub returns-then-not-has_contents : goal.returns-then-not-has_contents
returns-then-not-has_contents g c =
    told_bare c.self.inside.ports.items c.args.line c.index-port.result.now c.args.report.now (port-there g.S.Shelf.store _ c.args.self.now c.args.line _ c.self.invariant c.self.view_is c.requires refl) c.index-port.ensures
    (sym c.has_contents.ensures ∙ c.if-not-has_contents.true)
    ∙ ap (λ card. told_at card.ports c.args.line c.args.report.now) c.self.view_is

pub returns : goal.returns
returns g c =
    ap (λ x. told_beside x c.args.report.now) c.contents.ensures
    ∙ ap (λ octets. told_in octets c.args.report.now) c.latest_frame.ensures
    ∙ sym (told_there c.self.inside.ports.items c.args.line c.index-port.result.now c.args.report.now (port-there g.S.Shelf.store _ c.args.self.now c.args.line _ c.self.invariant c.self.view_is c.requires refl) c.index-port.ensures)
    ∙ ap (λ card. told_at card.ports c.args.line c.args.report.now) c.self.view_is
