-- Hand-written answers for `LinkLayer::expire`.
use Rattle.lapd_line.proofs.Vocabulary.{[], at_management, at_terminal, sym, subst, Serves, aim_of_expiry}
use Rattle.model_teis.specs.network.Events as teis
use Rattle.model_teis.specs.terminal.Events as terminals
use Rattle.lapd_line.proofs.link_layer.LinkLayer.expire.Goals as goal

pub change-requires-clause-changing : goal.change-requires-clause-changing
change-requires-clause-changing g c = (at_management teis.expiry, c.args.self.now.teis, c.expire_t201-told.ensures.answers c.args.self.now.config, c.requires.stands)

pub change-requires-in-T202-clause-changing : goal.change-requires-in-T202-clause-changing
change-requires-in-T202-clause-changing g c = (at_terminal terminals.expiry, c.args.self.now.teis, c.expire_t202-told.ensures.answers c.args.self.now.config, c.requires.stands)

pub returns-in-T201 : goal.returns-in-T201
returns-in-T201 g c =
    subst (λ t. Serves (aim_of_expiry t) [] c.args.self.now (g.S.Shelf.store c.args.shelf.now) c.change.new.self (g.S.Shelf.store c.change.new.shelf) c.change.new.report) (sym c.in-T201.is)
    (c.change.ensures (at_management teis.expiry) c.args.self.now.teis [] (c.expire_t201-told.ensures.answers c.args.self.now.config))

pub returns-in-T202 : goal.returns-in-T202
returns-in-T202 g c =
    subst (λ t. Serves (aim_of_expiry t) [] c.args.self.now (g.S.Shelf.store c.args.shelf.now) c.change-in-T202.new.self (g.S.Shelf.store c.change-in-T202.new.shelf) c.change-in-T202.new.report) (sym c.in-T202.is)
    (c.change-in-T202.ensures (at_terminal terminals.expiry) c.args.self.now.teis [] (c.expire_t202-told.ensures.answers c.args.self.now.config))

pub at_link-requires : goal.at_link-requires
at_link-requires g c = record { stands = c.requires.stands; clear = c.requires.clear }

pub at_link-requires-in-T203 : goal.at_link-requires-in-T203
at_link-requires-in-T203 g c = record { stands = c.requires.stands; clear = c.requires.clear }

pub change-requires-clause-clear : goal.change-requires-clause-clear
change-requires-clause-clear g c = c.requires.clear

pub change-requires-clause-short : goal.change-requires-clause-short
change-requires-clause-short g c = c.expire_t201-told.ensures.short

pub change-requires-in-T202-clause-clear : goal.change-requires-in-T202-clause-clear
change-requires-in-T202-clause-clear g c = c.requires.clear

pub change-requires-in-T202-clause-short : goal.change-requires-in-T202-clause-short
change-requires-in-T202-clause-short g c = c.expire_t202-told.ensures.short

pub returns-in-T200 : goal.returns-in-T200
returns-in-T200 g c =
    subst (λ t. Serves (aim_of_expiry t) [] c.args.self.now (g.S.Shelf.store c.args.shelf.now) c.at_link.new.self (g.S.Shelf.store c.at_link.new.shelf) c.at_link.new.report) (sym c.in-T200.is) c.at_link.ensures

pub returns-in-T203 : goal.returns-in-T203
returns-in-T203 g c =
    subst (λ t. Serves (aim_of_expiry t) [] c.args.self.now (g.S.Shelf.store c.args.shelf.now) c.at_link-in-T203.new.self (g.S.Shelf.store c.at_link-in-T203.new.shelf) c.at_link-in-T203.new.report) (sym c.in-T203.is)
    c.at_link-in-T203.ensures
