-- Hand-written answers for `Card::expire`.
use Rattle.lapd_card.proofs.Vocabulary.{◌<◌, ◌≤◌, sym, ap, subst}
use Rattle.model_card.specs.ports.Port.{told}
use Rattle.model_link.specs.Told.{starts}
use Rattle.lapd_card.specs.Card.{line_count}
use Rattle.lapd_card.proofs.OnePort.{as_told, past_after, seen, inside}
use Rattle.lapd_card.proofs.OneOctet.{expiry_passes, passed_called}
use Rattle.lapd_card.proofs.card.Card.expire.Goals as goal

pub invariant_of-self : goal.invariant_of-self
invariant_of-self g c = past_after g.S.Shelf.store (passed_called (expiry_passes c.args.timer) g.S.Shelf.store (subst (λ d. c.args.line < line_count d) (sym c.self.view_is) c.requires) c.expire.ensures.called) c.self.invariant

pub returns-clause-called : goal.returns-clause-called
returns-clause-called g c =
    as_told g.S.Shelf.store (ap told c.of.ensures) (seen g.S.Shelf.store c.self.view_is (passed_called (expiry_passes c.args.timer) g.S.Shelf.store (subst (λ d. c.args.line < line_count d) (sym c.self.view_is) c.requires) c.expire.ensures.called))

pub returns-clause-starts : goal.returns-clause-starts
returns-clause-starts g c = subst (λ t. starts t.orders ≤ 1) (sym c.of.ensures) c.expire.ensures.starts

pub returns-clause-frames : goal.returns-clause-frames
returns-clause-frames g c = inside g.S.Shelf.store c.self.view_is c.expire.ensures.frames
