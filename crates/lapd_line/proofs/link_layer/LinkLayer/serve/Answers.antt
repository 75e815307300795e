-- Hand-written answers for `LinkLayer::serve`.
use Rattle.lapd_line.specs.Reports.{octets_of}
use Rattle.lapd_line.proofs.Vocabulary.{Ok, [], drop, sym, subst, ap, ◌∙◌, Serves, heard_of, aim_of_event, parts_of, message_of, at_side}
use Rattle.model_link.specs.Events as link
use Rattle.lapd_line.proofs.AddressSteps.{aimed, read_as, serves_none}
use Rattle.lapd_line.proofs.ReportSteps.{clear_tells_nothing}
use Rattle.lapd_line.proofs.link_layer.LinkLayer.serve.Goals as goal

-- what is heard is a frame, for a link
pub returns-in-Link : goal.returns-in-Link
returns-in-Link g c =
    subst (λ h. Serves (aim_of_event c.args.self.now.config (heard_of h)) (octets_of (heard_of h)) c.args.self.now (g.S.Shelf.store c.args.shelf.now) c.receive.new.self (g.S.Shelf.store c.receive.new.shelf) c.receive.new.report) (sym c.in-Frame.is)
    (read_as c.in-Frame.octets.now c.heard_side.result (Ok (parts_of c.in-Ok.frame)) c.heard_side.ensures c.in-Ok.ensures.reading
    (λ others m st. ap (at_side c.args.self.now.config (parts_of c.in-Ok.frame)) (aimed c.args.self.now (g.S.Shelf.store c.args.shelf.now) others m c.in-Ok.frame.address (link.frame (parts_of c.in-Ok.frame)) (message_of c.in-Ok.frame.control c.in-Ok.frame.info.now) _ c.in-Link.ensures.is st))
    (c.receive.ensures c.in-Frame.octets.now (c.in-Ok.ensures.tail ∙ ap (λ n. drop n c.in-Frame.octets.now) (sym c.start.ensures.value))))

-- or another
pub returns : goal.returns
returns g c =
    subst (λ h. Serves (aim_of_event c.args.self.now.config (heard_of h)) (octets_of (heard_of h)) c.args.self.now (g.S.Shelf.store c.args.shelf.now) c.serve_any.new.self (g.S.Shelf.store c.serve_any.new.shelf) c.serve_any.new.report)
    (sym c.in-Frame.is) c.serve_any.ensures

pub tell_drop-requires : goal.tell_drop-requires
tell_drop-requires g c = c.requires.clear

pub overlong-requires : goal.overlong-requires
overlong-requires g c = record { stands = c.requires.stands; clear = c.requires.clear }

pub receive-requires : goal.receive-requires
receive-requires g c = record { at = c.in-Link.ensures.at; clear = c.requires.clear; stands = c.requires.stands }

pub serve_any-requires : goal.serve_any-requires
serve_any-requires g c = record { stands = c.requires.stands; clear = c.requires.clear }

pub returns-in-Nothing : goal.returns-in-Nothing
returns-in-Nothing g c =
    subst (λ h. Serves (aim_of_event c.args.self.now.config (heard_of h)) (octets_of (heard_of h)) c.args.self.now (g.S.Shelf.store c.args.shelf.now) c.args.self.now (g.S.Shelf.store c.args.shelf.now) c.args.report.now)
    (sym c.in-Nothing.is) (serves_none c.args.self.now (g.S.Shelf.store c.args.shelf.now) [] c.args.report.now _ (clear_tells_nothing [] c.requires.clear))

pub returns-in-Dropped : goal.returns-in-Dropped
returns-in-Dropped g c =
    subst (λ h. Serves (aim_of_event c.args.self.now.config (heard_of h)) (octets_of (heard_of h)) c.args.self.now (g.S.Shelf.store c.args.shelf.now) c.args.self.now (g.S.Shelf.store c.args.shelf.now) c.tell_drop.new.report)
    (sym c.in-Dropped.is) (serves_none c.args.self.now (g.S.Shelf.store c.args.shelf.now) [] c.tell_drop.new.report _ (c.tell_drop.ensures []))

pub returns-in-Overlong : goal.returns-in-Overlong
returns-in-Overlong g c =
    subst (λ h. Serves (aim_of_event c.args.self.now.config (heard_of h)) (octets_of (heard_of h)) c.args.self.now (g.S.Shelf.store c.args.shelf.now) c.overlong.new.self (g.S.Shelf.store c.overlong.new.shelf) c.overlong.new.report)
    (sym c.in-Overlong.is) c.overlong.ensures
