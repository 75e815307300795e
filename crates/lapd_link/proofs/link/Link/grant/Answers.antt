-- Hand-written answers for `Link::grant`.
use Rattle.lapd_link.proofs.Vocabulary.{[], ap, subst, ◌∙◌, granted, begun, LinkRequest, Establish, Release, Data, SetBusy, ClearBusy, request_of, HasPlace, terms_of}
use Rattle.lapd_link.proofs.Asking.{Granted, granted_as, by_rows, by_contents}
use Rattle.lapd_link.proofs.Ending.{running-at}
use Rattle.lapd_link.proofs.link.Link.grant.Goals as goal
use Rattle.lapd_link.proofs.link.Link.grant.Goals.{in-Establish, in-Release, in-Data, in-SetBusy, in-ClearBusy}

pub returns-clause-reaches : goal.returns-clause-reaches
returns-clause-reaches g c = λ others m s.
    let done : Granted c.args.request c.args.self.now c.match-request.self (g.S.Shelf.store c.match-request.shelf) c.match-request.report others m = elim c.match-request.branch [
      | in-Establish w ↦ granted_as w.in-Establish.is w.self-is (ap g.S.Shelf.store w.shelf-is) w.report-is
          (by_rows Establish (record { none = c.args.report.now; nothing = c.requires.clear; does = w.ask_establishment.ensures.does [] }) s)
      | in-Release w ↦ granted_as w.in-Release.is w.self-is (ap g.S.Shelf.store w.shelf-is) w.report-is
          (by_rows Release (record { none = c.args.report.now; nothing = c.requires.clear; does = w.release.ensures.does [] }) s)
      | in-Data w ↦
          let place : HasPlace (request_of (Data w.in-Data.octets)) c.args.self.now (g.S.Shelf.store c.args.shelf.now) =
          subst (λ (r : LinkRequest). HasPlace (request_of r) c.args.self.now (g.S.Shelf.store c.args.shelf.now)) w.in-Data.is c.requires.place in
          granted_as w.in-Data.is w.self-is (ap g.S.Shelf.store w.shelf-is) w.report-is
          (by_contents w.in-Data.octets s place.1 c.requires.clear w.keep.ensures.kept w.keep.ensures.entity w.keep.ensures.stays)
      | in-SetBusy w ↦ granted_as w.in-SetBusy.is w.self-is (ap g.S.Shelf.store w.shelf-is) w.report-is
          (by_rows SetBusy (record { none = c.args.report.now; nothing = c.requires.clear; does = w.set_busy_in_7_8.ensures.does [] }) s)
      | in-ClearBusy w ↦ granted_as w.in-ClearBusy.is w.self-is (ap g.S.Shelf.store w.shelf-is) w.report-is
          (by_rows ClearBusy (record { none = c.args.report.now; nothing = c.requires.clear; does = w.clear_busy_in_7_8.ensures.does [] }) s)
    ] in
    c.settle.ensures.reaches [] done.messages others m (granted (terms_of c.args.self.now) (request_of c.args.request) (begun m)) done.kept (c.running-before.ensures ∙ running-at s.fits.rests) done.agrees
