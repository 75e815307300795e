-- Hand-written answers for `FrameCard::contents`.
use Rattle.lapd_card.proofs.Vocabulary.{Some, ap, ◌∙◌, delivered_in}
use Rattle.lapd_line.specs.Reports.{octets_of}
use Rattle.model_line.specs.Came.{came}
use Rattle.lapd_card.proofs.OneLine.{line-there, has_config}
use Rattle.lapd_card.proofs.frame_card.FrameCard.contents.Goals as goal

pub index-requires : goal.index-requires
index-requires g c = line-there g.S.Shelf.store _ c.args.self.now c.args.line _ c.self.invariant c.self.view_is c.requires c.self.inside.lines.ok.0

pub returns : goal.returns
returns g c =
    c.contents.ensures
    ∙ ap (λ d. delivered_in (octets_of (Some (came d.n201 c.args.octets.now))) c.args.report.now)
    (has_config g.S.Shelf.store (record { past = c.self.invariant; same = c.self.view_is; within = c.requires; is = c.index.ensures }))
