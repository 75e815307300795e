-- Hand-written answers for `FrameCard::timer`.
use Rattle.std.specs.Prelude.{◌≡◌, ◌<◌, option_to_list}
use Rattle.model_line.specs.Image.{timer_numbered}
use Rattle.model_line.specs.Line.{link_count}
use Rattle.lapd_card.proofs.OneLine.{line-there, one_holds}
use Rattle.lapd_card.proofs.frame_card.FrameCard.timer.Goals as goal

pub index-requires : goal.index-requires
index-requires g c = line-there g.S.Shelf.store _ c.args.self.now c.args.line _ c.self.invariant c.self.view_is c.requires c.self.inside.lines.ok.0

pub returns : goal.returns
returns g c =
    one_holds g.S.Shelf.store (record { past = c.self.invariant; same = c.self.view_is; within = c.requires; is = c.index.ensures }) (λ d l. c.args.number < link_count d → option_to_list c.timer.result ≡ timer_numbered l c.args.number) (c.timer.ensures _)
