-- Hand-written answers for `FrameCard::save_counters`.
use Rattle.lapd_card.proofs.Vocabulary.{ap, ◌∙◌}
use Rattle.lapd_image.proofs.Puts.{puts-none}
use Rattle.lapd_card.proofs.PutLines.{all_counters_put, counters_put}
use Rattle.lapd_card.proofs.SavedLines.{all_counters_saved, counters_saved, none_counted}
use Rattle.lapd_card.proofs.frame_card.FrameCard.save_counters.Goals as goal

pub loop-line-init : goal.loop-line-init
loop-line-init g c = record { puts = puts-none c.requires; saved = none_counted }

pub loop-line-preserved : goal.loop-line-preserved
loop-line-preserved g c =
    let same = c.deref-line-items.ensures.value ∙ ap (λ card. card.lines) c.self.view_is in
    record {
      puts = counters_put c.args.self.now.lines same c.loop-line-test.true c.line-item.is c.loop-line.invariant.puts c.save_counters-end.ensures.puts;
      saved = counters_saved c.args.self.now.lines same c.loop-line-test.true c.line-item.is c.loop-line.invariant.saved c.save_counters-end.ensures.saved;
    }

pub returns-clause-puts : goal.returns-clause-puts
returns-clause-puts g c = all_counters_put c.args.self.now.lines (c.deref-line-items.ensures.value ∙ ap (λ card. card.lines) c.self.view_is) c.loop-line-test.false c.loop-line.invariant.puts

pub returns-clause-saved : goal.returns-clause-saved
returns-clause-saved g c = all_counters_saved c.args.self.now.lines (c.deref-line-items.ensures.value ∙ ap (λ card. card.lines) c.self.view_is) c.loop-line-test.false c.loop-line.invariant.saved
