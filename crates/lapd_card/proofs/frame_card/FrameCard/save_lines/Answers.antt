-- Hand-written answers for `FrameCard::save_lines`.
use Rattle.lapd_image.proofs.Puts.{puts-none}
use Rattle.lapd_card.proofs.Amounts.{call_of}
use Rattle.lapd_card.proofs.OneLine.{one_serves}
use Rattle.lapd_card.proofs.PutLines.{line_put, lines_put, puts_within}
use Rattle.lapd_card.proofs.SavedLines.{line_saved, lines_saved, none_saved}
use Rattle.lapd_card.proofs.frame_card.FrameCard.save_lines.Goals as goal

pub loop-line-init : goal.loop-line-init
loop-line-init g c = record { within = c.requires; saved = λ m s. none_saved m.config; puts = λ m s. puts-none c.requires }

pub save-end-requires-clause-stands : goal.save-end-requires-clause-stands
save-end-requires-clause-stands g c = one_serves g.S.Shelf.store (call_of g.S.Shelf.store c.self.view_is c.self.invariant c.deref-line-items.ensures.value c.loop-line-test.true c.line-item.is)

pub loop-line-preserved : goal.loop-line-preserved
loop-line-preserved g c =
    let puts = line_put g.S.Shelf.store c.self.view_is c.self.invariant c.deref-line-items.ensures.value c.loop-line.invariant.puts c.loop-line-test.true c.line-item.is c.save-end.ensures.puts in
    record {
      within = puts_within g.S.Shelf.store c.self.view_is c.self.invariant _ puts;
      saved = line_saved g.S.Shelf.store c.self.view_is c.self.invariant c.deref-line-items.ensures.value c.loop-line.invariant.saved c.loop-line-test.true c.line-item.is c.save-end.ensures.saved;
      puts = puts;
    }

pub returns-clause-puts : goal.returns-clause-puts
returns-clause-puts g c = lines_put g.S.Shelf.store c.self.view_is c.self.invariant c.deref-line-items.ensures.value c.loop-line.invariant.puts c.loop-line-test.false

pub returns-clause-saved : goal.returns-clause-saved
returns-clause-saved g c = lines_saved g.S.Shelf.store c.self.view_is c.self.invariant c.deref-line-items.ensures.value c.loop-line.invariant.saved c.loop-line-test.false
