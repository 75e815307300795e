-- Hand-written answers for `mark`.
use Rattle.std.proofs.Common.{◌+◌, ◌<◌, List, arith, ap, get_or, length, refl, subst, sym, ◌∙◌}
use Rattle.std.proofs.lemmas.List.{length-set}
use Rattle.model_card.proofs.Reaching.{reached-sound}
use Rattle.model_line.specs.declared.config.Config.{Config}
use Rattle.model_line.proofs.Ranges.{ranges_of}
use Rattle.lapd_c.specs.declared.link_marks.LinkMarks.{LinkMarks}
use Rattle.lapd_c.proofs.Marking.{line_marked, LinesMarked}
use Rattle.lapd_c.proofs.waiting.mark.Goals as goal

pub loop-line-init : goal.loop-line-init
loop-line-init c = record { count = c.requires; marked = λ m s k less. absurd (omega (arith, less)) }

pub loop-line-preserved : goal.loop-line-preserved
loop-line-preserved c =
    let before = c.loop-line.invariant in
    let line = c.loop-line.line in
    let within : line < length c.loop-line.refused = omega (arith, c.loop-line-test.true, c.min-line-end.ensures, c.lines.ensures, before.count) in record {
      count = ap (λ (all : List LinkMarks). length all) c.put.ensures ∙ length-set c.loop-line.refused line c.links_by.result ∙ before.count;
      marked = λ m s.
          subst (λ all. LinesMarked m c.args.waits.now all (line + 1)) (sym c.put.ensures)
          (line_marked m c.args.waits.now c.loop-line.refused line (get_or c.args.waits.now line 0) c.links_by.result within refl (c.links_by.ensures m s) (before.marked m s));
    }

pub returns : goal.returns
returns c = λ m s.
    let sound = reached-sound m s.reached in
    let lines = ap (λ (d : Config). d.lines) s.config in record {
      count = c.loop-line.invariant.count ∙ sym lines;
      links = λ line within. c.loop-line.invariant.marked m s line
          (omega (arith, within, c.loop-line-test.false, c.min-line-end.ensures, c.lines.ensures, lines, (ranges_of m.config sound.config).lines.most));
    }
