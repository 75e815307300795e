-- Marks of lines are read, one line after the other.
use Rattle.std.proofs.Common.{arith, ap, sym, ◌∙◌}
use Rattle.std.proofs.lemmas.Bool.{false≢true}
use Rattle.lapd_image.proofs.Reading.{no_number, on_err}
use Rattle.lapd_timed.proofs.WaitsRead.{all_read, no_line, none_read, one_more, other_line}
use Rattle.model_bits.specs.Bits.{number_of}
use Rattle.model_card.proofs.Reaching.{reached-sound}
use Rattle.model_line.proofs.Ranges.{ranges_of}
use Rattle.model_line.specs.declared.config.Config.{Config}
use Rattle.lapd_timed.proofs.saved.reading.restore_waits.Goals as goal

pub loop-line-init : goal.loop-line-init
loop-line-init g c = λ m stands. none_read m c.args.reader.now

pub returns-in_err-links-clause-none : goal.returns-in_err-links-clause-none
returns-in_err-links-clause-none g c =
    on_err c.from_residual.result
    (λ m stands. no_line (reached-sound m stands.reached) (c.loop-line.invariant m stands)
    (omega (arith, c.loop-line-test.true, c.from-line-end.ensures, ap (λ (x : Config). x.lines) c.config.ensures.config, ap (λ (x : Config). x.lines) stands.config))
    (λ waits more marked e. no_number 2 (number_of waits) more c.in_err-links.ensures.short e))

pub returns-then-not-are_marks-clause-none : goal.returns-then-not-are_marks-clause-none
returns-then-not-are_marks-clause-none g c = λ m stands.
    other_line (reached-sound m stands.reached) (c.loop-line.invariant m stands)
    (omega (arith, c.loop-line-test.true, c.from-line-end.ensures, ap (λ (x : Config). x.lines) c.config.ensures.config, ap (λ (x : Config). x.lines) stands.config))
    c.number.new.self c.in_ok-links.field-0 c.in_ok-links.ensures.read c.in_ok-links.ensures.small
    (λ there. false≢true (sym c.if-not-are_marks.true ∙ (c.are_marks.ensures m stands).1 there))

pub offset_bounds-waits-line : goal.offset_bounds-waits-line
offset_bounds-waits-line g c = omega (arith, c.loop-line-test.true, c.from-line-end.ensures, (ranges_of c.config.result.now c.config.ensures.range).lines.most)

pub bounds-waits-line : goal.bounds-waits-line
bounds-waits-line g c = omega (arith, c.loop-line-test.true, c.from-line-end.ensures, (ranges_of c.config.result.now c.config.ensures.range).lines.most)

pub loop-line-preserved : goal.loop-line-preserved
loop-line-preserved g c = λ m stands.
    one_more (reached-sound m stands.reached) (c.loop-line.invariant m stands)
    (omega (arith, c.loop-line-test.true, c.from-line-end.ensures, ap (λ (x : Config). x.lines) c.config.ensures.config, ap (λ (x : Config). x.lines) stands.config))
    c.number.new.self c.in_ok-links.field-0 c.in_ok-links.ensures.read c.in_ok-links.ensures.small
    ((c.are_marks.ensures m stands).0 c.if-not-are_marks.false)

pub returns-clause-read : goal.returns-clause-read
returns-clause-read g c = λ m stands.
    all_read (reached-sound m stands.reached) (c.loop-line.invariant m stands)
    (omega (arith, c.loop-line-test.false, c.from-line-end.ensures, ap (λ (x : Config). x.lines) c.config.ensures.config, ap (λ (x : Config). x.lines) stands.config))
    (omega (arith, c.loop-line.auto.line-end, c.from-line-end.ensures, ap (λ (x : Config). x.lines) c.config.ensures.config, ap (λ (x : Config). x.lines) stands.config))
