-- Hand-written answers for `Clock::read_lines`.
use Rattle.std.proofs.Common.{◌+◌, ◌++◌, ◌∷◌, [], All, ℕ, arith, ap, length, length-append, refl, sym, subst, ◌∙◌}
use Rattle.lapd_image.specs.Numbers.{list_of}
use Rattle.lapd_image.proofs.Reading.{on_err}
use Rattle.lapd_image.proofs.ReadLists.{none-more, read-more, read-none}
use Rattle.lapd_clock.specs.Image.{timer}
use Rattle.lapd_clock.specs.Restoring.{AreFree, AreFreeLines, IsTimer, with_line, with_lines}
use Rattle.lapd_clock.specs.Timers.{Timers}
use Rattle.lapd_clock.proofs.ImageRead.{lines-kept, list-of-timers}
use Rattle.lapd_clock.proofs.Restoring.{all-push, all_free-last, all_free-push}
use Rattle.lapd_clock.proofs.clock.Clock.read_lines.Goals as goal

pub loop-line-init : goal.loop-line-init
loop-line-init c = record { lists = []; many = refl; read = read-none (list_of timer) (All IsTimer) list-of-timers (AreFreeLines c.args.self.now 0) (lines-kept _ _) c.args.reader.now tt; run = refl; lines = refl }

pub read_line-requires : goal.read_line-requires
read_line-requires c =
    let lines = ap (λ (t : Timers). t.lines) c.self.view_is in
    omega (arith, c.loop-line-test.true, lines, c.loop-line.invariant.lines)

pub returns-in_err-read_line-clause-none : goal.returns-in_err-read_line-clause-none
returns-in_err-read_line-clause-none c =
    let old = c.args.self.now in
    let done = c.loop-line.invariant.lists in
    let size = ap (λ (t : Timers). t.lines) c.self.view_is in
    on_err c.from_residual.result
    (λ lines rest many free e.
    none-more (list_of timer) (All IsTimer) list-of-timers (AreFreeLines old 0) (lines-kept old 0) done c.loop-line.invariant.read
    (λ hs rest free e. c.in_err-read_line.ensures.none hs rest
    (subst (λ (n : ℕ). AreFree c.loop-line.self n hs) c.loop-line.invariant.many (subst (λ (t : Timers). AreFree t (length done) hs) (sym c.loop-line.invariant.run) (all_free-last old done hs free))) e)
    lines rest (omega (arith, many, c.loop-line-test.true, size, c.loop-line.invariant.many)) free e)

pub loop-line-preserved : goal.loop-line-preserved
loop-line-preserved c =
    let old = c.args.self.now in
    let done = c.loop-line.invariant.lists in
    let read = c.in_ok-read_line.ensures.read in
    let hs = read.0 in
    let free : AreFree (with_lines old 0 done) (length done) hs =
    subst (λ (t : Timers). AreFree t (length done) hs) c.loop-line.invariant.run (subst (λ (n : ℕ). AreFree c.loop-line.self n hs) (sym c.loop-line.invariant.many) read.1.saved) in
    record {
      lists = done ++ hs ∷ [];
      many = length-append done (hs ∷ []) ∙ ap (λ n. n + 1) c.loop-line.invariant.many;
      read = read-more (list_of timer) (All IsTimer) list-of-timers (AreFreeLines old 0) (lines-kept old 0) done c.loop-line.invariant.read
          (record { saved = all_free-push old done hs c.loop-line.invariant.read.saved free; octets = read.1.octets });
      run = read.2 ∙ ap (λ (t : Timers). with_line t c.loop-line.line hs) c.loop-line.invariant.run ∙ ap (λ n. with_line (with_lines old 0 done) n hs) (sym c.loop-line.invariant.many) ∙ sym (all-push old done hs);
      lines = c.in_ok-read_line.ensures.lines ∙ c.loop-line.invariant.lines;
    }

pub returns-clause-read : goal.returns-clause-read
returns-clause-read c =
    let size = ap (λ (t : Timers). t.lines) c.self.view_is in
    (c.loop-line.invariant.lists, omega (arith, c.loop-line-test.false, c.loop-line.auto.line-end, size, c.loop-line.invariant.many), c.loop-line.invariant.read, c.loop-line.invariant.run)
