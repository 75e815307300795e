-- Hand-written answers for `Clock::read_line`.
use Rattle.std.proofs.Common.{◌+◌, ◌++◌, ◌∷◌, [], arith, ap, length-append, refl, sym, subst, ◌∙◌}
use Rattle.lapd_image.proofs.Reading.{on_err}
use Rattle.lapd_image.proofs.ReadLists.{list-end, list-none, read-more, read-none}
use Rattle.lapd_clock.specs.Image.{timer}
use Rattle.lapd_clock.specs.Restoring.{AreFree, IsFree, IsTimer, with_held, with_line}
use Rattle.lapd_clock.specs.Timers.{Timers}
use Rattle.lapd_clock.proofs.ImageRead.{line-kept, timer-read}
use Rattle.lapd_clock.proofs.Restoring.{free-last, free-push, line-push}
use Rattle.lapd_clock.proofs.clock.Clock.read_line.Goals as goal

pub loop-init : goal.loop-init
loop-init c = record { timers = []; many = refl; read = read-none timer IsTimer timer-read (AreFree c.args.self.now c.args.line) (line-kept _ _) c.octet.new.self tt; run = refl; lines = refl }

pub read_timer-requires : goal.read_timer-requires
read_timer-requires c = omega (arith, c.requires, c.loop.invariant.lines)

pub returns-in_err-read_timer-clause-none : goal.returns-in_err-read_timer-clause-none
returns-in_err-read_timer-clause-none c =
    let old = c.args.self.now in
    let done = c.loop.invariant.timers in
    on_err c.from_residual-in_err-read_timer.result
    (list-none timer IsTimer timer-read (AreFree old c.args.line) (line-kept old c.args.line) done c.in_ok-count.ensures.read (omega (arith, c.loop-test.true, c.loop.invariant.many)) c.loop.invariant.read
    (λ h rest free e. c.in_err-read_timer.ensures.none h rest (subst (λ (t : Timers). IsFree t c.args.line h) (sym c.loop.invariant.run) (free-last old c.args.line done h free)) e))

pub returns-in_err-read_timer-clause-lines : goal.returns-in_err-read_timer-clause-lines
returns-in_err-read_timer-clause-lines c = c.in_err-read_timer.ensures.lines ∙ c.loop.invariant.lines

pub loop-preserved : goal.loop-preserved
loop-preserved c =
    let old = c.args.self.now in
    let done = c.loop.invariant.timers in
    let read = c.in_ok-read_timer.ensures.read in
    let h = read.0 in
    let free : IsFree (with_line old c.args.line done) c.args.line h = subst (λ (t : Timers). IsFree t c.args.line h) c.loop.invariant.run read.1.saved in
    record {
      timers = done ++ h ∷ [];
      many = length-append done (h ∷ []) ∙ ap (λ n. n + 1) c.loop.invariant.many;
      read = read-more timer IsTimer timer-read (AreFree old c.args.line) (line-kept old c.args.line) done c.loop.invariant.read
          (record { saved = free-push old c.args.line done h c.loop.invariant.read.saved free; octets = read.1.octets });
      run = read.2 ∙ ap (λ (t : Timers). with_held t c.args.line h) c.loop.invariant.run ∙ sym (line-push old c.args.line done h);
      lines = c.in_ok-read_timer.ensures.lines ∙ c.loop.invariant.lines;
    }

pub returns-clause-read : goal.returns-clause-read
returns-clause-read c =
    let old = c.args.self.now in
    let done = c.loop.invariant.timers in
    (done, list-end timer IsTimer timer-read (AreFree old c.args.line) (line-kept old c.args.line) done c.in_ok-count.ensures.read (omega (arith, c.loop-test.false, c.loop.auto.counter-end, c.loop.invariant.many)) c.loop.invariant.read, c.loop.invariant.run)

pub returns-clause-lines : goal.returns-clause-lines
returns-clause-lines c = c.loop.invariant.lines
