-- Hand-written answers for `Setup::until`.
use Rattle.lapd_sim.proofs.Vocabulary.{on}
use Rattle.lapd_sim.proofs.OneByOne.{leaves_told}
use Rattle.lapd_sim.proofs.Waits.{falls, still_before, waits_begins, waits_on, waits_in_vain, waits_over}
use Rattle.lapd_sim.proofs.setup.Setup.until.Goals as goal

pub loop-line-init : goal.loop-line-init
loop-line-init g c = record {
  waits = waits_begins c.args.self.now (on g.T.Target.taken c.args.page.now) c.args.end;
  stands = c.requires.stands;
  clear = c.nothing-report.ensures;
}

pub returns-in_err-tell : goal.returns-in_err-tell
returns-in_err-tell g c = λ m h.
    let w = c.loop-line.invariant.waits m h in
    leaves_told c.from_residual.result _ _ _ _ c.from_residual.ensures.0
    (waits_in_vain c.loop-line.self c.fall_due.new.self _ _ _ c.args.end c.in-Some.line c.fall_due.new.report m w (c.in-Some.ensures.due w.by_now.setup w.stands) (record {}) c.in_err-tell.ensures)

pub loop-line-smaller : goal.loop-line-smaller
loop-line-smaller g c =
    let m = c.loop-line.invariant.stands in
    falls c.loop-line.self c.fall_due.new.self c.args.end c.in-Some.line c.fall_due.new.report m.0 m.1 (c.in-Some.ensures.due m.0 m.1)

pub loop-line-preserved : goal.loop-line-preserved
loop-line-preserved g c =
    let m = c.loop-line.invariant.stands in
    record {
      waits = λ n h.
          let w = c.loop-line.invariant.waits n h in
          waits_on c.loop-line.self c.fall_due.new.self _ _ _ c.args.end c.in-Some.line c.fall_due.new.report n w (c.in-Some.ensures.due w.by_now.setup w.stands) tt c.in_ok-tell.ensures;
      stands = let x = c.in-Some.ensures.due m.0 m.1 in (_, x.stands, still_before c.loop-line.self c.fall_due.new.self c.args.end c.in-Some.line c.fall_due.new.report m.0 m.2 x);
      clear = c.nothing-report-in-Some.ensures;
    }

pub returns : goal.returns
returns g c = λ m h.
    let w = c.loop-line.invariant.waits m h in
    let none = c.in_default.ensures.none w.by_now.setup w.stands in
    waits_over c.loop-line.self _ _ _ c.args.end m w none.0 (c.go_to.ensures.after w.by_now.setup none.1)
