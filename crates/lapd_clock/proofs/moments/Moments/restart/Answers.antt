-- The place that leads in its line is started anew, and leads still.
use Rattle.std.proofs.Common.{◌∙◌, ◌≡◌, true, sym, arith}
use Rattle.lapd_clock.specs.Timer.{is_same}
use Rattle.lapd_clock.proofs.Again.{restarted-is}
use Rattle.lapd_clock.proofs.Keeping.{place-there, of-this-line, restarted}
use Rattle.lapd_clock.proofs.moments.Moments.restart.Goals as goal

pub invariant_of-self-2 : goal.invariant_of-self-2
invariant_of-self-2 c =
    restarted c.self.inside.not_before c.self.inside.found c.self.inside.each c.args.line c.self.inside.bounds.items c.self.inside.leads.items c.self.inside.places.items c.index-lead.result.now c.index_mut-leading.result.now c.self.invariant
    (omega arith) c.index-lead.ensures c.index_mut-leading.ensures.value c.args.moment (omega arith) (omega arith) c.if-leading.false

pub returns-clause-done : goal.returns-clause-done
returns-clause-done c = λ _.
    let same : is_same c.index_mut-leading.result.now.timer c.args.timer ≡ true = sym c.is.ensures ∙ c.if-not-is.false in
    let kept = c.self.invariant in
    let within = place-there c.self.inside.not_before c.self.inside.found c.self.inside.each c.args.line c.self.inside.bounds.items c.self.inside.leads.items c.self.inside.places.items c.index-lead.result.now c.index_mut-leading.result.now kept (omega arith) c.index-lead.ensures c.index_mut-leading.ensures.value in
    let own = of-this-line c.self.inside.not_before c.self.inside.found c.self.inside.each c.args.line c.self.inside.bounds.items c.self.inside.leads.items c.self.inside.places.items c.index-lead.result.now c.index_mut-leading.result.now kept (omega arith) c.index-lead.ensures c.index_mut-leading.ensures.value in
    restarted-is c.self.inside.places.items c.args.self.now c.index-lead.result.now.place c.index_mut-leading.result.now c.args.line c.args.timer c.args.moment c.self.view_is within c.index_mut-leading.ensures.value own same c.if-leading.false (omega arith)
