-- The timer that leads stops, and the one beside starts and leads in its stead.
use Rattle.std.proofs.Common.{◌∙◌, ◌≡◌, ◌<◌, true, length, sym, ap, arith, subst}
use Rattle.std.proofs.lemmas.List.{get_or_default}
use Rattle.lapd_clock.specs.Timer.{is_same}
use Rattle.lapd_clock.specs.declared.moments.lead.Lead.{Lead}
use Rattle.lapd_clock.specs.declared.moments.place.Place.{Place}
use Rattle.lapd_clock.proofs.Again.{are-apart, exchanged-is}
use Rattle.lapd_clock.proofs.Keeping.{place-there, of-this-line, takes-its-turn, used-before}
use Rattle.lapd_clock.proofs.moments.Moments.exchange.Goals as goal

pub invariant_of-self : goal.invariant_of-self
invariant_of-self c =
    let ps = c.self.inside.places.items in
    let j = c.in-Some.beside in
    let there : j < length ps = subst (λ xs. j < length xs) c.deref.ensures.value c.in-Some.ensures.there in
    let v = c.index_mut-starting.result.now in
    let same : c.index_mut-3.result.now ≡ c.index-before.result.now =
    c.index_mut-3.ensures.value ∙ get_or_default c.self.inside.leads.items c.args.line c.index_mut-3.result.now c.index-before.result.now (omega arith) ∙ sym c.index-before.ensures in
    takes-its-turn c.self.inside.not_before c.self.inside.found c.self.inside.each c.args.line c.self.inside.bounds.items c.self.inside.leads.items ps c.index-before.result.now c.index-leading.result.now c.self.invariant
    (omega arith) c.index-before.ensures c.index-leading.ensures j v c.index_mut.result.now c.args.started c.args.due_at there c.index_mut-starting.ensures.value
    (ap (λ (p : Place). p.line) (c.index_mut-starting.ensures.value ∙ get_or_default ps j v c.index.result.now there ∙ sym c.index.ensures) ∙ c.if-index-line.false)
    (are-apart c.args.is_next c.index-before.result.now.place j c.in-Some.ensures.beside) c.index_mut.ensures.value (omega (arith, c.if-due_at-before.false)) (omega arith)
    c.pass_to.new.self c.pass_to.ensures.place (c.pass_to.ensures.others ∙ ap (λ (l : Lead). l.others) same) (omega (arith, c.pass_to.ensures.used, ap (λ (l : Lead). l.used) same)) c.pass_to.ensures.counts
    (λ count used high. c.pass_to.ensures.few count (omega (arith, used, ap (λ (l : Lead). l.used) same)) high) c.put_sooner.new.not_before c.put_sooner.new.found c.put_sooner.ensures

pub returns-clause-done : goal.returns-clause-done
returns-clause-done c = λ _.
    let ps = c.self.inside.places.items in
    let j = c.in-Some.beside in
    let there : j < length ps = subst (λ xs. j < length xs) c.deref.ensures.value c.in-Some.ensures.there in
    let v = c.index_mut-starting.result.now in
    let same : is_same c.index-leading.result.now.timer c.args.stopped ≡ true = sym c.is.ensures ∙ c.if-not-is.false in
    let within = place-there c.self.inside.not_before c.self.inside.found c.self.inside.each c.args.line c.self.inside.bounds.items c.self.inside.leads.items ps c.index-before.result.now c.index-leading.result.now c.self.invariant (omega arith) c.index-before.ensures c.index-leading.ensures in
    let own = of-this-line c.self.inside.not_before c.self.inside.found c.self.inside.each c.args.line c.self.inside.bounds.items c.self.inside.leads.items ps c.index-before.result.now c.index-leading.result.now c.self.invariant (omega arith) c.index-before.ensures c.index-leading.ensures in
    exchanged-is ps c.args.self.now c.index-before.result.now.place j c.index-leading.result.now v c.index_mut.result.now c.args.line c.args.stopped c.args.started c.args.is_next c.args.due_at c.self.view_is within there c.in-Some.ensures.beside
    c.index-leading.ensures c.index_mut-starting.ensures.value c.index_mut.ensures.value own
    (ap (λ (p : Place). p.line) (c.index_mut-starting.ensures.value ∙ get_or_default ps j v c.index.result.now there ∙ sym c.index.ensures) ∙ c.if-index-line.false)
    same c.if-leading.false (omega arith)

pub pass_to-requires-clause-used : goal.pass_to-requires-clause-used
pass_to-requires-clause-used c = λ last.
    let same : c.index_mut-3.result.now ≡ c.index-before.result.now =
    c.index_mut-3.ensures.value ∙ get_or_default c.self.inside.leads.items c.args.line c.index_mut-3.result.now c.index-before.result.now (omega arith) ∙ sym c.index-before.ensures in
    let used = used-before c.self.inside.not_before c.self.inside.found c.self.inside.each c.args.line c.self.inside.bounds.items c.self.inside.leads.items c.self.inside.places.items c.index-before.result.now c.index-leading.result.now c.self.invariant
    (omega arith) c.index-before.ensures c.index-leading.ensures c.args.is_next c.in-Some.beside c.in-Some.ensures.beside last c.if-leading.false in
    omega (arith, used, ap (λ (l : Lead). l.used) same)
