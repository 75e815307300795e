-- A timer starts or stops at its place: so does it in the set.
use Rattle.lapd_clock.proofs.Vocabulary.{◌+◌, ◌≤◌, sym, ap, ◌∙◌, subst, Start, Stop, lengths_of, with_order, finds_place}
use Rattle.lapd_clock.proofs.Kept.{found, not_found, started, stopped, unmoved, Obeys}
use Rattle.lapd_clock.proofs.Running.{refused_unchanged}
use Rattle.lapd_clock.proofs.clock.Clock.apply.Goals as goal

starts : (c : goal.After-start) → Obeys (lengths_of c.self.inside.lengths) c.self.inside.lines c.self.inside.places c.self.inside.moments c.args.self.now c.self.view_is c.self.invariant c.args.line c.requires.line
    c.start.new.self (Start c.in-Start.timer) c.args.now
starts c =
    subst (λ ms. Obeys (lengths_of c.self.inside.lengths) c.self.inside.lines c.self.inside.places c.self.inside.moments c.args.self.now c.self.view_is c.self.invariant c.args.line c.requires.line ms (Start c.in-Start.timer) c.args.now)
    (sym c.start.ensures.after)
    (started (lengths_of c.self.inside.lengths) c.self.inside.lines c.self.inside.places c.self.inside.moments c.args.self.now c.self.view_is c.self.invariant c.args.line c.requires.line
    c.in-Start.timer c.in-Some.place (c.args.now + c.of.result) c.args.now c.in-Some.ensures.place (ap (λ d. c.args.now + d) c.of.ensures.is) c.requires.now (subst (λ d. d ≤ 3600000) c.of.ensures.is c.of.ensures.most))

stops : (c : goal.After-stop) → Obeys (lengths_of c.self.inside.lengths) c.self.inside.lines c.self.inside.places c.self.inside.moments c.args.self.now c.self.view_is c.self.invariant c.args.line c.requires.line
    c.stop.new.self (Stop c.in-Stop.timer) c.args.now
stops c =
    subst (λ ms. Obeys (lengths_of c.self.inside.lengths) c.self.inside.lines c.self.inside.places c.self.inside.moments c.args.self.now c.self.view_is c.self.invariant c.args.line c.requires.line ms (Stop c.in-Stop.timer) c.args.now)
    (sym c.stop.ensures.after)
    (stopped (lengths_of c.self.inside.lengths) c.self.inside.lines c.self.inside.places c.self.inside.moments c.args.self.now c.self.view_is c.self.invariant c.args.line c.requires.line
    c.in-Stop.timer c.in-Some-find.place c.args.now c.in-Some-find.ensures.found)

pub returns-in_default-clause-placed : goal.returns-in_default-clause-placed
returns-in_default-clause-placed c =
    not_found (lengths_of c.self.inside.lengths) c.self.inside.lines c.self.inside.places c.self.inside.moments c.args.self.now c.self.view_is c.self.invariant c.args.line c.requires.line
    c.in-Start.timer c.in_default.ensures.nowhere c.in_default.ensures.full
    ∙ ap (finds_place c.args.self.now c.args.line) (sym c.in-Start.is)

pub returns-in_default-clause-after : goal.returns-in_default-clause-after
returns-in_default-clause-after c = sym (refused_unchanged c.args.self.now c.args.line c.args.order c.args.now (sym (returns-in_default-clause-placed c)))

pub invariant_of-self : goal.invariant_of-self
invariant_of-self c = (starts c).kept_after

pub invariant_of-self-in-Some-find : goal.invariant_of-self-in-Some-find
invariant_of-self-in-Some-find c = (stops c).kept_after

pub returns-in-Some-clause-placed : goal.returns-in-Some-clause-placed
returns-in-Some-clause-placed c =
    found (lengths_of c.self.inside.lengths) c.self.inside.lines c.self.inside.places c.self.inside.moments c.args.self.now c.self.view_is c.self.invariant c.args.line c.requires.line
    c.in-Start.timer c.in-Some.place c.in-Some.ensures.place
    ∙ ap (finds_place c.args.self.now c.args.line) (sym c.in-Start.is)

pub returns-in-Some-clause-after : goal.returns-in-Some-clause-after
returns-in-Some-clause-after c = (starts c).after ∙ ap (λ o. with_order c.args.self.now c.args.line o c.args.now) (sym c.in-Start.is)

pub returns-in-Some-clause-sound : goal.returns-in-Some-clause-sound
returns-in-Some-clause-sound c = (starts c).kept_after.sound

pub returns-in-Some-find-clause-placed : goal.returns-in-Some-find-clause-placed
unfolding finds_place
returns-in-Some-find-clause-placed c = sym (ap (finds_place c.args.self.now c.args.line) c.in-Stop.is)

pub returns-in-Some-find-clause-after : goal.returns-in-Some-find-clause-after
returns-in-Some-find-clause-after c = (stops c).after ∙ ap (λ o. with_order c.args.self.now c.args.line o c.args.now) (sym c.in-Stop.is)

pub returns-in-Some-find-clause-sound : goal.returns-in-Some-find-clause-sound
returns-in-Some-find-clause-sound c = (stops c).kept_after.sound

pub returns-in_default-find-clause-placed : goal.returns-in_default-find-clause-placed
unfolding finds_place
returns-in_default-find-clause-placed c = sym (ap (finds_place c.args.self.now c.args.line) c.in-Stop.is)

pub returns-in_default-find-clause-after : goal.returns-in_default-find-clause-after
returns-in_default-find-clause-after c =
    sym c.self.view_is
    ∙ unmoved (lengths_of c.self.inside.lengths) c.self.inside.lines c.self.inside.places c.self.inside.moments c.args.self.now c.self.view_is c.self.invariant c.args.line c.requires.line
    c.in-Stop.timer c.args.now c.in_default-find.ensures.none
    ∙ ap (λ o. with_order c.args.self.now c.args.line o c.args.now) (sym c.in-Stop.is)
