-- The first of the places is the first of the set.
use Rattle.lapd_clock.proofs.Vocabulary.{◌≡◌, ◌-◌, ◌<◌, min, arith, lengths_of, never, recursion_from_All, Expiry}
use Rattle.lapd_clock.proofs.Calls as calls
use Rattle.lapd_clock.proofs.Kept.{after_is, due_is, kept_then, sound_then}
use Rattle.lapd_clock.proofs.clock.Clock.due.Goals as goal

until : (c : goal.After-due) → c.min.result ≡ min c.args.now (never - 1)
until c = omega (arith, c.min.ensures)

pub invariant_of-self : goal.invariant_of-self
invariant_of-self c =
    kept_then (lengths_of c.self.inside.lengths) c.self.inside.lines c.self.inside.places c.self.inside.moments c.due.new.self c.args.self.now c.self.view_is c.self.invariant c.args.now c.min.result (until c)
    c.due.result c.due.ensures.due c.due.ensures.taken c.due.ensures.unchanged

pub returns-clause-due : goal.returns-clause-due
returns-clause-due c =
    due_is (lengths_of c.self.inside.lengths) c.self.inside.lines c.self.inside.places c.self.inside.moments c.due.new.self c.args.self.now c.self.view_is c.self.invariant c.args.now c.min.result (until c)
    c.due.result c.due.ensures.due c.due.ensures.taken c.due.ensures.unchanged

pub returns-clause-after : goal.returns-clause-after
returns-clause-after c =
    after_is (lengths_of c.self.inside.lengths) c.self.inside.lines c.self.inside.places c.self.inside.moments c.due.new.self c.args.self.now c.self.view_is c.self.invariant c.args.now c.min.result (until c)
    c.due.result c.due.ensures.due c.due.ensures.taken c.due.ensures.unchanged

pub returns-clause-least : goal.returns-clause-least
returns-clause-least c =
    let sound = sound_then (lengths_of c.self.inside.lengths) c.self.inside.lines c.self.inside.places c.self.inside.moments c.due.new.self c.args.self.now c.self.view_is c.self.invariant c.args.now c.min.result (until c)
    c.due.result c.due.ensures.due c.due.ensures.taken c.due.ensures.unchanged in
    calls.least c.args.self.now c.args.now sound c.args.self.now.running (λ _. c.args.self.now.running) c.due.result (returns-clause-due c)

pub returns-clause-none : goal.returns-clause-none
returns-clause-none c =
    let sound = sound_then (lengths_of c.self.inside.lengths) c.self.inside.lines c.self.inside.places c.self.inside.moments c.due.new.self c.args.self.now c.self.view_is c.self.invariant c.args.now c.min.result (until c)
    c.due.result c.due.ensures.due c.due.ensures.taken c.due.ensures.unchanged in
    calls.none c.args.self.now c.args.now sound c.args.self.now.running sound.in_order c.due.result (returns-clause-due c)

pub returns-clause-line : goal.returns-clause-line
returns-clause-line c =
    let sound = sound_then (lengths_of c.self.inside.lengths) c.self.inside.lines c.self.inside.places c.self.inside.moments c.due.new.self c.args.self.now c.self.view_is c.self.invariant c.args.now c.min.result (until c)
    c.due.result c.due.ensures.due c.due.ensures.taken c.due.ensures.unchanged in
    calls.of_line c.args.self.now c.args.now sound c.args.self.now.running (recursion_from_All (λ (e : Expiry). e.line < c.args.self.now.lines) c.args.self.now.running sound.on_lines) c.due.result (returns-clause-due c)

pub returns-clause-sound : goal.returns-clause-sound
returns-clause-sound c = (invariant_of-self c).sound
