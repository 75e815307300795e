-- Hand-written answers for `Clock::hold`.
use Rattle.lapd_clock.proofs.Vocabulary.{◌≡◌, false≢true, sym, ap, ◌∙◌, arith, subst, is_held, lengths_of, Timers}
use Rattle.lapd_clock.specs.Kept.{clock_of, IsKept}
use Rattle.lapd_clock.specs.Restoring.{with_held}
use Rattle.lapd_clock.proofs.Kept.{held, no-room-there, room-at}
use Rattle.lapd_clock.proofs.OwnPlace.{runs-held}
use Rattle.lapd_clock.proofs.clock.Clock.hold.Goals as goal

pub returns-in-Some-clause-refused : goal.returns-in-Some-clause-refused
returns-in-Some-clause-refused c = λ _ free.
    false≢true (sym free.free ∙ sym (ap (λ (t : Timers). is_held c.args.line c.args.held.timer t.running) c.self.view_is) ∙ runs-held c.args.line c.args.held.timer c.self.inside.moments c.in-Some._place c.in-Some.ensures.found)

pub returns-in_default-free-clause-refused : goal.returns-in_default-free-clause-refused
returns-in_default-free-clause-refused c = λ _ free.
    omega (arith, free.room, no-room-there (lengths_of c.self.inside.lengths) c.self.inside.lines c.self.inside.places c.self.inside.moments c.args.self.now c.self.view_is c.self.invariant c.args.line c.requires.line c.in_default-free.ensures.none)

kept : (c : goal.After-start) → IsKept (lengths_of c.self.inside.lengths) c.self.inside.lines c.self.inside.places c.start.new.self
    × (clock_of (lengths_of c.self.inside.lengths) c.self.inside.lines c.self.inside.places c.start.new.self ≡ with_held c.args.self.now c.args.line c.args.held)
kept c =
    subst (λ ms. IsKept (lengths_of c.self.inside.lengths) c.self.inside.lines c.self.inside.places ms × (clock_of (lengths_of c.self.inside.lengths) c.self.inside.lines c.self.inside.places ms ≡ with_held c.args.self.now c.args.line c.args.held))
    (sym c.start.ensures.after)
    (held (lengths_of c.self.inside.lengths) c.self.inside.lines c.self.inside.places c.self.inside.moments c.args.self.now c.self.view_is c.self.invariant c.args.line c.requires.line
    c.args.held c.in-Some-free.place c.in-Some-free.ensures.rests c.in_default.ensures.none c.requires.timer.moment)

pub invariant_of-self : goal.invariant_of-self
invariant_of-self c = (kept c).0

pub returns-clause-free : goal.returns-clause-free
returns-clause-free c = λ _. record {
  timer = c.requires.timer;
  free = sym (ap (λ (t : Timers). is_held c.args.line c.args.held.timer t.running) c.self.view_is) ∙ c.in_default.ensures.none;
  room = room-at (lengths_of c.self.inside.lengths) c.self.inside.lines c.self.inside.places c.self.inside.moments c.args.self.now c.self.view_is c.self.invariant c.args.line c.requires.line c.in-Some-free.place c.in-Some-free.ensures.rests;
}

pub returns-clause-after : goal.returns-clause-after
returns-clause-after c = λ _. (kept c).1
