-- The links of the TEI are noted, or all links of the line, if they may have changed.
use Rattle.std.proofs.Common.{arith, ◌*◌, refl}
use Rattle.lapd_timed.proofs.Marked.{of-any, of-tei}
use Rattle.lapd_timed.proofs.PlacesMarked.{places-same}
use Rattle.lapd_timed.proofs.card_timers.CardTimers.note.Goals as goal

pub returns-then-tei-ne-GROUP-clause-noted : goal.returns-then-tei-ne-GROUP-clause-noted
returns-then-tei-ne-GROUP-clause-noted g c = λ old new marks stands but stood.
    c.note_tei.ensures.noted old new marks stands (of-tei c.args.self.now.lines (2 * c.args.self.now.terminals) c.args.line c.args.tei old new (λ group. absurd (omega (arith, c.if-tei-ne-GROUP.true, group))) but) stood

pub returns-then-not-has_same_places-clause-noted : goal.returns-then-not-has_same_places-clause-noted
returns-then-not-has_same_places-clause-noted g c = λ old new marks stands but stood.
    c.note_line.ensures.noted old new marks stands (of-any c.args.self.now.lines (2 * c.args.self.now.terminals) c.args.line c.args.tei old new but) stood

pub returns-else-not-has_same_places-clause-noted : goal.returns-else-not-has_same_places-clause-noted
returns-else-not-has_same_places-clause-noted g c = λ old new marks stands but stood.
    places-same c.args.self.now.lines c.args.self.now.terminals c.args.line c.args.tei c.args.self.now.moment c.args.self.now.changes old new marks (omega (arith, c.if-tei-ne-GROUP.false))
    (c.if-not-has_same_places.ensures refl new stands) but stood c.requires.line
