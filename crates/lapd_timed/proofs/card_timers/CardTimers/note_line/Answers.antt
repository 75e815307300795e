-- All links of the line are noted.
use Rattle.std.proofs.Common.{arith, ◌*◌}
use Rattle.lapd_timed.proofs.Marked.{slot-of, line-noted}
use Rattle.lapd_timed.proofs.card_timers.CardTimers.note_line.Goals as goal

pub note_all-requires-clause-there : goal.note_all-requires-clause-there
note_all-requires-clause-there g c = λ number less.
    slot-of c.args.self.now.lines (2 * c.args.self.now.terminals) c.args.line number c.args.self.now.changes c.args.self.now.links c.args.self.now.marks c.requires.line (omega (arith, less, c.args.self.now.links))

pub returns-clause-noted : goal.returns-clause-noted
returns-clause-noted g c = λ old new marks stands but stood.
    line-noted c.args.self.now.lines (2 * c.args.self.now.terminals) c.args.line c.args.self.now.moment c.args.self.now.changes c.note_all.new.self old new marks c.states_of-states.result (omega (arith, c.args.self.now.few_terminals))
    (c.states_of-states.ensures new stands) c.note_all.ensures.noted but stood c.requires.line
