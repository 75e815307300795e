-- The moment noted of the link, where its TEI is on the line.
use Rattle.std.proofs.Common.{arith, ◌∙◌, ◌*◌, Some, ap}
use Rattle.std.specs.Prelude.{option_map}
use Rattle.lapd_timed.specs.Marked.{moment_in}
use Rattle.lapd_timed.proofs.Marked.{slot-of}
use Rattle.lapd_timed.proofs.card_timers.CardTimers.changed_at.Goals as goal

pub returns-in_err-number : goal.returns-in_err-number
returns-in_err-number g c = λ m marks stands stood. ap (λ o. o) c.from_residual.ensures ∙ ap (option_map (moment_in marks c.args.line)) (c.in_err-number.ensures.is m stands (omega (arith, stood.terminals_are)))

pub at-requires : goal.at-requires
at-requires g c = slot-of c.args.self.now.lines (2 * c.args.self.now.terminals) c.args.line c.in_ok-number.number c.args.self.now.changes c.args.self.now.links c.args.self.now.marks c.requires.line c.in_ok-number.ensures.few

pub returns : goal.returns
returns g c = λ m marks stands stood.
    ap Some (c.at.ensures ∙ ap (λ k. k.moment) (stood.held c.args.line c.in_ok-number.number c.requires.line c.in_ok-number.ensures.few))
    ∙ ap (option_map (moment_in marks c.args.line)) (c.in_ok-number.ensures.is m stands (omega (arith, stood.terminals_are)))
