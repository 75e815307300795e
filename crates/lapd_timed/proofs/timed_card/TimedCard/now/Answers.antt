-- The timers have the moment.
use Rattle.std.proofs.Common.{◌∙◌, ap, sym}
use Rattle.lapd_timed.specs.Stands.{moment_of}
use Rattle.lapd_timed.proofs.timed_card.TimedCard.now.Goals as goal

pub returns-in-Some : goal.returns-in-Some
returns-in-Some c = c.now.ensures ∙ sym (ap moment_of c.in-Some.is)
