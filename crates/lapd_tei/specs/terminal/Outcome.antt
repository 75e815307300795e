-- What the code's values stand for.
use Rattle.std.specs.Prelude.{Option, option_to_list}
use Rattle.lapd_frame.specs.declared.timers.Order.{Order}
use Rattle.lapd_tei.specs.Outcome.{told_of}
use Rattle.lapd_tei.specs.declared.outcome.TeiOutcome.{TeiOutcome}
use Rattle.lapd_tei.specs.declared.terminal.teis.TerminalTeis.TheInside.{Inside}
use Rattle.model_teis.specs.terminal.Machine.{Terminal, nothing}
use Rattle.model_teis.specs.terminal.Words.{Course}

-- where an event has led, as an outcome tells it
abbrev pub led_to : Terminal → TeiOutcome → Course
led_to m o = record { now = m; told = told_of o }

-- where a part of an event has led, which told no more than an order of T202
abbrev pub ordered : Terminal → Option Order → Course
ordered m o = record { now = m; told = record nothing { orders = option_to_list o } }

abbrev pub terminal_of : Inside → Terminal
terminal_of t = record { reading = t.reading; places = t.table; number = t.number; procedure = t.procedure; waiting = t.queue }
