-- What is counted of a line: what its events and their answers show.
use Rattle.std.specs.Prelude.{List, [], ◌++◌, Some}
use Rattle.std.specs.Option.{option_map_or}
use Rattle.lapd_count.specs.declared.counters.Counters.{Counters}
use Rattle.lapd_frame.specs.declared.addresses.Side.{Side}
use Rattle.lapd_count.specs.Counters.{More, with_all}
use Rattle.lapd_count.specs.Shown.{begun_shown, heard_shown, told_shown}
use Rattle.model_line.specs.declared.config.Config.{Config}
use Rattle.model_line.specs.Event.{Event, hears, Answer, told, refused, gave}
use Rattle.model_line.specs.Line as machine
use Rattle.model_line.specs.Machine.{answer}

-- An answer shows what it tells, which is notes, the cause of a drop and how many frames were lost, or the frame that it gives. A
-- refusal shows nothing.
abbrev pub answer_shown : Side → Answer → List More
answer_shown side (told t) = told_shown t.notes t.cause t.lost
answer_shown side (refused why) = []
answer_shown side (gave frame) = option_map_or (λ next. begun_shown side next.octets) frame []

-- What an event and its answer show: what is heard, and the answer.
abbrev pub shown : Config → Event → Answer → List More
shown c (hears e) a = heard_shown c.side (Some e) ++ answer_shown c.side a
shown c other a = answer_shown c.side a

-- The counters after an event at a line.
abbrev pub counted : Config → Event → machine.Line → Counters → Counters
counted c e l k = with_all k (shown c e (answer c e l))
