-- Worked values: a control frame that waits while other events of its line are between the calls for the next frame.
use Rattle.std.specs.Prelude.{◌≡◌, List, [], ◌∷◌, replicate, refl}
use Rattle.laws_line.specs.WorkedWords.{bits_dropped as dropped, Fcs, Call, exchanged, read_by, reading, header_of, control_of, unnumbered_of, supervisory_of, seq, distance_of, named, LineEvent as Event, hears, request, next, after, frames_before}
use Rattle.model_teis.specs.network.Events as teis
use Rattle.model_line.specs.Request
use Rattle.laws_line.specs.WorkedPolled.{small, asked}

-- Behind a poll its answer waits, after a UA. Then a wrong check is heard, layer 3 gives unit data, and the next frame is
-- called for.
abbrev pub events : List Event
events = hears (dropped Fcs) ∷ request (Request.Unit Call 127 (0xAB ∷ [])) ∷ replicate 4 next

pub frames_first : frames_before small asked 0 1 ≡ 2
unfolding after exchanged read_by reading header_of control_of unnumbered_of supervisory_of teis.course teis.refusal seq distance_of named
frames_first = refl
