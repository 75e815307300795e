-- Worked values: a SABME. They are what the law of SABME and DISC asks of a line.
use Rattle.std.specs.Prelude.{[], ◌≡◌, true, length, Some, refl}
use Rattle.laws_line.specs.WorkedWords.{Sabme, Parts, exchanged, read_by, reading, header_of, control_of, unnumbered_of, supervisory_of, seq, distance_of, named, hears, request, Line, fresh_line, place_in, after, Assign, frames_to_go}
use Rattle.model_bits.specs.Stream as stream
use Rattle.model_teis.specs.network.Events as teis
use Rattle.laws_line.specs.WorkedPolled.{small, sabme_octets, call_link}

-- TEI 64 comes on the line, and then SABME with P=1 of the call control link.
abbrev pub sabme : Parts
sabme = record { address = record { sapi = 0; command = true; tei = 64 }; control = Sabme true; info = [] }

abbrev pub before_sabme : Line
before_sabme = after small (request (Assign 64)) (fresh_line small)

pub on_line : place_in before_sabme 64 ≡ Some 0
unfolding after exchanged read_by reading header_of control_of unnumbered_of supervisory_of teis.course teis.refusal seq distance_of named
on_line = refl

pub none_waits : length (call_link before_sabme).waiting ≡ 0
unfolding after exchanged read_by reading header_of control_of unnumbered_of supervisory_of teis.course teis.refusal seq distance_of named
none_waits = refl

-- Behind it the UA is to go: one call is enough.
pub one_to_go : frames_to_go small (after small (hears (stream.frame sabme_octets)) before_sabme) ≡ 1
unfolding after exchanged read_by reading header_of control_of unnumbered_of supervisory_of teis.course teis.refusal seq distance_of named
one_to_go = refl
