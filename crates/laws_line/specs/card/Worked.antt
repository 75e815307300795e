-- Worked values: what was accepted over a run, and what waits to be sent.
use Rattle.std.specs.Prelude.{ℕ, List, [], ◌∷◌}
use Rattle.laws_line.specs.WorkedWords.{frame, Call, hears, request, Request, Assign, Data, Event, at}
pub use Rattle.laws_line.specs.Worked.{usual}

abbrev pub on_0 : Request → Event
on_0 r = at 0 (request r)

abbrev pub frame_comes : List ℕ → Event
frame_comes octets = at 0 (hears (frame octets))

-- TEI 64 on line 0, and its SABME
abbrev pub up : List Event
up = on_0 (Assign 64) ∷ frame_comes (0x00 ∷ 0x81 ∷ 0x7F ∷ []) ∷ []

abbrev asks : ℕ → Event
asks n = on_0 (Data Call 64 (n ∷ []))
