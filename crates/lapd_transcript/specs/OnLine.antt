-- What a terminal that has sent nothing puts on its line, until a frame's closing flag is out.
use Rattle.std.specs.Prelude.{ℕ, List, []}
use Rattle.lapd_transcript.specs.Terminal.{octets_sent}

abbrev pub on_line : List ℕ → List ℕ
on_line frame = octets_sent frame (record { items = []; given = 0 })
