-- The counters of the lines of a card.
use Rattle.std.specs.Prelude.{List, map}
use Rattle.lapd_count.specs.declared.counters.Counters.{Counters}
use Rattle.lapd_line.specs.declared.frame_line.FrameLine.{FrameLine}

abbrev pub counters_of : FrameLine → Counters
counters_of line = line.counters

abbrev pub counters_in : List FrameLine → List Counters
counters_in lines = map counters_of lines
