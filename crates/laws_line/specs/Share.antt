-- What an event is to the contents of one link of a line: what it accepts, acknowledges and empties.
use Rattle.std.specs.Prelude.{Bool, true, false}
use Rattle.model_line.specs.Event.{Answer, told}

abbrev pub is_granted : Answer → Bool
is_granted (told t) = true
is_granted other = false
