-- What a deframer's answer says, seen without references.
use Rattle.std.specs.Prelude.{Option, Some, None}
use Rattle.model_bits.specs.Stream.{Event, frame, overlong, dropped}
use Rattle.model_bits.specs.declared.heard.Heard.{Heard}
use Rattle.model_bits.specs.declared.heard.Heard.TheVariants.{Nothing, Dropped, Frame, Overlong}

-- The event that is told, or none.
abbrev pub heard_of : Heard → Option Event
heard_of Nothing = None
heard_of (Dropped cause) = Some (dropped cause)
heard_of (Frame octets) = Some (frame octets.now)
heard_of (Overlong octets) = Some (overlong octets)
