-- The frame that a line of a card has heard with the latest octet that came.
use Rattle.std.specs.Prelude.{ℕ, ◌-◌, List, [], length, take, slice_get, Option}
use Rattle.std.specs.Option.{option_map_or}
use Rattle.model_bits.specs.Stream.{Event, frame, overlong, dropped, heard_in}
use Rattle.model_card.specs.ports.Card.{OctetCard, port_at}

-- What the latest of some octets has ended, if it has ended anything: what is heard in all of them, and was not heard in those
-- before it. No octet has ended nothing.
abbrev pub before_latest : List ℕ → List ℕ
before_latest octets = take (length octets - 1) octets

abbrev pub ended_by_latest : ℕ → List ℕ → Option Event
ended_by_latest n201 octets = slice_get (heard_in n201 octets) (length (heard_in n201 (before_latest octets)))

abbrev pub ended_at : ℕ → OctetCard → Option Event
ended_at number m = ended_by_latest m.card.config.n201 (port_at number m).received

-- The octets of the frame that this is, without its check: of one that is too long to be kept, its first four; of none, none.
abbrev pub octets_in : Event → List ℕ
octets_in (frame octets) = octets
octets_in (overlong octets) = octets
octets_in (dropped cause) = []

abbrev pub frame_heard_at : ℕ → OctetCard → List ℕ
frame_heard_at number m = option_map_or octets_in (ended_at number m) []
