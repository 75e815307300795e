-- How many octets a card received.
use Rattle.std.specs.Prelude.{ℕ, length, sum_by}
use Rattle.model_card.specs.ports.Port.{Port}
use Rattle.model_card.specs.ports.Card.{OctetCard}

-- On all lines together.
abbrev pub octets_of_port : Port → ℕ
octets_of_port p = length p.received

abbrev pub octets_received : OctetCard → ℕ
octets_received m = sum_by octets_of_port m.ports
