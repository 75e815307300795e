-- The frame that a pull of a line of a card began last.
use Rattle.std.specs.Prelude.{ℕ, List, Option}
use Rattle.model_bits.specs.Heads.{latest_frame, head_of}
use Rattle.model_bits.specs.declared.heads.Head.{Head}
use Rattle.model_card.specs.ports.Port.{Port}
use Rattle.model_card.specs.ports.Card.{OctetCard, port_at}

-- How the latest frame that was put on the line begins; none where there was none.
abbrev pub head_begun : Port → Option Head
head_begun p = head_of (latest_frame p.items)

-- And its octets, without its check; none where there was none.
abbrev pub frame_begun_at : ℕ → OctetCard → List ℕ
frame_begun_at number m = latest_frame (port_at number m).items

abbrev pub head_begun_at : ℕ → OctetCard → Option Head
head_begun_at number m = head_begun (port_at number m)
