-- The frame that a line of a card heard last.
use Rattle.std.specs.Prelude.{ℕ, ◌+◌, fold, Option, Some, None}
use Rattle.model_bits.specs.Heads.{head_of}
use Rattle.model_bits.specs.Stream.{Event, frame, overlong, dropped, heard_in}
use Rattle.model_bits.specs.declared.heads.Head.{Head}
use Rattle.model_card.specs.ports.Port.{Port}
use Rattle.model_card.specs.ports.Card.{OctetCard, port_at}

-- How the latest frame begins, after one more event. Of a frame that is too long nothing is kept but its first four octets, and
-- for its length stands the least that is too long: the address, the control field and N201 octets, and one more (profile).
abbrev pub or_heard : ℕ → Option Head → Event → Option Head
or_heard n201 before (frame octets) = head_of octets
or_heard n201 before (overlong octets) = Some (record { octets = octets; length = n201 + 5 })
or_heard n201 before (dropped cause) = before

-- How the latest frame begins that was heard in all octets received; none where there was none (Q.921 clauses 2.2 to 2.10).
abbrev pub head_heard : ℕ → Port → Option Head
head_heard n201 p = fold (or_heard n201) None (heard_in n201 p.received)

abbrev pub head_heard_at : ℕ → OctetCard → Option Head
head_heard_at number m = head_heard m.card.config.n201 (port_at number m)
