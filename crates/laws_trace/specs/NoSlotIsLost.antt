-- No slot of the pool is lost.
use Rattle.std.specs.Prelude.{◌≡◌, ℕ, ◌+◌, ◌≤◌, List, length, sum_by}
use Rattle.std.specs.List.{range_with_len}
use Rattle.lapd_frame.specs.declared.refusals.Refusal.TheVariants.{PoolFull}
use Rattle.lapd_frame.specs.declared.services.Service.TheVariants.{Call, Packet}
use Rattle.model_line.specs.declared.config.Config.{Config}
use Rattle.model_line.specs.Event.{refused, request}
use Rattle.model_line.specs.Request.{Request}
use Rattle.model_card.specs.Card.{fresh}
use Rattle.model_card.specs.Event.{Event, at}
use Rattle.model_card.specs.Machine.{answer}
use Rattle.model_card.specs.Run.{after_all}
use Rattle.laws_trace.specs.Outgoing.{outgoing_of}
use Rattle.laws_trace.specs.UnitsGoOut.{units_of}

-- The contents that the links of a TEI keep, to whoever watches their line.
abbrev pub kept_at : Config → List Event → ℕ → ℕ → ℕ
kept_at c events number tei = length (outgoing_of c Call tei number events).kept + length (outgoing_of c Packet tei number events).kept

-- Of all lines these, and the unit data that waits: each takes a slot of the pool (profile).
abbrev pub slots_taken : Config → List Event → ℕ
slots_taken c events = sum_by (λ number. length (units_of c events number) + sum_by (kept_at c events number) (range_with_len 0 127)) (range_with_len 0 c.lines)

-- So there are no more than slots, and where a request finds the pool full, as many.
abbrev pub NoSlotIsLost : Config → List Event → ℕ → Type 0
NoSlotIsLost c events number =
    (slots_taken c events ≤ c.slots) × ((r : Request) → answer (at number (request r)) (after_all (fresh c) events) ≡ refused PoolFull → slots_taken c events ≡ c.slots)
