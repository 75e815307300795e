-- How much room a link of a card has.
use Rattle.std.specs.Prelude.{◌≡◌, ℕ, ◌-◌, ◌≤◌, List, length, Result, IsTrue}
use Rattle.lapd_frame.specs.declared.refusals.Refusal.{Refusal}
use Rattle.lapd_frame.specs.declared.services.Service.{Service}
use Rattle.model_link.specs.declared.rooms.Room.{Room}
use Rattle.model_link.specs.Link.{is_multiple_frame}
use Rattle.model_link.specs.Room.{refusal_for}
use Rattle.model_line.specs.Line.{link_of}
use Rattle.model_line.specs.Refusal.{refusal}
use Rattle.model_line.specs.Request.{Data}
use Rattle.model_line.specs.Room.{room_in}
use Rattle.model_card.specs.Card.{Card, line_at, used, is_full}

-- The slots of the pool that are free.
abbrev pub free : Card → ℕ
free card = card.config.slots - used card

-- The room of the link of a service with a TEI of a line; or why there is no such link.
abbrev pub room : ℕ → Service → ℕ → Card → Result Room Refusal
room number service tei card = room_in card.config (free card) service tei (line_at number card)

-- In state 7 or 8 a request to send contents that are not too long is refused for room, exactly as this room has it.
abbrev pub RefusesBy : Room → ℕ → Service → ℕ → Card → Type 0
RefusesBy room number service tei card =
    (contents : List ℕ) → IsTrue (is_multiple_frame (link_of service tei (line_at number card)).state)
    → length contents ≤ card.config.n201
    → refusal card.config (is_full card) (Data service tei contents) (line_at number card) ≡ refusal_for room
