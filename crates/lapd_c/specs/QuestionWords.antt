-- By which word of the machine each question to a card is answered, or which status says why not.
use Rattle.std.specs.Prelude.{◌==◌, nat_lt, if◌then◌else◌, ℕ, List, ◌++◌, length, drop, Option, Some, None, option_map, Result, Ok, Err}
use Rattle.std.specs.Option.{unwrap_or}
use Rattle.lapd_frame.specs.declared.refusals.Refusal.{Refusal}
use Rattle.lapd_frame.specs.declared.refusals.Refusal.TheVariants.{NoLink}
use Rattle.lapd_frame.specs.declared.services.Service.{Service}
use Rattle.model_card.specs.Card.{Card, counts, state}
use Rattle.model_card.specs.Room.{room}
use Rattle.model_card.specs.ports.Begun.{frame_begun_at, head_begun_at}
use Rattle.model_card.specs.ports.FrameHeard.{frame_heard_at}
use Rattle.model_card.specs.ports.HeadHeard.{head_heard_at}
use Rattle.model_card.specs.ports.Stored.{limit}
use Rattle.model_link.specs.declared.rooms.Room.{Room}
use Rattle.lapd_card.specs.Kinds.{Machine, with_ports, alone, card_in, stored}
use Rattle.lapd_card.specs.Waiting.{next_waiting}
use Rattle.lapd_c.specs.declared.plain.counters.PlainLinkCounters.{PlainLinkCounters}
use Rattle.lapd_c.specs.declared.plain.heads.PlainHead.{PlainHead}
use Rattle.lapd_c.specs.declared.plain.rooms.PlainRoom.{PlainRoom}
use Rattle.lapd_c.specs.Counters.{plain_link_counters}
use Rattle.lapd_c.specs.Heads.{plain_head}
use Rattle.lapd_c.specs.Rooms.{plain_room}
use Rattle.lapd_c.specs.Services.{if_ok}
use Rattle.lapd_c.specs.Statuses as status
use Rattle.lapd_c.specs.Statuses.{refusal_status}
use Rattle.lapd_c.specs.Timers.{link_in}

-- How the frame begins that a pull of a line began last, and the one that was heard last.
abbrev pub begun_of : ℕ → Machine → Result PlainHead ℕ
begun_of line (with_ports m) = Ok (plain_head (head_begun_at line m))
begun_of line (alone m) = Err status.wrong_card

abbrev pub heard_of : ℕ → Machine → Result PlainHead ℕ
heard_of line (with_ports m) = Ok (plain_head (head_heard_at line m))
heard_of line (alone m) = Err status.wrong_card

-- The same two frames whole, but of frames heard that which the latest octet has ended. Each stands in front of other octets, if it
-- has room there. So many octets it has.
abbrev pub in_front : List ℕ → List ℕ → Result (List ℕ × ℕ) ℕ
in_front out octets =
    if length octets == 0 then Err status.no_frame else if nat_lt (length out) (length octets) then Err status.wrong_length
    else Ok (octets ++ drop (length octets) out, length octets)

abbrev pub begun_frame_of : ℕ → List ℕ → Machine → Result (List ℕ × ℕ) ℕ
begun_frame_of line out (with_ports m) = in_front out (frame_begun_at line m)
begun_frame_of line out (alone m) = Err status.wrong_card

abbrev pub heard_frame_of : ℕ → List ℕ → Machine → Result (List ℕ × ℕ) ℕ
heard_frame_of line out (with_ports m) = in_front out (frame_heard_at line m)
heard_frame_of line out (alone m) = Err status.wrong_card

-- On which line a frame waits first, of those from one on.
abbrev pub or_status : {A : Type 0} → ℕ → Option A → Result A ℕ
or_status wrong None = Err wrong
or_status wrong (Some value) = Ok value

abbrev pub waiting_from : ℕ → Machine → Result ℕ ℕ
waiting_from from m = or_status status.no_frame (next_waiting from (card_in m))

-- The state of a link, 0 if its TEI is not on the line; and its room.
abbrev pub state_of : ℕ → ℕ → ℕ → Machine → Result ℕ ℕ
state_of line service tei m = if_ok (λ link. unwrap_or (state line link.0 link.1 (card_in m)) 0) (link_in service tei)

abbrev pub room_told : Result Room Refusal → Result PlainRoom ℕ
room_told (Ok is) = Ok (plain_room is)
room_told (Err why) = Err (refusal_status why)

abbrev pub room_at : ℕ → Card → Result (Service × ℕ) ℕ → Result PlainRoom ℕ
room_at line m (Ok link) = room_told (room line link.0 link.1 m)
room_at line m (Err wrong) = Err wrong

abbrev pub room_of : ℕ → ℕ → ℕ → Machine → Result PlainRoom ℕ
room_of line service tei m = room_at line (card_in m) (link_in service tei)

-- What was counted of a link, if its TEI is on the line.
abbrev pub link_counters_at : ℕ → Card → Result (Service × ℕ) ℕ → Result PlainLinkCounters ℕ
link_counters_at line m (Ok link) = or_status (refusal_status NoLink) (option_map plain_link_counters (counts line link.0 link.1 m))
link_counters_at line m (Err wrong) = Err wrong

abbrev pub link_counters_of : ℕ → ℕ → ℕ → Machine → Result PlainLinkCounters ℕ
link_counters_of line service tei m = link_counters_at line (card_in m) (link_in service tei)

-- How many octets a card stores, and stores at most; and how many lines it has.
abbrev pub stored_of : Machine → Result ℕ ℕ
stored_of m = Ok (stored m)

abbrev pub limit_of : Machine → Result ℕ ℕ
limit_of m = Ok (limit (card_in m).config)

abbrev pub lines_of : Machine → Result ℕ ℕ
lines_of m = Ok (card_in m).config.lines
