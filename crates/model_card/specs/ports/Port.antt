-- The port of a line: what stands between its octets and its frames (Q.921 clause 2).
use Rattle.std.specs.Prelude.{ℕ, Bool, length, List, [], ◌∷◌, ◌++◌, take, drop, slice_get, Option, Some, None, is_some, option_map, if◌then◌else◌}
use Rattle.std.specs.Option.{option_map_or, option_and_then}
use Rattle.model_bits.specs.Bits.{bits, number_of}
use Rattle.model_bits.specs.Framer.{runs_low}
use Rattle.model_bits.specs.Sent.{Item, idle, frame, line_text}
use Rattle.model_bits.specs.Stream as stream
use Rattle.lapd_frame.specs.declared.refusals.Refusal.{Refusal}
use Rattle.lapd_frame.specs.declared.timers.Order.{Order}
use Rattle.lapd_frame.specs.declared.timers.Timer.{Timer}
use Rattle.model_line.specs.Event as line
use Rattle.model_line.specs.Event.{LineTold, NextFrame, given_in, nothing}
use Rattle.model_line.specs.Request.{Request}

-- An octet comes from the line; a timer expires; layer 3 or management asks for something; the line asks for the next octet
-- to send.
pub data Event : Type 0 where
  octet : ℕ → Event
  expiry : Timer → Event
  request : Request → Event
  pull : Event

-- The answer to an event. A pull is answered with the octet, whether the pull began a frame, and timer orders.
pub data Answer : Type 0 where
  told : LineTold → Answer
  refused : Refusal → Answer
  pulled : ℕ → Bool → List Order → Answer

pub record Port : Type 0 where
  -- all octets that were received
  pub received : List ℕ
  -- all items that were put on the line, and all octets of them that were given
  pub items : List Item
  pub given : List ℕ

-- As a port begins.
abbrev pub fresh_port : Port
fresh_port = record { received = []; items = []; given = [] }

-- What an octet brings: what is heard in all octets with it, and was not heard before.
abbrev pub gained : ℕ → List ℕ → ℕ → Option stream.Event
gained n201 received value =
    slice_get (stream.heard_in n201 (received ++ value ∷ [])) (length (stream.heard_in n201 received))

-- The bits that are on their way, and not given yet. An item is due where they are too few for an octet (profile).
abbrev pub left_of : Port → List Bool
left_of p = drop (length (bits p.given)) (line_text p.items)

abbrev pub is_due : Port → Bool
is_due p = runs_low (left_of p)

-- What an event means to the line of frames: an octet, what is heard with it, if anything is; a pull, a call for the next
-- frame, where an item is due. An expiry and a request mean themselves.
abbrev pub meant : ℕ → Event → Port → Option line.Event
meant n201 (octet value) p = option_map line.hears (gained n201 p.received value)
meant n201 (expiry timer) p = Some (line.expiry timer)
meant n201 (request r) p = Some (line.request r)
meant n201 pull p = if is_due p then Some line.next else None

-- The frame that the line gave, if it gave one.
abbrev pub frame_begun : Option line.Answer → Option NextFrame
frame_begun said = option_and_then given_in said

-- The item that is put on the line then: that frame, or an idle flag where there is none (profile).
abbrev pub item_of : Option NextFrame → Item
item_of None = idle
item_of (Some next) = frame next.octets

abbrev pub with_item : Option line.Answer → Port → Port
with_item None p = p
with_item (Some said) p = record p { items = p.items ++ item_of (given_in said) ∷ [] }

-- Then the next eight bits are given, the first as the low bit.
abbrev pub next_octet : Port → ℕ
next_octet p = number_of (take 8 (left_of p))

abbrev pub with_octet : Port → Port
with_octet p = record p { given = p.given ++ next_octet p ∷ [] }

-- The port after an event, where the line has said this to what it meant; and the answer. What means nothing tells nothing.
abbrev pub after : Event → Option line.Answer → Port → Port
after (octet value) said p = record p { received = p.received ++ value ∷ [] }
after (expiry timer) said p = p
after (request r) said p = p
after pull said p = with_octet (with_item said p)

abbrev pub answer_of : line.Answer → Answer
answer_of (line.told t) = told t
answer_of (line.refused why) = refused why
answer_of (line.gave next) = told nothing

abbrev pub orders_with : NextFrame → List Order
orders_with next = next.orders

abbrev pub answer : Event → Option line.Answer → Port → Answer
answer (octet value) said p = option_map_or answer_of said (told nothing)
answer (expiry timer) said p = option_map_or answer_of said (told nothing)
answer (request r) said p = option_map_or answer_of said (told nothing)
answer pull said p =
    pulled (next_octet (with_item said p)) (is_some (frame_begun said)) (option_map_or orders_with (frame_begun said) [])
