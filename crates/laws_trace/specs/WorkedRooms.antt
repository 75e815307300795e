-- Worked values: what is told of the room of a link, and of a full pool.
use Rattle.std.specs.Prelude.{◌≡◌, List, [], ◌∷◌, ◌++◌, Ok, refl}
use Rattle.lapd_frame.specs.declared.refusals.Refusal.TheVariants.{PoolFull}
use Rattle.lapd_frame.specs.declared.services.Service.TheVariants.{Call}
use Rattle.lapd_frame.specs.Reading.{reading, header_of, control_of, unnumbered_of, supervisory_of}
use Rattle.lapd_frame.specs.Senders.{exchanged, reading as read_by}
use Rattle.lapd_seq.specs.Circle.{named, distance_of}
use Rattle.lapd_seq.specs.Numbers.{seq}
use Rattle.model_teis.specs.network.Events as teis
use Rattle.model_line.specs.declared.config.Config.{Config}
use Rattle.model_line.specs.Event.{refused}
use Rattle.model_line.specs.Machine as lines
use Rattle.model_line.specs.Request.{Assign, Data}
use Rattle.model_card.specs.Card.{fresh}
use Rattle.model_card.specs.Event.{Event}
use Rattle.model_card.specs.Machine.{answer}
use Rattle.model_card.specs.Room.{room}
use Rattle.model_card.specs.Run.{moments, after_all}
use Rattle.laws_line.specs.card.Worked.{usual, on_0, up}
use Rattle.laws_trace.specs.Outgoing.{outgoing_of}
use Rattle.laws_trace.specs.WorkedObserver.{link_after}
use Rattle.laws_trace.specs.NoSlotIsLost.{slots_taken}
use Rattle.laws_trace.specs.WorkedUnits.{calls, frame_comes, unit}

-- SABME of TEI 64, two data; UA and one of them go: two places of eight are taken, and none is acknowledged;
abbrev gone : List Event
gone = up ++ on_0 (Data Call 64 (7 ∷ [])) ∷ on_0 (Data Call 64 (8 ∷ [])) ∷ calls 2

two_kept : room 0 Call 64 (after_all (fresh usual) gone) ≡ Ok (record { queue = 6; pool = 62; va = 0 })
unfolding after_all lines.after lines.takes_slot teis.course teis.refusal seq distance_of named exchanged read_by reading header_of control_of unnumbered_of supervisory_of
two_kept = refl

-- behind RR 1 one place is.
one_kept : room 0 Call 64 (after_all (fresh usual) (gone ++ frame_comes (0x02 ∷ 0x81 ∷ 0x01 ∷ 0x02 ∷ []) ∷ [])) ≡ Ok (record { queue = 7; pool = 63; va = 1 })
unfolding after_all lines.after lines.takes_slot teis.course teis.refusal seq distance_of named exchanged read_by reading header_of control_of unnumbered_of supervisory_of
one_kept = refl

-- Before it nothing was acknowledged, though V(S) is 1.
none_heard : (link_after gone).acknowledged ≡ 0
unfolding moments lines.after lines.answer lines.takes_slot teis.course teis.refusal seq distance_of named exchanged read_by reading header_of control_of unnumbered_of supervisory_of
none_heard = refl

-- A link in state 4 keeps nothing, and all of eight places are left.
abbrev on : List Event
on = on_0 (Assign 64) ∷ []

none_kept : (outgoing_of usual Call 64 0 on).kept ≡ []
unfolding moments lines.after lines.answer lines.takes_slot teis.course teis.refusal
none_kept = refl

all_left : room 0 Call 64 (after_all (fresh usual) on) ≡ Ok (record { queue = 8; pool = 64; va = 0 })
unfolding after_all lines.after lines.takes_slot teis.course teis.refusal
all_left = refl

-- Two slots of 64 are taken, and one behind RR 1;
two_taken : slots_taken usual gone ≡ 2
unfolding moments lines.after lines.answer lines.takes_slot teis.course teis.refusal seq distance_of named exchanged read_by reading header_of control_of unnumbered_of supervisory_of
two_taken = refl

-- and as many where unit data takes one of them.
abbrev two_slots : Config
two_slots = record usual { slots = 2 }

abbrev full : List Event
full = up ++ on_0 (Data Call 64 (7 ∷ [])) ∷ on_0 (unit 8) ∷ []

both_taken : slots_taken two_slots full ≡ 2
unfolding moments lines.after lines.answer lines.takes_slot teis.course teis.refusal seq distance_of named exchanged read_by reading header_of control_of unnumbered_of supervisory_of
both_taken = refl

-- So a third finds the pool full. One that found it full while one slot is taken would break the law.
third_refused : answer (on_0 (unit 9)) (after_all (fresh two_slots) full) ≡ refused PoolFull
unfolding after_all lines.after lines.answer lines.takes_slot teis.course teis.refusal seq distance_of named exchanged read_by reading header_of control_of unnumbered_of supervisory_of
third_refused = refl

one_taken : slots_taken two_slots (on_0 (unit 8) ∷ []) ≡ 1
unfolding moments lines.after lines.answer lines.takes_slot
one_taken = refl
