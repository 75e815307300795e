-- Worked values: a message that finds no room, a link that has none, and answers that break the law.
use Rattle.std.specs.Prelude.{◌≡◌, ℕ, ◌+◌, ◌-◌, List, length, [], ◌∷◌, ◌++◌, refl}
use Rattle.lapd_frame.specs.declared.services.Service.TheVariants.{Call}
use Rattle.lapd_frame.specs.Reading.{reading, header_of, control_of, unnumbered_of, supervisory_of}
use Rattle.lapd_frame.specs.Senders.{exchanged, reading as read_by}
use Rattle.lapd_seq.specs.Circle.{named, distance_of}
use Rattle.lapd_seq.specs.Numbers.{seq}
use Rattle.model_teis.specs.network.Events as teis
use Rattle.laws_line.specs.Frames.{lost_in}
use Rattle.model_line.specs.Machine as lines
use Rattle.model_line.specs.Request.{Assign, Remove}
use Rattle.model_card.specs.Card.{fresh}
use Rattle.model_card.specs.Event.{Event}
use Rattle.model_card.specs.Machine.{answer}
use Rattle.model_card.specs.Run.{moments, after_all}
use Rattle.laws_line.specs.card.Worked.{usual, on_0, up}
use Rattle.laws_trace.specs.Managing.{due, managed_after}
use Rattle.laws_trace.specs.NoLossInVain.{puts_by}
use Rattle.laws_trace.specs.Outgoing.{outgoing_of}
use Rattle.laws_trace.specs.WorkedUnits.{frame_comes}

-- Four removals are owed; the answer to a terminal that asks for a TEI is told as lost, and is due so.
abbrev four : List Event
four =
    on_0 (Assign 64) ∷ on_0 (Remove 64) ∷ on_0 (Assign 64) ∷ on_0 (Remove 64) ∷ on_0 (Assign 64) ∷ on_0 (Remove 64) ∷ on_0 (Assign 64) ∷ on_0 (Remove 64)
    ∷ []

abbrev asks : Event
asks = frame_comes (0xFC ∷ 0xFF ∷ 0x03 ∷ 0x0F ∷ 0x12 ∷ 0x34 ∷ 0x01 ∷ 0xFF ∷ [])

one_is_lost : lost_in (answer asks (after_all (fresh usual) four)) ≡ 1
unfolding after_all lines.after lines.answer lines.takes_slot teis.course teis.refusal exchanged read_by reading header_of control_of unnumbered_of
one_is_lost = refl

one_is_due : (due usual asks.what (managed_after usual 0 four)).lost ≡ 1
unfolding exchanged read_by reading header_of control_of unnumbered_of
one_is_due = refl

none_is_due : (due usual asks.what (managed_after usual 0 [])).lost ≡ 0
unfolding exchanged read_by reading header_of control_of unnumbered_of
none_is_due = refl

-- UA and the answers to three polls wait: they are four control frames of one link.
abbrev poll : Event
poll = frame_comes (0x00 ∷ 0x81 ∷ 0x01 ∷ 0x01 ∷ [])

abbrev full : List Event
full = up ++ poll ∷ poll ∷ poll ∷ []

four_wait : length (outgoing_of usual Call 64 0 full).waiting ≡ 4
unfolding moments lines.after lines.answer lines.takes_slot teis.course teis.refusal seq distance_of named exchanged read_by reading header_of control_of unnumbered_of supervisory_of
four_wait = refl

-- A fourth answer finds no place, and is told as lost;
one_more : length (puts_by usual 0 full poll.what Call 64) ≡ 1
unfolding moments after_all lines.after lines.answer lines.takes_slot teis.course teis.refusal seq distance_of named exchanged read_by reading header_of control_of unnumbered_of supervisory_of
one_more = refl

one_without_place : lost_in (answer poll (after_all (fresh usual) full)) ≡ 1
unfolding after_all lines.after lines.answer lines.takes_slot teis.course teis.refusal seq distance_of named exchanged read_by reading header_of control_of unnumbered_of supervisory_of
one_without_place = refl

-- where it were told of a third one, or of none here, the law would be broken.
abbrev Lost : ℕ → ℕ → Type 0
Lost n m = n ≡ m

in_vain : Lost 1 (3 + 1 - 4) → ⊥
in_vain e = cc e

untold : Lost 0 (4 + 1 - 4) → ⊥
untold e = cc e
