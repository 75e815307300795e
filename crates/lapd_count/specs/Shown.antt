-- What is counted of a frame, of what is heard, and of what is told.
use Rattle.std.specs.Option.{option_map_or}
use Rattle.std.specs.Prelude.{ℕ, ◌%◌, ◌/◌, ◌==◌, ◌&&◌, Bool, true, List, [], ◌∷◌, ◌++◌, length, get_or, map, Option, Some, None, if◌then◌else◌}
use Rattle.model_bits.specs.declared.heard.Cause.{Cause}
use Rattle.model_bits.specs.declared.heads.Head.{Head}
use Rattle.model_bits.specs.Stream.{Event, frame, overlong, dropped}
use Rattle.lapd_frame.specs.declared.addresses.Side.{Side}
use Rattle.lapd_frame.specs.declared.notes.Note.{Note}
use Rattle.lapd_frame.specs.declared.notes.Note.TheVariants as note
use Rattle.lapd_frame.specs.Grammar.{cr_bit, other_side}
use Rattle.lapd_count.specs.declared.counter.Counter.{Counter}
use Rattle.lapd_count.specs.declared.counter.Counter.TheVariants.{Frames, Octets, Polls, Overlong, Dropped, Errors, EstablishIndications, EstablishConfirms, ReleaseIndications, ReleaseConfirms, Data, Units, Xids, Assigned, Removed, Doubled, Denied, Unassigned, RemovedAll, Lost, Messages}
use Rattle.lapd_count.specs.declared.counter.Way.{Way}
use Rattle.lapd_count.specs.declared.counter.Way.TheVariants.{Heard, Begun}
use Rattle.lapd_count.specs.Counters.{More}
use Rattle.lapd_count.specs.declared.kinds.Kind.{Kind}
use Rattle.lapd_count.specs.Kinds.{kind_of, asks}
use Rattle.lapd_count.specs.Messages.{has_message, message_of}

-- A poll: a command (Q.921 clause 3.3.2) of its sender, of a kind that asks, whose P bit, the lowest of the second control
-- octet, is 1.
abbrev pub is_poll : Side → ℕ → Kind → ℕ → Bool
is_poll sender first kind second = (first / 2 % 2 == cr_bit sender true) && asks kind && (second % 2 == 1)

-- A frame that begins with these octets, up to its control field, and has so many.
abbrev pub frame_shown : Side → Way → List ℕ → ℕ → List More
frame_shown sender way head length =
    (Frames way (kind_of (get_or head 2 0)), 1) ∷ (Octets way, length)
    ∷ (if is_poll sender (get_or head 0 0) (kind_of (get_or head 2 0)) (get_or head 3 0) then (Polls way, 1) ∷ [] else [])

-- A message of TEI management in it, by its type.
abbrev pub type_shown : Way → ℕ → List More
type_shown way type = option_map_or (λ message. (Messages way message, 1) ∷ []) (message_of type) []

abbrev pub message_shown : Way → List ℕ → List More
message_shown way octets = if has_message octets then type_shown way (get_or octets 6 0) else []

-- A frame by its octets; one that begins also by its head, apart from its message.
abbrev pub octets_shown : Side → Way → List ℕ → List More
octets_shown sender way octets = frame_shown sender way octets (length octets) ++ message_shown way octets

abbrev pub head_shown : Side → Head → List More
head_shown side head = frame_shown side Begun head.octets head.length

abbrev pub begun_shown : Side → List ℕ → List More
begun_shown side [] = []
begun_shown side (octet ∷ octets) = octets_shown side Begun (octet ∷ octets)

-- What is heard. (What is dropped is counted by what is told of it.)
abbrev pub heard_shown : Side → Option Event → List More
heard_shown side None = []
heard_shown side (Some (frame octets)) = octets_shown (other_side side) Heard octets
heard_shown side (Some (overlong head)) = (Overlong, 1) ∷ []
heard_shown side (Some (dropped cause)) = []

-- What is told: each note, the cause of a drop, and what found no room.
abbrev pub counter_of : Note → Counter
counter_of (note.EstablishIndication service tei) = EstablishIndications
counter_of (note.EstablishConfirm service tei) = EstablishConfirms
counter_of (note.ReleaseIndication service tei) = ReleaseIndications
counter_of (note.ReleaseConfirm service tei) = ReleaseConfirms
counter_of (note.Data service tei) = Data
counter_of (note.Unit service tei) = Units
counter_of (note.Error service tei code) = Errors code
counter_of (note.Assigned tei) = Assigned
counter_of (note.Removed tei) = Removed
counter_of (note.Doubled tei) = Doubled
counter_of note.Denied = Denied
counter_of note.Unassigned = Unassigned
counter_of note.RemoveAll = RemovedAll
counter_of (note.Xid service tei) = Xids

abbrev pub note_shown : Note → More
note_shown told = (counter_of told, 1)

abbrev pub drop_shown : Option Cause → List More
drop_shown cause = option_map_or (λ why. (Dropped why, 1) ∷ []) cause []

abbrev pub lost_shown : ℕ → List More
lost_shown lost = if lost == 0 then [] else (Lost, lost) ∷ []

abbrev pub told_shown : List Note → Option Cause → ℕ → List More
told_shown notes cause lost = map note_shown notes ++ drop_shown cause ++ lost_shown lost
