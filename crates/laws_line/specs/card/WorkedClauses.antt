-- Worked values: cards, and moments with other answers, that would break the clauses of `Card::drive`.
use Rattle.std.specs.Prelude.{◌≡◌, ℕ, ◌+◌, ◌*◌, ◌≤◌, List, [], ◌∷◌, map, Some, None, refl}
use Rattle.laws_line.specs.WorkedWords.{ap, arith, frame, Fcs, Short, PoolFull, Call, exchanged, read_by, reading, header_of, control_of, unnumbered_of, supervisory_of, seq, named, distance_of, hears, next, request, gave, Answer, told, refused, dropped, nothing, cause_in, Assign, Data, lost_in, Card, fresh, sent, heard, accepted, expired, rejected, window, IsPriced, IsDropWithoutCost}
use Rattle.laws_line.specs.WorkedWords.{IsDropWithoutEffect, at}
use Rattle.laws_line.specs.WorkedWords.{events_at, answers_at, answer_in, LinkName, IsNext, IsWithinLimit, IsNotRefusedForPool, Moment, moments, after_all}
use Rattle.model_bits.specs.Stream as stream
use Rattle.lapd_frame.specs.declared.notes.Note.TheVariants as notes
use Rattle.model_teis.specs.network.Events as teis
use Rattle.model_line.specs.Event as line_event
use Rattle.model_line.specs.Machine as lines
use Rattle.laws_line.specs.card.Worked.{usual, on_0, up}
use Rattle.laws_line.specs.card.WorkedBroken.{with_unit}

abbrev moment : Card → line_event.Event → Answer → Moment
moment card what answer = record { card = card; event = at 0 what; answer = answer }

-- `drops` and `without_effect`: SABME is told as dropped, and its answer waits; and what is dropped is told as lost as well.
abbrev sabme : line_event.Event
sabme = hears (frame (0x00 ∷ 0x81 ∷ 0x7F ∷ []))

dropped_at_a_cost : IsDropWithoutCost (moment (after_all (fresh usual) (on_0 (Assign 64) ∷ [])) sabme (told (dropped Fcs))) → ⊥
unfolding after_all lines.after lines.takes_slot exchanged read_by reading header_of control_of unnumbered_of teis.course teis.refusal
dropped_at_a_cost free = cc (free (frame (0x00 ∷ 0x81 ∷ 0x7F ∷ [])) refl refl)

dropped_with_effect : IsDropWithoutEffect (moment (fresh usual) (hears (stream.dropped Fcs)) (told (record (dropped Fcs) { lost = 1 }))) → ⊥
dropped_with_effect none = let lost : 1 ≡ 0 = ap lost_in (none (stream.dropped Fcs) Fcs refl refl).0 in omega (arith, lost)

-- `within_limit`: an octet is stored where none may be.
abbrev none_may : Card
none_may = record { config = record usual { lines = 0; slots = 0 }; lines = with_unit ∷ [] }

stored_beyond : IsWithinLimit none_may [] → ⊥
unfolding after_all
stored_beyond within = let few : 1 ≤ 0 = within in omega (arith, few)

-- `amortised`: a frame is sent, and nothing was heard, granted, or due.
abbrev out_of_nothing : List Moment
out_of_nothing = moment (fresh usual) next (gave (Some (record { octets = 0x02 ∷ 0x81 ∷ 0x73 ∷ []; orders = [] }))) ∷ []

unpaid : sent out_of_nothing ≤ 2 * heard out_of_nothing + accepted out_of_nothing + (window usual + 1) * expired out_of_nothing + window usual * rejected out_of_nothing → ⊥
unpaid few = let one : 1 ≤ 0 = few in omega (arith, one)

-- `by_event`: unit data goes, and the answer gives no frame.
goes_untold : IsPriced (moment (record { config = usual; lines = with_unit ∷ [] }) next (gave None)) → ⊥
unfolding lines.after lines.takes_slot
goes_untold priced = let few : 1 ≤ 0 = priced.falls refl in omega (arith, few)

-- `isolated`: a line that answers what it hears as it would not on a card of its own; and `never_full`: a request that finds
-- no slot.
abbrev other_answer : List Moment
other_answer = moment (fresh usual) (hears (stream.dropped Short)) (told (dropped Fcs)) ∷ []

not_alone : answers_at 0 other_answer ≡ map answer_in (moments (fresh usual) (events_at 0 other_answer)) → ⊥
unfolding moments lines.answer lines.takes_slot
not_alone same = let causes : Some Fcs ∷ [] ≡ Some Short ∷ [] = ap (map cause_in) same in cc causes

no_slot : IsNotRefusedForPool (moment (fresh usual) (request (Data Call 64 [])) (refused PoolFull)) → ⊥
no_slot none = cc none

-- `numbered`: I-frame 0 is not delivered, or an I-frame 1 is in its place.
abbrev comes_first : ℕ → Answer → Moment
comes_first ns answer = moment (after_all (fresh usual) up) (hears (frame (0x00 ∷ 0x81 ∷ ns * 2 ∷ 0x00 ∷ 0x41 ∷ []))) answer

abbrev call : LinkName
call = record { line = 0; number = 0 }

abbrev tells_data : Answer
tells_data = told (record nothing { notes = notes.Data Call 64 ∷ []; contents = Some (0x41 ∷ []) })

delivered_first : IsNext call (comes_first 0 tells_data)
unfolding after_all lines.after lines.takes_slot exchanged read_by reading header_of control_of unnumbered_of supervisory_of teis.course teis.refusal seq named distance_of
delivered_first = refl

undelivered : IsNext call (comes_first 0 (told nothing)) → ⊥
unfolding after_all lines.after lines.takes_slot exchanged read_by reading header_of control_of unnumbered_of supervisory_of teis.course teis.refusal seq named distance_of
undelivered is_next = cc is_next

too_early : IsNext call (comes_first 1 tells_data) → ⊥
unfolding after_all lines.after lines.takes_slot exchanged read_by reading header_of control_of unnumbered_of supervisory_of teis.course teis.refusal seq named distance_of
too_early is_next = cc is_next
