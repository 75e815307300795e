-- Worked values: runs that meet what `calls_come_to_an_end` and `never_full` ask for.
use Rattle.std.specs.Prelude.{◌≡◌, ℕ, zero, suc, ◌+◌, ◌*◌, ◌≤◌, List, [], ◌∷◌, ◌++◌, None, refl}
use Rattle.std.proofs.lemmas.Bool.{leb-true}
use Rattle.std.proofs.lemmas.List.Elements.{All-nil, All-cons}
use Rattle.lapd_frame.specs.declared.refusals.Refusal.TheVariants.{PoolFull, QueueFull}
use Rattle.lapd_frame.specs.declared.services.Service.TheVariants.{Call, Packet}
use Rattle.lapd_frame.specs.Reading.{reading, header_of, control_of, unnumbered_of}
use Rattle.lapd_frame.specs.Senders.{exchanged, reading as read_by}
use Rattle.model_teis.specs.network.Events as teis
use Rattle.model_bits.specs.Stream.{frame}
use Rattle.model_line.specs.declared.config.Config.{Config}
use Rattle.model_line.specs.Event.{gave, hears, next, request, refused}
use Rattle.model_line.specs.Machine as lines
use Rattle.model_line.specs.Request.{Request, Assign, Data, Unit}
use Rattle.model_card.specs.Card.{fresh, used}
use Rattle.model_card.specs.Event.{Event, at}
use Rattle.model_card.specs.Machine.{answer}
use Rattle.model_card.specs.Run.{after_all}
use Rattle.model_card.specs.Takes.{AreTakesAt, takes_at}
use Rattle.laws_line.specs.Drains.{most_frames}
use Rattle.laws_line.specs.WorkedPolled.{small}
use Rattle.laws_trace.specs.WorkedUnits.{calls}

-- TEI 64 on a line, and its SABME of both services; and unit data for the group.
abbrev asks : ℕ → Request → Event
asks line r = at line (request r)

abbrev both_up : ℕ → List Event
both_up line = asks line (Assign 64) ∷ at line (hears (frame (0x00 ∷ 0x81 ∷ 0x7F ∷ []))) ∷ at line (hears (frame (0x40 ∷ 0x81 ∷ 0x7F ∷ []))) ∷ []

abbrev unit : ℕ → Event
unit line = asks line (Unit Call 127 (0xAB ∷ []))

-- `calls_come_to_an_end`: unit data and two UA wait. Thirteen calls are as many as the configuration says, and the next gives none;
-- after one call that gives a frame.
abbrev IsCall : Event → Type 0
IsCall e = e.line ≡ 0 → e.what ≡ next

all_calls : (n : ℕ) → AreTakesAt 0 (calls n)
all_calls zero = All-nil IsCall
all_calls (suc n) = All-cons IsCall (at 0 next) (calls n) (λ here. refl) (all_calls n)

enough_calls : most_frames small ≤ takes_at 0 (calls 13)
enough_calls = leb-true 13 13 refl

then_none : answer (at 0 next) (after_all (fresh small) (both_up 0 ++ unit 0 ∷ calls 13)) ≡ gave None
unfolding after_all lines.after lines.answer lines.takes_slot teis.course teis.refusal exchanged read_by reading header_of control_of unnumbered_of
then_none = refl

some_still : answer (at 0 next) (after_all (fresh small) (both_up 0 ++ unit 0 ∷ calls 1)) ≡ gave None → ⊥
unfolding after_all lines.after lines.answer lines.takes_slot teis.course teis.refusal exchanged read_by reading header_of control_of unnumbered_of
some_still none = cc none

-- `never_full`: six slots are as many as the places of all queues. All are taken, and more data finds its queue full, and not the pool.
-- Of two slots it finds the pool full.
abbrev roomy : Config
roomy = record small { slots = 6 }

enough_slots : roomy.lines * (2 * roomy.terminals * roomy.queue + roomy.unit_queue) ≤ roomy.slots
enough_slots = leb-true 6 6 refl

abbrev fills : ℕ → List Event
fills line = both_up line ++ asks line (Data Call 64 (1 ∷ [])) ∷ asks line (Data Packet 64 (2 ∷ [])) ∷ unit line ∷ []

all_taken : used (after_all (fresh roomy) (fills 0 ++ fills 1)) ≡ 6
unfolding after_all lines.after lines.answer lines.takes_slot teis.course teis.refusal exchanged read_by reading header_of control_of unnumbered_of
all_taken = refl

queue_full : answer (asks 0 (Data Call 64 (3 ∷ []))) (after_all (fresh roomy) (fills 0 ++ fills 1)) ≡ refused QueueFull
unfolding after_all lines.after lines.answer lines.takes_slot teis.course teis.refusal exchanged read_by reading header_of control_of unnumbered_of
queue_full = refl

pool_full : answer (unit 0) (after_all (fresh small) (both_up 0 ++ asks 0 (Data Call 64 (1 ∷ [])) ∷ asks 0 (Data Packet 64 (2 ∷ [])) ∷ [])) ≡ refused PoolFull
unfolding after_all lines.after lines.answer lines.takes_slot teis.course teis.refusal exchanged read_by reading header_of control_of unnumbered_of
pool_full = refl
