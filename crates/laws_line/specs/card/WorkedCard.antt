-- Worked values of a card: each computes.
use Rattle.std.specs.Prelude.{None, ◌≡◌, ℕ, List, [], ◌∷◌, ◌++◌, map, Some, refl}
use Rattle.laws_line.specs.WorkedWords.{QueueFull, PoolFull, Call, exchanged, read_by, reading, header_of, control_of, unnumbered_of, Config, first_fault, Answer, told, refused, gave, next, request, nothing, Data, Unit, Event, at, Card, fresh, state, run, stored, limit}
use Rattle.model_teis.specs.network.Events as teis
use Rattle.model_line.specs.declared.config.Field.TheVariants as field
use Rattle.model_line.specs.Machine as lines
use Rattle.laws_line.specs.card.Worked.{usual, up}

abbrev card_after : Config → List Event → Card
card_after c events = (run (fresh c) events).card

abbrev answer_of : ℕ × Answer → Answer
answer_of reply = reply.1

abbrev answers_after : Config → List Event → List Event → List Answer
answers_after c before events = map answer_of (run (card_after c before) events).replies

up_is_established : state 0 Call 64 (card_after usual up) ≡ Some 7
unfolding lines.after lines.takes_slot exchanged read_by reading header_of control_of unnumbered_of teis.course teis.refusal
up_is_established = refl

-- two calls for the next frame then give UA, and nothing
abbrev next_on_0 : Event
next_on_0 = at 0 next

ua_is_given : answers_after usual up (next_on_0 ∷ next_on_0 ∷ []) ≡ gave (Some (record { octets = 0x00 ∷ 0x81 ∷ 0x73 ∷ []; orders = [] })) ∷ gave None ∷ []
unfolding lines.after lines.answer lines.takes_slot exchanged read_by reading header_of control_of unnumbered_of teis.course teis.refusal
ua_is_given = refl

-- a queue of two contents takes two, and the third is refused; UA waits all the while
abbrev small_queue : Config
small_queue = record usual { k = 1; k16 = 1; queue = 2 }

abbrev data_on : ℕ → ℕ → Event
data_on line value = at line (request (Data Call 64 (value ∷ [])))

full_queue :
    answers_after small_queue up (data_on 0 0x01 ∷ data_on 0 0x02 ∷ data_on 0 0x03 ∷ [])
    ≡ told nothing ∷ told nothing ∷ refused QueueFull ∷ []
unfolding lines.after lines.answer lines.takes_slot exchanged read_by reading header_of control_of unnumbered_of teis.course teis.refusal
full_queue = refl

stored_before_refusal : stored (card_after small_queue (up ++ data_on 0 0x01 ∷ data_on 0 0x02 ∷ [])) ≡ 5
unfolding lines.after lines.takes_slot exchanged read_by reading header_of control_of unnumbered_of teis.course teis.refusal
stored_before_refusal = refl

stored_after_refusal : stored (card_after small_queue (up ++ data_on 0 0x01 ∷ data_on 0 0x02 ∷ data_on 0 0x03 ∷ [])) ≡ 5
unfolding lines.after lines.takes_slot exchanged read_by reading header_of control_of unnumbered_of teis.course teis.refusal
stored_after_refusal = refl

-- a pool of one slot
full_pool :
    answers_after (record usual { slots = 1 }) up (data_on 0 0x01 ∷ data_on 0 0x02 ∷ [])
    ≡ told nothing ∷ refused PoolFull ∷ []
unfolding lines.after lines.answer lines.takes_slot exchanged read_by reading header_of control_of unnumbered_of teis.course teis.refusal
full_pool = refl

-- whichever line uses it
abbrev unit_on : ℕ → Event
unit_on line = at line (request (Unit Call 127 (0xAB ∷ [])))

full_pool_of_two_lines :
    answers_after (record usual { lines = 2; slots = 1 }) [] (unit_on 0 ∷ unit_on 1 ∷ [])
    ≡ told nothing ∷ refused PoolFull ∷ []
unfolding lines.after lines.answer lines.takes_slot
full_pool_of_two_lines = refl

-- the limit of a configuration
limit_of_one_line : limit usual ≡ 16940
limit_of_one_line = refl

-- a window of 128, and a queue that is also too small: the window is told
window_out_of_range : first_fault (record usual { k = 128; queue = 127 }) ≡ Some field.K
window_out_of_range = refl
