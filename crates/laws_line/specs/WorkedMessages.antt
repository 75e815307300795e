-- Worked values: a terminal asks for a TEI, and what TEI management says.
use Rattle.std.specs.Prelude.{◌≡◌, ℕ, true, false, List, [], ◌∷◌, refl}
use Rattle.laws_line.specs.WorkedWords.{T201, exchanged, read_by, reading, header_of, control_of, unnumbered_of, Message, IdentityAssigned, IdentityDenied, IdentityCheckRequest, IdentityRemove, Config, LineEvent as Event, hears, expiry, Line, fresh_line, has_tei, after, answer, Assign, Check, lost_in}
use Rattle.model_bits.specs.Stream as stream
use Rattle.model_teis.specs.network.Events as teis
use Rattle.laws_line.specs.Worked.{usual, heard}
use Rattle.laws_line.specs.WorkedServed.{asked}

-- The identity request by Ri 1234 is heard: a terminal asks;
abbrev pub asking : Event
asking = hears (stream.frame (0xFC ∷ 0xFF ∷ 0x03 ∷ 0x0F ∷ 0x12 ∷ 0x34 ∷ 0x01 ∷ 0xFF ∷ []))

-- TEI 64 is told to it, and is on the line.
told_64 : (after usual asking (fresh_line usual)).management.waiting ≡ IdentityAssigned 0x1234 64 ∷ []
unfolding after exchanged read_by reading header_of control_of unnumbered_of teis.course teis.refusal
told_64 = refl

there_64 : has_tei 64 (after usual asking (fresh_line usual)) ≡ true
unfolding after exchanged read_by reading header_of control_of unnumbered_of teis.course teis.refusal
there_64 = refl

-- What waits after frames of terminals: the same Ri is told the same TEI again, and another the lowest that is free.
abbrev asks_by : ℕ → Line → Line
asks_by low l = heard (0xFC ∷ 0xFF ∷ 0x03 ∷ 0x0F ∷ 0x12 ∷ low ∷ 0x01 ∷ 0xFF ∷ []) l

abbrev waiting_at : Line → List Message
waiting_at l = l.management.waiting

told_again : waiting_at (asks_by 0x34 (asks_by 0x34 (fresh_line usual))) ≡ IdentityAssigned 0x1234 64 ∷ IdentityAssigned 0x1234 64 ∷ []
unfolding exchanged read_by reading header_of control_of unnumbered_of teis.course teis.refusal
told_again = refl

told_another : waiting_at (asks_by 0x35 (asks_by 0x34 (asked (Assign 65) (fresh_line usual)))) ≡ IdentityAssigned 0x1234 64 ∷ IdentityAssigned 0x1235 66 ∷ []
unfolding exchanged read_by reading header_of control_of unnumbered_of teis.course teis.refusal
told_another = refl

-- On a line with one place the second is denied.
abbrev narrow : Config
narrow = record usual { terminals = 1 }

denied : waiting_at (asks_by 0x35 (asks_by 0x34 (fresh_line narrow))) ≡ IdentityAssigned 0x1234 64 ∷ IdentityDenied 0x1235 127 ∷ []
unfolding exchanged read_by reading header_of control_of unnumbered_of teis.course teis.refusal
denied = refl

-- Where four messages wait the answer is lost, and nothing is assigned.
abbrev four_wait : Line
four_wait = asks_by 0x34 (asks_by 0x34 (asks_by 0x34 (asks_by 0x34 (fresh_line usual))))

not_assigned : has_tei 65 (asks_by 0x35 four_wait) ≡ false
unfolding exchanged read_by reading header_of control_of unnumbered_of teis.course teis.refusal
not_assigned = refl

answer_lost : lost_in (answer usual asking four_wait) ≡ 1
unfolding answer exchanged read_by reading header_of control_of unnumbered_of teis.course teis.refusal
answer_lost = refl

-- A check asks, and asks again as T201 expires; two answers to it in one period have the TEI given up.
abbrev checked : Line
checked = after usual (expiry T201) (asked (Check 64) (asked (Assign 64) (fresh_line usual)))

asked_twice : waiting_at checked ≡ IdentityCheckRequest 64 ∷ IdentityCheckRequest 64 ∷ []
unfolding after teis.course teis.refusal
asked_twice = refl

abbrev answers_64 : Line → Line
answers_64 l = heard (0xFC ∷ 0xFF ∷ 0x03 ∷ 0x0F ∷ 0x56 ∷ 0x78 ∷ 0x05 ∷ 0x81 ∷ []) l

given_up : waiting_at (answers_64 (answers_64 checked)) ≡ IdentityCheckRequest 64 ∷ IdentityCheckRequest 64 ∷ IdentityRemove 64 ∷ []
unfolding after exchanged read_by reading header_of control_of unnumbered_of teis.course teis.refusal
given_up = refl
