-- Worked values of the rows that differ by annex B: each holds by computing.
use Rattle.std.specs.Prelude.{◌≡◌, true, List, [], ◌∷◌, None, Some, refl}
use Rattle.lapd_frame.specs.declared.readings.Reading.TheVariants.{AnnexB}
use Rattle.lapd_frame.specs.declared.notes.Note.TheVariants.{Assigned, Removed}
use Rattle.lapd_frame.specs.declared.timers.Order.TheVariants.{Start, Stop}
use Rattle.lapd_frame.specs.declared.timers.Timer.TheVariants.{T201}
use Rattle.model_teis.specs.declared.changes.Change.TheVariants.{Gained, Left}
use Rattle.model_teis.specs.network.Machine.{Management, empty, may_send, held, nothing}
use Rattle.model_teis.specs.network.Events.{Event, message, expiry, assign, check, disown, down, refusal, course, after, told}
use Rattle.test_product.specs.WorkedTeis.{pulled, after_all, asks, answers, verifies, assigned, asked, taken, brought}

abbrev line : List Event → Management
line events = after_all events (empty AnnexB 8)

-- A request that comes again is not served while its answer waits; after that it gets another TEI. Nothing is remembered.
again-at-once : told (asks 0x12 0x34) (after (asks 0x12 0x34) (empty AnnexB 8)) ≡ record nothing { unserved = true }
unfolding course refusal
again-at-once = refl

again : brought (asks 0x12 0x34) (line (asks 0x12 0x34 ∷ [])) ≡ (record nothing { notes = Assigned 65 ∷ []; change = Some (Gained 65 1) }, assigned 0x12 0x34 0x83)
unfolding course refusal
again = refl

held-then : held (line (asks 0x12 0x34 ∷ [])) ≡ 0
unfolding course refusal
held-then = refl

-- A request for TEI 126 is denied by this Ai; one for TEI 63 is not served.
of-126 : brought (message (0x0F ∷ 0x12 ∷ 0x34 ∷ 0x01 ∷ 0xFD ∷ [])) (line []) ≡ (nothing, Some (0xFE ∷ 0xFF ∷ 0x03 ∷ 0x0F ∷ 0x12 ∷ 0x34 ∷ 0x03 ∷ 0xFD ∷ []))
unfolding course refusal
of-126 = refl

of-63 : told (message (0x0F ∷ 0x12 ∷ 0x34 ∷ 0x01 ∷ 0x7F ∷ [])) (line []) ≡ record nothing { unserved = true }
unfolding course refusal
of-63 = refl

-- A response with TEIs 65 and 64 counts for the one under check, and one with TEIs 65 and 66 is not served.
of-both : after (message (0x0F ∷ 0x00 ∷ 0x01 ∷ 0x05 ∷ 0x82 ∷ 0x81 ∷ [])) (line (assign 64 ∷ check 64 ∷ [])) ≡ line (assign 64 ∷ check 64 ∷ answers 0x00 0x01 0x81 ∷ [])
unfolding course refusal
of-both = refl

of-others : told (message (0x0F ∷ 0x00 ∷ 0x01 ∷ 0x05 ∷ 0x82 ∷ 0x85 ∷ [])) (line (assign 64 ∷ check 64 ∷ [])) ≡ record nothing { unserved = true }
unfolding course refusal
of-others = refl

-- Without a response the terminals are told that the TEI has left.
second-period-over : brought expiry (line (assign 64 ∷ verifies 0x81 ∷ expiry ∷ [])) ≡ (record nothing { notes = Removed 64 ∷ []; orders = Stop T201 ∷ []; change = Some (Left 64 0) }, taken 0x81)
unfolding course refusal
second-period-over = refl

-- A verify while another TEI is under check: that TEI is asked for at once. As the check ends, its own settles, and a response
-- counts nothing; then it is checked.
abbrev two : List Event
two = assign 64 ∷ assign 65 ∷ verifies 0x81 ∷ []

beside : brought (verifies 0x83) (line two) ≡ (nothing, asked 0x83)
unfolding course refusal
beside = refl

abbrev one-due : Management
one-due = pulled (verifies 0x83) (line two)

due : may_send one-due ∷ held one-due ∷ [] ≡ 1 ∷ 1 ∷ []
unfolding course refusal
due = refl

then-settles : brought expiry (after_all (answers 0x00 0x01 0x81 ∷ expiry ∷ []) one-due) ≡ (record nothing { orders = Start T201 ∷ [] }, None)
unfolding course refusal
then-settles = refl

abbrev settling : Management
settling = after_all (answers 0x00 0x01 0x81 ∷ expiry ∷ expiry ∷ []) one-due

settled-answer : brought (answers 0x00 0x01 0x83) settling ≡ (nothing, None)
unfolding course refusal
settled-answer = refl

then-checked : brought expiry settling ≡ (record nothing { orders = Start T201 ∷ [] }, asked 0x83)
unfolding course refusal
then-checked = refl

-- With four messages that wait, the end of an unanswered check loses the removal.
one-lost : told expiry (after (disown 66) (after (disown 66) (after (disown 66) (after (disown 66) (pulled expiry one-due))))) ≡ record nothing { notes = Removed 64 ∷ []; orders = Start T201 ∷ []; change = Some (Left 64 0); lost = 1 }
unfolding course refusal
one-lost = refl

-- As the line goes down, no check is due any more.
forgotten : after down one-due ≡ line (assign 64 ∷ assign 65 ∷ [])
unfolding course refusal
forgotten = refl
