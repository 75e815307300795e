-- Worked values, of the profile: each holds by computing.
use Rattle.std.specs.Prelude.{◌≡◌, ℕ, Bool, true, List, [], ◌∷◌, Option, Some, None, map, refl}
use Rattle.lapd_frame.specs.declared.addresses.Side.TheVariants.{Network}
use Rattle.lapd_frame.specs.declared.readings.Reading.TheVariants.{Profile}
use Rattle.lapd_frame.specs.declared.notes.Note.TheVariants.{Assigned, Removed, Doubled}
use Rattle.lapd_frame.specs.declared.refusals.Refusal.TheVariants.{NoLink, TeiTaken, TableFull, CheckRunning, ControlFull}
use Rattle.lapd_frame.specs.declared.timers.Order.TheVariants.{Start, Stop}
use Rattle.lapd_frame.specs.declared.timers.Timer.TheVariants.{T201}
use Rattle.model_teis.specs.declared.network.messages.Message.TheVariants.{IdentityRemove}
use Rattle.model_teis.specs.declared.changes.Change.TheVariants.{Gained, Left}
use Rattle.model_teis.specs.network.Machine.{Management, empty, may_send, held, TeiTold, nothing}
use Rattle.model_teis.specs.network.Events.{Event, message, expiry, assign, remove, check, disown, refusal, course, after, told, offered, after_offer}

-- a line with room for eight TEIs, after events from its start; each message is pulled at once
abbrev pub pulled : Event → Management → Management
pulled e m = after_offer (after e m)

abbrev pub after_all : List Event → Management → Management
after_all [] m = m
after_all (e ∷ es) m = after_all es (pulled e m)

abbrev line : List Event → Management
line events = after_all events (empty Profile 8)

-- the terminals' messages: a request for any TEI with an Ri, a check response, a verify
abbrev pub asks : ℕ → ℕ → Event
asks high low = message (0x0F ∷ high ∷ low ∷ 0x01 ∷ 0xFF ∷ [])

abbrev pub answers : ℕ → ℕ → ℕ → Event
answers high low last = message (0x0F ∷ high ∷ low ∷ 0x05 ∷ last ∷ [])

abbrev pub verifies : ℕ → Event
verifies last = message (0x0F ∷ 0x12 ∷ 0x34 ∷ 0x07 ∷ last ∷ [])

-- the network's, as a pull gives them
abbrev pub assigned : ℕ → ℕ → ℕ → Option (List ℕ)
assigned high low last = Some (0xFE ∷ 0xFF ∷ 0x03 ∷ 0x0F ∷ high ∷ low ∷ 0x02 ∷ last ∷ [])

abbrev denied : ℕ → ℕ → Option (List ℕ)
denied high low = Some (0xFE ∷ 0xFF ∷ 0x03 ∷ 0x0F ∷ high ∷ low ∷ 0x03 ∷ 0xFF ∷ [])

abbrev pub asked : ℕ → Option (List ℕ)
asked last = Some (0xFE ∷ 0xFF ∷ 0x03 ∷ 0x0F ∷ 0x00 ∷ 0x00 ∷ 0x04 ∷ last ∷ [])

abbrev pub taken : ℕ → Option (List ℕ)
taken last = Some (0xFE ∷ 0xFF ∷ 0x03 ∷ 0x0F ∷ 0x00 ∷ 0x00 ∷ 0x06 ∷ last ∷ [])

-- what an event brings to a line: what is told of it, and what the next pull gives
abbrev pub brought : Event → Management → TeiTold × Option (List ℕ)
brought e m = (told e m, offered Network (after e m))

-- A request for a TEI on a line without one: TEI 64 is assigned, at place 0.
first-request : brought (asks 0x12 0x34) (line []) ≡ (record nothing { notes = Assigned 64 ∷ []; change = Some (Gained 64 0) }, assigned 0x12 0x34 0x81)
unfolding course refusal
first-request = refl

-- It comes again: the same answer, and nothing else.
again : brought (asks 0x12 0x34) (line (asks 0x12 0x34 ∷ [])) ≡ (nothing, assigned 0x12 0x34 0x81)
unfolding course refusal
again = refl

-- Nine requests with other Ri: TEI 64 to 71 at places 0 to 7, and the ninth is denied.
abbrev eight-assigned : Management
eight-assigned = line (map (asks 0x12) (0x34 ∷ 0x35 ∷ 0x36 ∷ 0x37 ∷ 0x38 ∷ 0x39 ∷ 0x3A ∷ 0x3B ∷ []))

eighth-request : brought (asks 0x12 0x3B) (line (map (asks 0x12) (0x34 ∷ 0x35 ∷ 0x36 ∷ 0x37 ∷ 0x38 ∷ 0x39 ∷ 0x3A ∷ []))) ≡ (record nothing { notes = Assigned 71 ∷ []; change = Some (Gained 71 7) }, assigned 0x12 0x3B 0x8F)
unfolding course refusal
eighth-request = refl

ninth-request : brought (asks 0x12 0x3C) eight-assigned ≡ (nothing, denied 0x12 0x3C)
unfolding course refusal
ninth-request = refl

-- The latest four assignments are remembered, the others forgotten.
remembered-still : brought (asks 0x12 0x3B) eight-assigned ≡ (nothing, assigned 0x12 0x3B 0x8F)
unfolding course refusal
remembered-still = refl

oldest-still : brought (asks 0x12 0x38) eight-assigned ≡ (nothing, assigned 0x12 0x38 0x89)
unfolding course refusal
oldest-still = refl

forgotten : brought (asks 0x12 0x34) eight-assigned ≡ (nothing, denied 0x12 0x34)
unfolding course refusal
forgotten = refl

-- A TEI that leaves takes its assignment with it: the request gets it anew, at the place that is free.
taken-off : brought (remove 71) eight-assigned ≡ (record nothing { change = Some (Left 71 7) }, taken 0x8F)
unfolding course refusal
taken-off = refl

anew : brought (asks 0x12 0x3B) (pulled (remove 71) eight-assigned) ≡ (record nothing { notes = Assigned 71 ∷ []; change = Some (Gained 71 7) }, assigned 0x12 0x3B 0x8F)
unfolding course refusal
anew = refl

-- The lowest place that is free is not that of the lowest TEI.
lower : brought (asks 0x56 0x78) (line (assign 65 ∷ assign 64 ∷ remove 65 ∷ assign 70 ∷ remove 64 ∷ [])) ≡ (record nothing { notes = Assigned 64 ∷ []; change = Some (Gained 64 1) }, assigned 0x56 0x78 0x81)
unfolding course refusal
lower = refl

-- What is held: eight octets for a message that waits, three for an assignment that is remembered.
held-while-it-waits : held (after (asks 0x12 0x34) (empty Profile 8)) ≡ 11
unfolding course refusal
held-while-it-waits = refl

held-then : held (line (asks 0x12 0x34 ∷ [])) ≡ 3
unfolding course refusal
held-then = refl

held-after-eight : held eight-assigned ≡ 12
unfolding course refusal
held-after-eight = refl

-- Other Ai are not served, nor are other types and lengths, or another entity identifier or extension bit.
abbrev is-unserved : List ℕ → Bool
is-unserved octets = (told (message octets) (line (assign 64 ∷ []))).unserved

unserved-ones : map is-unserved
    ((0x0F ∷ 0x12 ∷ 0x34 ∷ 0x01 ∷ 0xC9 ∷ [])
    ∷ (0x0F ∷ 0x12 ∷ 0x34 ∷ 0x07 ∷ 0x83 ∷ [])
    ∷ (0x0F ∷ 0x12 ∷ 0x34 ∷ 0x05 ∷ 0x81 ∷ [])
    ∷ (0x0F ∷ 0x12 ∷ 0x34 ∷ 0x02 ∷ 0x81 ∷ [])
    ∷ (0x0F ∷ 0x12 ∷ 0x34 ∷ 0x01 ∷ 0xFE ∷ [])
    ∷ (0x0E ∷ 0x12 ∷ 0x34 ∷ 0x01 ∷ 0xFF ∷ [])
    ∷ (0x0F ∷ 0x12 ∷ 0x34 ∷ 0x01 ∷ [])
    ∷ (0x0F ∷ 0x12 ∷ 0x34 ∷ 0x01 ∷ 0xFF ∷ 0x00 ∷ [])
    ∷ [])
    ≡ true ∷ true ∷ true ∷ true ∷ true ∷ true ∷ true ∷ true ∷ []
unfolding course refusal
unserved-ones = refl

-- A verify of a TEI on the line begins a check; while it runs, another is not served.
abbrev one : Management
one = line (assign 64 ∷ [])

verified : brought (verifies 0x81) one ≡ (record nothing { orders = Start T201 ∷ [] }, asked 0x81)
unfolding course refusal
verified = refl

verified-again : brought (verifies 0x81) (line (assign 64 ∷ verifies 0x81 ∷ [])) ≡ (record nothing { unserved = true }, None)
unfolding course refusal
verified-again = refl

-- Without a response: asked again, and then the TEI is removed without a message.
first-period-over : brought expiry (line (assign 64 ∷ verifies 0x81 ∷ [])) ≡ (record nothing { orders = Start T201 ∷ [] }, asked 0x81)
unfolding course refusal
first-period-over = refl

second-period-over : brought expiry (line (assign 64 ∷ verifies 0x81 ∷ expiry ∷ [])) ≡ (record nothing { notes = Removed 64 ∷ []; orders = Stop T201 ∷ []; change = Some (Left 64 0) }, None)
unfolding course refusal
second-period-over = refl

-- With a response in each period, or in one of them, the TEI stays.
abbrev responds : Event
responds = answers 0x00 0x01 0x81

stays : brought expiry (line (assign 64 ∷ verifies 0x81 ∷ responds ∷ expiry ∷ responds ∷ [])) ≡ (record nothing { orders = Stop T201 ∷ [] }, None)
unfolding course refusal
stays = refl

stays-by-the-first : after expiry (line (assign 64 ∷ verifies 0x81 ∷ responds ∷ expiry ∷ [])) ≡ one
unfolding course refusal
stays-by-the-first = refl

stays-by-the-second : after expiry (line (assign 64 ∷ verifies 0x81 ∷ expiry ∷ responds ∷ [])) ≡ one
unfolding course refusal
stays-by-the-second = refl

-- A request for a check, and two terminals that answer it.
checked : brought (check 64) one ≡ (record nothing { orders = Start T201 ∷ [] }, asked 0x81)
unfolding course refusal
checked = refl

first-response : brought (answers 0x56 0x78 0x81) (line (assign 64 ∷ check 64 ∷ [])) ≡ (nothing, None)
unfolding course refusal
first-response = refl

second-response : brought (answers 0x9A 0xBC 0x81) (line (assign 64 ∷ check 64 ∷ answers 0x56 0x78 0x81 ∷ [])) ≡ (record nothing { notes = Doubled 64 ∷ []; orders = Stop T201 ∷ []; change = Some (Left 64 0) }, taken 0x81)
unfolding course refusal
second-response = refl

gone : after (answers 0x9A 0xBC 0x81) (line (assign 64 ∷ check 64 ∷ answers 0x56 0x78 0x81 ∷ [])) ≡ record (empty Profile 8) { waiting = IdentityRemove 64 ∷ [] }
unfolding course refusal
gone = refl

-- A response of another TEI is not served.
other-response : brought (answers 0x9A 0xBC 0x83) (line (assign 64 ∷ assign 65 ∷ check 64 ∷ [])) ≡ (record nothing { unserved = true }, None)
unfolding course refusal
other-response = refl

-- A TEI under check is taken off: the check ends.
taken-off-under-check : brought (remove 64) (line (assign 64 ∷ check 64 ∷ [])) ≡ (record nothing { orders = Stop T201 ∷ []; change = Some (Left 64 0) }, taken 0x81)
unfolding course refusal
taken-off-under-check = refl

other-taken-off : (after (remove 65) (line (assign 64 ∷ assign 65 ∷ check 64 ∷ []))).check ≡ (line (assign 64 ∷ check 64 ∷ [])).check
unfolding course refusal
other-taken-off = refl

-- Without pulls: four denials wait on a full line, and a request then loses its answer.
abbrev unpulled : List Event → Management → Management
unpulled [] m = m
unpulled (e ∷ es) m = unpulled es (after e m)

abbrev full : Management
full = unpulled (map (asks 0x22) (1 ∷ 2 ∷ 3 ∷ 4 ∷ [])) (pulled (assign 0) (empty Profile 1))

abbrev lost_one : TeiTold
lost_one = record nothing { lost = 1 }

denials-wait : may_send full ≡ 4
unfolding course refusal
denials-wait = refl

nothing-assigned : told (asks 0x22 0x05) (after (remove 0) full) ≡ lost_one
unfolding course refusal
nothing-assigned = refl

nothing-changed : after (asks 0x22 0x05) full ≡ full
unfolding course refusal
nothing-changed = refl

-- So does one with a remembered Ri; the messages of a check are lost, and the check goes on all the same.
abbrev full-of-one : Management
full-of-one = unpulled (map (asks 0x12) (0x34 ∷ 0x34 ∷ 0x34 ∷ 0x34 ∷ [])) (empty Profile 8)

remembered-lost : told (asks 0x12 0x34) full-of-one ≡ lost_one
unfolding course refusal
remembered-lost = refl

check-message-lost : told (verifies 0x81) full-of-one ≡ record lost_one { orders = Start T201 ∷ [] }
unfolding course refusal
check-message-lost = refl

check-message-lost-again : told expiry (after (verifies 0x81) full-of-one) ≡ record lost_one { orders = Start T201 ∷ [] }
unfolding course refusal
check-message-lost-again = refl

removal-lost : told responds (unpulled (verifies 0x81 ∷ responds ∷ []) full-of-one) ≡ record lost_one { notes = Doubled 64 ∷ []; orders = Stop T201 ∷ []; change = Some (Left 64 0) }
unfolding course refusal
removal-lost = refl

-- T201 does not run where no check does.
no-expiry : brought expiry one ≡ (nothing, None)
unfolding course refusal
no-expiry = refl

-- Refusals, each before those that follow it in the order.
abbrev full-while-checked : Management
full-while-checked = after (verifies 0x81) full-of-one

assign-refused : map (refusal (assign 64)) (one ∷ pulled (assign 64) (empty Profile 1) ∷ pulled (assign 65) (empty Profile 1) ∷ line [] ∷ []) ≡ Some TeiTaken ∷ Some TeiTaken ∷ Some TableFull ∷ None ∷ []
unfolding course refusal
assign-refused = refl

check-refused : map (refusal (check 64)) (full ∷ full-while-checked ∷ full-of-one ∷ one ∷ []) ≡ Some NoLink ∷ Some CheckRunning ∷ Some ControlFull ∷ None ∷ []
unfolding course refusal
check-refused = refl

remove-refused : map (refusal (remove 64)) (full ∷ full-of-one ∷ full-while-checked ∷ one ∷ []) ≡ Some NoLink ∷ Some ControlFull ∷ Some ControlFull ∷ None ∷ []
unfolding course refusal
remove-refused = refl

-- A TEI that is not on the line is disowned, or all are: their terminals are told so, nothing else changes, and nothing is
-- told. Two for all may go back to back.
disowned : brought (disown 65) one ≡ (nothing, taken 0x83)
unfolding course refusal
disowned = refl

all-disowned : brought (disown 127) (line []) ≡ (nothing, taken 0xFF)
unfolding course refusal
all-disowned = refl

disowned-twice : after (disown 127) (after (disown 127) (line [])) ≡ record (line []) { waiting = IdentityRemove 127 ∷ IdentityRemove 127 ∷ [] }
unfolding course refusal
disowned-twice = refl

-- The message stays where the TEI is then put on the line.
disowned-and-assigned : after (assign 64) (after (disown 64) (line [])) ≡ record (line (assign 64 ∷ [])) { waiting = IdentityRemove 64 ∷ [] }
unfolding course refusal
disowned-and-assigned = refl

-- One that is on the line is not disowned, nor are all while one is; else there has to be room for the message.
disown-refused : map (refusal (disown 64)) (full-of-one ∷ one ∷ full ∷ line (assign 65 ∷ []) ∷ []) ≡ Some TeiTaken ∷ Some TeiTaken ∷ Some ControlFull ∷ None ∷ []
unfolding course refusal
disown-refused = refl

disown-all-refused : map (refusal (disown 127)) (full ∷ one ∷ unpulled (map disown (127 ∷ 127 ∷ 1 ∷ 2 ∷ [])) (line []) ∷ line [] ∷ []) ≡ Some TeiTaken ∷ Some TeiTaken ∷ Some ControlFull ∷ None ∷ []
unfolding course refusal
disown-all-refused = refl

-- What is refused changes nothing.
unchanged : after (remove 64) full-of-one ≡ full-of-one
unfolding course refusal
unchanged = refl
