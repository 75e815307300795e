-- Worked values: TEIs that are assigned, checked and removed, what is due of them, and answers that break the law.
use Rattle.std.specs.Prelude.{◌≡◌, ℕ, true, false, List, [], ◌∷◌, ◌++◌, None, Some, refl}
use Rattle.lapd_frame.specs.declared.addresses.Side.TheVariants.{User}
use Rattle.lapd_frame.specs.declared.notes.Note.{Note}
use Rattle.lapd_frame.specs.declared.notes.Note.TheVariants.{Assigned, Removed, Doubled, Denied, Unassigned, RemoveAll}
use Rattle.lapd_frame.specs.declared.timers.Order.{Order}
use Rattle.lapd_frame.specs.declared.timers.Order.TheVariants.{Start, Stop}
use Rattle.lapd_frame.specs.declared.timers.Timer.TheVariants.{T201, T202}
use Rattle.lapd_frame.specs.Reading.{reading, header_of, control_of, unnumbered_of}
use Rattle.lapd_frame.specs.Senders.{exchanged, reading as read_by}
use Rattle.model_teis.specs.declared.network.messages.Message.{Message}
use Rattle.model_teis.specs.declared.network.messages.Message.TheVariants.{IdentityAssigned, IdentityDenied, IdentityCheckRequest, IdentityRemove}
use Rattle.model_teis.specs.network.Events as teis
use Rattle.model_line.specs.declared.config.Config.{Config}
use Rattle.model_line.specs.Event.{Answer, expiry, next, nothing, told, gave}
use Rattle.model_line.specs.Machine as lines
use Rattle.model_line.specs.Request.{Assign, Remove, Check, Disown, AskTei, VerifyTei, Down}
use Rattle.model_card.specs.Card.{fresh}
use Rattle.model_card.specs.Event.{Event, at}
use Rattle.model_card.specs.Machine.{answer}
use Rattle.model_card.specs.Run.{after_all}
use Rattle.laws_line.specs.card.Worked.{usual, on_0}
use Rattle.laws_trace.specs.Managing.{Managed, nothing_due, none_on, octets_of, due, managed_after}
use Rattle.laws_trace.specs.TeisAreManaged.{message_text, IsAsDue}
use Rattle.laws_trace.specs.WorkedUnits.{calls, frame_comes}

-- A message of a terminal: its type, Ri 0x1234 and Ai.
abbrev message : ℕ → ℕ → Event
message type last = frame_comes (0xFC ∷ 0xFF ∷ 0x03 ∷ 0x0F ∷ 0x12 ∷ 0x34 ∷ type ∷ last ∷ [])

abbrev asks : Event
asks = message 0x01 0xFF

abbrev responds : Event
responds = message 0x05 0x81

abbrev verifies : Event
verifies = message 0x07 0x81

abbrev expires : Event
expires = at 0 (expiry T201)

-- What is due by an event behind others.
abbrev due_behind : Config → List Event → Event → Managed
due_behind c before e = due c e.what (managed_after c 0 before)

abbrev owed_after : Config → List Event → List Message
owed_after c events = (managed_after c 0 events).owed

-- An answer by Ri 0x1234 with TEI 64, and a denial, in octets.
answer_is : message_text usual (octets_of (IdentityAssigned 0x1234 64)) ≡ 0xFE ∷ 0xFF ∷ 0x03 ∷ 0x0F ∷ 0x12 ∷ 0x34 ∷ 0x02 ∷ 0x81 ∷ []
unfolding exchanged
answer_is = refl

denial_is : message_text usual (octets_of (IdentityDenied 0x1234 127)) ≡ 0xFE ∷ 0xFF ∷ 0x03 ∷ 0x0F ∷ 0x12 ∷ 0x34 ∷ 0x03 ∷ 0xFF ∷ []
unfolding exchanged
denial_is = refl

-- A terminal asks for a TEI: the lowest is told, and its answer begins with the next call, and no more then.
assigned : (due_behind usual [] asks).notes ≡ Assigned 64 ∷ []
unfolding exchanged read_by reading header_of control_of unnumbered_of
assigned = refl

begins : (due_behind usual (asks ∷ []) (at 0 next)).begins ≡ octets_of (IdentityAssigned 0x1234 64) ∷ []
unfolding exchanged read_by reading header_of control_of unnumbered_of
begins = refl

begins_once : (due_behind usual (asks ∷ calls 1) (at 0 next)).begins ≡ []
unfolding exchanged read_by reading header_of control_of unnumbered_of
begins_once = refl

-- It asks again, and gets the same; behind TEI 64, which was put on the line by hand, the next; and where the line has no
-- room, none; and nothing on the user's side.
asked_again : owed_after usual (asks ∷ asks ∷ []) ≡ IdentityAssigned 0x1234 64 ∷ IdentityAssigned 0x1234 64 ∷ []
unfolding exchanged read_by reading header_of control_of unnumbered_of
asked_again = refl

next_lowest : owed_after usual (on_0 (Assign 64) ∷ asks ∷ []) ≡ IdentityAssigned 0x1234 65 ∷ []
unfolding exchanged read_by reading header_of control_of unnumbered_of
next_lowest = refl

denied : owed_after (record usual { terminals = 1 }) (on_0 (Assign 64) ∷ asks ∷ []) ≡ IdentityDenied 0x1234 127 ∷ []
unfolding exchanged read_by reading header_of control_of unnumbered_of
denied = refl

unserved : owed_after (record usual { side = User }) (asks ∷ []) ≡ []
unfolding exchanged read_by reading header_of control_of unnumbered_of
unserved = refl

-- A check asks, and once more where T201 runs out; then TEI 64 is told as removed, or stays where a terminal answered.
abbrev checked : List Event
checked = on_0 (Assign 64) ∷ on_0 (Check 64) ∷ []

asked_twice : owed_after usual (checked ++ expires ∷ expires ∷ []) ≡ IdentityCheckRequest 64 ∷ IdentityCheckRequest 64 ∷ []
asked_twice = refl

started : (due_behind usual checked expires).orders ≡ Start T201 ∷ []
started = refl

removed : (due_behind usual (checked ++ expires ∷ []) expires).notes ≡ Removed 64 ∷ []
removed = refl

stopped : (due_behind usual (checked ++ expires ∷ []) expires).orders ≡ Stop T201 ∷ []
stopped = refl

stays : (managed_after usual 0 (checked ++ responds ∷ expires ∷ expires ∷ [])).on ≡ 64 ∷ []
unfolding exchanged read_by reading header_of control_of unnumbered_of
stays = refl

-- Two answers in one period say that two terminals have it; one in each do not.
doubled : (due_behind usual (checked ++ responds ∷ []) responds).notes ≡ Doubled 64 ∷ []
unfolding exchanged read_by reading header_of control_of unnumbered_of
doubled = refl

taken_from_both : owed_after usual (checked ++ responds ∷ responds ∷ []) ≡ IdentityCheckRequest 64 ∷ IdentityRemove 64 ∷ []
unfolding exchanged read_by reading header_of control_of unnumbered_of
taken_from_both = refl

one_in_each : (due_behind usual (checked ++ responds ∷ expires ∷ []) responds).notes ≡ []
unfolding exchanged read_by reading header_of control_of unnumbered_of
one_in_each = refl

-- A verify begins a check, and none while one runs.
verified : (due_behind usual (on_0 (Assign 64) ∷ []) verifies).orders ≡ Start T201 ∷ []
unfolding exchanged read_by reading header_of control_of unnumbered_of
verified = refl

verified_again : (due_behind usual checked verifies).orders ≡ []
unfolding exchanged read_by reading header_of control_of unnumbered_of
verified_again = refl

-- A TEI that is not on the line is disowned: its terminals are owed a removal, and nothing else is due. All TEIs are, while none
-- is on the line; that of a line with one, and all of it, are not.
disowned : owed_after usual (on_0 (Disown 127) ∷ on_0 (Disown 127) ∷ []) ≡ IdentityRemove 127 ∷ IdentityRemove 127 ∷ []
disowned = refl

disowned_beside : due_behind usual (on_0 (Assign 64) ∷ []) (on_0 (Disown 65)) ≡ record none_on { on = 64 ∷ []; places = Some 64 ∷ []; owed = IdentityRemove 65 ∷ []; granted = Some true }
disowned_beside = refl

in_use : (due_behind usual (on_0 (Assign 64) ∷ []) (on_0 (Disown 64))).granted ∷ (due_behind usual (on_0 (Assign 64) ∷ []) (on_0 (Disown 127))).granted ∷ [] ≡ Some false ∷ Some false ∷ []
in_use = refl

of_the_network : (due_behind (record usual { side = User }) [] (on_0 (Disown 127))).granted ≡ Some false
of_the_network = refl

-- Where the line is down no message is owed, the check ends, and T201 stops, if it ran; the TEI stays, and can be checked anew.
none_owed : owed_after usual (checked ++ on_0 Down ∷ []) ≡ []
none_owed = refl

check_ends : (due_behind usual checked (on_0 Down)).orders ≡ Stop T201 ∷ []
check_ends = refl

none_ran : (due_behind usual [] (on_0 Down)).orders ≡ []
none_ran = refl

none_runs_out : due_behind usual (checked ++ on_0 Down ∷ []) expires ≡ nothing_due (managed_after usual 0 (on_0 (Assign 64) ∷ []))
none_runs_out = refl

checked_anew : (due_behind usual (checked ++ on_0 Down ∷ []) (on_0 (Check 64))).orders ≡ Start T201 ∷ []
checked_anew = refl

-- Four messages are owed; one more is lost.
abbrev four : List Event
four = asks ∷ asks ∷ asks ∷ asks ∷ []

one_lost : (due_behind usual four asks).lost ≡ 1
unfolding exchanged read_by reading header_of control_of unnumbered_of
one_lost = refl

-- The machine answers so.
abbrev answered : List Event → Event → Answer
answered before e = answer e (after_all (fresh usual) before)

abbrev tells : List Note → List Order → Answer
tells notes orders = told (record nothing { notes = notes; orders = orders })

removes_so : answered (checked ++ expires ∷ []) expires ≡ tells (Removed 64 ∷ []) (Stop T201 ∷ [])
unfolding after_all lines.after lines.answer lines.takes_slot teis.course teis.refusal
removes_so = refl

-- Where a TEI is told that no terminal asked for, or where one is not told as removed, the law is broken; so it is where
-- T201 is not stopped, or started anew by a verify, and where a message begins that is not owed, or none though one is.
unasked : IsAsDue usual (nothing_due none_on) (tells (Assigned 64 ∷ []) []) → ⊥
unasked h = cc h.notes

untold : IsAsDue usual (due_behind usual (checked ++ expires ∷ []) expires) (tells [] (Stop T201 ∷ [])) → ⊥
untold h = cc h.notes

runs_on : IsAsDue usual (due_behind usual (checked ++ expires ∷ []) expires) (tells (Removed 64 ∷ []) []) → ⊥
runs_on h = cc h.orders

anew : IsAsDue usual (due_behind usual checked verifies) (tells [] (Start T201 ∷ [])) → ⊥
unfolding exchanged read_by reading header_of control_of unnumbered_of
anew h = cc h.orders

abbrev frame : Answer
frame = gave (Some (record { octets = message_text usual (octets_of (IdentityRemove 64)); orders = [] }))

not_owed : IsAsDue usual (due_behind usual [] (at 0 next)) frame → ⊥
unfolding exchanged read_by reading header_of control_of unnumbered_of
not_owed h = cc h.begins

passed_over : IsAsDue usual (due_behind usual checked (at 0 next)) (gave None) → ⊥
passed_over h = cc h.begins

-- Where the line is down, T201 is not stopped, or a message that waited begins behind it, the law is broken, too.
runs_while_down : IsAsDue usual (due_behind usual checked (on_0 Down)) (tells [] []) → ⊥
runs_while_down h = cc h.orders

kept_for_later : IsAsDue usual (due_behind usual (checked ++ on_0 Down ∷ []) (at 0 next)) (gave (Some (record { octets = message_text usual (octets_of (IdentityCheckRequest 64)); orders = [] }))) → ⊥
unfolding exchanged read_by reading header_of control_of unnumbered_of
kept_for_later h = cc h.begins

-- A terminal with seed 0x1234, and messages of the network to it: by a type, an Ri and Ai.
abbrev pub terminal : Config
terminal = record usual { side = User; seed = Some 0x1234 }

abbrev pub says : ℕ → ℕ → ℕ → ℕ → Event
says type high low last = frame_comes (0xFE ∷ 0xFF ∷ 0x03 ∷ 0x0F ∷ high ∷ low ∷ type ∷ last ∷ [])

abbrev pub gets_64 : Event
gets_64 = says 2 0x12 0x34 0x81

abbrev pub t202 : Event
t202 = at 0 (expiry T202)

-- What begins by the next calls, as information.
abbrev info : ℕ → ℕ → ℕ → ℕ → List ℕ
info high low type last = 0x0F ∷ high ∷ low ∷ type ∷ last ∷ []

abbrev begins_after : List Event → List (List ℕ)
begins_after events = (due_behind terminal events (at 0 next)).begins ++ (due_behind terminal (events ++ calls 1) (at 0 next)).begins

-- It asks for a TEI, and T202 runs; it is told the one that is assigned, answers a check of all, and is told that it is removed.
abbrev asking : List Event
asking = on_0 AskTei ∷ []

starts : due_behind terminal [] (on_0 AskTei) ≡ record (due_behind terminal [] (on_0 AskTei)) { notes = []; orders = Start T202 ∷ []; lost = 0; begins = []; granted = Some true }
starts = refl

request_begins : begins_after asking ≡ info 0x12 0x34 1 0xFF ∷ []
request_begins = refl

comes : (due_behind terminal asking gets_64).notes ≡ Assigned 64 ∷ []
unfolding exchanged read_by reading header_of control_of unnumbered_of
comes = refl

ends : (due_behind terminal asking gets_64).orders ≡ Stop T202 ∷ []
unfolding exchanged read_by reading header_of control_of unnumbered_of
ends = refl

response_begins : begins_after (asking ++ calls 1 ++ gets_64 ∷ says 4 0 0 0xFF ∷ []) ≡ info 0x29 0x5D 5 0x81 ∷ []
unfolding exchanged read_by reading header_of control_of unnumbered_of
response_begins = refl

taken_off : (due_behind terminal (asking ++ gets_64 ∷ []) (says 6 0 0 0xFF)).notes ≡ Removed 64 ∷ []
unfolding exchanged read_by reading header_of control_of unnumbered_of
taken_off = refl

-- A newer request takes the place of an older one; a third is the last. A denial is told, and ends nothing.
newer_begins : begins_after (asking ++ t202 ∷ []) ≡ info 0x29 0x5D 1 0xFF ∷ []
newer_begins = refl

gives_up : (due_behind terminal (asking ++ t202 ∷ t202 ∷ []) t202).notes ≡ Unassigned ∷ []
gives_up = refl

is_denied : (due_behind terminal asking (says 3 0x12 0x34 0xFF)).notes ≡ Denied ∷ []
unfolding exchanged read_by reading header_of control_of unnumbered_of
is_denied = refl

-- Each of two TEIs is answered for, and if all are removed, management is told so.
abbrev both : List Event
both = on_0 (Assign 64) ∷ on_0 (Assign 65) ∷ []

both_begin : begins_after (both ++ says 4 0 0 0xFF ∷ []) ≡ info 0x12 0x34 5 0x81 ∷ info 0x29 0x5D 5 0x83 ∷ []
unfolding exchanged read_by reading header_of control_of unnumbered_of
both_begin = refl

all_go : (due_behind terminal both (says 6 0 0 0xFF)).notes ≡ RemoveAll ∷ []
unfolding exchanged read_by reading header_of control_of unnumbered_of
all_go = refl

-- Another terminal was given TEI 64: it is verified, twice, and leaves.
abbrev doubted : List Event
doubted = on_0 (Assign 64) ∷ says 2 0x55 0x55 0x81 ∷ []

verify_begins : begins_after doubted ≡ info 0 0 7 0x81 ∷ []
unfolding exchanged read_by reading header_of control_of unnumbered_of
verify_begins = refl

verifies_twice : due_behind terminal (doubted ++ t202 ∷ []) t202 ≡ record (due_behind terminal (doubted ++ t202 ∷ []) t202) { on = []; notes = Removed 64 ∷ []; orders = Stop T202 ∷ [] }
unfolding exchanged read_by reading header_of control_of unnumbered_of
verifies_twice = refl

-- It is granted no check of a TEI, nor to disown one; and a trunk's end, and the network's side, no request for one.
refused_there : (due_behind terminal both (on_0 (Check 64))).granted ∷ (due_behind terminal both (on_0 (Disown 66))).granted ∷ (due_behind terminal asking (on_0 (VerifyTei 64))).granted ∷ [] ≡ Some false ∷ Some false ∷ Some false ∷ []
refused_there = refl

refused_elsewhere : (due_behind usual [] (on_0 AskTei)).granted ∷ (due_behind (record usual { side = User }) (on_0 (Assign 64) ∷ []) (on_0 (Remove 64))).granted ∷ [] ≡ Some false ∷ Some false ∷ []
refused_elsewhere = refl
