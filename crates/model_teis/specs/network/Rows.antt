-- The table of TEI management (Q.921 clause 5.3): one equation for each row.
use Rattle.std.specs.Prelude.{ℕ, ◌+◌, Bool, false, ◌&&◌, ◌==◌, nat_le, List, Option, Some, None, option_map, if◌then◌else◌}
use Rattle.std.specs.List.{find, list_any}
use Rattle.lapd_frame.specs.declared.notes.Note.TheVariants.{Assigned, Removed, Doubled}
use Rattle.lapd_frame.specs.declared.timers.Order.TheVariants.{Start}
use Rattle.lapd_frame.specs.declared.timers.Timer.TheVariants.{T201}
use Rattle.model_teis.specs.network.Messages.{IdentityAssigned, IdentityDenied, IdentityCheckRequest, IdentityRemove, Message, Heard, IdentityRequest, IdentityRequestOf, IdentityCheckResponse, IdentityVerify, heard_in, names, responses_in}
use Rattle.model_teis.specs.Table.{is_on, free_place, free_tei}
use Rattle.model_teis.specs.network.Machine.{Remembered, Check, Period, First, Second, Settling}
use Rattle.model_teis.specs.Steps.{◌then◌, nothing_happens}
use Rattle.model_teis.specs.network.Words.{Step, read_as, no_check_is_due, check_is_due, no_room, send, withdraw, lose_one, note, order, unserved, join, remember, leave, check_is, begin_check, stop_check, end_check}

-- An identity request for any TEI (clause 5.3.2) is served by the first case that holds (profile); the cases stand here
-- from the last to the first.

-- Which TEI was assigned for this Ri, as far as it is remembered.
abbrev pub is_for : ℕ → Remembered → Bool
is_for ri r = r.ri == ri

abbrev pub tei_in : Remembered → ℕ
tei_in r = r.tei

abbrev pub remembered_in : ℕ → List Remembered → Option ℕ
remembered_in ri remembered = option_map tei_in (find (is_for ri) remembered)

-- Third: a place is free. The lowest TEI is put at the lowest place. Else: the request is denied. (A table of fewer
-- than 63 places always has a free TEI.)
abbrev pub assign_new : ℕ → Option ℕ → Option ℕ → Step
assign_new ri (Some place) (Some tei) =
    join tei place then remember ri tei then send (IdentityAssigned ri tei) then note (Assigned tei)
assign_new ri (Some place) None = send (IdentityDenied ri 127)
assign_new ri None tei = send (IdentityDenied ri 127)

-- Second: its Ri is remembered, in the profile. The request came again, and gets the same answer again.
abbrev pub assign : ℕ → Option ℕ → Step
assign ri (Some tei) c = send (IdentityAssigned ri tei) c
assign ri None c = assign_new ri (free_place c.now.places) (free_tei c.now.places) c

-- First: there is no room for an answer. Nothing is assigned, and the answer is lost.
abbrev pub answer_request : ℕ → Step
answer_request ri c = (if no_room c.now.waiting then lose_one else assign ri (remembered_in ri c.now.remembered)) c

-- Before all, by annex B: an answer to this Ri waits still. The request came again, and is not served.
abbrev pub assigns_for : ℕ → Message → Bool
assigns_for ri (IdentityAssigned other tei) = other == ri
assigns_for ri other = false

abbrev pub request_anew : ℕ → Step
request_anew ri c = (if list_any (assigns_for ri) c.now.waiting then unserved else answer_request ri) c

abbrev pub request : ℕ → Step
request ri = read_as (answer_request ri) (request_anew ri)

-- A request for a TEI of its choice: not served (profile); by annex B it is denied (clause 5.3.2).
abbrev pub request_of : ℕ → ℕ → Step
request_of ri tei = read_as unserved (send (IdentityDenied ri tei))

-- A verify asks for a check of a TEI that is on the line (clause 5.3.5). If none runs, it begins. While another TEI is under
-- check, it is not served (profile). By annex B the terminal gets a check request at once, unless one waits, as that ends its
-- verifying; and the check is due.
abbrev pub asks_for : ℕ → Message → Bool
asks_for tei (IdentityCheckRequest other) = other == tei
asks_for tei other = false

abbrev pub ask_once : ℕ → Step
ask_once tei c = (if list_any (asks_for tei) c.now.waiting then nothing_happens else send (IdentityCheckRequest tei)) c

abbrev pub verify_later : ℕ → Step
verify_later tei = read_as unserved (ask_once tei then check_is_due tei)

abbrev pub verify_beside : ℕ → Option Check → Step
verify_beside tei None = begin_check tei
verify_beside tei (Some check) = if check.tei == tei then unserved else verify_later tei

abbrev pub verify : ℕ → Step
verify tei c = (if is_on tei c.now.places then verify_beside tei c.now.check else unserved) c

-- A check response of the TEI under check (clause 5.3.3.2) counts in the period that runs; while the check settles, in none.
abbrev pub counted : Check → Check
counted check = elim check.period [
  | First ↦ record check { first = check.first + 1 }
  | Second ↦ record check { second = check.second + 1 }
  | Settling ↦ check
]

abbrev pub responses : Check → ℕ
responses check = elim check.period [ First ↦ check.first | Second ↦ check.second | Settling ↦ 0 ]

-- The second response of one period tells of a second terminal with the TEI, which leaves the line (clause 5.3.4).
abbrev pub doubled : ℕ → Step
doubled tei = note (Doubled tei) then send (IdentityRemove tei) then end_check then leave tei

abbrev pub count : ℕ → Check → Step
count tei check = if nat_le 2 (responses check) then doubled tei else check_is (Some check)

abbrev pub respond : ℕ → Option Check → Step
respond tei None = unserved
respond tei (Some check) = if check.tei == tei then count tei (counted check) else unserved

-- A check response with more Ai than one: not served (profile); by annex B it counts once, if the TEI under check is among
-- them (clause 5.3.3.2). One Ai is served above.
abbrev pub is_among : ℕ → Option (List ℕ) → Bool
is_among tei None = false
is_among tei (Some octets) = list_any (names tei) octets

abbrev pub respond_among : Option (List ℕ) → Option Check → Step
respond_among teis None = unserved
respond_among teis (Some check) = if is_among check.tei teis then count check.tei (counted check) else unserved

-- What a message of a terminal leads to.
abbrev pub serve : Option Heard → Option (List ℕ) → Step
serve (Some (IdentityRequest ri)) teis c = request ri c
serve (Some (IdentityRequestOf ri tei)) teis c = request_of ri tei c
serve (Some (IdentityVerify tei)) teis c = verify tei c
serve (Some (IdentityCheckResponse tei)) teis c = respond tei c.now.check c
serve None teis c = read_as unserved (respond_among teis c.now.check) c

abbrev pub hear : List ℕ → Step
hear octets c = serve (heard_in c.now.reading octets) (responses_in octets) c

-- T201 has expired (clause 5.3.3.2). In the first period the check is asked for again. At the end of the second the
-- check ends, and a TEI without a response in either period leaves the line (clauses 5.3.3.2 and 5.3.4); by annex B the
-- terminals with it are told so (clause 5.3.4.2), in the profile not. A check that has settled begins. Where no check runs,
-- T201 does not run, and nothing happens (profile).
abbrev pub removed : ℕ → Step
removed tei = note (Removed tei) then read_as nothing_happens (send (IdentityRemove tei)) then end_check then leave tei

abbrev pub is_unanswered : Check → Bool
is_unanswered check = check.first == 0 && check.second == 0

abbrev pub expire_period : Check → Period → Step
expire_period check First =
    send (IdentityCheckRequest check.tei) then order (Start T201) then check_is (Some (record check { period = Second }))
expire_period check Second = if is_unanswered check then removed check.tei else end_check
expire_period check Settling = begin_check check.tei

abbrev pub expire_check : Option Check → Step
expire_check None = nothing_happens
expire_check (Some check) = expire_period check check.period

abbrev pub expire : Step
expire c = expire_check c.now.check c

-- A request of layer management to put a TEI on the line (MDL-ASSIGN request, clause 4.1.1.5): at the lowest place that
-- is free (profile).
abbrev pub join_at : ℕ → Option ℕ → Step
join_at tei (Some place) = join tei place
join_at tei None = nothing_happens

abbrev pub put_on : ℕ → Step
put_on tei c = join_at tei (free_place c.now.places) c

-- A request to take a TEI off the line (clause 5.3.4): the terminals with it are told so, once (profile: the standard
-- says it twice), and a check of it ends.
abbrev pub is_checked : ℕ → Option Check → Bool
is_checked tei None = false
is_checked tei (Some check) = check.tei == tei

abbrev pub end_check_of : ℕ → Step
end_check_of tei c = (if is_checked tei c.now.check then end_check else nothing_happens) c

abbrev pub take_off : ℕ → Step
take_off tei = send (IdentityRemove tei) then end_check_of tei then leave tei

-- A request to disown a TEI that is not on the line (clause 5.3.4): a terminal that still uses it is told to give it up, or
-- each terminal, where the request is for all TEIs, 127. The network has nothing of it that could change.
abbrev pub disown : ℕ → Step
disown tei = send (IdentityRemove tei)

-- The line is down (persistent deactivation, annex B): the messages that wait are given up, no check is due any more, and one
-- that runs ends without a result. The TEIs stay on the line, and nothing is told (profile).
abbrev pub end_if_any : Option Check → Step
end_if_any None = nothing_happens
end_if_any (Some check) = stop_check

abbrev pub give_up : Step
give_up c = (withdraw then no_check_is_due then end_if_any c.now.check) c
