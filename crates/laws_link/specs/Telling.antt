-- What an event tells layer 3 and layer management, in order, by the state that it leads to.
use Rattle.std.specs.Prelude.{ℕ, ◌==◌, Bool, true, false, not, ◌&&◌, nat_lt, List, [], ◌∷◌, ◌++◌, length, if◌then◌else◌}
use Rattle.lapd_frame.specs.declared.controls.Control.{Control}
use Rattle.lapd_frame.specs.declared.controls.Control.TheVariants.{Information, ReceiveReady, ReceiveNotReady, Reject, Sabme, Disc, Ui, Ua, Dm, Frmr, Xid}
use Rattle.lapd_frame.specs.declared.notes.ErrorCode.{ErrorCode}
use Rattle.lapd_frame.specs.declared.notes.ErrorCode.TheVariants as code
use Rattle.lapd_frame.specs.declared.notes.Note.{Note}
use Rattle.lapd_frame.specs.Readings.{by_reading}
use Rattle.lapd_frame.specs.declared.notes.Note.TheVariants as notes
use Rattle.model_link.specs.declared.states.State.{State}
use Rattle.model_link.specs.declared.states.State.TheVariants.{TeiAssigned, AwaitingEstablishment, AwaitingRelease, Established, TimerRecovery}
use Rattle.model_link.specs.declared.terms.Terms.{Terms}
use Rattle.model_link.specs.Link.{Link, state_number}
use Rattle.model_link.specs.Events.{Received, frame, undefined, wrong_size, overlong, Request, Release, Event, received, expired, requested, offer, cleared}
use Rattle.laws_link.specs.Flags.{takes_contents}

abbrev pub error : Terms → ErrorCode → List Note
error t e = notes.Error t.service t.tei e ∷ []

abbrev pub establish_indication : Terms → List Note
establish_indication t = notes.EstablishIndication t.service t.tei ∷ []

abbrev pub release_indication : Terms → List Note
release_indication t = notes.ReleaseIndication t.service t.tei ∷ []

abbrev pub release_confirm : Terms → List Note
release_confirm t = notes.ReleaseConfirm t.service t.tei ∷ []

-- In every state a UI within N201 tells unit data, and XID is told (Q.921 clause 5.2.3, and the profile). UA that answers
-- nothing is error C with F=1, and D with F=0 (clause 5.8.7).
abbrev pub to_unit : Terms → List ℕ → List Note
to_unit t octets = if nat_lt t.n201 (length octets) then [] else notes.Unit t.service t.tei ∷ []

abbrev pub unasked : Terms → Bool → List Note
unasked t f = if f then error t code.C else error t code.D

-- In state 4 SABME is told (clause 5.5.1.2).
abbrev pub told_in_4 : Terms → List ℕ → Control → List Note
told_in_4 t octets (Sabme p) = establish_indication t
told_in_4 t octets (Ua f) = unasked t f
told_in_4 t octets (Ui p) = to_unit t octets
told_in_4 t octets (Xid pf) = notes.Xid t.service t.tei ∷ []
told_in_4 t octets other = []

-- In state 5 the end of the establishment is told as layer 3 asked for it; where this side began it, only if contents were
-- outstanding (clauses 5.5.1.2 and 5.7). The link's end is told as its release, if that is owed, which an establishment
-- begins (annex B).
abbrev pub down_from_5 : Bool → Terms → List Note
down_from_5 owed t = if owed then release_confirm t else release_indication t

abbrev pub told_in_5 : Terms → List ℕ → Control → Link → List Note
told_in_5 t octets (Ua true) l =
    if l.owed then [] else if l.asked then notes.EstablishConfirm t.service t.tei ∷ []
    else if l.s == l.a then [] else establish_indication t
told_in_5 t octets (Ua false) l = error t code.D
told_in_5 t octets (Dm true) l = down_from_5 l.owed t
told_in_5 t octets (Ui p) l = to_unit t octets
told_in_5 t octets (Xid pf) l = notes.Xid t.service t.tei ∷ []
told_in_5 t octets other l = []

-- In state 6 the end of the link is told (clause 5.5.3.2).
abbrev pub told_in_6 : Terms → List ℕ → Control → List Note
told_in_6 t octets (Ua true) = release_confirm t
told_in_6 t octets (Ua false) = error t code.D
told_in_6 t octets (Dm true) = release_confirm t
told_in_6 t octets (Ui p) = to_unit t octets
told_in_6 t octets (Xid pf) = notes.Xid t.service t.tei ∷ []
told_in_6 t octets other = []

-- In states 7 and 8: a response with F=1 that no enquiry asked for is error A (clause 5.8.7); an invalid N(R), by which the
-- link comes to state 5, is error J, behind what else is told (clause 5.8.2); the bit says whether an I-frame is taken.
abbrev pub numbered_as : Terms → State → List Note
numbered_as t to = if state_number to == 5 then error t code.J else []

abbrev pub final_as : Terms → Bool → Bool → List Note
final_as t recovering final = if not recovering && final then error t code.A else []

abbrev pub told_up : Bool → Terms → Bool → List ℕ → Control → Bool → Link → State → List Note
told_up recovering t command octets (Information ns nr p) taken l to =
    (if taken then notes.Data t.service t.tei ∷ [] else []) ++ numbered_as t to
told_up recovering t command octets (ReceiveReady nr pf) taken l to = final_as t recovering (not command && pf) ++ numbered_as t to
told_up recovering t command octets (ReceiveNotReady nr pf) taken l to = final_as t recovering (not command && pf) ++ numbered_as t to
told_up recovering t command octets (Reject nr pf) taken l to = final_as t recovering (not command && pf) ++ numbered_as t to
told_up recovering t command octets (Sabme p) taken l to = error t code.F ++ (if l.s == l.a then [] else establish_indication t)
told_up recovering t command octets (Disc p) taken l to = release_indication t
told_up recovering t command octets (Ua f) taken l to = unasked t f
told_up recovering t command octets (Dm f) taken l to = if f then error t code.B else error t code.E
told_up recovering t command octets (Frmr f) taken l to = error t code.K
told_up recovering t command octets (Ui p) taken l to = to_unit t octets
told_up recovering t command octets (Xid pf) taken l to = notes.Xid t.service t.tei ∷ []

abbrev pub told_by_frame : State → Terms → Bool → List ℕ → Control → Bool → Link → State → List Note
told_by_frame TeiAssigned t command octets control taken l to = told_in_4 t octets control
told_by_frame AwaitingEstablishment t command octets control taken l to = told_in_5 t octets control l
told_by_frame AwaitingRelease t command octets control taken l to = told_in_6 t octets control
told_by_frame Established t command octets control taken l to = told_up false t command octets control taken l to
told_by_frame TimerRecovery t command octets control taken l to = told_up true t command octets control taken l to

-- What the grammar does not have, or was too long, is told in states 7 and 8, and by annex B in all (clause 5.8.5).
abbrev pub told_malformed : State → Terms → ErrorCode → List Note
told_malformed Established t e = error t e
told_malformed TimerRecovery t e = error t e
told_malformed other t e = by_reading t.reading [] (error t e)

abbrev pub told_received : Terms → Received → Bool → Link → State → List Note
told_received t (frame f) taken l to = told_by_frame l.state t f.address.command f.info f.control taken l to
told_received t undefined taken l to = told_malformed l.state t code.L
told_received t wrong_size taken l to = told_malformed l.state t code.N
told_received t overlong taken l to = told_malformed l.state t code.O

-- The last expiry of T200 is told: errors G, H and I (clauses 5.5.1.3, 5.5.3.3 and 5.6.7).
abbrev pub told_expired : State → Bool → Terms → State → List Note
told_expired AwaitingEstablishment owed t TeiAssigned = error t code.G ++ down_from_5 owed t
told_expired AwaitingRelease owed t TeiAssigned = error t code.H ++ release_confirm t
told_expired TimerRecovery owed t AwaitingEstablishment = error t code.I
told_expired other owed t to = []

-- The release of a link that is down is confirmed; no other request is told (annex B).
abbrev pub told_requested : State → Terms → Request → List Note
told_requested TeiAssigned t Release = release_confirm t
told_requested other t request = []

-- Where the TEI leaves, layer 3 is told as the state has it (clause 5.3.4).
abbrev pub told_cleared : State → Bool → Terms → List Note
told_cleared TeiAssigned owed t = []
told_cleared AwaitingEstablishment owed t = down_from_5 owed t
told_cleared AwaitingRelease owed t = release_confirm t
told_cleared other owed t = release_indication t

abbrev pub told_with : Terms → Event → Bool → Link → State → List Note
told_with t (received r) taken l to = told_received t r taken l to
told_with t (expired timer) taken l to = told_expired l.state l.owed t to
told_with t (requested request pool_is_full) taken l to = told_requested l.state t request
told_with t offer taken l to = []
told_with t cleared taken l to = told_cleared l.state l.owed t

abbrev pub told_by : Terms → Event → Link → State → List Note
told_by t e l to = told_with t e (takes_contents e l) l to
