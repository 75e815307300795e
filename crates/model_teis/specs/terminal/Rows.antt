-- The table of TEI management of a terminal (Q.921 clause 5.3): one equation for each row.
use Rattle.std.specs.Prelude.{ℕ, ◌+◌, Bool, not, ◌&&◌, ◌==◌, nat_le, nat_lt, List, [], ◌∷◌, Option, Some, None, if◌then◌else◌}
use Rattle.std.specs.List.{fold}
use Rattle.lapd_frame.specs.declared.notes.Note.TheVariants.{Assigned, Removed, Denied, Unassigned, RemoveAll}
use Rattle.lapd_frame.specs.declared.readings.Reading.{Reading}
use Rattle.lapd_frame.specs.Readings.{by_reading}
use Rattle.model_teis.specs.Table.{Places, is_on, free_place}
pub use Rattle.model_teis.specs.Table.{named}
use Rattle.model_teis.specs.terminal.Messages.{Heard, IdentityAssigned, IdentityDenied, IdentityCheckRequest, IdentityRemove, heard_in}
use Rattle.model_teis.specs.terminal.Machine.{most_requests, most_verifies, Procedure, Asking, Verifying}
use Rattle.model_teis.specs.Steps.{◌then◌, nothing_happens}
use Rattle.model_teis.specs.terminal.Words.{Course, Step, note, unserved, ask, verify, end_procedure, end_verifying_of, respond, join, leave}

-- A TEI is assigned to the terminal, which has asked for one by this reference number (clause 5.3.2): one that the
-- network assigns (64 to 126, clause 3.3.4.2), by annex B any of 0 to 126, not on the line so far. It takes the lowest place
-- that is free (profile).
abbrev pub take_at : ℕ → Option ℕ → Step
take_at tei (Some place) = join tei place then end_procedure then note (Assigned tei)
take_at tei None = unserved

abbrev pub lowest_taken : Reading → ℕ
lowest_taken reading = by_reading reading 64 0

abbrev pub is_assignable : Reading → ℕ → Places → Bool
is_assignable reading tei places = nat_le (lowest_taken reading) tei && nat_le tei 126 && not (is_on tei places)

abbrev pub take_tei : ℕ → Step
take_tei tei c = (if is_assignable c.now.reading tei c.now.places then take_at tei (free_place c.now.places) else unserved) c

-- Another terminal is assigned a TEI that this one has: verifying it begins (clause 5.3.4.2; in place of its removal,
-- profile). While a procedure runs that is not served (profile).
abbrev pub doubt : ℕ → Step
doubt tei c = (if is_on tei c.now.places then verify tei 1 else unserved) c

abbrev pub assigned : ℕ → ℕ → Option Procedure → Step
assigned ri tei None = doubt tei
assigned ri tei (Some (Asking own attempts)) = if own == ri then take_tei tei else unserved
assigned ri tei (Some (Verifying own attempts)) = unserved

-- The network has no TEI for the terminal (clause 5.3.2): management is told, and the terminal goes on asking
-- (profile).
abbrev pub denied : ℕ → Option Procedure → Step
denied ri None = unserved
denied ri (Some (Asking own attempts)) = if own == ri then note Denied else unserved
denied ri (Some (Verifying own attempts)) = unserved

-- The network checks a TEI, or all by Ai 127 (clause 5.3.3.2): each that is on the line is answered for, by its place,
-- in a message of its own (profile: one Ai a response). The check is what a verify asks for, so verifying of the TEI
-- ends.
abbrev pub answer : ℕ → Step
answer tei = end_verifying_of tei then respond tei

abbrev pub answered : Course → ℕ → Course
answered c tei = answer tei c

abbrev pub checked : List ℕ → Step
checked [] c = unserved c
checked (tei ∷ teis) c = fold answered c (tei ∷ teis)

-- The network removes a TEI, or all by Ai 127 (clause 5.3.4): it leaves, and management is told. A report has room for
-- one note of a TEI; so if more than one is on the line, management is told that all are to go, and takes them off
-- (profile).
abbrev pub removed : ℕ → Step
removed tei = end_verifying_of tei then leave tei then note (Removed tei)

abbrev pub removed_each : List ℕ → Step
removed_each [] c = unserved c
removed_each (tei ∷ []) c = removed tei c
removed_each (tei ∷ other ∷ teis) c = note RemoveAll c

-- What a message of the network leads to.
abbrev pub serve : Option Heard → Step
serve None c = unserved c
serve (Some (IdentityAssigned ri tei)) c = assigned ri tei c.now.procedure c
serve (Some (IdentityDenied ri)) c = denied ri c.now.procedure c
serve (Some (IdentityCheckRequest tei)) c = checked (named tei c.now.places) c
serve (Some (IdentityRemove tei)) c = removed_each (named tei c.now.places) c

abbrev pub hear : List ℕ → Step
hear octets c = serve (heard_in c.now.reading octets) c

-- T202 has expired (clause 5.3.2.1; of verifying, clause 5.3.5). A TEI is asked for again, with a new reference number,
-- as often as N202 allows, and management is told if none came. A verify is sent twice; without a check after that the
-- TEI leaves the line. If no procedure runs, T202 does not run, and nothing happens (profile).
abbrev pub give_up_asking : Step
give_up_asking = end_procedure then note Unassigned

abbrev pub ask_again : ℕ → Step
ask_again attempts = if nat_lt attempts most_requests then ask (attempts + 1) else give_up_asking

abbrev pub verify_again : ℕ → ℕ → Step
verify_again tei attempts = if nat_lt attempts most_verifies then verify tei (attempts + 1) else removed tei

abbrev pub expire_procedure : Option Procedure → Step
expire_procedure None = nothing_happens
expire_procedure (Some (Asking ri attempts)) = ask_again attempts
expire_procedure (Some (Verifying tei attempts)) = verify_again tei attempts

abbrev pub expire : Step
expire c = expire_procedure c.now.procedure c

-- A request of layer management to put a TEI on the line (MDL-ASSIGN request, clause 4.1.1.5): at the lowest place that
-- is free (profile).
abbrev pub join_at : ℕ → Option ℕ → Step
join_at tei (Some place) = join tei place
join_at tei None = nothing_happens

abbrev pub put_on : ℕ → Step
put_on tei c = join_at tei (free_place c.now.places) c

-- A request to take a TEI off the line (MDL-REMOVE request, clause 5.3.4): nobody is told, and verifying of it ends.
abbrev pub take_off : ℕ → Step
take_off tei = end_verifying_of tei then leave tei

-- The line is down (persistent deactivation, annex B): the messages that wait are given up, and a procedure ends
-- without a result. The TEIs stay on the line, the reference number stays, and nothing is told (profile).
abbrev pub withdraw_all : Step
withdraw_all c = record c { now = record c.now { waiting = [] } }

abbrev pub end_if_any : Option Procedure → Step
end_if_any None = nothing_happens
end_if_any (Some procedure) = end_procedure

abbrev pub give_up : Step
give_up c = (end_if_any c.now.procedure then withdraw_all) c
