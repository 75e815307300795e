-- The words of which the rows of the table are made. Each is a step of an event that is under way.
use Rattle.std.specs.Prelude.{ℕ, Bool, true, false, not, ◌==◌, List, [], ◌∷◌, ◌++◌, filter, Option, Some, None, option_map, set, if◌then◌else◌}
use Rattle.std.specs.List.{list_any, position}
use Rattle.lapd_frame.specs.declared.notes.Note.{Note}
use Rattle.lapd_frame.specs.declared.timers.Order.{Order}
use Rattle.lapd_frame.specs.declared.timers.Order.TheVariants.{Start, Stop}
use Rattle.lapd_frame.specs.declared.timers.Timer.TheVariants.{T202}
use Rattle.model_teis.specs.Steps.{◌then◌, nothing_happens}
use Rattle.model_teis.specs.Table.{place_of, freed}
use Rattle.model_teis.specs.declared.changes.Change.TheVariants.{Gained}
use Rattle.model_teis.specs.Changes.{left}
use Rattle.model_teis.specs.terminal.Messages.{Message, IdentityRequest, IdentityCheckResponse, IdentityVerify}
use Rattle.model_teis.specs.terminal.Numbers.{next_number}
use Rattle.model_teis.specs.terminal.Machine.{Terminal, TeiTold, nothing, Procedure, Asking, Verifying}

-- an event under way: where things stand, and what is told so far
pub record Course : Type 0 where
  pub now : Terminal
  pub told : TeiTold

abbrev pub begun : Terminal → Course
begun m = record { now = m; told = nothing }

abbrev pub Step : Type 0
Step = Course → Course

-- At most one note is told, and one order.
abbrev pub note : Note → Step
note n c = record c { told = record c.told { notes = n ∷ [] } }

abbrev pub order : Order → Step
order o c = record c { told = record c.told { orders = o ∷ [] } }

abbrev pub unserved : Step
unserved c = record c { told = record c.told { unserved = true } }

-- Which message it is.
abbrev pub is_request : Message → Bool
is_request (IdentityRequest ri) = true
is_request (IdentityCheckResponse ri tei) = false
is_request (IdentityVerify tei) = false

abbrev pub is_verify : Message → Bool
is_verify (IdentityRequest ri) = false
is_verify (IdentityCheckResponse ri tei) = false
is_verify (IdentityVerify tei) = true

abbrev pub is_response : Message → Bool
is_response (IdentityRequest ri) = false
is_response (IdentityCheckResponse ri tei) = true
is_response (IdentityVerify tei) = false

abbrev pub is_response_of : ℕ → Message → Bool
is_response_of tei (IdentityRequest ri) = false
is_response_of tei (IdentityCheckResponse ri own) = own == tei
is_response_of tei (IdentityVerify own) = false

abbrev pub is_other : ℕ → Message → Bool
is_other tei message = not (is_response_of tei message)

-- No message waits twice (profile). A newer identity request takes the place of one that waits; a verify that waits is
-- enough. All others go to the end.
abbrev pub put_at : Message → List Message → Option ℕ → List Message
put_at message waiting None = waiting ++ message ∷ []
put_at message waiting (Some place) = set waiting place message

abbrev pub with_request : ℕ → List Message → List Message
with_request ri waiting = put_at (IdentityRequest ri) waiting (position is_request waiting)

abbrev pub with_verify : ℕ → List Message → List Message
with_verify tei waiting = if list_any is_verify waiting then waiting else waiting ++ IdentityVerify tei ∷ []

-- A TEI is asked for (clause 5.3.2): with a new reference number each time (clause 5.3.2.1), for one run of T202.
abbrev pub ask : ℕ → Step
ask attempts c = order (Start T202) (record c {
  now = record c.now {
    number = next_number c.now.number;
    procedure = Some (Asking c.now.number attempts);
    waiting = with_request c.now.number c.now.waiting;
  };
})

-- A TEI is verified (clause 5.3.5): the network is asked to check it, and T202 runs.
abbrev pub verify : ℕ → ℕ → Step
verify tei attempts c = order (Start T202) (record c {
  now = record c.now { procedure = Some (Verifying tei attempts); waiting = with_verify tei c.now.waiting };
})

-- A procedure ends, and with it T202. Its message, if it waits, is withdrawn: only check responses stay (profile).
abbrev pub end_procedure : Step
end_procedure c = order (Stop T202) (record c { now = record c.now { procedure = None; waiting = filter is_response c.now.waiting } })

-- T202 stops, if it runs.
abbrev pub stop_of : Option Procedure → List Order
stop_of None = []
stop_of (Some procedure) = Stop T202 ∷ []

-- Verifying of a TEI ends, if it runs.
abbrev pub is_verified : ℕ → Option Procedure → Bool
is_verified tei None = false
is_verified tei (Some (Asking ri attempts)) = false
is_verified tei (Some (Verifying own attempts)) = own == tei

abbrev pub end_verifying_of : ℕ → Step
end_verifying_of tei c = (if is_verified tei c.now.procedure then end_procedure else nothing_happens) c

-- A check is answered (clause 5.3.3.2), with a reference number of its own, unless an answer for the TEI waits
-- (profile).
abbrev pub is_answered : ℕ → Terminal → Bool
is_answered tei m = list_any (is_response_of tei) m.waiting

abbrev pub send_response : ℕ → Step
send_response tei c = record c {
  now = record c.now {
    number = next_number c.now.number;
    waiting = c.now.waiting ++ IdentityCheckResponse c.now.number tei ∷ [];
  };
}

abbrev pub respond : ℕ → Step
respond tei c = (if is_answered tei c.now then nothing_happens else send_response tei) c

-- A TEI comes to the line, at a place that is free.
abbrev pub join : ℕ → ℕ → Step
join tei place c = record c {
  now = record c.now { places = set c.now.places place (Some tei) };
  told = record c.told { change = Some (Gained tei place) };
}

-- A TEI leaves the line: its place is free again, and its answer to a check, if it waits, is withdrawn (profile).
abbrev pub leave : ℕ → Step
leave tei c = record c {
  now = record c.now {
    places = freed c.now.places (place_of tei c.now.places);
    waiting = filter (is_other tei) c.now.waiting;
  };
  told = record c.told { change = option_map (left tei) (place_of tei c.now.places) };
}
