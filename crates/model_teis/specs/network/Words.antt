-- The words of which the rows of the table are made. Each is a step of an event that is under way.
use Rattle.std.specs.Prelude.{ℕ, ◌+◌, ◌-◌, Bool, true, false, not, ◌==◌, nat_le, List, [], ◌∷◌, ◌++◌, length, drop, filter, Option, Some, None, option_map, replicate, set, if◌then◌else◌}
use Rattle.std.specs.List.{position}
use Rattle.lapd_frame.specs.declared.notes.Note.{Note}
use Rattle.lapd_frame.specs.declared.timers.Order.{Order}
use Rattle.lapd_frame.specs.declared.timers.Order.TheVariants.{Start, Stop}
use Rattle.lapd_frame.specs.declared.timers.Timer.TheVariants.{T201}
use Rattle.lapd_frame.specs.Readings.{by_reading}
use Rattle.model_teis.specs.network.Messages.{Message, IdentityCheckRequest}
use Rattle.model_teis.specs.Steps.{◌then◌}
use Rattle.model_teis.specs.Table.{place_of, freed}
use Rattle.model_teis.specs.Changes.{left}
use Rattle.model_teis.specs.network.Machine.{Management, TeiTold, nothing, is_due, next_checked, Remembered, Check, First, Settling, Gained, messages_limit, remembered_limit}

-- an event under way: where things stand, and what is told so far
pub record Course : Type 0 where
  pub now : Management
  pub told : TeiTold

abbrev pub begun : Management → Course
begun m = record { now = m; told = nothing }

abbrev pub Step : Type 0
Step = Course → Course

-- What differs by the reading of the table: the first step in the profile, the second by annex B.
abbrev pub read_as : Step → Step → Step
read_as profile annex_b c = by_reading c.now.reading (profile c) (annex_b c)

-- A message is sent: it waits, or it is lost where as many wait as may (profile).
abbrev pub no_room : List Message → Bool
no_room waiting = nat_le messages_limit (length waiting)

abbrev pub with_message : Message → List Message → List Message
with_message message waiting = if no_room waiting then waiting else waiting ++ message ∷ []

abbrev pub lost_after : List Message → ℕ → ℕ
lost_after waiting lost = if no_room waiting then lost + 1 else lost

abbrev pub send : Message → Step
send message c = record c {
  now = record c.now { waiting = with_message message c.now.waiting };
  told = record c.told { lost = lost_after c.now.waiting c.told.lost };
}

-- The messages that wait are given up.
abbrev pub withdraw : Step
withdraw c = record c { now = record c.now { waiting = [] } }

-- A message that would find no room is not made, and counts as lost.
abbrev pub lose_one : Step
lose_one c = record c { told = record c.told { lost = c.told.lost + 1 } }

abbrev pub note : Note → Step
note n c = record c { told = record c.told { notes = c.told.notes ++ n ∷ [] } }

abbrev pub order : Order → Step
order o c = record c { told = record c.told { orders = c.told.orders ++ o ∷ [] } }

abbrev pub unserved : Step
unserved c = record c { told = record c.told { unserved = true } }

-- A TEI comes to the line, at a place that is free.
abbrev pub join : ℕ → ℕ → Step
join tei place c = record c {
  now = record c.now { places = set c.now.places place (Some tei) };
  told = record c.told { change = Some (Gained tei place) };
}

-- An assignment is remembered (profile), but not by annex B; with as many remembered as may be, the oldest is forgotten.
abbrev pub latest : List Remembered → List Remembered
latest all = drop (length all - remembered_limit) all

abbrev pub remember : ℕ → ℕ → Step
remember ri tei c = record c {
  now = record c.now {
    remembered = by_reading c.now.reading (latest (c.now.remembered ++ record { ri = ri; tei = tei } ∷ [])) c.now.remembered;
  };
}

-- A TEI leaves the line: its place is free again, and its assignment is forgotten, and that a check of it is due.
abbrev pub is_of_other : ℕ → Remembered → Bool
is_of_other tei r = not (r.tei == tei)

abbrev pub due_at : Option ℕ → Bool → List Bool → List Bool
due_at None due to_check = to_check
due_at (Some place) due to_check = set to_check place due

abbrev pub leave : ℕ → Step
leave tei c = record c {
  now = record c.now {
    places = freed c.now.places (place_of tei c.now.places);
    remembered = filter (is_of_other tei) c.now.remembered;
    to_check = due_at (place_of tei c.now.places) false c.now.to_check;
  };
  told = record c.told { change = option_map (left tei) (place_of tei c.now.places) };
}

-- A check is on.
abbrev pub check_is : Option Check → Step
check_is check c = record c { now = record c.now { check = check } }

-- A check of a TEI begins: it is asked for in the first of two periods, without responses so far (clause 5.3.3.2).
abbrev pub begin_check : ℕ → Step
begin_check tei =
    send (IdentityCheckRequest tei) then order (Start T201)
    then check_is (Some (record { tei = tei; period = First; first = 0; second = 0 }))

-- A check of a TEI is due once the one that runs has ended; or that at the lowest place is due no more; or none is.
abbrev pub check_is_due : ℕ → Step
check_is_due tei c = record c { now = record c.now { to_check = due_at (place_of tei c.now.places) true c.now.to_check } }

abbrev pub lowest_is_not_due : Step
lowest_is_not_due c = record c { now = record c.now { to_check = due_at (position is_due c.now.to_check) false c.now.to_check } }

abbrev pub no_check_is_due : Step
no_check_is_due c = record c { now = record c.now { to_check = replicate (length c.now.to_check) false } }

-- A check settles first if it was due: its terminal may just have been asked (clause 5.3.5), and an answer to that is not to
-- count. So T201 runs once before the check begins, and no message is sent (profile).
abbrev pub settle : ℕ → Step
settle tei = order (Start T201) then check_is (Some (record { tei = tei; period = Settling; first = 0; second = 0 }))

-- A check ends, and with it T201 (profile). By annex B, of those that are due the one at the lowest place settles; if none is,
-- T201 stops.
abbrev pub stop_check : Step
stop_check = check_is None then order (Stop T201)

abbrev pub begin_next : Option ℕ → Step
begin_next None = stop_check
begin_next (Some tei) = lowest_is_not_due then settle tei

abbrev pub check_next : Step
check_next c = begin_next (next_checked c.now) c

abbrev pub end_check : Step
end_check = read_as stop_check check_next
