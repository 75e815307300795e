-- What is given up is told. `Outgoing` defines what a link keeps: what it is granted, and is neither acknowledged nor given up.
use Rattle.std.specs.Prelude.{◌≡◌, ℕ, ◌==◌, ◌||◌, ◌&&◌, not, ◌⊎◌, List, [], ◌∷◌, length, Option, Some, None, if◌then◌else◌}
use Rattle.std.specs.Option.{option_or, unwrap_or}
use Rattle.lapd_frame.specs.declared.notes.Note.{Note}
use Rattle.lapd_frame.specs.declared.notes.Note.TheVariants as note
use Rattle.lapd_frame.specs.declared.services.Service.{Service}
use Rattle.lapd_frame.specs.declared.services.Service.TheVariants.{Call, Packet}
use Rattle.model_line.specs.declared.config.Config.{Config}
use Rattle.model_line.specs.Event as line_event
use Rattle.model_line.specs.Event.{Answer, request}
use Rattle.model_line.specs.Request.{Request, Establish, Release, Data, SetBusy, ClearBusy, Deactivate, Remove}
use Rattle.model_card.specs.Event.{Event}
use Rattle.laws_line.specs.Frames.{given_up_in}
use Rattle.laws_line.specs.Heard.{notes_of}
use Rattle.laws_trace.specs.Managing.{is_on}
use Rattle.laws_trace.specs.Observer.{moment_of, views}
use Rattle.laws_trace.specs.Outgoing.{loses, outgoing_of}

-- How many a link gives up by an event of its line. It is all that it keeps, if layer 3 learns that it keeps nothing, or if
-- its TEI leaves the line (Q.921 clauses 5.3.4, 5.5.1.1, 5.5.3.2 and 5.7). Otherwise it is none.
abbrev pub given_up : Config → Service → ℕ → ℕ → List Event → line_event.Event → ℕ
given_up c service tei number events what =
    let o = outgoing_of c service tei number events in
    let m = moment_of c events number what in
    let stays = is_on tei (views c service tei number o.view m).teis in
    if is_on tei o.view.teis && (loses service tei what m.answer || not stays) then length o.kept else 0

-- The TEI of a request of a link, or of one to remove a TEI.
abbrev pub named_by : Request → Option ℕ
named_by (Establish of tei) = Some tei
named_by (Release of tei) = Some tei
named_by (Data of tei contents) = Some tei
named_by (SetBusy of tei) = Some tei
named_by (ClearBusy of tei) = Some tei
named_by (Deactivate of tei) = Some tei
named_by (Remove tei) = Some tei
named_by other = None

-- That of an event that is such a request.
abbrev pub asked_by : line_event.Event → Option ℕ
asked_by (request r) = named_by r
asked_by other = None

-- The TEI that a note names, and that the first of some does (profile).
abbrev pub tei_of : Note → Option ℕ
tei_of (note.EstablishIndication of tei) = Some tei
tei_of (note.EstablishConfirm of tei) = Some tei
tei_of (note.ReleaseIndication of tei) = Some tei
tei_of (note.ReleaseConfirm of tei) = Some tei
tei_of (note.Data of tei) = Some tei
tei_of (note.Unit of tei) = Some tei
tei_of (note.Error of tei code) = Some tei
tei_of (note.Assigned tei) = Some tei
tei_of (note.Removed tei) = Some tei
tei_of (note.Doubled tei) = Some tei
tei_of (note.Xid of tei) = Some tei
tei_of other = None

abbrev pub first_of : List Note → Option ℕ
first_of [] = None
first_of (n ∷ ns) = tei_of n

-- The TEI that is told with what is given up: that which a request names; else that of the first note; 255 if nothing is given up
-- (profile).
abbrev pub given_up_tei : line_event.Event → Answer → ℕ
given_up_tei what answer =
    if (given_up_in Call answer == 0) && (given_up_in Packet answer == 0) then 255
    else unwrap_or (option_or (asked_by what) (first_of (notes_of answer))) 255

-- Of each service an event tells as many as one link gives up, and none only if no link does (profile). All links that give
-- up contents by one event are of one TEI, whatever their services. This TEI is told.
pub record TellsGivenUp (c : Config) (events : List Event) (number : ℕ) (service : Service) (what : line_event.Event) : Type 0 where
  pub told : (tei : ℕ) → (given_up c service tei number events what ≡ 0)
      ⊎ (given_up_in service (moment_of c events number what).answer ≡ given_up c service tei number events what)
  pub given : (given_up_in service (moment_of c events number what).answer ≡ 0)
      ⊎ ((tei : ℕ) × (given_up c service tei number events what ≡ given_up_in service (moment_of c events number what).answer))
  pub whose : (tei : ℕ) (other : Service) (by : ℕ) → (given_up c service tei number events what ≡ 0)
      ⊎ (given_up c other by number events what ≡ 0) ⊎ (tei ≡ by)
  pub named : (tei : ℕ) → (given_up c service tei number events what ≡ 0)
      ⊎ (given_up_tei what (moment_of c events number what).answer ≡ tei)

abbrev pub GivenUpIsTold : Config → List Event → ℕ → Type 0
GivenUpIsTold c events number = (service : Service) (what : line_event.Event) → TellsGivenUp c events number service what
