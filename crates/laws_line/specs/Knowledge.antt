-- What layer 3 and management know of a line by the notes of its answers, and by the requests that were granted.
use Rattle.std.specs.Prelude.{ℕ, ◌==◌, ◌&&◌, Bool, true, false, fold, if◌then◌else◌}
use Rattle.std.specs.Option.{option_map_or}
use Rattle.lapd_frame.specs.declared.notes.Note.{Note}
use Rattle.lapd_frame.specs.declared.notes.Note.TheVariants.{EstablishIndication, EstablishConfirm, ReleaseIndication, ReleaseConfirm}
use Rattle.lapd_frame.specs.declared.services.Service.{Service}
use Rattle.lapd_frame.specs.Services.{same_service}
use Rattle.laws_link.specs.Known.{is_up}
use Rattle.model_line.specs.Event.{Answer}
use Rattle.laws_line.specs.Heard.{notes_of}
use Rattle.model_line.specs.Line.{Line, place_in, link_in}

-- By a note of a link layer 3 takes the link of that service and TEI for up, or for down (clauses 4.1.1.1 and 4.1.1.2).
abbrev pub up_by_note : Service → ℕ → Bool → Note → Bool
up_by_note service tei up (EstablishIndication of by) = if same_service of service && by == tei then true else up
up_by_note service tei up (EstablishConfirm of by) = if same_service of service && by == tei then true else up
up_by_note service tei up (ReleaseIndication of by) = if same_service of service && by == tei then false else up
up_by_note service tei up (ReleaseConfirm of by) = if same_service of service && by == tei then false else up
up_by_note service tei up other = up

abbrev pub taken_for_up : Service → ℕ → Bool → Answer → Bool
taken_for_up service tei up answer = fold (up_by_note service tei) up (notes_of answer)

-- It is up where its TEI is on the line, and the link is: in states 7 and 8; in state 6 until its release is confirmed; and
-- in state 5 where it establishes itself anew (clause 5.7.1). If layer 3 asks in state 5 (annex B), it is not what notes tell there.
abbrev pub link_is_up : Service → Line → ℕ → Bool
link_is_up service l place = is_up (link_in l service place)

abbrev pub is_up_of : Service → ℕ → Line → Bool
is_up_of service tei l = option_map_or (link_is_up service l) (place_in l tei) false
