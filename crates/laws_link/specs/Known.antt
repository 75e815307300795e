-- What layer 3 knows of a link by its notes.
use Rattle.std.specs.Prelude.{Bool, true, false, not, List, fold}
use Rattle.lapd_frame.specs.declared.notes.Note.{Note}
use Rattle.lapd_frame.specs.declared.notes.Note.TheVariants.{EstablishIndication, EstablishConfirm, ReleaseIndication, ReleaseConfirm}
use Rattle.model_link.specs.declared.states.State.{State}
use Rattle.model_link.specs.declared.states.State.TheVariants.{TeiAssigned, AwaitingEstablishment, AwaitingRelease, Established, TimerRecovery}
use Rattle.model_link.specs.Link.{Link}

-- By a note layer 3 takes the link for up, or for down; other notes leave that as it was.
abbrev pub seen : Bool → Note → Bool
seen up (EstablishIndication service tei) = true
seen up (EstablishConfirm service tei) = true
seen up (ReleaseIndication service tei) = false
seen up (ReleaseConfirm service tei) = false
seen up other = up

-- By all notes of an event, one after the other.
abbrev pub known : Bool → List Note → Bool
known up notes = fold seen up notes

-- What it is to layer 3: down in state 4, and up in states 7 and 8. In state 5 it is down as long as layer 3 awaits the
-- establishment that it asked for, and still up where the link establishes itself anew (clause 5.7.1). In state 6 it is up
-- until the release is confirmed. By annex B layer 3 may ask in state 5, too, and no note follows that: so there it is not what
-- layer 3 was told.
abbrev pub is_up_in : State → Link → Bool
is_up_in TeiAssigned l = false
is_up_in AwaitingEstablishment l = not l.asked
is_up_in AwaitingRelease l = true
is_up_in Established l = true
is_up_in TimerRecovery l = true

abbrev pub is_up : Link → Bool
is_up l = is_up_in l.state l
