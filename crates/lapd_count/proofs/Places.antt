-- No two counters stand at one place.
use Rattle.lapd_count.proofs.Vocabulary.{◌≡◌, List, [], ◌∷◌, get_or, refl, sym, ap, ◌∙◌, Abort, Ragged, Short, Fcs, Extension, Sapi, Tei, Unserved, Counter, Frames, Octets, Polls, Overlong, Dropped, Errors, EstablishIndications, EstablishConfirms, ReleaseIndications, ReleaseConfirms, Data, Units, Xids, Assigned, Removed, Doubled, Denied, Unassigned, RemovedAll, Lost, Messages, Heard, Begun, place}
use Rattle.lapd_count.proofs.Vocabulary.{PlacesAreNames}
use Rattle.lapd_frame.specs.declared.notes.ErrorCode.TheVariants as code
use Rattle.lapd_count.specs.declared.kinds.Kind.TheVariants as kind
use Rattle.lapd_count.specs.declared.messages.MessageType.TheVariants as message

-- all of them, each at its place
abbrev names : List Counter
names =
    Frames Heard kind.Information ∷ Frames Heard kind.ReceiveReady ∷ Frames Heard kind.ReceiveNotReady ∷ Frames Heard kind.Reject ∷
    Frames Heard kind.Sabme ∷ Frames Heard kind.Disc ∷ Frames Heard kind.Ui ∷ Frames Heard kind.Ua ∷
    Frames Heard kind.Dm ∷ Frames Heard kind.Frmr ∷ Frames Heard kind.Xid ∷ Frames Heard kind.Undefined ∷
    Frames Begun kind.Information ∷ Frames Begun kind.ReceiveReady ∷ Frames Begun kind.ReceiveNotReady ∷ Frames Begun kind.Reject ∷
    Frames Begun kind.Sabme ∷ Frames Begun kind.Disc ∷ Frames Begun kind.Ui ∷ Frames Begun kind.Ua ∷
    Frames Begun kind.Dm ∷ Frames Begun kind.Frmr ∷ Frames Begun kind.Xid ∷ Frames Begun kind.Undefined ∷
    Octets Heard ∷ Octets Begun ∷ Polls Heard ∷ Polls Begun ∷
    Overlong ∷
    Dropped Abort ∷ Dropped Ragged ∷ Dropped Short ∷ Dropped Fcs ∷
    Dropped Extension ∷ Dropped Sapi ∷ Dropped Tei ∷ Dropped Unserved ∷
    Errors code.A ∷ Errors code.B ∷ Errors code.C ∷ Errors code.D ∷ Errors code.E ∷
    Errors code.F ∷ Errors code.G ∷ Errors code.H ∷ Errors code.I ∷ Errors code.J ∷
    Errors code.K ∷ Errors code.L ∷ Errors code.N ∷ Errors code.O ∷
    EstablishIndications ∷ EstablishConfirms ∷ ReleaseIndications ∷ ReleaseConfirms ∷
    Data ∷ Units ∷ Xids ∷ Assigned ∷
    Removed ∷ Doubled ∷ Denied ∷ Unassigned ∷ RemovedAll ∷ Lost ∷
    Messages Heard message.IdentityRequest ∷ Messages Heard message.IdentityAssigned ∷ Messages Heard message.IdentityDenied ∷
    Messages Heard message.IdentityCheckRequest ∷ Messages Heard message.IdentityCheckResponse ∷ Messages Heard message.IdentityRemove ∷
    Messages Heard message.IdentityVerify ∷
    Messages Begun message.IdentityRequest ∷ Messages Begun message.IdentityAssigned ∷ Messages Begun message.IdentityDenied ∷
    Messages Begun message.IdentityCheckRequest ∷ Messages Begun message.IdentityCheckResponse ∷ Messages Begun message.IdentityRemove ∷
    Messages Begun message.IdentityVerify ∷ []

named : (counter : Counter) → get_or names (place counter) Lost ≡ counter
named (Frames Heard kind.Information) = refl
named (Frames Heard kind.ReceiveReady) = refl
named (Frames Heard kind.ReceiveNotReady) = refl
named (Frames Heard kind.Reject) = refl
named (Frames Heard kind.Sabme) = refl
named (Frames Heard kind.Disc) = refl
named (Frames Heard kind.Ui) = refl
named (Frames Heard kind.Ua) = refl
named (Frames Heard kind.Dm) = refl
named (Frames Heard kind.Frmr) = refl
named (Frames Heard kind.Xid) = refl
named (Frames Heard kind.Undefined) = refl
named (Frames Begun kind.Information) = refl
named (Frames Begun kind.ReceiveReady) = refl
named (Frames Begun kind.ReceiveNotReady) = refl
named (Frames Begun kind.Reject) = refl
named (Frames Begun kind.Sabme) = refl
named (Frames Begun kind.Disc) = refl
named (Frames Begun kind.Ui) = refl
named (Frames Begun kind.Ua) = refl
named (Frames Begun kind.Dm) = refl
named (Frames Begun kind.Frmr) = refl
named (Frames Begun kind.Xid) = refl
named (Frames Begun kind.Undefined) = refl
named (Octets Heard) = refl
named (Octets Begun) = refl
named (Polls Heard) = refl
named (Polls Begun) = refl
named Overlong = refl
named (Dropped Abort) = refl
named (Dropped Ragged) = refl
named (Dropped Short) = refl
named (Dropped Fcs) = refl
named (Dropped Extension) = refl
named (Dropped Sapi) = refl
named (Dropped Tei) = refl
named (Dropped Unserved) = refl
named (Errors code.A) = refl
named (Errors code.B) = refl
named (Errors code.C) = refl
named (Errors code.D) = refl
named (Errors code.E) = refl
named (Errors code.F) = refl
named (Errors code.G) = refl
named (Errors code.H) = refl
named (Errors code.I) = refl
named (Errors code.J) = refl
named (Errors code.K) = refl
named (Errors code.L) = refl
named (Errors code.N) = refl
named (Errors code.O) = refl
named EstablishIndications = refl
named EstablishConfirms = refl
named ReleaseIndications = refl
named ReleaseConfirms = refl
named Data = refl
named Units = refl
named Xids = refl
named Assigned = refl
named Removed = refl
named Doubled = refl
named Denied = refl
named Unassigned = refl
named RemovedAll = refl
named Lost = refl
named (Messages Heard message.IdentityRequest) = refl
named (Messages Heard message.IdentityAssigned) = refl
named (Messages Heard message.IdentityDenied) = refl
named (Messages Heard message.IdentityCheckRequest) = refl
named (Messages Heard message.IdentityCheckResponse) = refl
named (Messages Heard message.IdentityRemove) = refl
named (Messages Heard message.IdentityVerify) = refl
named (Messages Begun message.IdentityRequest) = refl
named (Messages Begun message.IdentityAssigned) = refl
named (Messages Begun message.IdentityDenied) = refl
named (Messages Begun message.IdentityCheckRequest) = refl
named (Messages Begun message.IdentityCheckResponse) = refl
named (Messages Begun message.IdentityRemove) = refl
named (Messages Begun message.IdentityVerify) = refl

pub places_are_names : PlacesAreNames
places_are_names one other same = sym (named one) ∙ ap (λ at. get_or names at Lost) same ∙ named other
