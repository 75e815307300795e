-- What was counted of a line, in a transcript (profile).
use Rattle.std.specs.Prelude.{ℕ, ◌+◌, ◌==◌, Bool, if◌then◌else◌, List, [], ◌∷◌, ◌++◌, flat_map, codes, decimal}
use Rattle.std.specs.List.{list_all}
use Rattle.model_bits.specs.declared.heard.Cause.TheVariants as cause
use Rattle.lapd_frame.specs.declared.notes.ErrorCode.TheVariants as code
use Rattle.lapd_frame.specs.Services.{letter_of}
use Rattle.lapd_count.specs.declared.counter.Counter.{Counter}
use Rattle.lapd_count.specs.declared.counter.Counter.TheVariants.{Frames, Octets, Polls, Overlong, Dropped, Errors, EstablishIndications, EstablishConfirms, ReleaseIndications, ReleaseConfirms, Data, Units, Xids, Assigned, Removed, Doubled, Denied, Unassigned, RemovedAll, Lost, Messages}
use Rattle.lapd_count.specs.declared.counter.Way.{Way}
use Rattle.lapd_count.specs.declared.counter.Way.TheVariants.{Heard, Begun}
use Rattle.lapd_count.specs.declared.counters.Counters.{Counters}
use Rattle.lapd_count.specs.declared.kinds.Kind.{Kind}
use Rattle.lapd_count.specs.declared.kinds.Kind.TheVariants as kind
use Rattle.lapd_count.specs.declared.messages.MessageType.{MessageType}
use Rattle.lapd_count.specs.declared.messages.MessageType.TheVariants as message
use Rattle.lapd_count.specs.Counters.{value_in}
use Rattle.lapd_transcript.specs.declared.counters.CounterGroup.{CounterGroup}
use Rattle.lapd_transcript.specs.declared.counters.CounterGroup.TheVariants as group
use Rattle.lapd_transcript.specs.Text.{line_text, nothing_text, cause_name}

-- The counters in the order of their places: those of a line, and those of messages.
abbrev pub line_counters : List Counter
line_counters =
    Frames Heard kind.Information ∷ Frames Heard kind.ReceiveReady ∷ Frames Heard kind.ReceiveNotReady ∷ Frames Heard kind.Reject ∷
    Frames Heard kind.Sabme ∷ Frames Heard kind.Disc ∷ Frames Heard kind.Ui ∷ Frames Heard kind.Ua ∷
    Frames Heard kind.Dm ∷ Frames Heard kind.Frmr ∷ Frames Heard kind.Xid ∷ Frames Heard kind.Undefined ∷
    Frames Begun kind.Information ∷ Frames Begun kind.ReceiveReady ∷ Frames Begun kind.ReceiveNotReady ∷ Frames Begun kind.Reject ∷
    Frames Begun kind.Sabme ∷ Frames Begun kind.Disc ∷ Frames Begun kind.Ui ∷ Frames Begun kind.Ua ∷
    Frames Begun kind.Dm ∷ Frames Begun kind.Frmr ∷ Frames Begun kind.Xid ∷ Frames Begun kind.Undefined ∷
    Octets Heard ∷ Octets Begun ∷ Polls Heard ∷ Polls Begun ∷
    Overlong ∷
    Dropped cause.Abort ∷ Dropped cause.Ragged ∷ Dropped cause.Short ∷ Dropped cause.Fcs ∷
    Dropped cause.Extension ∷ Dropped cause.Sapi ∷ Dropped cause.Tei ∷ Dropped cause.Unserved ∷
    Errors code.A ∷ Errors code.B ∷ Errors code.C ∷ Errors code.D ∷ Errors code.E ∷ Errors code.F ∷ Errors code.G ∷
    Errors code.H ∷ Errors code.I ∷ Errors code.J ∷ Errors code.K ∷ Errors code.L ∷ Errors code.N ∷ Errors code.O ∷
    EstablishIndications ∷ EstablishConfirms ∷ ReleaseIndications ∷ ReleaseConfirms ∷
    Data ∷ Units ∷ Xids ∷ Assigned ∷
    Removed ∷ Doubled ∷ Denied ∷ Unassigned ∷ RemovedAll ∷ Lost ∷ []

abbrev pub message_counters : List Counter
message_counters =
    Messages Heard message.IdentityRequest ∷ Messages Heard message.IdentityAssigned ∷ Messages Heard message.IdentityDenied ∷
    Messages Heard message.IdentityCheckRequest ∷ Messages Heard message.IdentityCheckResponse ∷ Messages Heard message.IdentityRemove ∷
    Messages Heard message.IdentityVerify ∷
    Messages Begun message.IdentityRequest ∷ Messages Begun message.IdentityAssigned ∷ Messages Begun message.IdentityDenied ∷
    Messages Begun message.IdentityCheckRequest ∷ Messages Begun message.IdentityCheckResponse ∷ Messages Begun message.IdentityRemove ∷
    Messages Begun message.IdentityVerify ∷ []

abbrev pub names_of : CounterGroup → List Counter
names_of group.Line = line_counters
names_of group.Messages = message_counters

-- Each has a name in two parts.
abbrev pub kind_name : Kind → List ℕ
kind_name kind.Information = codes "i"
kind_name kind.ReceiveReady = codes "rr"
kind_name kind.ReceiveNotReady = codes "rnr"
kind_name kind.Reject = codes "rej"
kind_name kind.Sabme = codes "sabme"
kind_name kind.Disc = codes "disc"
kind_name kind.Ui = codes "ui"
kind_name kind.Ua = codes "ua"
kind_name kind.Dm = codes "dm"
kind_name kind.Frmr = codes "frmr"
kind_name kind.Xid = codes "xid"
kind_name kind.Undefined = codes "undefined"

abbrev pub message_name : MessageType → List ℕ
message_name message.IdentityRequest = codes "request"
message_name message.IdentityAssigned = codes "assigned"
message_name message.IdentityDenied = codes "denied"
message_name message.IdentityCheckRequest = codes "check-request"
message_name message.IdentityCheckResponse = codes "check-response"
message_name message.IdentityRemove = codes "remove"
message_name message.IdentityVerify = codes "verify"

abbrev pub way_name : Way → List ℕ
way_name Heard = codes "heard-"
way_name Begun = codes "begun-"

abbrev pub group_name : Counter → List ℕ
group_name (Frames way k) = way_name way
group_name (Octets way) = way_name way
group_name (Polls way) = way_name way
group_name Overlong = codes "heard-"
group_name (Dropped why) = codes "dropped-"
group_name (Errors e) = codes "errors-"
group_name EstablishIndications = codes "told-"
group_name EstablishConfirms = codes "told-"
group_name ReleaseIndications = codes "told-"
group_name ReleaseConfirms = codes "told-"
group_name Data = codes "told-"
group_name Units = codes "told-"
group_name Xids = codes "told-"
group_name Assigned = codes "told-"
group_name Removed = codes "told-"
group_name Doubled = codes "told-"
group_name Denied = codes "told-"
group_name Unassigned = codes "told-"
group_name RemovedAll = codes "told-"
group_name Lost = []
group_name (Messages way m) = way_name way

abbrev pub own_name : Counter → List ℕ
own_name (Frames way k) = kind_name k
own_name (Octets way) = codes "octets"
own_name (Polls way) = codes "polls"
own_name Overlong = codes "overlong"
own_name (Dropped why) = cause_name why
own_name (Errors e) = (letter_of e + 32) ∷ []
own_name EstablishIndications = codes "establish-indication"
own_name EstablishConfirms = codes "establish-confirm"
own_name ReleaseIndications = codes "release-indication"
own_name ReleaseConfirms = codes "release-confirm"
own_name Data = codes "data"
own_name Units = codes "unit"
own_name Xids = codes "xid"
own_name Assigned = codes "assigned"
own_name Removed = codes "removed"
own_name Doubled = codes "doubled"
own_name Denied = codes "denied"
own_name Unassigned = codes "unassigned"
own_name RemovedAll = codes "remove-all"
own_name Lost = codes "lost"
own_name (Messages way m) = message_name m

-- A line for each of a group that is not 0, with its value; or that none of them counted anything.
abbrev pub counter_words : Counter → ℕ → List ℕ
counter_words counter value = codes "counter " ++ group_name counter ++ own_name counter ++ codes " " ++ decimal value

abbrev pub counter_text : ℕ → Counters → Counter → List ℕ
counter_text line counters counter =
    if value_in counters counter == 0 then [] else line_text line (counter_words counter (value_in counters counter))

abbrev pub is_zero : Counters → Counter → Bool
is_zero counters counter = value_in counters counter == 0

abbrev pub counters_text : ℕ → CounterGroup → Counters → List ℕ
counters_text line group counters =
    if list_all (is_zero counters) (names_of group) then nothing_text line else flat_map (counter_text line counters) (names_of group)
