-- The lines of a transcript (profile): each begins with the number of the card's line that it is about.
use Rattle.std.specs.Prelude.{ℕ, ◌/◌, ◌%◌, ◌==◌, if◌then◌else◌, List, [], ◌∷◌, ◌++◌, flat_map, codes, decimal, Option, Some, None, unwrap_or}
use Rattle.model_bits.specs.declared.heard.Cause.{Cause}
use Rattle.model_bits.specs.declared.heard.Cause.TheVariants.{Abort, Ragged, Short, Fcs, Extension, Sapi, Tei, Unserved}
use Rattle.lapd_frame.specs.declared.notes.Note.{Note}
use Rattle.lapd_frame.specs.declared.notes.Note.TheVariants.{EstablishIndication, EstablishConfirm, ReleaseIndication, ReleaseConfirm, Data, Unit, Error, Assigned, Removed, Doubled, Denied, Unassigned, RemoveAll, Xid}
use Rattle.lapd_frame.specs.Services.{letter_of}
use Rattle.lapd_frame.specs.declared.refusals.Refusal.{Refusal}
use Rattle.lapd_frame.specs.declared.refusals.Refusal.TheVariants.{BadTei, NoLink, WrongState, TooLong, QueueFull, PoolFull, TeiTaken, TableFull, CheckRunning, ControlFull, WrongSide}
use Rattle.lapd_frame.specs.declared.services.Service.{Service}
use Rattle.lapd_frame.specs.declared.services.Service.TheVariants.{Call, Packet}
pub use Rattle.lapd_text.specs.Shown.{octets_text}

-- the line's number, a name, and a line feed
abbrev pub line_text : ℕ → List ℕ → List ℕ
line_text line words = decimal line ++ codes " " ++ words ++ codes "\n"

-- What a note tells of a link: its name, with -16 for a packet link, and the TEI.
abbrev pub suffix : Service → List ℕ
suffix Call = []
suffix Packet = codes "-16"

abbrev pub link_words : List ℕ → Service → ℕ → List ℕ
link_words name service tei = name ++ suffix service ++ codes " " ++ decimal tei

abbrev pub tei_words : List ℕ → ℕ → List ℕ
tei_words name tei = name ++ codes " " ++ decimal tei

-- A note, and the contents that were delivered with it.
abbrev pub note_words : List ℕ → Note → List ℕ
note_words contents (EstablishIndication service tei) = link_words (codes "establish-indication") service tei
note_words contents (EstablishConfirm service tei) = link_words (codes "establish-confirm") service tei
note_words contents (ReleaseIndication service tei) = link_words (codes "release-indication") service tei
note_words contents (ReleaseConfirm service tei) = link_words (codes "release-confirm") service tei
note_words contents (Data service tei) = link_words (codes "data") service tei ++ codes " " ++ octets_text contents
note_words contents (Unit service tei) = link_words (codes "unit") service tei ++ codes " " ++ octets_text contents
note_words contents (Error service tei code) = link_words (codes "error") service tei ++ codes " " ++ letter_of code ∷ []
note_words contents (Assigned tei) = tei_words (codes "assigned") tei
note_words contents (Removed tei) = tei_words (codes "removed") tei
note_words contents (Doubled tei) = tei_words (codes "doubled") tei
note_words contents Denied = tei_words (codes "denied") 127
note_words contents Unassigned = tei_words (codes "unassigned") 127
note_words contents RemoveAll = tei_words (codes "remove-all") 127
note_words contents (Xid service tei) = link_words (codes "xid") service tei

abbrev pub note_text : ℕ → List ℕ → Note → List ℕ
note_text line contents note = line_text line (note_words contents note)

-- Why a frame was dropped.
abbrev pub cause_name : Cause → List ℕ
cause_name Abort = codes "abort"
cause_name Ragged = codes "ragged"
cause_name Short = codes "short"
cause_name Fcs = codes "fcs"
cause_name Extension = codes "extension"
cause_name Sapi = codes "sapi"
cause_name Tei = codes "tei"
cause_name Unserved = codes "unserved"

abbrev pub dropped_text : ℕ → Option Cause → List ℕ
dropped_text line None = []
dropped_text line (Some cause) = line_text line (codes "dropped " ++ cause_name cause)

-- How many frames were lost, where any was.
abbrev pub lost_text : ℕ → ℕ → List ℕ
lost_text line lost = if lost == 0 then [] else line_text line (codes "lost " ++ decimal lost)

-- How many contents that were granted on a link were given up, where any were; and of both links of a TEI.
abbrev pub given_up_text : ℕ → Service → ℕ → ℕ → List ℕ
given_up_text line service tei count = if count == 0 then [] else line_text line (link_words (codes "given-up") service tei ++ codes " " ++ decimal count)

abbrev pub losses_text : ℕ → ℕ → ℕ → ℕ → List ℕ
losses_text line tei call packet = given_up_text line Call tei call ++ given_up_text line Packet tei packet

-- The TEI that a note names, or 127.
abbrev pub tei_of : Note → ℕ
tei_of (EstablishIndication service tei) = tei
tei_of (EstablishConfirm service tei) = tei
tei_of (ReleaseIndication service tei) = tei
tei_of (ReleaseConfirm service tei) = tei
tei_of (Data service tei) = tei
tei_of (Unit service tei) = tei
tei_of (Error service tei code) = tei
tei_of (Assigned tei) = tei
tei_of (Removed tei) = tei
tei_of (Doubled tei) = tei
tei_of Denied = 127
tei_of Unassigned = 127
tei_of RemoveAll = 127
tei_of (Xid service tei) = tei

-- That of the first note.
abbrev pub tei_noted : List Note → ℕ
tei_noted [] = 127
tei_noted (note ∷ notes) = tei_of note

-- What an event brought, in this order.
abbrev pub report_text : ℕ → List Note → Option (List ℕ) → Option Cause → ℕ → List ℕ
report_text line notes contents cause lost =
    flat_map (note_text line (unwrap_or contents [])) notes ++ dropped_text line cause ++ lost_text line lost

-- Why a request was refused.
abbrev pub refusal_name : Refusal → List ℕ
refusal_name BadTei = codes "bad-tei"
refusal_name NoLink = codes "no-link"
refusal_name WrongState = codes "wrong-state"
refusal_name TooLong = codes "too-long"
refusal_name QueueFull = codes "queue-full"
refusal_name PoolFull = codes "pool-full"
refusal_name TeiTaken = codes "tei-taken"
refusal_name TableFull = codes "table-full"
refusal_name CheckRunning = codes "check-running"
refusal_name ControlFull = codes "control-full"
refusal_name WrongSide = codes "wrong-side"

abbrev pub refused_text : ℕ → Refusal → List ℕ
refused_text line refusal = line_text line (codes "refused " ++ refusal_name refusal)

-- The octets of a pull, and a frame that was found complete in them, or that was called for.
abbrev pub sent_text : ℕ → List ℕ → List ℕ
sent_text line octets = line_text line (codes "tx " ++ octets_text octets)

abbrev pub frame_text : ℕ → List ℕ → List ℕ
frame_text line octets = line_text line (codes "frame " ++ octets_text octets)

-- No frame, where the next one was called for and none waits.
abbrev pub nothing_text : ℕ → List ℕ
nothing_text line = line_text line (codes "nothing")

-- A faulty line of a script, and what is wrong with it.
abbrev pub faulty_text : ℕ → List ℕ → List ℕ
faulty_text line words = codes "line " ++ decimal line ++ codes ": " ++ words ++ codes "\n"

-- What the card holds, and its bound.
abbrev pub stored_text : ℕ → ℕ → List ℕ
stored_text stored limit = codes "stored " ++ decimal stored ++ codes " limit " ++ decimal limit ++ codes "\n"

-- How many octets the image of the card has, and their check, its high octet first.
abbrev pub image_text : ℕ → ℕ → List ℕ
image_text length sum = codes "image " ++ decimal length ++ codes " sum " ++ octets_text (sum / 256 ∷ sum % 256 ∷ []) ++ codes "\n"
