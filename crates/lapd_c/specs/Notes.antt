-- Notes and causes as numbers.
use Rattle.std.specs.Prelude.{ℕ, Option, Some, None}
use Rattle.model_bits.specs.declared.heard.Cause.{Cause}
use Rattle.model_bits.specs.declared.heard.Cause.TheVariants.{Abort, Ragged, Short, Fcs, Extension, Sapi, Tei, Unserved}
use Rattle.lapd_frame.specs.declared.notes.Note.{Note}
use Rattle.lapd_frame.specs.declared.notes.Note.TheVariants as note
use Rattle.lapd_frame.specs.declared.services.Service.{Service}
use Rattle.lapd_frame.specs.declared.services.Service.TheVariants.{Call}
use Rattle.lapd_frame.specs.Services.{sapi_of, letter_of}
use Rattle.lapd_c.specs.declared.plain.notes.PlainNote.{PlainNote}
use Rattle.lapd_c.specs.Reserved.{unused}

abbrev pub of_link : ℕ → Service → ℕ → PlainNote
of_link number service tei = record { note = number; service = sapi_of service; tei = tei; error = 0; reserved = unused 4 }

-- A TEI that TEI management assigned, or that left the line, is no service's; its note has 0 there. So has one that is about no
-- TEI of its own, which names 127.
abbrev pub plain_note : Note → PlainNote
plain_note (note.EstablishIndication service tei) = of_link 1 service tei
plain_note (note.EstablishConfirm service tei) = of_link 2 service tei
plain_note (note.ReleaseIndication service tei) = of_link 3 service tei
plain_note (note.ReleaseConfirm service tei) = of_link 4 service tei
plain_note (note.Data service tei) = of_link 5 service tei
plain_note (note.Unit service tei) = of_link 6 service tei
plain_note (note.Error service tei code) = record (of_link 7 service tei) { error = letter_of code }
plain_note (note.Assigned tei) = of_link 8 Call tei
plain_note (note.Removed tei) = of_link 9 Call tei
plain_note (note.Doubled tei) = of_link 10 Call tei
plain_note (note.Xid service tei) = of_link 11 service tei
plain_note note.Denied = of_link 12 Call 127
plain_note note.Unassigned = of_link 13 Call 127
plain_note note.RemoveAll = of_link 14 Call 127

abbrev pub cause_number : Option Cause → ℕ
cause_number None = 0
cause_number (Some Abort) = 1
cause_number (Some Ragged) = 2
cause_number (Some Short) = 3
cause_number (Some Fcs) = 4
cause_number (Some Extension) = 5
cause_number (Some Sapi) = 6
cause_number (Some Tei) = 7
cause_number (Some Unserved) = 8
