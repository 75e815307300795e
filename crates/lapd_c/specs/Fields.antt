-- A frame in fields, as numbers, or the status that says why octets are none.
use Rattle.std.specs.Prelude.{◌≡◌, ℕ, nat_lt, if◌then◌else◌, List, [], ◌∷◌, length, Option, Some, None, Result, Ok, Err, refl}
use Rattle.lapd_frame.specs.declared.controls.Control.{Control}
use Rattle.lapd_frame.specs.declared.controls.Control.TheVariants.{Information, ReceiveReady, ReceiveNotReady, Reject, Sabme, Disc, Ui, Ua, Dm, Frmr, Xid}
use Rattle.lapd_frame.specs.declared.faults.ReadFault.{ReadFault}
use Rattle.lapd_frame.specs.Grammar.{Parts}
use Rattle.lapd_frame.specs.Reading.{control_of, header_of, reading, start_of, supervisory_of, unnumbered_of}
use Rattle.lapd_text.specs.Shown.{fields}
use Rattle.lapd_c.specs.declared.plain.fields.PlainFields.{PlainFields}
use Rattle.lapd_c.specs.Config.{side_in}
use Rattle.lapd_c.specs.Reserved.{unused}
use Rattle.lapd_c.specs.Statuses.{bad_side, fault_status, wrong_length}

-- The frames of Q.921 table 5, numbered.
abbrev pub kind_of : Control → ℕ
kind_of (Information ns nr pf) = 1
kind_of (ReceiveReady nr pf) = 2
kind_of (ReceiveNotReady nr pf) = 3
kind_of (Reject nr pf) = 4
kind_of (Sabme pf) = 5
kind_of (Disc pf) = 6
kind_of (Ui pf) = 7
kind_of (Ua pf) = 8
kind_of (Dm pf) = 9
kind_of (Frmr pf) = 10
kind_of (Xid pf) = 11

-- A number that a frame has not is 0.
abbrev pub or_zero : Option ℕ → ℕ
or_zero None = 0
or_zero (Some number) = number

abbrev pub plain_fields : Parts → PlainFields
plain_fields frame = record {
  kind = kind_of frame.control;
  command = if frame.address.command then 1 else 0;
  sapi = frame.address.sapi;
  tei = frame.address.tei;
  bit = if (fields frame.control).bit then 1 else 0;
  ns = or_zero (fields frame.control).ns;
  nr = or_zero (fields frame.control).nr;
  start = start_of frame.control;
  info = length frame.info;
  reserved = unused 6;
}

abbrev pub fields_or_status : Result Parts ReadFault → Result PlainFields ℕ
fields_or_status (Ok frame) = Ok (plain_fields frame)
fields_or_status (Err fault) = Err (fault_status fault)

-- They are not too many, the side is one, and they are a frame.
abbrev pub fields_of : List ℕ → ℕ → Result PlainFields ℕ
fields_of octets side =
    if nat_lt 1028 (length octets) then Err wrong_length
    else if nat_lt 2 side then Err bad_side
    else fields_or_status (reading (side_in side) octets)

-- SABME with P=1 of the user with TEI 64; three octets are no RR, a command is no response, and side 3 is none.
worked_sabme : fields_of (0x00 ∷ 0x81 ∷ 0x7F ∷ []) 1
    ≡ Ok (record { kind = 5; command = 1; sapi = 0; tei = 64; bit = 1; ns = 0; nr = 0; start = 3; info = 0; reserved = unused 6 })
unfolding reading header_of control_of supervisory_of unnumbered_of
worked_sabme = refl

worked_short : fields_of (0x02 ∷ 0x81 ∷ 0x01 ∷ []) 0 ≡ Err 48
unfolding reading
worked_short = refl

worked_undefined : fields_of (0x00 ∷ 0x81 ∷ 0x7F ∷ []) 0 ≡ Err 50
unfolding reading header_of control_of supervisory_of unnumbered_of
worked_undefined = refl

worked_side : fields_of (0x02 ∷ 0x81 ∷ 0x7F ∷ []) 3 ≡ Err bad_side
worked_side = refl
