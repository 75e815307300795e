-- The grammar read backwards: which frame octets spell, or why none. `one_spelling` has the laws that tie it to the
-- grammar.
use Rattle.std.specs.Prelude.{ℕ, ◌+◌, ◌/◌, ◌%◌, Bool, true, false, if◌then◌else◌, ◌==◌, List, length, drop, slice_index, Option, Some, None, Result, Ok, Err}
use Rattle.lapd_frame.specs.declared.addresses.Side.{Side}
use Rattle.lapd_frame.specs.declared.addresses.Address.{Address}
use Rattle.lapd_frame.specs.declared.controls.Control.{Control}
use Rattle.lapd_frame.specs.declared.controls.Control.TheVariants.{Information, ReceiveReady, ReceiveNotReady, Reject, Sabme, Disc, Ui, Ua, Dm, Frmr, Xid}
use Rattle.lapd_frame.specs.declared.faults.ReadFault.{ReadFault}
use Rattle.lapd_frame.specs.declared.faults.ReadFault.TheVariants.{BadExtension, Undefined, WrongSize, Short}
use Rattle.lapd_frame.specs.declared.frames.Frame.{Frame}
use Rattle.lapd_frame.specs.declared.overlong.Long.{Long}
use Rattle.lapd_frame.specs.declared.overlong.Long.TheVariants as long
use Rattle.lapd_frame.specs.Faults.{is_short, has_bad_extension}
use Rattle.lapd_frame.specs.Grammar.{Parts, parts_of, cr_bit, allows, takes, row}
use Rattle.lapd_seq.specs.declared.numbers.Seq.{Seq}
use Rattle.lapd_seq.specs.Numbers.{seq}

-- the address that two octets are
abbrev pub address_of : Side → ℕ → ℕ → Address
address_of side first second = record { sapi = first / 4; command = (first / 2 % 2) == cr_bit side true; tei = second / 2 }

-- the supervisory frame of an octet
unfoldable pub supervisory_of : ℕ → Seq → Bool → Option Control
supervisory_of octet nr pf =
    if octet == 0x01 then Some (ReceiveReady nr pf)
    else if octet == 0x05 then Some (ReceiveNotReady nr pf)
    else if octet == 0x09 then Some (Reject nr pf)
    else None

-- the unnumbered frame of an octet
unfoldable pub unnumbered_of : ℕ → Option Control
unnumbered_of octet =
    if octet == 0x6F then Some (Sabme false) else if octet == 0x7F then Some (Sabme true)
    else if octet == 0x43 then Some (Disc false) else if octet == 0x53 then Some (Disc true)
    else if octet == 0x03 then Some (Ui false) else if octet == 0x13 then Some (Ui true)
    else if octet == 0x63 then Some (Ua false) else if octet == 0x73 then Some (Ua true)
    else if octet == 0x0F then Some (Dm false) else if octet == 0x1F then Some (Dm true)
    else if octet == 0x87 then Some (Frmr false) else if octet == 0x97 then Some (Frmr true)
    else if octet == 0xAF then Some (Xid false) else if octet == 0xBF then Some (Xid true)
    else None

-- the control field of the third octet and the fourth, if it has two
unfoldable pub control_of : ℕ → ℕ → Option Control
control_of third fourth =
    if third % 2 == 0 then Some (Information (seq (third / 2)) (seq (fourth / 2)) (fourth % 2 == 1))
    else if third % 4 == 1 then supervisory_of third (seq (fourth / 2)) (fourth % 2 == 1)
    else unnumbered_of third

-- an address and a control field that it allows
abbrev pub checked : Address → Option Control → Result (Address × Control) ReadFault
checked address None = Err (Undefined address)
checked address (Some control) =
    if allows (row control).kind address.command
    then Ok (address, control)
    else Err (Undefined address)

-- the address and control field of four octets
unfoldable pub header_of : Side → ℕ → ℕ → ℕ → ℕ → Result (Address × Control) ReadFault
header_of side first second third fourth =
    if has_bad_extension first second then Err BadExtension
    else checked (address_of side first second) (control_of third fourth)

-- where its information begins
abbrev pub start_of : Control → ℕ
start_of control = 2 + length (row control).field

abbrev pub sized : Address → Control → List ℕ → Result Parts ReadFault
sized address control info =
    if takes (row control).info (length info)
    then Ok (record { address = address; control = control; info = info })
    else Err (WrongSize address)

abbrev pub completed : List ℕ → Result (Address × Control) ReadFault → Result Parts ReadFault
completed octets (Ok header) = sized header.0 header.1 (drop (start_of header.1) octets)
completed octets (Err fault) = Err fault

-- the frame that octets spell, or the first fault that holds
unfoldable pub reading : Side → List ℕ → Result Parts ReadFault
reading side octets =
    if is_short octets then Err Short
    else completed octets (header_of side (slice_index octets 0) (slice_index octets 1) (slice_index octets 2) (slice_index octets 3))

-- what `read` answered, wherever the information lies
abbrev pub outcome_of : Result Frame ReadFault → Result Parts ReadFault
outcome_of (Ok frame) = Ok (parts_of frame)
outcome_of (Err fault) = Err fault

-- what a frame is that was too long to keep
abbrev pub long_kind : Address → Control → Result Long ReadFault
long_kind address (Information ns nr pf) = Ok (long.Information address)
long_kind address (Ui pf) = Ok (long.Unnumbered address)
long_kind address (Xid pf) = Ok (long.Unnumbered address)
long_kind address (ReceiveReady nr pf) = Err (WrongSize address)
long_kind address (ReceiveNotReady nr pf) = Err (WrongSize address)
long_kind address (Reject nr pf) = Err (WrongSize address)
long_kind address (Sabme pf) = Err (WrongSize address)
long_kind address (Disc pf) = Err (WrongSize address)
long_kind address (Ua pf) = Err (WrongSize address)
long_kind address (Dm pf) = Err (WrongSize address)
long_kind address (Frmr pf) = Err (WrongSize address)

abbrev pub long_of : Result Parts ReadFault → Result Long ReadFault
long_of (Ok parts) = long_kind parts.address parts.control
long_of (Err fault) = Err fault

-- what a frame is that was kept by its first four octets alone
abbrev pub long_of_header : Result (Address × Control) ReadFault → Result Long ReadFault
long_of_header (Ok header) = long_kind header.0 header.1
long_of_header (Err fault) = Err fault

abbrev pub long_reading : Side → List ℕ → Result Long ReadFault
long_reading side head = long_of_header (header_of side (slice_index head 0) (slice_index head 1) (slice_index head 2) (slice_index head 3))
