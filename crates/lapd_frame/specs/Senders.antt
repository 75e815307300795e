-- Frames of a line on which the second service has a SAPI of its own: 16 unless the configuration says otherwise
-- (profile; Q.921 clause 3.3.3, table 2, has 16 for it).
use Rattle.std.specs.Prelude.{◌≡◌, ℕ, ◌==◌, ◌&&◌, nat_le, if◌then◌else◌, List, Result, Ok, Err}
use Rattle.lapd_frame.specs.declared.addresses.Address.{Address}
use Rattle.lapd_frame.specs.declared.faults.ReadFault.{ReadFault}
use Rattle.lapd_frame.specs.declared.faults.ReadFault.TheVariants.{BadExtension, Undefined, WrongSize, Short}
use Rattle.lapd_frame.specs.declared.overlong.Long.{Long}
use Rattle.lapd_frame.specs.declared.overlong.Long.TheVariants as long
use Rattle.lapd_frame.specs.declared.senders.Sender.{Sender}
use Rattle.lapd_frame.specs.Grammar as grammar
use Rattle.lapd_frame.specs.Grammar.{Parts, IsFrame}
use Rattle.lapd_frame.specs.Reading as backwards

-- The SAPI of the second service on a line, 1 to 62. Every other number stands for 16.
abbrev pub packet_sapi : ℕ → ℕ
packet_sapi sapi = if nat_le 1 sapi && nat_le sapi 62 then sapi else 16

-- In the address of a frame 16 stands for the second service, whatever SAPI it has on the line, and that SAPI stands
-- for 16: both change places as octets are read, and as they are written.
unfoldable pub exchanged : ℕ → ℕ → ℕ
exchanged own sapi = if sapi == packet_sapi own then 16 else if sapi == 16 then packet_sapi own else sapi

abbrev pub renamed : ℕ → Address → Address
renamed own address = record { sapi = exchanged own address.sapi; command = address.command; tei = address.tei }

abbrev pub parts_named : ℕ → Parts → Parts
parts_named own frame = record { address = renamed own frame.address; control = frame.control; info = frame.info }

abbrev pub fault_named : ℕ → ReadFault → ReadFault
fault_named own BadExtension = BadExtension
fault_named own (Undefined address) = Undefined (renamed own address)
fault_named own (WrongSize address) = WrongSize (renamed own address)
fault_named own Short = Short

abbrev pub named : ℕ → Result Parts ReadFault → Result Parts ReadFault
named own (Ok frame) = Ok (parts_named own frame)
named own (Err fault) = Err (fault_named own fault)

abbrev pub long_named : ℕ → Result Long ReadFault → Result Long ReadFault
long_named own (Ok (long.Information address)) = Ok (long.Information (renamed own address))
long_named own (Ok (long.Unnumbered address)) = Ok (long.Unnumbered (renamed own address))
long_named own (Err fault) = Err (fault_named own fault)

-- So these read, and spell, what the grammar has for the side.
unfoldable pub reading : Sender → List ℕ → Result Parts ReadFault
reading sender octets = named sender.sapi (backwards.reading sender.side octets)

abbrev pub long_reading : Sender → List ℕ → Result Long ReadFault
long_reading sender head = long_named sender.sapi (backwards.long_reading sender.side head)

abbrev pub spelling : Sender → Parts → List ℕ
spelling sender frame = grammar.spelling sender.side (parts_named sender.sapi frame)

-- A frame of this sender is spelled by these octets, and by no others.
pub record Spells (sender : Sender) (frame : Parts) (octets : List ℕ) : Type 0 where
  pub is_frame : IsFrame frame
  pub octets_are : octets ≡ spelling sender frame
