-- What is handed to a link, as events of the machine.
use Rattle.std.specs.Prelude.{ℕ, List, []}
use Rattle.lapd_frame.specs.Grammar.{parts_of}
use Rattle.model_link.specs.Events as machine
use Rattle.lapd_link.specs.declared.received.Received as received
use Rattle.lapd_link.specs.declared.received.Received.TheVariants.{Frame, Undefined, WrongSize, Overlong}
use Rattle.lapd_link.specs.declared.requests.LinkRequest.{LinkRequest}
use Rattle.lapd_link.specs.declared.requests.LinkRequest.TheVariants.{Establish, Release, Data, SetBusy, ClearBusy}

abbrev pub received_of : received.Received → machine.Received
received_of (Frame frame) = machine.frame (parts_of frame)
received_of Undefined = machine.undefined
received_of WrongSize = machine.wrong_size
received_of Overlong = machine.overlong

-- the information that came with it
abbrev pub info_of : received.Received → List ℕ
info_of (Frame frame) = frame.info.now
info_of other = []

abbrev pub request_of : LinkRequest → machine.Request
request_of Establish = machine.Establish
request_of Release = machine.Release
request_of (Data octets) = machine.Data octets.now
request_of SetBusy = machine.SetBusy
request_of ClearBusy = machine.ClearBusy
