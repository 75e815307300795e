-- What an event of a line is to one of its links, and to TEI management.
use Rattle.std.specs.Prelude.{◌≡◌, ◌⊎◌, ℕ, ◌≤◌, Bool, true, false, List, length, Ok, Some}
use Rattle.model_bits.specs.Stream as stream
use Rattle.lapd_frame.specs.declared.addresses.Address.{Address}
use Rattle.lapd_frame.specs.declared.addresses.Side.TheVariants.{Network}
use Rattle.lapd_frame.specs.declared.controls.Control.TheVariants.{Ui}
use Rattle.lapd_frame.specs.declared.services.Service.{Service}
use Rattle.lapd_frame.specs.declared.timers.Timer.{Timer}
use Rattle.lapd_frame.specs.declared.timers.Timer.TheVariants as timers
use Rattle.lapd_frame.specs.Grammar.{Parts}
use Rattle.lapd_frame.specs.Senders.{reading}
use Rattle.lapd_frame.specs.Services.{service_of}
use Rattle.model_link.specs.declared.timers.LinkTimer.{LinkTimer}
use Rattle.model_link.specs.declared.timers.LinkTimer.TheVariants.{T200, T203}
use Rattle.model_link.specs.Events as link
use Rattle.model_teis.specs.network.Events as teis
use Rattle.model_teis.specs.terminal.Events as terminals
use Rattle.model_line.specs.declared.config.Config.{Config}
use Rattle.model_line.specs.Event.{Event, hears, expiry, request, next, Answer}
use Rattle.model_line.specs.Heard.{heard_side}
use Rattle.model_line.specs.Line.{is_terminal}
use Rattle.model_line.specs.Request.{Assign, Remove, Check, Disown, AskTei, VerifyTei, Deactivate}
use Rattle.laws_line.specs.Heard.{IsMalformed, IsTooLong}
use Rattle.laws_line.specs.Requests.{of_link}
use Rattle.laws_line.specs.Share.{is_granted}

-- A frame is heard that the grammar reads as this, as one of the other side.
pub record HearsFrame (c : Config) (e : Event) (parts : Parts) : Type 0 where
  pub octets : List ℕ
  pub by : e ≡ hears (stream.frame octets)
  pub read : reading (heard_side c) octets ≡ Ok parts

-- One is heard with the SAPI of a service and a TEI.
pub record Brings (c : Config) (e : Event) (service : Service) (tei : ℕ) (parts : Parts) : Type 0 where
  pub octets : List ℕ
  pub by : e ≡ hears (stream.frame octets)
  pub read : reading (heard_side c) octets ≡ Ok parts
  pub sapi : service_of parts.address.sapi ≡ Some service
  pub tei_is : parts.address.tei ≡ tei

-- One is heard that the grammar does not have, or that is too long, with the SAPI of a service and a TEI.
pub record BringsMalformed (c : Config) (e : Event) (service : Service) (tei : ℕ) (what : link.Received) : Type 0 where
  pub octets : List ℕ
  pub address : Address
  pub by : ((e ≡ hears (stream.frame octets)) × IsMalformed c address octets what) ⊎ ((e ≡ hears (stream.overlong octets)) × IsTooLong c address octets what)
  pub sapi : service_of address.sapi ≡ Some service
  pub tei_is : address.tei ≡ tei

-- The event of the line is this event of the link of a service with a TEI: a frame is brought, or one that is malformed;
-- its timer expires; a request of it is granted, for which there is room; or a call for the next frame takes what it gives.
abbrev pub timer_of : Service → ℕ → LinkTimer → Timer
timer_of service tei T200 = timers.T200 service tei
timer_of service tei T203 = timers.T203 service tei

abbrev pub IsBy : Config → Event → Answer → Service → ℕ → link.Event → Type 0
IsBy c e answer service tei (link.received (link.frame parts)) = Brings c e service tei parts
IsBy c e answer service tei (link.received other) = BringsMalformed c e service tei other
IsBy c e answer service tei (link.expired timer) = e ≡ expiry (timer_of service tei timer)
IsBy c e answer service tei (link.requested asked full) = (e ≡ request (of_link service tei asked)) × (is_granted answer ≡ true) × (full ≡ false)
IsBy c e answer service tei link.offer = e ≡ next
IsBy c e answer service tei link.cleared = ⊥

-- The link is deactivated: its line is down, and it is as one that begins, while its TEI stays (annex B).
abbrev pub IsDeactivated : Event → Answer → Service → ℕ → Type 0
IsDeactivated e answer service tei = (e ≡ request (Deactivate service tei)) × (is_granted answer ≡ true)

-- One or the other.
abbrev pub IsOf : Config → Event → Answer → Service → ℕ → link.Event → Type 0
IsOf c e answer service tei link.cleared = IsDeactivated e answer service tei
IsOf c e answer service tei other = IsBy c e answer service tei other

-- The network's side serves messages of TEI management; a terminal does, if they are commands. None is over N201 octets (Q.921
-- clause 5.9.3).
abbrev pub ServesMessages : Config → Parts → Type 0
ServesMessages c parts = ((c.side ≡ Network) ⊎ ((is_terminal c ≡ true) × (parts.address.command ≡ true))) × (length parts.info ≤ c.n201)

-- There a UI to the group with SAPI 63 is heard, with this information (Q.921 clauses 3.3.3, 3.3.4 and 5.3.6).
pub record BringsMessage (c : Config) (e : Event) (info : List ℕ) : Type 0 where
  pub parts : Parts
  pub serves : ServesMessages c parts
  pub heard : HearsFrame c e parts
  pub sapi : parts.address.sapi ≡ 63
  pub group : parts.address.tei ≡ 127
  pub poll : Bool
  pub control : parts.control ≡ Ui poll
  pub info_is : parts.info ≡ info

-- The event of the line is this event of TEI management, of the network's side or of a trunk's end: a message is brought; T201
-- expires; or a request of management is granted. That the line is down is an event of more than TEI management.
abbrev pub IsOfManagement : Config → Event → Answer → teis.Event → Type 0
IsOfManagement c e answer (teis.message info) = BringsMessage c e info
IsOfManagement c e answer teis.expiry = e ≡ expiry timers.T201
IsOfManagement c e answer (teis.assign tei) = (e ≡ request (Assign tei)) × (is_granted answer ≡ true)
IsOfManagement c e answer (teis.remove tei) = (e ≡ request (Remove tei)) × (is_granted answer ≡ true)
IsOfManagement c e answer (teis.check tei) = (e ≡ request (Check tei)) × (is_granted answer ≡ true)
IsOfManagement c e answer (teis.disown tei) = (e ≡ request (Disown tei)) × (is_granted answer ≡ true)
IsOfManagement c e answer teis.down = ⊥

-- The same at a terminal: a message is brought; T202 expires; or a request of management is granted.
abbrev pub IsOfTerminal : Config → Event → Answer → terminals.Event → Type 0
IsOfTerminal c e answer (terminals.message info) = BringsMessage c e info
IsOfTerminal c e answer terminals.expiry = e ≡ expiry timers.T202
IsOfTerminal c e answer terminals.ask = (e ≡ request AskTei) × (is_granted answer ≡ true)
IsOfTerminal c e answer (terminals.verify tei) = (e ≡ request (VerifyTei tei)) × (is_granted answer ≡ true)
IsOfTerminal c e answer (terminals.assign tei) = (e ≡ request (Assign tei)) × (is_granted answer ≡ true)
IsOfTerminal c e answer (terminals.remove tei) = (e ≡ request (Remove tei)) × (is_granted answer ≡ true)
IsOfTerminal c e answer terminals.down = ⊥
