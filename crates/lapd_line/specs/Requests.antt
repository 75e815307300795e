-- Why a request of a link is refused, and what one of management.
use Rattle.std.specs.Prelude.{ℕ, Bool, true, false, not, nat_lt, Option, Some, if◌then◌else◌}
use Rattle.lapd_frame.specs.declared.refusals.Refusal.{Refusal}
use Rattle.lapd_frame.specs.declared.refusals.Refusal.TheVariants.{BadTei, NoLink, WrongSide}
use Rattle.lapd_frame.specs.declared.services.Service.{Service}
use Rattle.model_link.specs.Events as link
use Rattle.model_link.specs.Requests as links
use Rattle.model_teis.specs.network.Events as teis
use Rattle.model_line.specs.declared.config.Config.{Config}
use Rattle.model_teis.specs.network.Machine.{Management}
use Rattle.model_teis.specs.terminal.Events as terminals
use Rattle.model_teis.specs.terminal.Machine.{Terminal}
use Rattle.model_line.specs.Effect.{Aim, at_management, at_terminal}
use Rattle.lapd_link.specs.Events as links_events
use Rattle.model_line.specs.Request.{Request, Establish, Release, Data, Unit, Assign, Remove, Check, Disown, AskTei, VerifyTei, SetBusy, ClearBusy, Deactivate, Down}
use Rattle.model_line.specs.Sides.{has_management, is_network}
use Rattle.model_line.specs.Line.{Line, has_tei, is_terminal, link_of, terms}
use Rattle.lapd_line.specs.declared.managing.Managing.{Managing}
use Rattle.lapd_line.specs.declared.managing.Managing.TheVariants as kind
use Rattle.lapd_line.specs.declared.requests.AskedOf.{AskedOf}
use Rattle.lapd_line.specs.declared.requests.AskedOf.TheVariants as asked_of
use Rattle.lapd_line.specs.declared.requests.TeiRequest.{TeiRequest}
use Rattle.lapd_line.specs.declared.requests.TeiRequest.TheVariants as tei_request

-- The TEI has to be one of a terminal, and on the line; then the link refuses, or not.
abbrev pub link_refusal : Config → Bool → Service → ℕ → link.Request → Line → Option Refusal
link_refusal c full service tei request l =
    if nat_lt 126 tei then Some BadTei
    else if not (has_tei tei l) then Some NoLink
    else links.refusal (terms c service tei) (link_of service tei l) full request

-- What is asked of TEI management, as its event.
abbrev pub asked_aim : TeiRequest → ℕ → Aim
asked_aim tei_request.Assign tei = at_management (teis.assign tei)
asked_aim tei_request.Remove tei = at_management (teis.remove tei)
asked_aim tei_request.Check tei = at_management (teis.check tei)
asked_aim tei_request.Disown tei = at_management (teis.disown tei)
asked_aim tei_request.Ask tei = at_terminal terminals.ask
asked_aim tei_request.Verify tei = at_terminal (terminals.verify tei)

-- Each side puts a TEI on the line, and takes one off if it has TEI management. The network's alone checks one or disowns one,
-- and a terminal alone asks for one and has it verified.
abbrev pub may_ask : Config → TeiRequest → Bool
may_ask c tei_request.Assign = true
may_ask c tei_request.Remove = has_management c
may_ask c tei_request.Check = is_network c.side
may_ask c tei_request.Disown = is_network c.side
may_ask c tei_request.Ask = is_terminal c
may_ask c tei_request.Verify = is_terminal c

-- The TEI that it names is no terminal's, nor, if a TEI is disowned, that of all. (One that is asked for is not
-- named.)
abbrev pub is_bad : TeiRequest → ℕ → Bool
is_bad tei_request.Assign tei = nat_lt 126 tei
is_bad tei_request.Remove tei = nat_lt 126 tei
is_bad tei_request.Check tei = nat_lt 126 tei
is_bad tei_request.Disown tei = nat_lt 127 tei
is_bad tei_request.Ask tei = false
is_bad tei_request.Verify tei = nat_lt 126 tei

-- It, as a request of the line.
abbrev pub request_asked : TeiRequest → ℕ → Request
request_asked tei_request.Assign tei = Assign tei
request_asked tei_request.Remove tei = Remove tei
request_asked tei_request.Check tei = Check tei
request_asked tei_request.Disown tei = Disown tei
request_asked tei_request.Ask tei = AskTei
request_asked tei_request.Verify tei = VerifyTei tei

-- What is asked of a link, and of any part of the line, as a request of the line.
abbrev pub request_linked : Service → ℕ → link.Request → Request
request_linked service tei link.Establish = Establish service tei
request_linked service tei link.Release = Release service tei
request_linked service tei (link.Data contents) = Data service tei contents
request_linked service tei link.SetBusy = SetBusy service tei
request_linked service tei link.ClearBusy = ClearBusy service tei

abbrev pub request_for : AskedOf → Request
request_for (asked_of.Units service tei contents) = Unit service tei contents.now
request_for (asked_of.Management asked tei) = request_asked asked tei
request_for (asked_of.Link service tei request) = request_linked service tei (links_events.request_of request)
request_for (asked_of.LinkDown service tei) = Deactivate service tei
request_for asked_of.LineDown = Down

-- Why TEI management itself refuses: of the network's side, and of a terminal.
abbrev pub network_refusal : TeiRequest → ℕ → Management → Option Refusal
network_refusal tei_request.Assign tei m = teis.refusal (teis.assign tei) m
network_refusal tei_request.Remove tei m = teis.refusal (teis.remove tei) m
network_refusal tei_request.Check tei m = teis.refusal (teis.check tei) m
network_refusal tei_request.Disown tei m = teis.refusal (teis.disown tei) m
network_refusal tei_request.Ask tei m = Some WrongSide
network_refusal tei_request.Verify tei m = Some WrongSide

abbrev pub terminal_refusal : TeiRequest → ℕ → Terminal → Option Refusal
terminal_refusal tei_request.Assign tei t = terminals.refusal (terminals.assign tei) t
terminal_refusal tei_request.Remove tei t = terminals.refusal (terminals.remove tei) t
terminal_refusal tei_request.Check tei t = Some WrongSide
terminal_refusal tei_request.Disown tei t = Some WrongSide
terminal_refusal tei_request.Ask tei t = terminals.refusal terminals.ask t
terminal_refusal tei_request.Verify tei t = terminals.refusal (terminals.verify tei) t

abbrev pub refusal_at : TeiRequest → ℕ → Managing → Option Refusal
refusal_at asked tei (kind.Network m) = network_refusal asked tei m
refusal_at asked tei (kind.Terminal t) = terminal_refusal asked tei t

-- The side has to be the right one, and the TEI one that may be named; then TEI management refuses, or not.
abbrev pub management_refusal : Config → TeiRequest → ℕ → Managing → Option Refusal
management_refusal c asked tei x =
    if not (may_ask c asked) then Some WrongSide
    else if is_bad asked tei then Some BadTei
    else refusal_at asked tei x
