-- Which control frames of a link are due.
use Rattle.std.specs.Prelude.{ℕ, ◌==◌, ◌&&◌, ◌||◌, not, Bool, true, false, List, [], ◌++◌, if◌then◌else◌}
use Rattle.std.specs.Option.{option_map_or}
use Rattle.lapd_seq.specs.Numbers.{seq}
use Rattle.lapd_frame.specs.declared.controls.Control.{Control}
use Rattle.lapd_frame.specs.declared.controls.Control.TheVariants.{Information, ReceiveReady, ReceiveNotReady, Reject, Sabme, Disc, Ua, Dm}
use Rattle.lapd_frame.specs.declared.services.Service.{Service}
use Rattle.lapd_frame.specs.Grammar.{Parts}
use Rattle.model_link.specs.declared.frames.ControlFrame.{ControlFrame}
use Rattle.model_line.specs.declared.config.Config.{Config}
use Rattle.model_line.specs.Event as line_event
use Rattle.laws_link.specs.Waiting.{as_response, as_command}
use Rattle.model_card.specs.Run.{Moment}
use Rattle.laws_trace.specs.LinkFrames.{brought, is_too_long}
use Rattle.laws_trace.specs.Observer.{Observed, enters}
use Rattle.laws_trace.specs.Trace.{is_up}

-- A receipt is RNR while layer 3 is busy, and RR while it is not; its N(R) is the number of contents told of the link
-- since its numbers began, modulo 128 (Q.921 clauses 3.5.2.6, 3.6.6, 3.6.8 and 5.6.6).
abbrev pub rr_or_rnr : Observed → Bool → Control
rr_or_rnr o pf = if o.own_busy then ReceiveNotReady (seq o.count) pf else ReceiveReady (seq o.count) pf

abbrev pub polled : Observed → Bool → List ControlFrame
polled now p = if p then as_response (rr_or_rnr now true) else []

-- What answers a frame, as the link stands before and behind it: in states 7 and 8 REJ with F = P the first I-frame that
-- is rejected, and a receipt each other one with P=1, and each command RR, RNR and REJ with P=1. An I-frame whose
-- information is longer than N201 octets has no answer (clause 5.8.5).
abbrev pub answer_up : Observed → Observed → Bool → Bool → Control → List ControlFrame
-- clauses 5.6.2 and 5.8.1
answer_up was now long command (Information ns nr p) =
    if long then [] else if now.rejected && not was.rejected then as_response (Reject (seq now.count) p) else polled now p
-- clauses 5.6.3 to 5.6.5 and 5.6.7
answer_up was now long command (ReceiveReady nr p) = polled now (command && p)
answer_up was now long command (ReceiveNotReady nr p) = polled now (command && p)
answer_up was now long command (Reject nr p) = polled now (command && p)
answer_up was now long command other = []

abbrev pub answer_to : Config → Observed → Observed → Parts → Control → List ControlFrame
-- clauses 5.5.1.2, 5.5.5 and 5.7
answer_to c was now f (Sabme p) = as_response (if was.state == 6 then Dm p else Ua p)
-- clauses 5.5.3.2, 5.5.4 and 5.5.5
answer_to c was now f (Disc p) = as_response (if was.state == 4 || was.state == 5 then Dm p else Ua p)
answer_to c was now f other = if is_up was.state then answer_up was now (is_too_long c f) f.address.command other else []

-- Layer 3 comes to be busy in states 7 and 8, which RNR says, or is so no more, and RR says it (clause 5.6.6).
abbrev pub changed : Observed → Observed → List ControlFrame
changed was now = if is_up now.state && (if was.own_busy then not now.own_busy else now.own_busy) then as_response (rr_or_rnr now false) else []

abbrev pub answers : Config → Service → ℕ → Observed → Observed → line_event.Event → List ControlFrame
answers c service tei was now what = option_map_or (λ (f : Parts). answer_to c was now f f.control) (brought c service tei what) (changed was now)

-- A state that awaits the answer to a command puts it, with P=1: SABME state 5, DISC state 6, and state 8 an enquiry
-- (clauses 5.5.1.1, 5.5.3.2 and 5.6.7); where the link comes to the state, and again where T200 expires and leaves it
-- there (clauses 5.5.1.3, 5.5.3.3, 5.6.7 and 5.10.3).
abbrev pub command_of : Observed → List ControlFrame
command_of now =
    if now.state == 5 then as_command (Sabme true)
    else if now.state == 6 then as_command (Disc true)
    else if now.state == 8 then as_command (rr_or_rnr now true)
    else []

-- So these are put in a moment of the line while the TEI is on it, an answer before a command.
abbrev pub put_in : Config → Service → ℕ → Observed → Observed → Moment → List ControlFrame
put_in c service tei was now m = answers c service tei was now m.event.what ++ (if enters was now then command_of now else [])
