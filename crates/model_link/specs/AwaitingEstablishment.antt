-- State 5, awaiting establishment: SABME was sent.
use Rattle.std.specs.Prelude.{ℕ, true, false, List}
use Rattle.lapd_frame.specs.declared.controls.Control.{Control}
use Rattle.lapd_frame.specs.declared.controls.Control.TheVariants.{Information, Sabme, Disc, Ui, Ua, Dm, Xid}
use Rattle.lapd_frame.specs.declared.notes.ErrorCode.TheVariants as code
use Rattle.model_link.specs.declared.states.State.TheVariants.{TeiAssigned, Established}
use Rattle.model_link.specs.declared.timers.LinkTimer.TheVariants.{T200, T203}
use Rattle.model_link.specs.declared.terms.Terms.{Terms}
use Rattle.model_link.specs.Link.{is_asked, is_owed, has_outstanding, may_repeat}
use Rattle.model_link.specs.Steps.{Step, ◌then◌, nothing, depending_on}
use Rattle.model_link.specs.Words.{error, establish_indication, establish_confirm, release_indication, release_confirm, leave_unserved, malformed, unexpected, unit_data, xid, asked_is, owed_is, reset_numbers, zero_numbers, discard, repeated, start, no_timer, enter, send, command, response}
use Rattle.model_link.specs.MultipleFrame.{release_in_7_8}

-- Requests of layer 3, by annex B. SABME is on its way, so neither sends a frame: what waits is given up, and the answer to SABME
-- decides (annex B, state 5).
abbrev pub establish_in_5 : Step
establish_in_5 = discard then asked_is true then owed_is false

abbrev pub release_in_5 : Step
release_in_5 = discard then asked_is false then owed_is true

-- The terminal accepts: layer 3 is told if it asked, or if contents are lost. Contents of which none was sent stay, and are sent
-- from number 0 on (clauses 5.5.1.2 and 5.7).
abbrev pub accepted_in_5 : Terms → Step
accepted_in_5 t =
    depending_on is_asked (establish_confirm t) (depending_on has_outstanding (discard then establish_indication t) nothing)
    then zero_numbers then start T203 then enter Established

-- It accepts while a release is owed: the link is established, and released at once (annex B, state 5; clause 5.5.3.2).
abbrev pub carry_out : Terms → Step
carry_out t = reset_numbers then owed_is false then release_in_7_8 t

-- The establishment fails: layer 3 is told that the link is down, or that it is released if it asked for that.
abbrev pub tell_failure : Terms → Step
tell_failure t = depending_on is_owed (owed_is false then release_confirm t) (release_indication t)

-- Frames.

abbrev pub frame_in_5 : Terms → List ℕ → Control → Step
-- clause 5.5.5.1
frame_in_5 t octets (Sabme p) = send t (response (Ua p))
-- clause 5.5.5.2
frame_in_5 t octets (Disc p) = send t (response (Dm p))
-- clauses 5.5.1.2, 5.5.3.2 and 5.7
frame_in_5 t octets (Ua true) = depending_on is_owed (carry_out t) (accepted_in_5 t)
-- clause 5.8.7
frame_in_5 t octets (Ua false) = error t code.D
-- clause 5.5.1.2
frame_in_5 t octets (Dm true) = discard then tell_failure t then no_timer then enter TeiAssigned
-- clause 5.2.3; over N201 clause 5.8.5
frame_in_5 t octets (Ui p) = unit_data t (malformed t code.O) octets
-- XID (profile)
frame_in_5 t octets (Xid pf) = xid t
-- clause 5.8.5
frame_in_5 t octets (Information ns nr p) = unexpected t octets
-- clauses 5.5.1.2 and 5.5.2; DM with F=0 is among them
frame_in_5 t octets other = leave_unserved

-- T200 expires (clause 5.5.1.3).
abbrev pub t200_in_5 : Terms → Step
t200_in_5 t =
    depending_on (may_repeat t) (send t (command (Sabme true)) then repeated then start T200)
    (discard then error t code.G then tell_failure t then no_timer then enter TeiAssigned)
