-- State 4, TEI assigned: the link is down.
use Rattle.std.specs.Prelude.{ℕ, true, false, List}
use Rattle.lapd_frame.specs.declared.controls.Control.{Control}
use Rattle.lapd_frame.specs.declared.controls.Control.TheVariants.{Information, Sabme, Disc, Ui, Ua, Dm, Xid}
use Rattle.lapd_frame.specs.declared.notes.ErrorCode.TheVariants as code
use Rattle.model_link.specs.declared.states.State.TheVariants.{AwaitingEstablishment, Established}
use Rattle.model_link.specs.declared.timers.LinkTimer.TheVariants.{T200, T203}
use Rattle.model_link.specs.declared.terms.Terms.{Terms}
use Rattle.model_link.specs.Steps.{Step, ◌then◌}
use Rattle.model_link.specs.Words.{error, establish_indication, release_confirm, leave_unserved, read_as, malformed, unexpected, unit_data, xid, clear_flags, zero_numbers, repeats_are, asked_is, start, enter, send, command, response}

-- Layer 3 asks for the establishment (clause 5.5.1.1),
abbrev pub establish_in_4 : Terms → Step
establish_in_4 t =
    clear_flags then send t (command (Sabme true)) then repeats_are 0 then start T200 then asked_is true
    then enter AwaitingEstablishment

-- or for the release of a link that is down (annex B, state 4).
abbrev pub release_in_4 : Terms → Step
release_in_4 t = release_confirm t

abbrev pub frame_in_4 : Terms → List ℕ → Control → Step
-- clause 5.5.1.2
frame_in_4 t octets (Sabme p) =
    send t (response (Ua p)) then clear_flags then zero_numbers then start T203 then establish_indication t then enter Established
-- clause 5.5.4
frame_in_4 t octets (Disc p) = send t (response (Dm p))
-- clause 5.8.7
frame_in_4 t octets (Ua true) = error t code.C
frame_in_4 t octets (Ua false) = error t code.D
-- Not served (profile); by annex B the other side asks for an establishment (clause 5.5.4).
frame_in_4 t octets (Dm false) = read_as t leave_unserved (establish_in_4 t)
-- clause 5.2.3; over N201 clause 5.8.5
frame_in_4 t octets (Ui p) = unit_data t (malformed t code.O) octets
-- XID (profile)
frame_in_4 t octets (Xid pf) = xid t
-- clause 5.8.5
frame_in_4 t octets (Information ns nr p) = unexpected t octets
-- clause 5.5.4
frame_in_4 t octets other = leave_unserved
