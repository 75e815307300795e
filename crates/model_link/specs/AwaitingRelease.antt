-- State 6, awaiting release: DISC was sent.
use Rattle.std.specs.Prelude.{ℕ, true, false, List}
use Rattle.lapd_frame.specs.declared.controls.Control.{Control}
use Rattle.lapd_frame.specs.declared.controls.Control.TheVariants.{Information, Sabme, Disc, Ui, Ua, Dm, Xid}
use Rattle.lapd_frame.specs.declared.notes.ErrorCode.TheVariants as code
use Rattle.model_link.specs.declared.states.State.TheVariants.{TeiAssigned}
use Rattle.model_link.specs.declared.timers.LinkTimer.TheVariants.{T200}
use Rattle.model_link.specs.declared.terms.Terms.{Terms}
use Rattle.model_link.specs.Link.{may_repeat}
use Rattle.model_link.specs.Steps.{Step, ◌then◌, depending_on}
use Rattle.model_link.specs.Words.{error, release_confirm, leave_unserved, malformed, unexpected, unit_data, xid, repeated, start, no_timer, enter, send, command, response}

abbrev pub frame_in_6 : Terms → List ℕ → Control → Step
-- clause 5.5.5.2
frame_in_6 t octets (Sabme p) = send t (response (Dm p))
-- clause 5.5.5.1
frame_in_6 t octets (Disc p) = send t (response (Ua p))
-- clause 5.5.3.2
frame_in_6 t octets (Ua true) = release_confirm t then no_timer then enter TeiAssigned
frame_in_6 t octets (Dm true) = release_confirm t then no_timer then enter TeiAssigned
-- clause 5.8.7
frame_in_6 t octets (Ua false) = error t code.D
-- clause 5.2.3; over N201 clause 5.8.5
frame_in_6 t octets (Ui p) = unit_data t (malformed t code.O) octets
-- XID (profile)
frame_in_6 t octets (Xid pf) = xid t
-- clause 5.8.5
frame_in_6 t octets (Information ns nr p) = unexpected t octets
-- clause 5.5.3.2; DM with F=0 is among them
frame_in_6 t octets other = leave_unserved

-- T200 expires (clause 5.5.3.3).
abbrev pub t200_in_6 : Terms → Step
t200_in_6 t =
    depending_on (may_repeat t) (send t (command (Disc true)) then repeated then start T200)
    (error t code.H then release_confirm t then no_timer then enter TeiAssigned)
