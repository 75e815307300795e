-- What states 7 and 8 have in common: multiple-frame operation. In both, the choice of the timer, the counts of
-- repeats, the flags and the order of effects are the profile's.
use Rattle.std.specs.Prelude.{ℕ, Bool, true, false, not, ◌&&◌, ◌==◌, nat_lt, List, [], ◌∷◌, ◌++◌, length}
use Rattle.lapd_seq.specs.declared.numbers.Seq.{Seq}
use Rattle.lapd_seq.specs.Numbers.{seq}
use Rattle.lapd_frame.specs.declared.controls.Control.{Control}
use Rattle.lapd_frame.specs.declared.controls.Control.TheVariants.{Information, ReceiveReady, ReceiveNotReady, Reject, Sabme, Disc, Ui, Ua, Dm, Frmr, Xid}
use Rattle.lapd_frame.specs.declared.notes.ErrorCode.{ErrorCode}
use Rattle.lapd_frame.specs.declared.notes.ErrorCode.TheVariants as code
use Rattle.model_link.specs.declared.states.State.TheVariants.{TeiAssigned, AwaitingRelease, Established}
use Rattle.model_link.specs.declared.timers.LinkTimer.TheVariants.{T200, T203}
use Rattle.model_link.specs.declared.terms.Terms.{Terms}
use Rattle.model_link.specs.Counts.{with_reject_received}
use Rattle.model_link.specs.Link.{Link, has_outstanding, is_own_busy, is_rejecting}
use Rattle.model_link.specs.Steps.{Step, ◌then◌, nothing, depending_on, by_bit, changed}
use Rattle.model_link.specs.Words.{error, deliver, establish_indication, release_indication, leave_unserved, read_as, unit_data, xid, peer_busy_is, clear_flags, pending_is, rejecting_is, own_busy_is, repeats_are, zero_numbers, discard, count, count_received, start, no_timer, enter, send, command, response, answer, report_receiver_status, reject, re_establish, by_number}

-- Requests of layer 3.

-- clause 5.5.3.2
abbrev pub release_in_7_8 : Terms → Step
release_in_7_8 t =
    discard then pending_is false then send t (command (Disc true)) then repeats_are 0 then start T200 then enter AwaitingRelease

-- clause 5.6.1: the contents go to the end of the queue
abbrev pub with_contents : List ℕ → Link → Link
with_contents octets l = record l { contents = l.contents ++ octets ∷ [] }

abbrev pub data_in_7_8 : List ℕ → Step
data_in_7_8 octets = changed (with_contents octets)

-- clause 5.6.6
abbrev pub set_busy_in_7_8 : Terms → Step
set_busy_in_7_8 t = depending_on is_own_busy nothing (own_busy_is true then report_receiver_status t)

abbrev pub clear_busy_in_7_8 : Terms → Step
clear_busy_in_7_8 t = depending_on is_own_busy (own_busy_is false then report_receiver_status t) nothing

-- Unnumbered frames.

-- SABME: the terminal establishes the link again (clauses 5.5.1.2 and 5.7). Contents of which none is outstanding stay,
-- and are sent from number 0 on.
abbrev pub sabme_in_7_8 : Terms → Bool → Step
sabme_in_7_8 t p =
    send t (response (Ua p)) then clear_flags then error t code.F
    then depending_on has_outstanding (discard then establish_indication t) nothing
    then zero_numbers then start T203 then enter Established

-- DISC: the terminal releases the link (clause 5.5.3.2)
abbrev pub disc_in_7_8 : Terms → Bool → Step
disc_in_7_8 t p =
    discard then pending_is false then send t (response (Ua p)) then release_indication t then no_timer then enter TeiAssigned

-- UA: error C with F=1, D with F=0 (clause 5.8.7)
abbrev pub ua_in_7_8 : Terms → Bool → Step
ua_in_7_8 t f = by_bit f (error t code.C) (error t code.D)

-- An error that is told, and after which the link is established again: DM with F=0 (E), in state 8 DM with F=1 (B) and
-- no answer to the last enquiry (I), FRMR (K), an undefined frame (L), one of wrong size (N), one over N201 (O)
-- (clauses 5.6.7, 5.7.1, 5.8.5, 5.8.6 and 5.8.7, appendix II). An invalid N(R) (J) stands in `by_number`.
abbrev pub failed : Terms → ErrorCode → Step
failed t e = error t e then re_establish t

-- UI over N201: not served (profile); by annex B as an I-frame over N201 (clauses 3.6.11 and 5.8.5)
abbrev pub long_unit_in_7_8 : Terms → Step
long_unit_in_7_8 t = read_as t leave_unserved (failed t code.O)

-- I-frames.

-- Whether N(S) = V(R).
abbrev pub is_next : Seq → Link → Bool
is_next ns l = ns.value == (seq l.r).value

-- With own busy on, the contents are dropped (clause 5.6.6).
abbrev pub dropped : Terms → Bool → Step
dropped t p = by_bit p (answer t) nothing

-- N(S) = V(R): the contents are delivered (clause 5.6.2).
abbrev pub in_sequence : Terms → Bool → List ℕ → Step
in_sequence t p octets =
    count_received then rejecting_is false then deliver t octets then by_bit p (answer t) (pending_is true)

-- N(S) differs: the first time REJ is sent, with F as P; then only P is answered (clause 5.8.1).
abbrev pub out_of_sequence : Terms → Bool → Step
out_of_sequence t p = depending_on is_rejecting (by_bit p (answer t) nothing) (rejecting_is true then reject t p)

abbrev pub contents_in_7_8 : Terms → Seq → Bool → List ℕ → Step
contents_in_7_8 t ns p octets =
    depending_on is_own_busy (dropped t p) (depending_on (is_next ns) (in_sequence t p octets) (out_of_sequence t p))

-- An I-frame over N201 is malformed; of another the contents go first, then N(R) has the effect of the state.
abbrev pub information_in_7_8 : Terms → Seq → Seq → Bool → List ℕ → (ℕ → Step) → Step
information_in_7_8 t ns nr p octets effect =
    by_bit (nat_lt t.n201 (length octets)) (failed t code.O) (contents_in_7_8 t ns p octets then by_number t nr effect)

-- Supervisory frames.

-- A command with P=1 is answered (clauses 5.6.3 to 5.6.5).
abbrev pub answered : Terms → Bool → Bool → Step
answered t is_command pf = by_bit (is_command && pf) (answer t) nothing

-- A response with F=1 is final.
abbrev pub is_final : Bool → Bool → Bool
is_final is_command pf = not is_command && pf

-- What only one of the two states does.
pub record Particulars : Type 0 where
  -- what a valid N(R) does that an I-frame brings,
  pub by_information : ℕ → Step
  -- and one that RR, RNR or REJ brings; the bit says whether the frame is final
  pub by_rr : Bool → ℕ → Step
  pub by_rnr : Bool → ℕ → Step
  pub by_rej : Bool → ℕ → Step
  -- what is told of a supervisory frame, before its N(R); the bit says whether it is final
  pub told_of : Bool → Step
  -- DM with F=1
  pub by_dm : Step

-- RR, RNR and REJ: the terminal is busy from now on, or it is not.
abbrev pub supervisory : Terms → Particulars → Bool → Bool → Bool → Seq → (Bool → ℕ → Step) → Step
supervisory t own busy is_command pf nr effect =
    peer_busy_is busy then answered t is_command pf then own.told_of (is_final is_command pf)
    then by_number t nr (effect (is_final is_command pf))

-- The frames of both states.
abbrev pub frame_in_7_8 : Particulars → Terms → Bool → List ℕ → Control → Step
-- clauses 5.6.2, 5.6.3 and 5.6.7
frame_in_7_8 own t is_command octets (Information ns nr p) = information_in_7_8 t ns nr p octets own.by_information
-- clauses 5.6.3.2 and 5.6.7
frame_in_7_8 own t is_command octets (ReceiveReady nr pf) = supervisory t own false is_command pf nr own.by_rr
-- clauses 5.6.5 and 5.6.7
frame_in_7_8 own t is_command octets (ReceiveNotReady nr pf) = supervisory t own true is_command pf nr own.by_rnr
-- clauses 5.6.4 and 5.6.7
frame_in_7_8 own t is_command octets (Reject nr pf) = count with_reject_received then supervisory t own false is_command pf nr own.by_rej
-- clauses 5.5.1.2 and 5.7
frame_in_7_8 own t is_command octets (Sabme p) = sabme_in_7_8 t p
-- clause 5.5.3.2
frame_in_7_8 own t is_command octets (Disc p) = disc_in_7_8 t p
-- clause 5.8.7
frame_in_7_8 own t is_command octets (Ua f) = ua_in_7_8 t f
frame_in_7_8 own t is_command octets (Dm true) = own.by_dm
-- clause 5.7.1
frame_in_7_8 own t is_command octets (Dm false) = failed t code.E
-- clause 5.8.6
frame_in_7_8 own t is_command octets (Frmr f) = failed t code.K
-- clause 5.2.3
frame_in_7_8 own t is_command octets (Ui p) = unit_data t (long_unit_in_7_8 t) octets
-- XID (profile)
frame_in_7_8 own t is_command octets (Xid pf) = xid t
