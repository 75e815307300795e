-- Two links that are the same go on the same: the rows of the tables.
use Rattle.std.proofs.Common.{ℕ, Bool, true, false, List}
use Rattle.lapd_frame.specs.declared.controls.Control.{Control}
use Rattle.lapd_frame.specs.declared.controls.Control.TheVariants.{Information, ReceiveReady, ReceiveNotReady, Reject, Ua, Dm}
use Rattle.lapd_frame.specs.declared.notes.ErrorCode.{ErrorCode}
use Rattle.model_link.specs.declared.states.State.{State}
use Rattle.model_link.specs.declared.states.State.TheVariants.{TeiAssigned, AwaitingEstablishment, AwaitingRelease, Established, TimerRecovery}
use Rattle.model_link.specs.declared.timers.LinkTimer.{LinkTimer}
use Rattle.model_link.specs.declared.timers.LinkTimer.TheVariants.{T200, T203}
use Rattle.model_link.specs.declared.terms.Terms.{Terms}
use Rattle.model_link.specs.Steps.{◌then◌}
use Rattle.model_link.specs.Words.{error, re_establish}
use Rattle.model_link.specs.MultipleFrame.{Particulars, failed, frame_in_7_8}
use Rattle.model_link.specs.Established.{acknowledged_in_7, acknowledged_by_information_in_7, acknowledged_by_rnr_in_7, acknowledged_by_rej_in_7, particulars_in_7}
use Rattle.model_link.specs.TimerRecovery.{acknowledged_in_8, particulars_in_8}
use Rattle.model_link.specs.Machine.{frame_in, malformed_in, expired_in, told_of_clearing}
use Rattle.model_image.proofs.GoOn.{Alike, Named, Leads2, then2, nothing2, depending2, bit2, forget, alike_then, acknowledge2, send_again2, start2, enter2}
use Rattle.model_image.proofs.GoOnTests.{number2, named_tells, peer_tells, all_sent_tells, beyond_tells, rows2}

module _ (t : Terms) where
  re_establish2 : Leads2 Alike (re_establish t) (re_establish t) Alike
  re_establish2 = search rows2 depth 14 fits 6000

  failed2 : (e : ErrorCode) → Leads2 Alike (failed t e) (failed t e) Alike
  failed2 e = search rows2 depth 14 fits 6000

  invalid2 : (e : ErrorCode) → Leads2 Alike (error t e then re_establish t) (error t e then re_establish t) Alike
  invalid2 e = search rows2 depth 14 fits 6000

-- what a valid N(R) does
in_7 : (n m : ℕ) → Leads2 (Named n m) (acknowledged_in_7 n) (acknowledged_in_7 m) Alike
in_7 n m = depending2 (all_sent_tells n m) (then2 (acknowledge2 n m) (forget (start2 T203))) (depending2 (beyond_tells n m) (then2 (acknowledge2 n m) (forget (start2 T200))) (forget nothing2))

by_information_7 : (n m : ℕ) → Leads2 (Named n m) (acknowledged_by_information_in_7 n) (acknowledged_by_information_in_7 m) Alike
by_information_7 n m = depending2 (named_tells peer_tells) (alike_then (acknowledge2 n m)) (in_7 n m)

by_rnr_7 : (n m : ℕ) → Leads2 (Named n m) (acknowledged_by_rnr_in_7 n) (acknowledged_by_rnr_in_7 m) Alike
by_rnr_7 n m = then2 (acknowledge2 n m) (forget (start2 T200))

by_rej_7 : (n m : ℕ) → Leads2 (Named n m) (acknowledged_by_rej_in_7 n) (acknowledged_by_rej_in_7 m) Alike
by_rej_7 n m = then2 (acknowledge2 n m) (then2 (send_again2 n m) (forget (start2 T203)))

in_8 : (timer : LinkTimer) (final : Bool) (n m : ℕ) → Leads2 (Named n m) (acknowledged_in_8 timer final n) (acknowledged_in_8 timer final m) Alike
in_8 timer final n m = bit2 final (then2 (acknowledge2 n m) (then2 (send_again2 n m) (then2 (forget (start2 timer)) (enter2 Established)))) (alike_then (acknowledge2 n m))

-- The rows of states 7 and 8 that an N(R) is in.
record Numbered2 (own : Particulars) : Type 0 where
  by_information : (n m : ℕ) → Leads2 (Named n m) (own.by_information n) (own.by_information m) Alike
  by_rr : (b : Bool) (n m : ℕ) → Leads2 (Named n m) (own.by_rr b n) (own.by_rr b m) Alike
  by_rnr : (b : Bool) (n m : ℕ) → Leads2 (Named n m) (own.by_rnr b n) (own.by_rnr b m) Alike
  by_rej : (b : Bool) (n m : ℕ) → Leads2 (Named n m) (own.by_rej b n) (own.by_rej b m) Alike
  told_of : (b : Bool) → Leads2 Alike (own.told_of b) (own.told_of b) Alike
  by_dm : Leads2 Alike own.by_dm own.by_dm Alike

module _ (t : Terms) where
  numbered_7 : Numbered2 (particulars_in_7 t)
  numbered_7 = record {
    by_information = by_information_7;
    by_rr = λ b. in_7;
    by_rnr = λ b. by_rnr_7;
    by_rej = λ b. by_rej_7;
    told_of = λ b. search rows2 depth 14 fits 6000;
    by_dm = search rows2 depth 14 fits 6000;
  }

  numbered_8 : Numbered2 (particulars_in_8 t)
  numbered_8 = record {
    by_information = λ n m. alike_then (acknowledge2 n m);
    by_rr = in_8 T203;
    by_rnr = in_8 T200;
    by_rej = in_8 T203;
    told_of = λ b. nothing2;
    by_dm = failed2 t _;
  }

  module _ (own : Particulars) (x : Numbered2 own) where
    multiple2 : (b : Bool) (octets : List ℕ) (control : Control) → Leads2 Alike (frame_in_7_8 own t b octets control) (frame_in_7_8 own t b octets control) Alike
    multiple2 b octets (Information ns nr p) = search (rows2, number2, x.by_information) depth 14 fits 6000
    multiple2 b octets (ReceiveReady nr pf) = search (rows2, number2, x.by_rr, x.told_of) depth 14 fits 6000
    multiple2 b octets (ReceiveNotReady nr pf) = search (rows2, number2, x.by_rnr, x.told_of) depth 14 fits 6000
    multiple2 b octets (Reject nr pf) = search (rows2, number2, x.by_rej, x.told_of) depth 14 fits 6000
    multiple2 b octets (Dm true) = x.by_dm
    multiple2 b octets other = search rows2 depth 14 fits 6000

  pub frame2 : (here : State) (b : Bool) (octets : List ℕ) (control : Control) → Leads2 Alike (frame_in here t b octets control) (frame_in here t b octets control) Alike
  frame2 Established b octets control = multiple2 (particulars_in_7 t) numbered_7 b octets control
  frame2 TimerRecovery b octets control = multiple2 (particulars_in_8 t) numbered_8 b octets control
  frame2 TeiAssigned b octets (Ua true) = search rows2 depth 14 fits 6000
  frame2 AwaitingEstablishment b octets (Ua true) = search rows2 depth 14 fits 6000
  frame2 AwaitingRelease b octets (Ua true) = search rows2 depth 14 fits 6000
  frame2 here b octets (Ua false) = search rows2 depth 14 fits 6000
  frame2 here b octets (Dm true) = search rows2 depth 14 fits 6000
  frame2 here b octets (Dm false) = search rows2 depth 14 fits 6000
  frame2 here b octets other = search rows2 depth 14 fits 6000

  pub expired2 : (here : State) (timer : LinkTimer) → Leads2 Alike (expired_in here timer t) (expired_in here timer t) Alike
  expired2 AwaitingEstablishment T200 = search rows2 depth 14 fits 6000
  expired2 AwaitingRelease T200 = search rows2 depth 14 fits 6000
  expired2 TimerRecovery T200 = search rows2 depth 14 fits 6000
  expired2 here timer = search rows2 depth 14 fits 6000

  pub malformed2 : (here : State) (e : ErrorCode) → Leads2 Alike (malformed_in here t e) (malformed_in here t e) Alike
  malformed2 TeiAssigned e = search rows2 depth 14 fits 6000
  malformed2 AwaitingEstablishment e = search rows2 depth 14 fits 6000
  malformed2 AwaitingRelease e = search rows2 depth 14 fits 6000
  malformed2 Established e = search rows2 depth 14 fits 6000
  malformed2 TimerRecovery e = search rows2 depth 14 fits 6000

  pub clearing2 : (here : State) → Leads2 Alike (told_of_clearing here t) (told_of_clearing here t) Alike
  clearing2 TeiAssigned = search rows2 depth 14 fits 6000
  clearing2 AwaitingEstablishment = search rows2 depth 14 fits 6000
  clearing2 AwaitingRelease = search rows2 depth 14 fits 6000
  clearing2 Established = search rows2 depth 14 fits 6000
  clearing2 TimerRecovery = search rows2 depth 14 fits 6000
