-- State 8, timer recovery: multiple-frame operation while this side asks how far the terminal has received.
use Rattle.std.specs.Prelude.{ℕ, Bool, List}
use Rattle.lapd_frame.specs.declared.controls.Control.{Control}
use Rattle.lapd_frame.specs.declared.notes.ErrorCode.TheVariants as code
use Rattle.model_link.specs.declared.states.State.TheVariants.{Established}
use Rattle.model_link.specs.declared.timers.LinkTimer.{LinkTimer}
use Rattle.model_link.specs.declared.timers.LinkTimer.TheVariants.{T200, T203}
use Rattle.model_link.specs.declared.terms.Terms.{Terms}
use Rattle.model_link.specs.Link.{may_repeat}
use Rattle.model_link.specs.Steps.{Step, ◌then◌, nothing, depending_on, by_bit}
use Rattle.model_link.specs.Words.{repeated, acknowledge, send_again_from, start, enter, enquire}
use Rattle.model_link.specs.MultipleFrame.{Particulars, failed, frame_in_7_8}

-- What a valid N(R) does (clause 5.6.7).

-- A response with F=1 answers the enquiry, and what was not received is sent again.
abbrev pub recovered : LinkTimer → ℕ → Step
recovered timer n = acknowledge n then send_again_from n then start timer then enter Established

-- RR, RNR and REJ
abbrev pub acknowledged_in_8 : LinkTimer → Bool → ℕ → Step
acknowledged_in_8 timer final n = by_bit final (recovered timer n) (acknowledge n)

-- An enquiry asked for a final response: nothing is told of it.
abbrev pub solicited : Bool → Step
solicited final = nothing

-- Frames.

-- For DM with F=1 clauses 5.8.7 and 5.7.1.
abbrev pub particulars_in_8 : Terms → Particulars
particulars_in_8 t = record {
  by_information = acknowledge;
  by_rr = acknowledged_in_8 T203;
  by_rnr = acknowledged_in_8 T200;
  by_rej = acknowledged_in_8 T203;
  told_of = solicited;
  by_dm = failed t code.B;
}

abbrev pub frame_in_8 : Terms → Bool → List ℕ → Control → Step
frame_in_8 t is_command octets control = frame_in_7_8 (particulars_in_8 t) t is_command octets control

-- T200 expires (clause 5.6.7).
abbrev pub t200_in_8 : Terms → Step
t200_in_8 t = depending_on (may_repeat t) (enquire t then repeated then start T200) (failed t code.I)
