-- State 7, multiple frame established.
use Rattle.std.specs.Prelude.{ℕ, min, Bool, ◌==◌, nat_lt, List}
use Rattle.lapd_frame.specs.declared.controls.Control.{Control}
use Rattle.lapd_frame.specs.declared.notes.ErrorCode.TheVariants as code
use Rattle.model_link.specs.declared.states.State.TheVariants.{TimerRecovery}
use Rattle.lapd_frame.specs.declared.readings.Reading.{Reading}
use Rattle.lapd_frame.specs.declared.readings.Reading.TheVariants.{Profile, AnnexB}
use Rattle.model_link.specs.declared.timers.LinkTimer.{LinkTimer}
use Rattle.model_link.specs.declared.timers.LinkTimer.TheVariants.{T200, T203}
use Rattle.model_link.specs.declared.terms.Terms.{Terms}
use Rattle.model_link.specs.Link.{Link, is_peer_busy, most_repeats}
use Rattle.model_link.specs.Steps.{Step, ◌then◌, nothing, depending_on, by_bit}
use Rattle.model_link.specs.Words.{error, repeats_are, acknowledge, send_again_from, start, enter, enquire}
use Rattle.model_link.specs.MultipleFrame.{Particulars, frame_in_7_8}

-- What a valid N(R) does.

abbrev pub is_all_sent : ℕ → Link → Bool
is_all_sent n l = n == l.s

abbrev pub is_beyond_acknowledged : ℕ → Link → Bool
is_beyond_acknowledged n l = nat_lt l.a n

-- RR, or I while the terminal is not busy (clause 5.6.3.2)
abbrev pub acknowledged_in_7 : ℕ → Step
acknowledged_in_7 n =
    depending_on (is_all_sent n) (acknowledge n then start T203)
    (depending_on (is_beyond_acknowledged n) (acknowledge n then start T200) nothing)

-- I
abbrev pub acknowledged_by_information_in_7 : ℕ → Step
acknowledged_by_information_in_7 n = depending_on is_peer_busy (acknowledge n) (acknowledged_in_7 n)

-- RNR (clause 5.6.5)
abbrev pub acknowledged_by_rnr_in_7 : ℕ → Step
acknowledged_by_rnr_in_7 n = acknowledge n then start T200

-- REJ (clause 5.6.4)
abbrev pub acknowledged_by_rej_in_7 : ℕ → Step
acknowledged_by_rej_in_7 n = acknowledge n then send_again_from n then start T203

-- A final response that no command asked for: error A (clause 5.8.7).
abbrev pub unsolicited : Terms → Bool → Step
unsolicited t final = by_bit final (error t code.A) nothing

-- Frames.

-- The same for a final frame and another.
abbrev pub either_way : (ℕ → Step) → Bool → ℕ → Step
either_way effect final = effect

-- For DM with F=1 clause 5.8.7.
abbrev pub particulars_in_7 : Terms → Particulars
particulars_in_7 t = record {
  by_information = acknowledged_by_information_in_7;
  by_rr = either_way acknowledged_in_7;
  by_rnr = either_way acknowledged_by_rnr_in_7;
  by_rej = either_way acknowledged_by_rej_in_7;
  told_of = unsolicited t;
  by_dm = error t code.B;
}

abbrev pub frame_in_7 : Terms → Bool → List ℕ → Control → Step
frame_in_7 t is_command octets control = frame_in_7_8 (particulars_in_7 t) t is_command octets control

-- RC once the enquiry is sent: 0 (profile; after T203 in both readings). By annex B it is 1 after T200, or 0 if N200 is 0, so
-- that N200 enquiries go in all, at least one (clause 5.6.7).
abbrev pub first_repeats : Reading → ℕ → LinkTimer → ℕ
first_repeats Profile n200 timer = 0
first_repeats AnnexB n200 T200 = min 1 n200
first_repeats AnnexB n200 T203 = 0

-- T200 or T203 expires (clauses 5.6.7 and 5.10.3).
abbrev pub timer_in_7 : Terms → LinkTimer → Step
timer_in_7 t timer = repeats_are (first_repeats t.reading (most_repeats t 8) timer) then enquire t then start T200 then enter TimerRecovery
