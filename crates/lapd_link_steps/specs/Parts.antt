-- Parts of rows that are a method each.
use Rattle.std.specs.Prelude.{ℕ, Bool, true, false}
use Rattle.lapd_seq.specs.declared.numbers.Seq.{Seq}
use Rattle.lapd_frame.specs.declared.controls.Control.TheVariants.{Sabme}
use Rattle.lapd_frame.specs.declared.notes.ErrorCode.{ErrorCode}
use Rattle.model_link.specs.declared.states.State.TheVariants.{AwaitingEstablishment}
use Rattle.model_link.specs.declared.terms.Terms.{Terms}
use Rattle.model_link.specs.Link.{is_asked, has_outstanding}
use Rattle.model_link.specs.Steps.{Step, ◌then◌, nothing, depending_on}
use Rattle.model_link.specs.Words.{asked_is, clear_flags, command, enter, pending_is, rr_or_rnr, repeats_are, response, send, establish_indication, establish_confirm, discard, start, by_number}
use Rattle.model_link.specs.Machine.{malformed_in, told_of_clearing}
use Rattle.model_link.specs.MultipleFrame.{Particulars, answered, is_final}
use Rattle.model_link.specs.Established.{either_way, particulars_in_7}
use Rattle.model_link.specs.TimerRecovery.{particulars_in_8}
use Rattle.model_link.specs.Requests.{establish_in, release_in}
use Rattle.model_link.specs.Offers.{is_awaiting_acknowledgement}
use Rattle.model_link.specs.declared.timers.LinkTimer.TheVariants.{T200}
use Rattle.lapd_link_steps.specs.declared.states.multiple_frame.Bearer.{Bearer}
use Rattle.lapd_link_steps.specs.declared.states.multiple_frame.Bearer.TheVariants.{Information, Rr, Rnr, Rej}

-- The establishment begins, as layer 3 asked or after an error.
abbrev pub establishing : Terms → Bool → Step
establishing t asked =
    clear_flags then send t (command (Sabme true)) then repeats_are 0 then start T200 then asked_is asked
    then enter AwaitingEstablishment

-- RR or RNR tells whether own busy is on, as the answer to a command or unasked.
abbrev pub ready_reported : Terms → Bool → Step
ready_reported t pf c = (send t (response (rr_or_rnr pf c.link)) then pending_is false) c

-- Where contents are outstanding, all are lost, and layer 3 is told (Q.921 clauses 5.5.1.2 and 5.7).
abbrev pub renewed : Terms → Step
renewed t = depending_on has_outstanding (discard then establish_indication t) nothing

-- A UA with F=1 in state 5.
abbrev pub told_of_establishment : Terms → Step
told_of_establishment t = depending_on is_asked (establish_confirm t) (renewed t)

-- Rows by the state that the link is in.
abbrev pub malformed_by_state : Terms → ErrorCode → Step
malformed_by_state t e c = malformed_in c.link.state t e c

abbrev pub established_by_state : Terms → Step
established_by_state t c = establish_in c.link.state t c

abbrev pub released_by_state : Terms → Step
released_by_state t c = release_in c.link.state t c

abbrev pub told_of_clearing_by_state : Terms → Step
told_of_clearing_by_state t c = told_of_clearing c.link.state t c

-- T200 is started unless it runs.
abbrev pub awaiting : Step
awaiting = depending_on is_awaiting_acknowledgement nothing (start T200)

-- What only the state does, of states 7 and 8; true is state 8.
abbrev pub particulars : Bool → Terms → Particulars
particulars false t = particulars_in_7 t
particulars true t = particulars_in_8 t

-- What an N(R) does, by the frame that brought it.
abbrev pub effect_of : Particulars → Bearer → Bool → ℕ → Step
effect_of own Information = either_way own.by_information
effect_of own Rr = own.by_rr
effect_of own Rnr = own.by_rnr
effect_of own Rej = own.by_rej

-- A supervisory frame, but for whether the terminal is busy.
abbrev pub supervisory : Particulars → Terms → Bearer → Bool → Seq → Bool → Step
supervisory own t by is_command nr pf =
    answered t is_command pf then own.told_of (is_final is_command pf) then by_number t nr (effect_of own by (is_final is_command pf))
