-- What layer 3 is told of what is heard.
use Rattle.laws_trace.proofs.Vocabulary.{◌≡◌, ℕ, ◌%◌, ◌&&◌, ◌||◌, not, Bool, true, false, List, length, option_to_list, count_by, Option, Some, None, if◌then◌else◌, list_any, Information, Note, Service, Parts, Config, is_data_of, is_unit_of, tells_contents, Control, Request, SetBusy, ClearBusy, is_for, is_information, is_own, Seen, trace_noted as noted, granted, is_ui}
use Rattle.laws_trace.proofs.Counting.{Watched, nothing_yet, begins, watch}

-- And how the card's side of the link stands. Layer 3 is busy from SetBusy that is granted to ClearBusy that is, and is
-- not where the numbers begin (clauses 5.5.1.2, 5.6.6 and 5.7). An I-frame of which nothing is told, while layer 3 is
-- not busy, is rejected, until data is told, or the numbers begin (clause 5.8.1).
pub record Standing : Type 0 where
  pub told : Watched
  pub busy : Bool
  pub rejected : Bool

abbrev pub at_first : Standing
at_first = record { told = nothing_yet; busy = false; rejected = false }

abbrev pub busy_asked : Service → ℕ → Bool → Request → Bool
busy_asked service tei busy (SetBusy of by) = is_own service tei of by || busy
busy_asked service tei busy (ClearBusy of by) = not (is_own service tei of by) && busy
busy_asked service tei busy other = busy

abbrev pub busy_by : Service → ℕ → Standing → Seen → Bool
busy_by service tei w (granted r) = busy_asked service tei w.busy r
busy_by service tei w (noted ns contents) = if begins service tei w.told.frame ns then false else w.busy
busy_by service tei w other = w.busy

abbrev pub brings_information : Service → ℕ → Option Parts → Bool
brings_information service tei None = false
brings_information service tei (Some f) = is_for service tei f.address && is_information f.control

abbrev pub rejected_by : Service → ℕ → Standing → Seen → Bool
rejected_by service tei w (noted ns contents) =
    if begins service tei w.told.frame ns || list_any (is_data_of service tei) ns then false
    else if brings_information service tei w.told.frame && not w.busy then true
    else w.rejected
rejected_by service tei w other = w.rejected

abbrev pub stand : Config → Service → ℕ → Standing → Seen → Standing
stand c service tei w x = record { told = watch c service tei w.told x; busy = busy_by service tei w x; rejected = rejected_by service tei w x }

-- N(S) of an I-frame, the one field that none but it has.
abbrev pub number_in : Control → Option ℕ
number_in (Information ns nr p) = Some ns.value
number_in other = None

-- The contents are the information of a frame of the link that was heard right before, and that is as it is said,
pub record IsOfFrame (service : Service) (tei : ℕ) (w : Watched) (Is : Control → Type 0) (contents : Option (List ℕ)) : Type 0 where
  pub frame : Parts
  pub heard : w.frame ≡ Some frame
  pub whose : is_for service tei frame.address ≡ true
  pub control : Is frame.control
  pub told : contents ≡ Some frame.info

-- data of an I-frame, whose N(S) is the number of contents told of the link since its numbers began, modulo 128
-- (clauses 3.5.2.4 to 3.5.2.6 and 5.6.2); unit data of a UI (clause 5.2.3); and contents that are told are noted as one
-- or the other, once.
pub record IsHeard (service : Service) (tei : ℕ) (w : Watched) (ns : List Note) (contents : Option (List ℕ)) : Type 0 where
  pub data_is : list_any (is_data_of service tei) ns ≡ true → IsOfFrame service tei w (λ control. number_in control ≡ Some (w.count % 128)) contents
  pub unit_is : list_any (is_unit_of service tei) ns ≡ true → IsOfFrame service tei w (λ control. is_ui control ≡ true) contents
  pub once : count_by tells_contents ns ≡ length (option_to_list contents)
