-- What numbers mean in C.
use Rattle.lapd_c.proofs.Vocabulary.{◌≡◌, ◌≤◌, ℕ, Bool, true, false, Option, None, Some, List, Ok, option_map, option_or, refl, sym, ap, ◌∙◌, arith, and_parts, leb-true, none-some, Service}
use Rattle.std.specs.Prelude.{Err, IfSome, not, if◌then◌else◌}
use Rattle.std.proofs.lemmas.Bool.{le-leb, le-ltb}
use Rattle.lapd_frame.specs.declared.services.Service.TheVariants.{Call, Packet}
use Rattle.lapd_frame.specs.declared.timers.Order.TheVariants.{Start, Stop}
use Rattle.lapd_frame.specs.declared.timers.Timer.{Timer}
use Rattle.lapd_frame.specs.declared.timers.Timer.TheVariants.{T200, T203}
use Rattle.lapd_frame.specs.Services.{sapi_of}
use Rattle.lapd_clock.specs.Timer.{Lengths, first_out_of_range, is_length}
use Rattle.lapd_clock.specs.declared.fault.LengthFault.{LengthFault}
use Rattle.lapd_clock.specs.declared.fault.LengthFault.TheVariants as fault
use Rattle.model_line.specs.Request.{Establish, Release, Data, Unit, Assign, Remove, Check, Disown, AskTei, VerifyTei, SetBusy, ClearBusy, Deactivate, Down}
use Rattle.lapd_c.specs.Numbers.{AreServed, Asks, IsLength, NumbersAreGiven, noted, number_of, timed}
use Rattle.lapd_c.specs.Requests.{request_in}
use Rattle.lapd_c.specs.Reserved.{reserve_fault}
use Rattle.lapd_c.specs.Statuses.{wrong_tei, wrong_time}
use Rattle.lapd_c.specs.Timers.{lengths_fault, lengths_in, link_in, order_of_timer, timer_of_link}
use Rattle.lapd_c.specs.declared.plain.timers.PlainLengths.{PlainLengths}
use Rattle.lapd_c.proofs.Said.{all_unused, configurations_are_given_by, not_unused}
use Rattle.lapd_c.proofs.WrongCalls.{order_none, order_timer}

-- a service has the number of its SAPI
number-is : (s : Service) → sapi_of s ≡ number_of s
number-is Call = refl
number-is Packet = refl

-- a link, and a timer of it
link_given : (s : Service) (tei : ℕ) → tei ≤ 126 → link_in (number_of s) tei ≡ Ok (s, tei)
link_given Call tei few = ap (λ (b : Bool). if b then Err wrong_tei else Ok (Call, tei)) (le-ltb 126 tei few)
link_given Packet tei few = ap (λ (b : Bool). if b then Err wrong_tei else Ok (Packet, tei)) (le-ltb 126 tei few)

timer_given : (which : Service → ℕ → Timer) (s : Service) (tei : ℕ) → tei ≤ 126 → timer_of_link which (link_in (number_of s) tei) ≡ Ok (which s tei)
timer_given which s tei few = ap (timer_of_link which) (link_given s tei few)

-- lengths
length_served : (n : ℕ) → IsLength n → is_length n ≡ true
length_served n h = grind (arith, le-leb)

length_refused : (n : ℕ) → is_length n ≡ true → IsLength n
length_refused n is = let parts = and_parts _ _ is in (leb-true 1 n (parts.0), leb-true n 3600000 (parts.1))

abbrev first_of : Bool → Bool → Bool → Bool → Option LengthFault
first_of a b c d = if not a then Some fault.T200 else if not b then Some fault.T203 else if not c then Some fault.T201 else if not d then Some fault.T202 else None

all_true : (a b c d : Bool) → first_of a b c d ≡ None → (a ≡ true) × (b ≡ true) × (c ≡ true) × (d ≡ true)
all_true true true true true is = (refl, refl, refl, refl)
all_true true true true false is = absurd (none-some _ (sym is))
all_true true true false d is = absurd (none-some _ (sym is))
all_true true false c d is = absurd (none-some _ (sym is))
all_true false b c d is = absurd (none-some _ (sym is))

lengths_in_range : (l : Lengths) → AreServed l → first_out_of_range l ≡ None
lengths_in_range l h =
    ap (λ x. first_of x (is_length l.t203) (is_length l.t201) (is_length l.t202)) (length_served l.t200 (h.0))
    ∙ ap (λ x. first_of true x (is_length l.t201) (is_length l.t202)) (length_served l.t203 (h.1))
    ∙ ap (λ x. first_of true true x (is_length l.t202)) (length_served l.t201 (h.2))
    ∙ ap (λ x. first_of true true true x) (length_served l.t202 (h.3))

lengths_all : (l : Lengths) → first_out_of_range l ≡ None → AreServed l
lengths_all l is =
    let all = all_true (is_length l.t200) (is_length l.t203) (is_length l.t201) (is_length l.t202) is in
    (length_refused l.t200 (all.0), length_refused l.t203 (all.1), length_refused l.t201 (all.2), length_refused l.t202 (all.3))

-- what is wrong with them
wrong_by : (o : Option LengthFault) (others : Option ℕ) → IfSome o (λ _. option_or (option_map (λ _. wrong_time) o) others ≡ Some 21)
wrong_by None others = tt
wrong_by (Some length) others = refl

no_length : (p : PlainLengths) → first_out_of_range (lengths_in p) ≡ None → lengths_fault p ≡ reserve_fault p.reserved
no_length p none = ap (λ (o : Option LengthFault). option_or (option_map (λ _. wrong_time) o) (reserve_fault p.reserved)) none

-- requests
case_establish : Asks 1 Establish
case_establish Call tei = refl
case_establish Packet tei = refl

case_release : Asks 2 Release
case_release Call tei = refl
case_release Packet tei = refl

case_assign : Asks 5 (λ s tei. Assign tei)
case_assign Call tei = refl
case_assign Packet tei = refl

case_remove : Asks 6 (λ s tei. Remove tei)
case_remove Call tei = refl
case_remove Packet tei = refl

case_check : Asks 7 (λ s tei. Check tei)
case_check Call tei = refl
case_check Packet tei = refl

case_busy : Asks 8 SetBusy
case_busy Call tei = refl
case_busy Packet tei = refl

case_ready : Asks 9 ClearBusy
case_ready Call tei = refl
case_ready Packet tei = refl

case_deactivate : Asks 10 Deactivate
case_deactivate Call tei = refl
case_deactivate Packet tei = refl

case_down : Asks 11 (λ s tei. Down)
case_down Call tei = refl
case_down Packet tei = refl

case_disown : Asks 12 (λ s tei. Disown tei)
case_disown Call tei = refl
case_disown Packet tei = refl

case_ask_tei : Asks 13 (λ s tei. AskTei)
case_ask_tei Call tei = refl
case_ask_tei Packet tei = refl

case_verify_tei : Asks 14 (λ s tei. VerifyTei tei)
case_verify_tei Call tei = refl
case_verify_tei Packet tei = refl

case_data_given : (s : Service) (tei : ℕ) (contents : List ℕ) → request_in 3 (number_of s) tei contents ≡ Ok (Data s tei contents)
case_data_given Call tei contents = refl
case_data_given Packet tei contents = refl

case_unit_given : (s : Service) (tei : ℕ) (contents : List ℕ) → request_in 4 (number_of s) tei contents ≡ Ok (Unit s tei contents)
case_unit_given Call tei contents = refl
case_unit_given Packet tei contents = refl

pub numbers_are_given_by : NumbersAreGiven
numbers_are_given_by = record {
  establish_indication = λ s tei. ap (λ n. noted 1 n tei 0) (number-is s);
  establish_confirm = λ s tei. ap (λ n. noted 2 n tei 0) (number-is s);
  release_indication = λ s tei. ap (λ n. noted 3 n tei 0) (number-is s);
  release_confirm = λ s tei. ap (λ n. noted 4 n tei 0) (number-is s);
  data_told = λ s tei. ap (λ n. noted 5 n tei 0) (number-is s);
  unit_told = λ s tei. ap (λ n. noted 6 n tei 0) (number-is s);
  xid = λ s tei. ap (λ n. noted 11 n tei 0) (number-is s);
  error_a = λ s tei. ap (λ n. noted 7 n tei 65) (number-is s);
  error_b = λ s tei. ap (λ n. noted 7 n tei 66) (number-is s);
  error_c = λ s tei. ap (λ n. noted 7 n tei 67) (number-is s);
  error_d = λ s tei. ap (λ n. noted 7 n tei 68) (number-is s);
  error_e = λ s tei. ap (λ n. noted 7 n tei 69) (number-is s);
  error_f = λ s tei. ap (λ n. noted 7 n tei 70) (number-is s);
  error_g = λ s tei. ap (λ n. noted 7 n tei 71) (number-is s);
  error_h = λ s tei. ap (λ n. noted 7 n tei 72) (number-is s);
  error_i = λ s tei. ap (λ n. noted 7 n tei 73) (number-is s);
  error_j = λ s tei. ap (λ n. noted 7 n tei 74) (number-is s);
  error_k = λ s tei. ap (λ n. noted 7 n tei 75) (number-is s);
  error_l = λ s tei. ap (λ n. noted 7 n tei 76) (number-is s);
  error_n = λ s tei. ap (λ n. noted 7 n tei 78) (number-is s);
  error_o = λ s tei. ap (λ n. noted 7 n tei 79) (number-is s);
  assigned = λ tei. refl;
  removed = λ tei. refl;
  doubled = λ tei. refl;
  denied = refl;
  unassigned = refl;
  remove_all = refl;
  no_cause = refl;
  cause_abort = refl;
  cause_ragged = refl;
  cause_short = refl;
  cause_fcs = refl;
  cause_extension = refl;
  cause_sapi = refl;
  cause_tei = refl;
  cause_unserved = refl;
  fault_abort = refl;
  fault_ragged = refl;
  fault_short = refl;
  fault_fcs = refl;
  t200 = λ s tei. ap (λ n. timed 1 n tei) (number-is s);
  t203 = λ s tei. ap (λ n. timed 2 n tei) (number-is s);
  t201 = refl;
  t202 = refl;
  link = λ s tei few. link_given s tei few;
  t200_given = λ s tei few. timer_given T200 s tei few;
  t203_given = λ s tei few. timer_given T203 s tei few;
  t201_given = λ service tei. refl;
  t202_given = λ service tei. refl;
  start = λ timer. refl;
  stop = λ timer. refl;
  start_given = λ p timer is. ap (order_of_timer Start) is;
  stop_given = λ p timer is. ap (order_of_timer Stop) is;
  wrong_order = λ number p none. order_none number p none;
  wrong_timer = λ number wrong p first few is. order_timer number wrong p first few is;
  due = λ line timer. refl;
  lengths = λ p. refl;
  lengths_set = λ t200 t203 t201 t202. refl;
  lengths_served = λ l h. lengths_in_range l h;
  lengths_refused = λ l is. lengths_all l is;
  wrong_lengths = λ p. wrong_by (first_out_of_range (lengths_in p)) (reserve_fault p.reserved);
  used_lengths = λ p place none other. no_length p none ∙ not_unused p.reserved place other;
  right_lengths = λ p none zeros. no_length p none ∙ all_unused p.reserved zeros;
  configurations = configurations_are_given_by;
  establish = λ s tei. case_establish s tei;
  release = λ s tei. case_release s tei;
  assign = λ s tei. case_assign s tei;
  remove = λ s tei. case_remove s tei;
  check = λ s tei. case_check s tei;
  busy = λ s tei. case_busy s tei;
  ready = λ s tei. case_ready s tei;
  deactivate = λ s tei. case_deactivate s tei;
  down = λ s tei. case_down s tei;
  disown = λ s tei. case_disown s tei;
  ask_tei = λ s tei. case_ask_tei s tei;
  verify_tei = λ s tei. case_verify_tei s tei;
  data_given = λ s tei contents. case_data_given s tei contents;
  unit_given = λ s tei contents. case_unit_given s tei contents;
  bad_tei = refl;
  no_link = refl;
  wrong_state = refl;
  too_long = refl;
  queue_full = refl;
  pool_full = refl;
  tei_taken = refl;
  table_full = refl;
  check_running = refl;
  control_full = refl;
  wrong_side = refl;
  bad_lines = refl;
  bad_terminals = refl;
  bad_k = refl;
  bad_k16 = refl;
  bad_queue = refl;
  bad_unit_queue = refl;
  bad_control = refl;
  bad_slots = refl;
  bad_n201 = refl;
  bad_n200 = refl;
  bad_sapi = refl;
  ok = refl;
  others = refl;
  room = λ r. refl;
  no_head = refl;
  head = λ h. refl;
  counters = record {
    frames_heard = refl;
    frames_begun = refl;
    of_frames = refl;
    dropped = refl;
    errors = refl;
    notes = refl;
    messages_heard = refl;
    messages_begun = refl;
    all = refl;
  };
}
