-- What numbers mean in C, each in words of its own: as `include/lapd.h` has them.
use Rattle.std.specs.Prelude.{◌≡◌, ◌≢◌, ◌⊎◌, ◌≤◌, ◌<◌, ℕ, List, [], ◌∷◌, get_or, Some, None, IfSome, Ok, Err}
use Rattle.lapd_frame.specs.declared.notes.ErrorCode.TheVariants as code
use Rattle.lapd_frame.specs.declared.notes.Note.TheVariants as note
use Rattle.lapd_frame.specs.declared.refusals.Refusal.TheVariants as refusal
use Rattle.lapd_frame.specs.declared.services.Service.{Service}
use Rattle.lapd_frame.specs.declared.timers.Order.TheVariants.{Start, Stop}
use Rattle.lapd_frame.specs.declared.timers.Timer.{Timer}
use Rattle.lapd_frame.specs.declared.timers.Timer.TheVariants.{T200, T203, T201, T202}
use Rattle.lapd_clock.specs.Timer.{Lengths, first_out_of_range}
use Rattle.model_bits.specs.declared.heads.Head.{Head}
use Rattle.model_bits.specs.declared.heard.Cause.TheVariants as cause
use Rattle.model_line.specs.declared.config.Field.TheVariants as field
use Rattle.model_line.specs.declared.faults.Fault.TheVariants as fault
use Rattle.model_line.specs.Request.{Request, Establish, Release, Data, Unit, Assign, Remove, Check, Disown, AskTei, VerifyTei, SetBusy, ClearBusy, Deactivate, Down}
use Rattle.model_link.specs.declared.rooms.Room.{Room}
use Rattle.lapd_c.specs.CountersPlaced.{CountersArePlaced}
use Rattle.lapd_c.specs.Clocks.{lengths_given, plain_due}
use Rattle.lapd_c.specs.Faults.{fault_in}
use Rattle.lapd_c.specs.Heads.{plain_head}
use Rattle.lapd_c.specs.Notes.{cause_number, plain_note}
use Rattle.lapd_c.specs.Requests.{request_in}
use Rattle.lapd_c.specs.Rooms.{plain_room}
use Rattle.lapd_c.specs.Said.{AreAllZero, ConfigurationsAreGiven}
use Rattle.lapd_c.specs.Statuses as status
pub use Rattle.lapd_c.specs.Services.{number_of}
use Rattle.lapd_c.specs.Statuses.{field_status, refusal_status}
use Rattle.lapd_c.specs.Timers.{lengths_fault, lengths_in, link_in, order_in, plain_order, plain_timer, timer_in}
use Rattle.lapd_c.specs.declared.plain.notes.PlainNote.{PlainNote}
use Rattle.lapd_c.specs.declared.plain.timers.PlainLengths.{PlainLengths}
use Rattle.lapd_c.specs.declared.plain.timers.PlainOrder.{PlainOrder}
use Rattle.lapd_c.specs.declared.plain.timers.PlainTimer.{PlainTimer}

abbrev pub noted : ℕ → ℕ → ℕ → ℕ → PlainNote
noted number service tei letter = record { note = number; service = service; tei = tei; error = letter; reserved = 0 ∷ 0 ∷ 0 ∷ 0 ∷ [] }

abbrev pub timed : ℕ → ℕ → ℕ → PlainTimer
timed number service tei = record { timer = number; service = service; tei = tei }

abbrev pub ordered : ℕ → PlainTimer → PlainOrder
ordered number timer = record { order = number; timer = timer }

-- A timer runs a millisecond at least, and an hour at most.
abbrev pub IsLength : ℕ → Type 0
IsLength milliseconds = (1 ≤ milliseconds) × (milliseconds ≤ 3600000)

abbrev pub AreServed : Lengths → Type 0
AreServed l = IsLength l.t200 × IsLength l.t203 × IsLength l.t201 × IsLength l.t202

-- A request of a link, or of a TEI, without contents.
abbrev pub Asks : ℕ → (Service → ℕ → Request) → Type 0
Asks number asked = (s : Service) (tei : ℕ) → request_in number (number_of s) tei [] ≡ Ok (asked s tei)

pub record NumbersAreGiven : Type 0 where
  -- Notes; 127 is no TEI.
  pub establish_indication : (s : Service) (tei : ℕ) → plain_note (note.EstablishIndication s tei) ≡ noted 1 (number_of s) tei 0
  pub establish_confirm : (s : Service) (tei : ℕ) → plain_note (note.EstablishConfirm s tei) ≡ noted 2 (number_of s) tei 0
  pub release_indication : (s : Service) (tei : ℕ) → plain_note (note.ReleaseIndication s tei) ≡ noted 3 (number_of s) tei 0
  pub release_confirm : (s : Service) (tei : ℕ) → plain_note (note.ReleaseConfirm s tei) ≡ noted 4 (number_of s) tei 0
  pub data_told : (s : Service) (tei : ℕ) → plain_note (note.Data s tei) ≡ noted 5 (number_of s) tei 0
  pub unit_told : (s : Service) (tei : ℕ) → plain_note (note.Unit s tei) ≡ noted 6 (number_of s) tei 0
  pub xid : (s : Service) (tei : ℕ) → plain_note (note.Xid s tei) ≡ noted 11 (number_of s) tei 0
  pub error_a : (s : Service) (tei : ℕ) → plain_note (note.Error s tei code.A) ≡ noted 7 (number_of s) tei 65
  pub error_b : (s : Service) (tei : ℕ) → plain_note (note.Error s tei code.B) ≡ noted 7 (number_of s) tei 66
  pub error_c : (s : Service) (tei : ℕ) → plain_note (note.Error s tei code.C) ≡ noted 7 (number_of s) tei 67
  pub error_d : (s : Service) (tei : ℕ) → plain_note (note.Error s tei code.D) ≡ noted 7 (number_of s) tei 68
  pub error_e : (s : Service) (tei : ℕ) → plain_note (note.Error s tei code.E) ≡ noted 7 (number_of s) tei 69
  pub error_f : (s : Service) (tei : ℕ) → plain_note (note.Error s tei code.F) ≡ noted 7 (number_of s) tei 70
  pub error_g : (s : Service) (tei : ℕ) → plain_note (note.Error s tei code.G) ≡ noted 7 (number_of s) tei 71
  pub error_h : (s : Service) (tei : ℕ) → plain_note (note.Error s tei code.H) ≡ noted 7 (number_of s) tei 72
  pub error_i : (s : Service) (tei : ℕ) → plain_note (note.Error s tei code.I) ≡ noted 7 (number_of s) tei 73
  pub error_j : (s : Service) (tei : ℕ) → plain_note (note.Error s tei code.J) ≡ noted 7 (number_of s) tei 74
  pub error_k : (s : Service) (tei : ℕ) → plain_note (note.Error s tei code.K) ≡ noted 7 (number_of s) tei 75
  pub error_l : (s : Service) (tei : ℕ) → plain_note (note.Error s tei code.L) ≡ noted 7 (number_of s) tei 76
  pub error_n : (s : Service) (tei : ℕ) → plain_note (note.Error s tei code.N) ≡ noted 7 (number_of s) tei 78
  pub error_o : (s : Service) (tei : ℕ) → plain_note (note.Error s tei code.O) ≡ noted 7 (number_of s) tei 79
  pub assigned : (tei : ℕ) → plain_note (note.Assigned tei) ≡ noted 8 0 tei 0
  pub removed : (tei : ℕ) → plain_note (note.Removed tei) ≡ noted 9 0 tei 0
  pub doubled : (tei : ℕ) → plain_note (note.Doubled tei) ≡ noted 10 0 tei 0
  pub denied : plain_note note.Denied ≡ noted 12 0 127 0
  pub unassigned : plain_note note.Unassigned ≡ noted 13 0 127 0
  pub remove_all : plain_note note.RemoveAll ≡ noted 14 0 127 0
  -- Causes of drops, and the faults that a controller tells.
  pub no_cause : cause_number None ≡ 0
  pub cause_abort : cause_number (Some cause.Abort) ≡ 1
  pub cause_ragged : cause_number (Some cause.Ragged) ≡ 2
  pub cause_short : cause_number (Some cause.Short) ≡ 3
  pub cause_fcs : cause_number (Some cause.Fcs) ≡ 4
  pub cause_extension : cause_number (Some cause.Extension) ≡ 5
  pub cause_sapi : cause_number (Some cause.Sapi) ≡ 6
  pub cause_tei : cause_number (Some cause.Tei) ≡ 7
  pub cause_unserved : cause_number (Some cause.Unserved) ≡ 8
  pub fault_abort : fault_in 1 ≡ Ok fault.Abort
  pub fault_ragged : fault_in 2 ≡ Ok fault.Ragged
  pub fault_short : fault_in 3 ≡ Ok fault.Short
  pub fault_fcs : fault_in 4 ≡ Ok fault.Fcs
  -- Links and their timers, and orders, told and given; what falls due; and how long timers run.
  pub t200 : (s : Service) (tei : ℕ) → plain_timer (T200 s tei) ≡ timed 1 (number_of s) tei
  pub t203 : (s : Service) (tei : ℕ) → plain_timer (T203 s tei) ≡ timed 2 (number_of s) tei
  pub t201 : plain_timer T201 ≡ timed 3 0 0
  pub t202 : plain_timer T202 ≡ timed 4 0 0
  pub link : (s : Service) (tei : ℕ) → tei ≤ 126 → link_in (number_of s) tei ≡ Ok (s, tei)
  pub t200_given : (s : Service) (tei : ℕ) → tei ≤ 126 → timer_in (timed 1 (number_of s) tei) ≡ Ok (T200 s tei)
  pub t203_given : (s : Service) (tei : ℕ) → tei ≤ 126 → timer_in (timed 2 (number_of s) tei) ≡ Ok (T203 s tei)
  pub t201_given : (service tei : ℕ) → timer_in (timed 3 service tei) ≡ Ok T201
  pub t202_given : (service tei : ℕ) → timer_in (timed 4 service tei) ≡ Ok T202
  pub start : (timer : Timer) → plain_order (Start timer) ≡ ordered 1 (plain_timer timer)
  pub stop : (timer : Timer) → plain_order (Stop timer) ≡ ordered 2 (plain_timer timer)
  pub start_given : (p : PlainTimer) (timer : Timer) → timer_in p ≡ Ok timer → order_in (ordered 1 p) ≡ Ok (Start timer)
  pub stop_given : (p : PlainTimer) (timer : Timer) → timer_in p ≡ Ok timer → order_in (ordered 2 p) ≡ Ok (Stop timer)
  pub wrong_order : (number : ℕ) (p : PlainTimer) → (number ≡ 0) ⊎ (2 < number) → order_in (ordered number p) ≡ Err 20
  pub wrong_timer : (number wrong : ℕ) (p : PlainTimer) → 1 ≤ number → number ≤ 2 → timer_in p ≡ Err wrong → order_in (ordered number p) ≡ Err wrong
  pub due : (line : ℕ) (timer : Timer) → plain_due (line, timer) ≡ record { line = line; timer = plain_timer timer; reserved = 0 ∷ 0 ∷ 0 ∷ 0 ∷ 0 ∷ 0 ∷ 0 ∷ 0 ∷ 0 ∷ [] }
  pub lengths : (p : PlainLengths) → lengths_in p ≡ record { t200 = p.t200; t203 = p.t203; t201 = p.t201; t202 = p.t202 }
  pub lengths_set : (t200 t203 t201 t202 : ℕ) → lengths_given t200 t203 t201 t202 ≡ record { t200 = t200; t203 = t203; t201 = t201; t202 = t202 }
  pub lengths_served : (l : Lengths) → AreServed l → first_out_of_range l ≡ None
  pub lengths_refused : (l : Lengths) → first_out_of_range l ≡ None → AreServed l
  -- What is wrong with lengths: one is out of range; else what is for a later version is not 0.
  pub wrong_lengths : (p : PlainLengths) → IfSome (first_out_of_range (lengths_in p)) (λ _. lengths_fault p ≡ Some 21)
  pub used_lengths : (p : PlainLengths) (place : ℕ) → first_out_of_range (lengths_in p) ≡ None → get_or p.reserved place 0 ≢ 0 → lengths_fault p ≡ Some 47
  pub right_lengths : (p : PlainLengths) → first_out_of_range (lengths_in p) ≡ None → AreAllZero p.reserved → lengths_fault p ≡ None
  -- What a start is given.
  pub configurations : ConfigurationsAreGiven
  -- Requests; of data and of unit data also the contents.
  pub establish : Asks 1 Establish
  pub release : Asks 2 Release
  pub assign : Asks 5 (λ s tei. Assign tei)
  pub remove : Asks 6 (λ s tei. Remove tei)
  pub check : Asks 7 (λ s tei. Check tei)
  pub busy : Asks 8 SetBusy
  pub ready : Asks 9 ClearBusy
  pub deactivate : Asks 10 Deactivate
  pub down : Asks 11 (λ s tei. Down)
  pub disown : Asks 12 (λ s tei. Disown tei)
  pub ask_tei : Asks 13 (λ s tei. AskTei)
  pub verify_tei : Asks 14 (λ s tei. VerifyTei tei)
  pub data_given : (s : Service) (tei : ℕ) (contents : List ℕ) → request_in 3 (number_of s) tei contents ≡ Ok (Data s tei contents)
  pub unit_given : (s : Service) (tei : ℕ) (contents : List ℕ) → request_in 4 (number_of s) tei contents ≡ Ok (Unit s tei contents)
  -- Refusals, and the first field of a configuration that is out of range.
  pub bad_tei : refusal_status refusal.BadTei ≡ 1
  pub no_link : refusal_status refusal.NoLink ≡ 2
  pub wrong_state : refusal_status refusal.WrongState ≡ 3
  pub too_long : refusal_status refusal.TooLong ≡ 4
  pub queue_full : refusal_status refusal.QueueFull ≡ 5
  pub pool_full : refusal_status refusal.PoolFull ≡ 6
  pub tei_taken : refusal_status refusal.TeiTaken ≡ 7
  pub table_full : refusal_status refusal.TableFull ≡ 8
  pub check_running : refusal_status refusal.CheckRunning ≡ 9
  pub control_full : refusal_status refusal.ControlFull ≡ 10
  pub wrong_side : refusal_status refusal.WrongSide ≡ 29
  pub bad_lines : field_status field.Lines ≡ 33
  pub bad_terminals : field_status field.Terminals ≡ 34
  pub bad_k : field_status field.K ≡ 35
  pub bad_k16 : field_status field.K16 ≡ 36
  pub bad_queue : field_status field.Queue ≡ 37
  pub bad_unit_queue : field_status field.UnitQueue ≡ 38
  pub bad_control : field_status field.Control ≡ 39
  pub bad_slots : field_status field.Slots ≡ 40
  pub bad_n201 : field_status field.N201 ≡ 41
  pub bad_n200 : field_status field.N200 ≡ 42
  pub bad_sapi : field_status field.Sapi ≡ 44
  -- Other statuses, in the order of their numbers.
  pub ok : status.ok ≡ 0
  pub others : status.no_card ∷ status.no_clock ∷ status.second_start ∷ status.wrong_line ∷ status.wrong_service ∷ status.wrong_tei ∷ status.wrong_timer ∷ status.wrong_request
      ∷ status.wrong_length ∷ status.wrong_order ∷ status.wrong_time ∷ status.no_memory ∷ status.no_timer ∷ status.no_place ∷ status.no_more_links ∷ status.wrong_card
      ∷ status.wrong_cause ∷ status.no_frame ∷ [] ≡ 11 ∷ 12 ∷ 13 ∷ 14 ∷ 15 ∷ 16 ∷ 17 ∷ 18 ∷ 19 ∷ 20 ∷ 21 ∷ 22 ∷ 23 ∷ 24 ∷ 25 ∷ 26 ∷ 27 ∷ 28 ∷ []
  -- What a card tells of itself.
  pub room : (r : Room) → plain_room r ≡ record { pool = r.pool; queue = r.queue; va = r.va; reserved = 0 ∷ 0 ∷ 0 ∷ 0 ∷ 0 ∷ 0 ∷ 0 ∷ 0 ∷ 0 ∷ 0 ∷ [] }
  pub no_head : plain_head None ≡ record { length = 0; octets = 0 ∷ 0 ∷ 0 ∷ 0 ∷ []; reserved = 0 ∷ 0 ∷ [] }
  pub head : (h : Head) → plain_head (Some h) ≡ record { length = h.length; octets = h.octets; reserved = 0 ∷ 0 ∷ [] }
  -- What is counted of a line.
  pub counters : CountersArePlaced
