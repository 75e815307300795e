-- What a call answers, as a number.
use Rattle.std.specs.Prelude.{ℕ}
use Rattle.lapd_frame.specs.declared.faults.ReadFault.{ReadFault}
use Rattle.lapd_frame.specs.declared.faults.ReadFault.TheVariants.{BadExtension, Undefined, WrongSize, Short}
use Rattle.lapd_frame.specs.declared.refusals.Refusal.{Refusal}
use Rattle.lapd_frame.specs.declared.refusals.Refusal.TheVariants.{BadTei, NoLink, WrongState, TooLong, QueueFull, PoolFull, TeiTaken, TableFull, CheckRunning, ControlFull, WrongSide}
use Rattle.model_line.specs.declared.config.Field.{Field}
use Rattle.model_line.specs.declared.config.Field.TheVariants.{Lines, Terminals, K, K16, Queue, UnitQueue, Control, Slots, N201, N200, Sapi}

abbrev pub ok : ℕ
ok = 0

abbrev pub no_card : ℕ
no_card = 11

abbrev pub no_clock : ℕ
no_clock = 12

abbrev pub second_start : ℕ
second_start = 13

abbrev pub wrong_line : ℕ
wrong_line = 14

abbrev pub wrong_service : ℕ
wrong_service = 15

abbrev pub wrong_tei : ℕ
wrong_tei = 16

abbrev pub wrong_timer : ℕ
wrong_timer = 17

abbrev pub wrong_request : ℕ
wrong_request = 18

abbrev pub wrong_length : ℕ
wrong_length = 19

abbrev pub wrong_order : ℕ
wrong_order = 20

abbrev pub wrong_time : ℕ
wrong_time = 21

abbrev pub no_memory : ℕ
no_memory = 22

abbrev pub no_timer : ℕ
no_timer = 23

abbrev pub no_place : ℕ
no_place = 24

abbrev pub no_more_links : ℕ
no_more_links = 25

abbrev pub wrong_card : ℕ
wrong_card = 26

abbrev pub wrong_cause : ℕ
wrong_cause = 27

abbrev pub no_frame : ℕ
no_frame = 28

abbrev pub bad_side : ℕ
bad_side = 43

abbrev pub bad_sapi : ℕ
bad_sapi = 44

abbrev pub bad_reading : ℕ
bad_reading = 45

abbrev pub bad_image : ℕ
bad_image = 46

abbrev pub bad_reserved : ℕ
bad_reserved = 47

-- Why a request was refused.
abbrev pub refusal_status : Refusal → ℕ
refusal_status BadTei = 1
refusal_status NoLink = 2
refusal_status WrongState = 3
refusal_status TooLong = 4
refusal_status QueueFull = 5
refusal_status PoolFull = 6
refusal_status TeiTaken = 7
refusal_status TableFull = 8
refusal_status CheckRunning = 9
refusal_status ControlFull = 10
refusal_status WrongSide = 29

-- Why octets are no frame.
abbrev pub fault_status : ReadFault → ℕ
fault_status Short = 48
fault_status BadExtension = 49
fault_status (Undefined address) = 50
fault_status (WrongSize address) = 51

-- Which field of a configuration is the first that is out of range.
abbrev pub field_status : Field → ℕ
field_status Lines = 33
field_status Terminals = 34
field_status K = 35
field_status K16 = 36
field_status Queue = 37
field_status UnitQueue = 38
field_status Control = 39
field_status Slots = 40
field_status N201 = 41
field_status N200 = 42
field_status Sapi = bad_sapi
