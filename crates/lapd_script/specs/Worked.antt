-- The definitions on worked lines: each fact holds by computing.
use Rattle.std.specs.Prelude.{◌≡◌, true, false, [], ◌∷◌, codes, Some, None, Ok, Err, refl}
use Rattle.std.specs.Fmt.{digits}
use Rattle.hex.specs.Hex.{decode_pairs}
use Rattle.lapd_frame.specs.declared.addresses.Side.TheVariants.{User}
use Rattle.lapd_frame.specs.declared.faults.ReadFault.TheVariants.{Short}
use Rattle.lapd_frame.specs.declared.readings.Reading.TheVariants.{AnnexB}
use Rattle.lapd_frame.specs.declared.services.Service.TheVariants.{Call, Packet}
use Rattle.lapd_script.specs.declared.kind.FaultKind.TheVariants.{UnknownWord, BadNumberOfWords, BadNumber, BadOctets, BadCause}
use Rattle.lapd_script.specs.declared.command.Asked as asked
use Rattle.model_card.specs.declared.kinds.CardKind.TheVariants.{Octets, Frames}
use Rattle.model_line.specs.declared.faults.Fault.TheVariants.{Ragged}
use Rattle.model_line.specs.Usual.{usual}
use Rattle.lapd_transcript.specs.declared.counters.CounterGroup.TheVariants as group
use Rattle.lapd_script.specs.Meaning.{skip, card, rx, into, failed, next, down, ask_tei, pull, wait, timers, stored, losses, save, restore, counters, ask}
use Rattle.lapd_script.specs.Read.{read}
use Rattle.lapd_script.specs.Job.{job, run, frame, limits}
use Rattle.lapd_script.specs.Bound.{bound}
use Rattle.lapd_script.specs.declared.faults.PlayFault.TheVariants.{Script}
use Rattle.lapd_script.specs.declared.shown.FrameFault.TheVariants.{NoFrame}
use Rattle.lapd_script.specs.FaultLines.{play_line, frame_line}

empty : read [] ≡ Ok skip
empty = refl

comment : read (codes "# anything") ≡ Ok skip
comment = refl

nine : read (codes "card 1 8 7 8 4 4 64 260 3") ≡ Ok (card Octets usual)
nine = refl

ten : read (codes "card 1 8 7 8 4 4 64 260 3 015") ≡ Ok (card Octets (record usual { k16 = 15 }))
ten = refl

of_user : read (codes "card 1 8 7 8 4 4 64 260 3 user") ≡ Ok (card Octets (record usual { side = User }))
of_user = refl

ten_of_user : read (codes "card 1 8 7 8 4 4 64 260 3 15 user") ≡ Ok (card Octets (record usual { k16 = 15; side = User }))
ten_of_user = refl

a_terminal : read (codes "frames 1 8 7 8 4 4 64 260 3 user 4660") ≡ Ok (card Frames (record usual { side = User; seed = Some 4660 }))
a_terminal = refl

ten_of_terminal : read (codes "card 1 8 7 8 4 4 64 260 3 15 user 065535 sapi 62") ≡ Ok (card Octets (record usual { k16 = 15; side = User; sapi = 62; seed = Some 65535 }))
ten_of_terminal = refl

long_seed : read (codes "card 1 8 7 8 4 4 64 260 3 user 65536") ≡ Err BadNumber
long_seed = refl

no_seed : read (codes "card 1 8 7 8 4 4 64 260 3 15 user sapi") ≡ Err BadNumber
no_seed = refl

-- as the last word, `user` is no seed
user_last : read (codes "card 1 8 7 8 4 4 64 260 3 15 user user") ≡ Err BadNumberOfWords
user_last = refl

after_the_seed : read (codes "card 1 8 7 8 4 4 64 260 3 user 7 7") ≡ Err BadNumberOfWords
after_the_seed = refl

with_sapi : read (codes "card 1 8 7 8 4 4 64 260 3 sapi 62") ≡ Ok (card Octets (record usual { sapi = 62 }))
with_sapi = refl

all_words : read (codes "frames 1 8 7 8 4 4 64 260 3 15 user sapi 63") ≡ Ok (card Frames (record usual { k16 = 15; side = User; sapi = 63 }))
all_words = refl

no_sapi : read (codes "card 1 8 7 8 4 4 64 260 3 sapi 65536") ≡ Err BadNumber
no_sapi = refl

sapi_without_number : read (codes "card 1 8 7 8 4 4 64 260 3 15 sapi") ≡ Err BadNumberOfWords
sapi_without_number = refl

sapi_before_user : read (codes "card 1 8 7 8 4 4 64 260 3 sapi 62 user") ≡ Err BadNumberOfWords
sapi_before_user = refl

by_annex_b : read (codes "card 1 8 7 8 4 4 64 260 3 annex-b") ≡ Ok (card Octets (record usual { reading = AnnexB }))
by_annex_b = refl

all_words_by_annex_b : read (codes "frames 1 8 7 8 4 4 64 260 3 15 user 7 sapi 63 annex-b") ≡ Ok (card Frames (record usual { k16 = 15; side = User; sapi = 63; seed = Some 7; reading = AnnexB }))
all_words_by_annex_b = refl

-- the fault is that of the line without the word
seven_by_annex_b : read (codes "card 1 8 7 8 4 4 64 annex-b") ≡ Err BadNumberOfWords
seven_by_annex_b = refl

annex_b_twice : read (codes "card 1 8 7 8 4 4 64 260 3 annex-b annex-b") ≡ Err BadNumber
annex_b_twice = refl

annex_b_before_sapi : read (codes "card 1 8 7 8 4 4 64 260 3 annex-b sapi 62") ≡ Err BadNumber
annex_b_before_sapi = refl

one_word_more : read (codes "card 1 8 7 8 4 4 64 260 3 15 user 7 sapi 62 0 annex-b") ≡ Err BadNumberOfWords
one_word_more = refl

user_too_soon : read (codes "card 1 8 7 8 4 4 64 260 user") ≡ Err BadNumber
user_too_soon = refl

seed_too_soon : read (codes "card 1 8 7 8 4 4 64 260 user 7") ≡ Err BadNumber
seed_too_soon = refl

no_side : read (codes "card 1 8 7 8 4 4 64 260 3 15 network") ≡ Err BadNumberOfWords
no_side = refl

octets_from_line : read (codes "rx 0 7e0081EF") ≡ Ok (rx 0 (126 ∷ 0 ∷ 129 ∷ 239 ∷ []))
unfolding decode_pairs
octets_from_line = refl

no_octets : read (codes "rx 0 -") ≡ Ok (rx 0 [])
unfolding decode_pairs
no_octets = refl

no_digits : read (codes "rx 0 ") ≡ Ok (rx 0 [])
unfolding decode_pairs
no_digits = refl

a_frame : read (codes "in 63 00817F") ≡ Ok (into 63 (0 ∷ 129 ∷ 127 ∷ []))
unfolding decode_pairs
a_frame = refl

for_frames : read (codes "frames 1 8 7 8 4 4 64 260 3") ≡ Ok (card Frames usual)
for_frames = refl

no_frame : read (codes "failed 0 ragged") ≡ Ok (failed 0 Ragged)
no_frame = refl

next_frame : read (codes "next 63") ≡ Ok (next 63)
next_frame = refl

pulls : read (codes "pull 0 4096") ≡ Ok (pull 0 4096)
pulls = refl

an_hour : read (codes "wait 3600000") ≡ Ok (wait 3600000)
an_hour = refl

slow_timers : read (codes "timers 12000 60000 1000") ≡ Ok (timers (record { t200 = 12000; t203 = 60000; t201 = 1000; t202 = 2000 }))
slow_timers = refl

four_timers : read (codes "timers 12000 60000 1000 03") ≡ Ok (timers (record { t200 = 12000; t203 = 60000; t201 = 1000; t202 = 3 }))
four_timers = refl

two_timers : read (codes "timers 12000 60000") ≡ Err BadNumberOfWords
two_timers = refl

five_timers : read (codes "timers 1 1 1 1 1") ≡ Err BadNumberOfWords
five_timers = refl

long_t202 : read (codes "timers 1000 10000 1000 3600001") ≡ Err BadNumber
long_t202 = refl

no_timer : read (codes "timers 0 10000 1000") ≡ Err BadNumber
no_timer = refl

shown : read (codes "stored") ≡ Ok stored
shown = refl

losses_shown : read (codes "losses") ≡ Ok losses
losses_shown = refl

saved : read (codes "save") ≡ Ok save
saved = refl

restored : read (codes "restore") ≡ Ok restore
restored = refl

counted : read (codes "counters 63") ≡ Ok (counters 63 group.Line)
counted = refl

messages_counted : read (codes "messages 63") ≡ Ok (counters 63 group.Messages)
messages_counted = refl

not_counted : read (codes "counters") ≡ Err BadNumberOfWords
not_counted = refl

assigned : read (codes "assign 0 64") ≡ Ok (ask 0 64 asked.TheVariants.Assign [])
assigned = refl

packet_data : read (codes "data16 0 64 41") ≡ Ok (ask 0 64 (asked.TheVariants.«Data» Packet) (65 ∷ []))
unfolding decode_pairs
packet_data = refl

ready : read (codes "ready 0 255") ≡ Ok (ask 0 255 (asked.TheVariants.ClearBusy Call) [])
ready = refl

deactivate : read (codes "deactivate16 0 64") ≡ Ok (ask 0 64 (asked.TheVariants.Deactivate Packet) [])
deactivate = refl

line_down : read (codes "down 63") ≡ Ok (down 63)
line_down = refl

a_tei : read (codes "ask 63") ≡ Ok (ask_tei 63)
a_tei = refl

a_tei_is_not_named : read (codes "ask 0 64") ≡ Err BadNumberOfWords
a_tei_is_not_named = refl

verified : read (codes "verify 0 64") ≡ Ok (ask 0 64 asked.TheVariants.Verify [])
verified = refl

line_down_has_no_tei : read (codes "down 0 64") ≡ Err BadNumberOfWords
line_down_has_no_tei = refl

-- the first fault that holds
no_such_word : read (codes "foo bar") ≡ Err UnknownWord
no_such_word = refl

space_first : read (codes " stored") ≡ Err UnknownWord
space_first = refl

one_too_many : read (codes "rx x 7 8") ≡ Err BadNumberOfWords
one_too_many = refl

space_last : read (codes "stored ") ≡ Err BadNumberOfWords
space_last = refl

empty_number : read (codes "assign  64") ≡ Err BadNumber
empty_number = refl

signed : read (codes "assign +0 64") ≡ Err BadNumber
signed = refl

big_tei : read (codes "assign 0 256") ≡ Err BadNumber
big_tei = refl

number_first : read (codes "rx 65536 7") ≡ Err BadNumber
number_first = refl

no_pull : read (codes "pull 0 0") ≡ Err BadNumber
no_pull = refl

odd_digits : read (codes "rx 0 7E0") ≡ Err BadOctets
unfolding decode_pairs
odd_digits = refl

no_hexadecimal : read (codes "rx 0 7G") ≡ Err BadOctets
unfolding decode_pairs
no_hexadecimal = refl

no_cause : read (codes "failed 0 FCS") ≡ Err BadCause
no_cause = refl

number_before_cause : read (codes "failed x crc") ≡ Err BadNumber
number_before_cause = refl

-- the program's words
one_word : job (codes "run" ∷ []) ≡ Some run
one_word = refl

a_frame_of_the_user : job (codes "frame" ∷ codes "00817F" ∷ []) ≡ Some (frame (codes "00817F") false)
a_frame_of_the_user = refl

a_frame_of_the_network : job (codes "frame" ∷ codes "zz" ∷ codes "--network" ∷ []) ≡ Some (frame (codes "zz") true)
a_frame_of_the_network = refl

five_numbers : job (codes "limits" ∷ codes "8" ∷ codes "8" ∷ codes "4" ∷ codes "64" ∷ codes "260" ∷ []) ≡ Some (limits 8 8 4 64 260)
five_numbers = refl

their_bound : bound 8 8 4 64 260 ≡ 23280
their_bound = refl

out_of_range : job (codes "limits" ∷ codes "65" ∷ codes "8" ∷ codes "4" ∷ codes "64" ∷ codes "260" ∷ []) ≡ None
out_of_range = refl

other_words : job (codes "run" ∷ codes "run" ∷ []) ≡ None
other_words = refl

faulty : play_line (Script 12 BadNumber) ≡ codes "line 12: bad number\n"
unfolding digits
faulty = refl

short : frame_line (NoFrame Short) ≡ codes "frame: short\n"
short = refl
