-- Worked values: how long T200 runs in a call in which no timer falls due, and what comes of shorter timers, noise and other requests. Each
-- computes.
use Rattle.std.specs.Prelude.{◌≡◌, ◌<◌, ℕ, zero, suc, List, [], ◌∷◌, ◌++◌, length, replicate, All, Option, Some, refl}
use Rattle.std.proofs.Common.{arith}
use Rattle.std.proofs.lemmas.List.Elements.{All-nil, All-cons}
use Rattle.lapd_clock.specs.Timer.{T200, T203}
use Rattle.lapd_clock.specs.Timers.{Expiry}
use Rattle.lapd_frame.specs.declared.services.Service.TheVariants.{Call}
use Rattle.lapd_frame.specs.declared.notes.ErrorCode.TheVariants.{C}
use Rattle.lapd_frame.specs.Reading.{reading, header_of, control_of, unnumbered_of, supervisory_of}
use Rattle.lapd_frame.specs.Senders.{exchanged, reading as read_by}
use Rattle.lapd_seq.specs.Circle.{distance_of, named}
use Rattle.lapd_seq.specs.Numbers.{seq}
use Rattle.model_teis.specs.network.Events as teis
use Rattle.model_bits.specs.Bits.{low_bits}
use Rattle.model_line.specs.Config.{sapi_fault}
use Rattle.model_line.specs.declared.config.Config.{Config}
use Rattle.model_line.specs.Machine as lines
use Rattle.model_line.specs.Request.{Request, Release, Data}
use Rattle.model_card.specs.ports.Card as ports
use Rattle.model_timed.specs.Clock.{due}
use Rattle.laws_order.specs.circuit.Beats.{longest}
use Rattle.laws_time.specs.circuit.Answered.{IsClean}
use Rattle.laws_time.specs.circuit.Arriving.{calls, errors_at}
use Rattle.laws_time.specs.circuit.Clocked.{TimedEndpoint, Clocked, Beat, plain, after, fall_due}
use Rattle.laws_time.specs.circuit.InBeats.{IsDataOf, AsksData, Begins, RunsThrough}
use Rattle.laws_time.specs.circuit.LongEnough.{Line, begins}
use Rattle.laws_time.specs.circuit.WorkedLongEnough.{line_with as real_line, fit}
use Rattle.laws_time.specs.circuit.WorkedInBeats.{its_line, user, network, talks}

-- At 16 kbit/s with 4 octets in transit it is 487 ms, and at 64 kbit/s with 16 it is 126 ms. T203 of 10 seconds goes through 20000 octet
-- times, or 80000.
nothing : (l : Line) → AsksData l plain
nothing l = (All-nil (IsDataOf l), All-nil (IsDataOf l))

once : (P : Beat → Type 0) → P plain → All P (plain ∷ [])
once P h = All-cons P plain [] h (All-nil P)

longest_of : longest 260 ≡ 321
longest_of = refl

basic_rate : RunsThrough (real_line 2 4 487) plain [] 19999
basic_rate =
    let is = longest_of in let f = fit 2 4 487 (omega arith) (omega arith) (omega arith) (omega arith) in let l = real_line 2 4 487 in
    record { calm = record { begins = record { call = f.call; some = f.some; lengths = f.lengths }; data_alone = once (AsksData l) (nothing l); are_clean = once IsClean (refl, refl); t200 = (omega (arith, is), omega (arith, is)) }; t203 = (omega arith, omega arith) }

basic_not : RunsThrough (real_line 2 4 486) plain [] 19999 → ⊥
basic_not h = let is = longest_of in let t = h.calm.t200.0 in omega (arith, is, t)

primary_rate : RunsThrough (real_line 8 16 126) plain [] 79999
primary_rate =
    let is = longest_of in let f = fit 8 16 126 (omega arith) (omega arith) (omega arith) (omega arith) in let l = real_line 8 16 126 in
    record { calm = record { begins = record { call = f.call; some = f.some; lengths = f.lengths }; data_alone = once (AsksData l) (nothing l); are_clean = once IsClean (refl, refl); t200 = (omega (arith, is), omega (arith, is)) }; t203 = (omega arith, omega arith) }

primary_not : RunsThrough (real_line 8 16 125) plain [] 79999 → ⊥
primary_not h = let is = longest_of in let t = h.calm.t200.0 in omega (arith, is, t)

-- On the line of an octet a millisecond, and of short frames, it is 56 ms. The call of `WorkedInBeats` meets all premises.
abbrev line_with : ℕ → ℕ → Line
line_with t200 t203 = record its_line { lengths = record its_line.lengths { t200 = t200; t203 = t203 }; far_lengths = record its_line.lengths { t200 = t200; t203 = t203 } }

abbrev short_line : Line
short_line = line_with 56 161

begins_so : Begins (line_with 56 161)
unfolding sapi_fault
begins_so = record {
  call = record { near = (refl, omega arith); far = (refl, omega arith); opposite = (refl, refl); terminal = omega arith };
  some = omega arith;
  lengths = (record { t200 = omega arith; t203 = omega arith; t201 = omega arith; t202 = omega arith; t200_most = omega arith; t203_most = omega arith; t201_most = omega arith; t202_most = omega arith }, record { t200 = omega arith; t203 = omega arith; t201 = omega arith; t202 = omega arith; t200_most = omega arith; t203_most = omega arith; t201_most = omega arith; t202_most = omega arith });
}

plain_all : (P : Beat → Type 0) → P plain → (n : ℕ) (bs : List Beat) → All P bs → All P (replicate n plain ++ bs)
plain_all P h zero bs all = all
plain_all P h (suc n) bs all = All-cons P plain (replicate n plain ++ bs) h (plain_all P h n bs all)

abbrev sends : Beat
sends = record plain { near_asks = Data Call 0 (0xAB ∷ []) ∷ [] }

data_sent : AsksData (line_with 56 161) sends
data_sent = (All-cons (IsDataOf short_line) (Data Call 0 (0xAB ∷ [])) [] (refl, refl, All-cons (λ octet. octet < 256) 0xAB [] (omega arith) (All-nil (λ octet. octet < 256))) (All-nil (IsDataOf short_line)), All-nil (IsDataOf short_line))

pub meets : RunsThrough (line_with 56 161) plain talks 144
meets =
    let is : longest 8 ≡ 18 = refl in
    let last = All-cons (AsksData short_line) sends [] data_sent (All-nil (AsksData short_line)) in
    let clean_last = All-cons IsClean sends [] (refl, refl) (All-nil IsClean) in
    record { calm = record { begins = begins_so; data_alone = plain_all (AsksData short_line) (nothing short_line) 16 (sends ∷ []) last; are_clean = plain_all IsClean (refl, refl) 16 (sends ∷ []) clean_last; t200 = (omega (arith, is), omega (arith, is)) }; t203 = (omega arith, omega arith) }

-- T200 of 10 ms falls due before UA has come, and error C is told.
abbrev impatient : Clocked
impatient = after 1 (calls (line_with 10 10000) plain ∷ replicate 30 plain) (begins (line_with 10 10000))

told_c : errors_at impatient.near ≡ C ∷ []
unfolding lines.after lines.answer lines.takes_slot exchanged read_by reading header_of control_of unnumbered_of supervisory_of teis.course teis.refusal seq distance_of named low_bits ports.after ports.answer ports.meant fall_due
told_c = refl

-- What is due at an end at a moment.
abbrev due_at : ℕ → TimedEndpoint → Option Expiry
due_at moment s = due (record s.clock { now = moment })

-- T203 of 20 ms falls due once none has been heard for so long.
abbrev silent : Clocked
silent = after 1 (calls (line_with 56 20) plain ∷ replicate 26 plain) (begins (line_with 56 20))

t203_due : due_at 27 silent.far ≡ Some (record { moment = 27; line = 0; timer = T203 Call 0 })
unfolding lines.after lines.answer lines.takes_slot exchanged read_by reading header_of control_of unnumbered_of supervisory_of teis.course teis.refusal seq distance_of named low_bits ports.after ports.answer ports.meant fall_due
t203_due = refl

-- If only flags come to the other end at first, T200 falls due.
abbrev deaf : Beat
deaf = record plain { far_noise = Some 0x7E }

abbrev unheard : Clocked
unheard = after 1 (calls (line_with 56 10000) deaf ∷ replicate 11 deaf ++ replicate 44 plain) (begins (line_with 56 10000))

t200_due : due_at 56 unheard.near ≡ Some (record { moment = 56; line = 0; timer = T200 Call 0 })
unfolding lines.after lines.answer lines.takes_slot exchanged read_by reading header_of control_of unnumbered_of supervisory_of teis.course teis.refusal seq distance_of named low_bits ports.after ports.answer ports.meant fall_due
t200_due = refl

-- If layer 3 asks for the release, more is told than the establishment.
abbrev released : Clocked
released = after 1 (calls (line_with 56 10000) plain ∷ replicate 19 plain ++ (record plain { near_asks = Release Call 0 ∷ [] } ∷ replicate 20 plain)) (begins (line_with 56 10000))

more_told : length released.far.at.told ≡ 2
unfolding lines.after lines.answer lines.takes_slot exchanged read_by reading header_of control_of unnumbered_of supervisory_of teis.course teis.refusal seq distance_of named low_bits ports.after ports.answer ports.meant fall_due
more_told = refl

-- Nothing is lost, and T200 of 49 ms falls due: just before an I-frame is received whole, the other end begins two of its own. The second
-- is the first to acknowledge it, after three frames of the longest.
abbrev wide : Config → Config
wide c = record c { k = 2; k16 = 2; queue = 2; slots = 8 }

abbrev busy_line : ℕ → Line
busy_line t200 = record (line_with t200 10000) { near = wide user; far = wide network }

abbrev full : Request
full = Data Call 0 (replicate 8 0xFF)

abbrev crossed : ℕ → Clocked
crossed t200 = after 1 (calls (busy_line t200) plain ∷ replicate 19 plain ++ (record plain { near_asks = full ∷ [] } ∷ replicate 15 plain ++ (record plain { far_asks = full ∷ full ∷ [] } ∷ replicate 32 plain))) (begins (busy_line t200))

late_due : due_at 69 (crossed 49).near ≡ Some (record { moment = 69; line = 0; timer = T200 Call 0 })
unfolding lines.after lines.answer lines.takes_slot exchanged read_by reading header_of control_of unnumbered_of supervisory_of teis.course teis.refusal seq distance_of named low_bits ports.after ports.answer ports.meant fall_due
late_due = refl
