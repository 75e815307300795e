-- What is read of a clock's image: the same octets are of the same timers.
use Rattle.std.proofs.Common.{◌^◌}
use Rattle.lapd_clock.proofs.Vocabulary.{◌≡◌, ℕ, ◌+◌, ◌<◌, ◌≤◌, List, [], ◌∷◌, ◌++◌, refl, sym, ap, ◌∙◌, arith, All, AllByRecursion, All-from_recursion, Timer, kind_rank, service_rank, tei_rank, Held, never}
use Rattle.lapd_clock.proofs.Vocabulary.{append_assoc, Lengths, AreInRange, nat_tests, None}
use Rattle.lapd_clock.specs.Image.{lengths}
use Rattle.lapd_clock.specs.Timer.{first_out_of_range, T200, T203, T201, T202, Service, Call, Packet, rank_of_service}
use Rattle.lapd_image.specs.Numbers.{number, list_of}
use Rattle.lapd_image.proofs.Reading.{Reads, heads, tails, number-read, list-read}
use Rattle.lapd_image.proofs.ReadLists.{IsKept}
use Rattle.lapd_clock.specs.Image.{timer}
use Rattle.lapd_clock.specs.Timers.{Timers}
use Rattle.lapd_clock.specs.Restoring.{IsTimer, AreFree, AreFreeLines, with_line}
use Rattle.lapd_clock.proofs.Restoring.{free-each, free-front, lines-front}

same-service : (s t : Service) → rank_of_service s ≡ rank_of_service t → s ≡ t
same-service Call Call e = refl
same-service Call Packet e = absurd (omega (arith, e))
same-service Packet Call e = absurd (omega (arith, e))
same-service Packet Packet e = refl

pub same-timer : (a b : Timer) → kind_rank a ≡ kind_rank b → tei_rank a ≡ tei_rank b → service_rank a ≡ service_rank b → a ≡ b
same-timer (T200 s t) (T200 u v) k e f = λ i. T200 (same-service s u f i) (e i)
same-timer (T203 s t) (T203 u v) k e f = λ i. T203 (same-service s u f i) (e i)
same-timer T201 T201 k e f = refl
same-timer T202 T202 k e f = refl
same-timer (T200 s t) (T203 u v) k e f = absurd (omega (arith, k))
same-timer (T200 s t) T201 k e f = absurd (omega (arith, k))
same-timer (T200 s t) T202 k e f = absurd (omega (arith, k))
same-timer (T203 s t) (T200 u v) k e f = absurd (omega (arith, k))
same-timer (T203 s t) T201 k e f = absurd (omega (arith, k))
same-timer (T203 s t) T202 k e f = absurd (omega (arith, k))
same-timer T201 (T200 u v) k e f = absurd (omega (arith, k))
same-timer T201 (T203 u v) k e f = absurd (omega (arith, k))
same-timer T201 T202 k e f = absurd (omega (arith, k))
same-timer T202 (T200 u v) k e f = absurd (omega (arith, k))
same-timer T202 (T203 u v) k e f = absurd (omega (arith, k))
same-timer T202 T201 k e f = absurd (omega (arith, k))

-- its moment, of which some octets are left
pub moment-read : (m n : ℕ) (r s : List ℕ) → m < never → n < 256 ^ 8 → number 8 m ++ r ≡ number 8 n ++ s → (m ≡ n) × (r ≡ s)
moment-read m n r s few below e = number-read 8 m n r s (omega (arith, few)) below e

pub timer-read : Reads IsTimer (λ (g h : Held). g ≡ h) timer
timer-read g h r s few also e =
    let kind : kind_rank g.timer ≡ kind_rank h.timer = heads e in
    let tei : tei_rank g.timer ≡ tei_rank h.timer = heads (tails e) in
    let service : service_rank g.timer ≡ service_rank h.timer = heads (tails (tails e)) in
    let same = same-timer g.timer h.timer kind tei service in
    let below = also.moment in
    let rest : (g.moment ≡ h.moment) × (r ≡ s) = moment-read g.moment h.moment r s few.moment (omega (arith, below)) (tails (tails (tails e))) in
    ((λ i. record { moment = rest.0 i; timer = same i }), rest.1)

-- Timers of a line, and lines, that are free before others.
pub line-kept : (c : Timers) (line : ℕ) → IsKept IsTimer (AreFree c line)
line-kept c line = record { each = λ hs are. All-from_recursion IsTimer hs (free-each c line hs are); front = free-front c line }

lines-each : (c : Timers) (line : ℕ) (lines : List (List Held)) → AreFreeLines c line lines → AllByRecursion (All IsTimer) lines
lines-each c line [] are = tt
lines-each c line (hs ∷ more) are = (All-from_recursion IsTimer hs (free-each c line hs are.0), lines-each (with_line c line hs) (line + 1) more are.1)

pub lines-kept : (c : Timers) (line : ℕ) → IsKept (All IsTimer) (AreFreeLines c line)
lines-kept c line = record { each = λ lines are. All-from_recursion (All IsTimer) lines (lines-each c line lines are); front = lines-front c line }

pub list-of-timers : Reads (All IsTimer) (λ (gs hs : List Held). gs ≡ hs) (list_of timer)
list-of-timers = list-read IsTimer timer timer-read

-- ---- how long timers run

pub lengths-split : (l : Lengths) (rest : List ℕ) → lengths l ++ rest ≡ number 4 l.t200 ++ (number 4 l.t203 ++ (number 4 l.t201 ++ (number 4 l.t202 ++ rest)))
lengths-split l rest =
    append_assoc (number 4 l.t200) (number 4 l.t203 ++ (number 4 l.t201 ++ number 4 l.t202)) rest
    ∙ ap (λ octets. number 4 l.t200 ++ octets) (append_assoc (number 4 l.t203) (number 4 l.t201 ++ number 4 l.t202) rest
    ∙ ap (λ octets. number 4 l.t203 ++ octets) (append_assoc (number 4 l.t201) (number 4 l.t202) rest))

-- one that was read, of lengths that stand there
pub length-read : (n t : ℕ) {front r s : List ℕ} → n ≤ 3600000 → t < 256 ^ 4 → front ≡ number 4 n ++ s → front ≡ number 4 t ++ r → (n ≡ t) × (r ≡ s)
length-read n t {front} {r} {s} few below e read =
    let one : (n ≡ t) × (s ≡ r) = number-read 4 n t s r (omega (arith, few)) below (sym e ∙ read) in
    (one.0, sym one.1)

pub no_fault : (l : Lengths) → AreInRange l → first_out_of_range l ≡ None
no_fault l range = grind (arith, nat_tests)
