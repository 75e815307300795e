-- The image of a clock that may be saved has no more octets than its lines and places give.
use Rattle.std.proofs.Common.{arith, ◌≡◌, ℕ, ◌+◌, ◌*◌, ◌≤◌, ◌==◌, true, cond, List, [], ◌∷◌, ◌++◌, length, refl, sym, ap, ◌∙◌, length-append}
use Rattle.std.specs.Prelude.{flat_map}
use Rattle.std.proofs.lemmas.Bool.Decides.{nat_tests}
use Rattle.std.proofs.lemmas.List.Sums.{sum_by-append}
use Rattle.lapd_clock.specs.Image.{from_lists, image, lengths, most_octets, timer, AreItsTimers, IsSaved}
use Rattle.lapd_clock.specs.Places.{expiry_on, on_line}
use Rattle.lapd_clock.specs.Timer.{Lengths}
use Rattle.lapd_clock.specs.Timers.{count_on, Expiry, Timers}
use Rattle.lapd_clock.proofs.Ordered.{count_by-cons}
use Rattle.lapd_clock.proofs.StandsFor.{count_by-in_order}
use Rattle.lapd_image.specs.Numbers.{list_of, number}
use Rattle.lapd_image.specs.Puts.{Puts}
use Rattle.lapd_image.proofs.Reading.{length-number}
use Rattle.lapd_c.specs.ClockImages.{IsSavedAs}
use Rattle.lapd_c.proofs.Saving.{written}

-- ---- how many octets

four : (l : Lengths) → length (lengths l) ≡ 16
four l =
    let a = length-append (number 4 l.t200) (number 4 l.t203 ++ (number 4 l.t201 ++ number 4 l.t202)) in
    let b = length-append (number 4 l.t203) (number 4 l.t201 ++ number 4 l.t202) in
    let c = length-append (number 4 l.t201) (number 4 l.t202) in
    omega (arith, a, b, c, length-number 4 l.t200, length-number 4 l.t203, length-number 4 l.t201, length-number 4 l.t202)

each_timer : (hs : List _) → length (flat_map timer hs) ≡ 11 * length hs
each_timer [] = refl
each_timer (h ∷ hs) = omega (arith, length-append (timer h) (flat_map timer hs), length-number 8 h.moment, each_timer hs)

-- of a line's timers all count for it
all_count : (line : ℕ) (hs : List _) → count_on line (on_line line hs) ≡ length hs
unfolding on_line
all_count line [] = refl
all_count line (h ∷ hs) =
    let own : (line == line) ≡ true = grind (arith, nat_tests) in
    count_by-cons (λ (e : Expiry). e.line == line) (expiry_on line h) (on_line line hs)
    ∙ ap (λ b. cond b 1 0 + count_on line (on_line line hs)) own
    ∙ omega (arith, all_count line hs)

each_line : (places line : ℕ) (lists : List (List _)) → ((k : ℕ) → count_on k (from_lists line lists) ≤ places)
    → length (flat_map (list_of timer) lists) ≤ length lists * (1 + 11 * places)
unfolding from_lists
each_line places line [] few = omega arith
each_line places line (hs ∷ more) few =
    let parts = λ (k : ℕ). sum_by-append (λ (e : Expiry). cond (e.line == k) 1 0) (on_line line hs) (from_lists (line + 1) more) in
    let own : length hs ≤ places = omega (arith, few line, parts line, all_count line hs) in
    let rest = each_line places (line + 1) more (λ k. omega (arith, few k, parts k)) in
    omega (arith, length-append (list_of timer hs) (flat_map (list_of timer) more), each_timer hs, own, rest)

image_fits : (c : Timers) (lists : List (List _)) → IsSaved c → AreItsTimers c lists → length (image c lists) ≤ most_octets c
image_fits c lists saved its =
    let count = λ (k : ℕ). sym (count_by-in_order (λ (e : Expiry). e.line == k) (from_lists 0 lists)) ∙ ap (count_on k) its.running in
    let all = each_line c.places 0 lists (λ k. omega (arith, count k, saved.sound.in_places k)) in
    let lines : length lists * (1 + 11 * c.places) ≡ c.lines * (1 + 11 * c.places) = ap (λ n. n * (1 + 11 * c.places)) its.each in
    omega (arith, length-append (lengths c.lengths) (flat_map (list_of timer) lists), four c.lengths, all, lines)

-- So all of it stands in front of a room with so many.
pub clock_written : (c : Timers) (lists : List (List _)) (old new : List ℕ) (end : ℕ) → IsSaved c → AreItsTimers c lists → most_octets c ≤ length old
    → Puts (image c lists) 0 old end new → IsSavedAs c old (new, end)
clock_written c lists old new end saved its room puts =
    let is = written (image c lists) old new end puts (omega (arith, image_fits c lists saved its, room)) in
    (lists, its, is)
