-- An image is of one clock.
use Rattle.std.proofs.Common.{arith, ◌≡◌, ℕ, ◌+◌, ◌/◌, ◌<◌, ◌≤◌, List, [], ◌∷◌, ◌++◌, sym, ap, ◌∙◌, subst, append-nil}
use Rattle.std.specs.List.{AllByRecursion}
use Rattle.std.specs.Prelude.{All, flat_map}
use Rattle.std.proofs.lemmas.List.Elements.{All-from_recursion, recursion_from_All}
use Rattle.lapd_clock.specs.Firsts.{never}
use Rattle.lapd_clock.specs.Image.{from_lists, image, lengths, timer, AreItsTimers, IsSaved}
use Rattle.lapd_clock.specs.Places.{in_order, on_line}
use Rattle.lapd_clock.specs.Restoring.{IsTimer}
use Rattle.lapd_clock.specs.Timer.{tei_rank, AreInRange, Lengths}
use Rattle.lapd_clock.specs.Timers.{Expiry, Timers}
use Rattle.lapd_clock.proofs.ImageRead.{lengths-split, list-of-timers}
use Rattle.lapd_clock.proofs.Once.{All-from_in_order}
use Rattle.lapd_image.specs.Numbers.{list_of, number}
use Rattle.lapd_image.proofs.Reading.{equal-read, heads, number-read, tails}

-- ---- timers that may be saved

abbrev MayBe : Expiry → Type 0
MayBe e = (tei_rank e.timer ≤ 126) × (e.moment < never)

both : (P : Expiry → Type 0) (xs ys : List Expiry) → AllByRecursion P (xs ++ ys) → AllByRecursion P xs × AllByRecursion P ys
both P [] ys all = (tt, all)
both P (x ∷ xs) ys all = let rest = both P xs ys all.1 in ((all.0, rest.0), rest.1)

of_line : (line : ℕ) (hs : List _) → AllByRecursion MayBe (on_line line hs) → AllByRecursion IsTimer hs
unfolding on_line
of_line line [] all = tt
of_line line (h ∷ hs) all = (record { tei = all.0.0; moment = all.0.1 }, of_line line hs all.1)

of_lines : (line : ℕ) (lists : List (List _)) → AllByRecursion MayBe (from_lists line lists) → AllByRecursion (All IsTimer) lists
unfolding from_lists
of_lines line [] all = tt
of_lines line (hs ∷ more) all =
    let parts = both MayBe (on_line line hs) (from_lists (line + 1) more) all in
    (All-from_recursion IsTimer hs (of_line line hs parts.0), of_lines (line + 1) more parts.1)

timers : (c : Timers) (lists : List (List _)) → IsSaved c → AreItsTimers c lists → All (All IsTimer) lists
timers c lists saved its =
    let all = recursion_from_All MayBe c.running (λ i d within. (saved.teis i d within, saved.moments i d within)) in
    All-from_recursion (All IsTimer) lists (of_lines 0 lists (All-from_in_order MayBe (from_lists 0 lists) (subst (AllByRecursion MayBe) (sym its.running) all)))

-- ---- lengths

each_length : (n m : ℕ) (r s : List ℕ) → n ≤ 3600000 → m ≤ 3600000 → number 4 n ++ r ≡ number 4 m ++ s → (n ≡ m) × (r ≡ s)
each_length n m r s few also e = number-read 4 n m r s (omega (arith, few)) (omega (arith, also)) e

same_lengths : (l k : Lengths) (r s : List ℕ) → AreInRange l → AreInRange k → lengths l ++ r ≡ lengths k ++ s → (l ≡ k) × (r ≡ s)
same_lengths l k r s range also e =
    let first = each_length l.t200 k.t200 _ _ range.t200_most also.t200_most (sym (lengths-split l r) ∙ e ∙ lengths-split k s) in
    let second = each_length l.t203 k.t203 _ _ range.t203_most also.t203_most first.1 in
    let third = each_length l.t201 k.t201 _ _ range.t201_most also.t201_most second.1 in
    let fourth = each_length l.t202 k.t202 r s range.t202_most also.t202_most third.1 in
    ((λ i. record { t200 = first.0 i; t203 = second.0 i; t201 = third.0 i; t202 = fourth.0 i }), fourth.1)

-- ---- the whole

pub same_clock : (c d : Timers) (lists others : List (List _)) → IsSaved c → IsSaved d → AreItsTimers c lists → AreItsTimers d others
    → image c lists ≡ image d others → c ≡ d
same_clock c d lists others saved also its own e =
    let from = tails (tails (tails (tails (tails (tails e))))) in
    let count : c.lines ≡ d.lines = heads from in
    let quarter : c.places / 4 ≡ d.places / 4 = heads (tails from) in
    let places : c.places ≡ d.places = omega (arith, quarter, saved.of_card.places_are, also.of_card.places_are) in
    let long = same_lengths c.lengths d.lengths (flat_map (list_of timer) lists) (flat_map (list_of timer) others) saved.sound.lengths also.sound.lengths (tails (tails from)) in
    let lists_are = equal-read (All IsTimer) (list_of timer) list-of-timers lists others [] []
    (its.each ∙ count ∙ sym own.each) (timers c lists saved its) (timers d others also own)
    (append-nil (flat_map (list_of timer) lists) ∙ long.1 ∙ sym (append-nil (flat_map (list_of timer) others))) in
    let running : c.running ≡ d.running = sym its.running ∙ ap (λ (ls : List (List _)). in_order (from_lists 0 ls)) lists_are.0 ∙ own.running in
    λ i. record { lines = count i; places = places i; lengths = long.0 i; running = running i }
