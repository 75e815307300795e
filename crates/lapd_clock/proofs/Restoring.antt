-- Timers that come to a clock one by one, as its image is read.
use Rattle.lapd_clock.proofs.Vocabulary.{◌≡◌, ℕ, ◌+◌, ◌<◌, ◌≤◌, true, false, cond, ◌||◌, ◌==◌, List, [], ◌∷◌, ◌++◌, length, refl, sym, ap, ◌∙◌, subst, arith, append_assoc, append-nil, AllByRecursion, nat_tests, sum_by-append}
use Rattle.lapd_clock.proofs.Vocabulary.{Expiry, Timers, is_before, is_of, is_held, count_on, put_in_order, in_order, on_line, expiry_on, IsOneEach, IsSound, Held, Timer, never, tei_rank}
use Rattle.lapd_clock.proofs.Ordered.{All-put_in_order, count_by-cons}
use Rattle.lapd_clock.proofs.Running.{none_of-without, one_more_sound, other_way, without-not_held}
use Rattle.lapd_clock.proofs.StandsFor.{in_order-inserted, count_by-in_order}
use Rattle.lapd_clock.proofs.First.{All-in_order}
use Rattle.lapd_clock.specs.Image.{from_lists}
use Rattle.lapd_clock.specs.Restoring.{IsTimer, IsFree, AreFree, AreFreeLines, with_held, with_line, with_lines}

-- ---- one timer more, of a line

pub free-front : (c : Timers) (line : ℕ) (xs ys : List Held) → AreFree c line (xs ++ ys) → AreFree c line xs
free-front c line [] ys are = tt
free-front c line (x ∷ xs) ys are = (are.0, free-front (with_held c line x) line xs ys are.1)

pub line-push : (c : Timers) (line : ℕ) (xs : List Held) (h : Held) → with_line c line (xs ++ h ∷ []) ≡ with_held (with_line c line xs) line h
line-push c line [] h = refl
line-push c line (x ∷ xs) h = line-push (with_held c line x) line xs h

pub free-push : (c : Timers) (line : ℕ) (xs : List Held) (h : Held) → AreFree c line xs → IsFree (with_line c line xs) line h → AreFree c line (xs ++ h ∷ [])
free-push c line [] h are is = (is, tt)
free-push c line (x ∷ xs) h are is = (are.0, free-push (with_held c line x) line xs h are.1 is)

pub free-last : (c : Timers) (line : ℕ) (xs : List Held) (h : Held) → AreFree c line (xs ++ h ∷ []) → IsFree (with_line c line xs) line h
free-last c line [] h are = are.0
free-last c line (x ∷ xs) h are = free-last (with_held c line x) line xs h are.1

pub free-each : (c : Timers) (line : ℕ) (hs : List Held) → AreFree c line hs → AllByRecursion IsTimer hs
free-each c line [] are = tt
free-each c line (h ∷ hs) are = (are.0.timer, free-each (with_held c line h) line hs are.1)

-- ---- one line more

pub lines-front : (c : Timers) (line : ℕ) (xs ys : List (List Held)) → AreFreeLines c line (xs ++ ys) → AreFreeLines c line xs
lines-front c line [] ys are = tt
lines-front c line (x ∷ xs) ys are = (are.0, lines-front (with_line c line x) (line + 1) xs ys are.1)

lines-push : (c : Timers) (line : ℕ) (xs : List (List Held)) (hs : List Held) → with_lines c line (xs ++ hs ∷ []) ≡ with_line (with_lines c line xs) (line + length xs) hs
lines-push c line [] hs = ap (λ n. with_line c n hs) (omega arith)
lines-push c line (x ∷ xs) hs = lines-push (with_line c line x) (line + 1) xs hs ∙ ap (λ n. with_line (with_lines (with_line c line x) (line + 1) xs) n hs) (omega arith)

lines_free-push : (c : Timers) (line : ℕ) (xs : List (List Held)) (hs : List Held) → AreFreeLines c line xs → AreFree (with_lines c line xs) (line + length xs) hs → AreFreeLines c line (xs ++ hs ∷ [])
lines_free-push c line [] hs are is = (subst (λ n. AreFree c n hs) (omega arith) is, tt)
lines_free-push c line (x ∷ xs) hs are is =
    (are.0, lines_free-push (with_line c line x) (line + 1) xs hs are.1 (subst (λ n. AreFree (with_lines (with_line c line x) (line + 1) xs) n hs) (omega arith) is))

lines_free-last : (c : Timers) (line : ℕ) (xs : List (List Held)) (hs : List Held) → AreFreeLines c line (xs ++ hs ∷ []) → AreFree (with_lines c line xs) (line + length xs) hs
lines_free-last c line [] hs are = subst (λ n. AreFree c n hs) (omega arith) are.0
lines_free-last c line (x ∷ xs) hs are =
    subst (λ n. AreFree (with_lines (with_line c line x) (line + 1) xs) n hs) (omega arith) (lines_free-last (with_line c line x) (line + 1) xs hs are.1)

-- and so of those of all lines
pub all-push : (c : Timers) (xs : List (List Held)) (hs : List Held) → with_lines c 0 (xs ++ hs ∷ []) ≡ with_line (with_lines c 0 xs) (length xs) hs
all-push c xs hs = lines-push c 0 xs hs ∙ ap (λ n. with_line (with_lines c 0 xs) n hs) (omega arith)

pub all_free-push : (c : Timers) (xs : List (List Held)) (hs : List Held) → AreFreeLines c 0 xs → AreFree (with_lines c 0 xs) (length xs) hs → AreFreeLines c 0 (xs ++ hs ∷ [])
all_free-push c xs hs are is = lines_free-push c 0 xs hs are (subst (λ n. AreFree (with_lines c 0 xs) n hs) (omega arith) is)

pub all_free-last : (c : Timers) (xs : List (List Held)) (hs : List Held) → AreFreeLines c 0 (xs ++ hs ∷ []) → AreFree (with_lines c 0 xs) (length xs) hs
all_free-last c xs hs are = subst (λ n. AreFree (with_lines c 0 xs) n hs) (omega arith) (lines_free-last c 0 xs hs are)

-- ---- what runs then

one-more : (e : Expiry) (es : List Expiry) → put_in_order is_before e (in_order es) ≡ in_order (es ++ e ∷ [])
one-more e es =
    sym (ap in_order (sym (append-nil (es ++ e ∷ []))) ∙ in_order-inserted e es [] [] ∙ ap (λ l. put_in_order is_before e (in_order l)) (append-nil (es ++ []) ∙ append-nil es))

pub line-runs : (c : Timers) (line : ℕ) (hs : List Held) (es : List Expiry) → c.running ≡ in_order es → (with_line c line hs).running ≡ in_order (es ++ on_line line hs)
unfolding on_line
line-runs c line [] es is = is ∙ ap in_order (sym (append-nil es))
line-runs c line (h ∷ hs) es is =
    line-runs (with_held c line h) line hs (es ++ expiry_on line h ∷ []) (ap (put_in_order is_before (expiry_on line h)) is ∙ one-more (expiry_on line h) es)
    ∙ ap in_order (append_assoc es (expiry_on line h ∷ []) (on_line line hs))

pub lines-run : (c : Timers) (line : ℕ) (lists : List (List Held)) (es : List Expiry) → c.running ≡ in_order es → (with_lines c line lists).running ≡ in_order (es ++ from_lists line lists)
unfolding from_lists
lines-run c line [] es is = is ∙ ap in_order (sym (append-nil es))
lines-run c line (hs ∷ more) es is =
    lines-run (with_line c line hs) (line + 1) more (es ++ on_line line hs) (line-runs c line hs es is)
    ∙ ap in_order (append_assoc es (on_line line hs) (from_lists (line + 1) more))

-- ---- what holds of it then

-- A clock that is sound, and whose timers may be saved.
abbrev pub MayBeSaved : Expiry → Type 0
MayBeSaved e = (tei_rank e.timer ≤ 126) × (e.moment < never)

pub record IsGood (c : Timers) : Type 0 where
  pub sound : IsSound c
  pub timers : AllByRecursion MayBeSaved c.running

good-held : (c : Timers) (line : ℕ) (h : Held) → line < c.lines → IsFree c line h → IsGood c → IsGood (with_held c line h)
good-held c line h within free good = record {
  sound = one_more_sound c (expiry_on line h) within
      (subst (AllByRecursion (λ other. is_of line h.timer other ≡ false)) (without-not_held line h.timer c.running free.free) (none_of-without line h.timer c.running)) free.room good.sound;
  timers = All-put_in_order is_before MayBeSaved (expiry_on line h) c.running (free.timer.tei, free.timer.moment) good.timers;
}

good-line : (c : Timers) (line : ℕ) (hs : List Held) → line < c.lines → AreFree c line hs → IsGood c → IsGood (with_line c line hs)
good-line c line [] within are good = good
good-line c line (h ∷ hs) within are good = good-line (with_held c line h) line hs within are.1 (good-held c line h within are.0 good)

lines-stay : (c : Timers) (line : ℕ) (hs : List Held) → (with_line c line hs).lines ≡ c.lines
lines-stay c line [] = refl
lines-stay c line (h ∷ hs) = lines-stay (with_held c line h) line hs

pub good-lines : (c : Timers) (line : ℕ) (lists : List (List Held)) → line + length lists ≤ c.lines → AreFreeLines c line lists → IsGood c → IsGood (with_lines c line lists)
good-lines c line [] within are good = good
good-lines c line (hs ∷ more) within are good =
    good-lines (with_line c line hs) (line + 1) more (omega (arith, within, lines-stay c line hs)) are.1 (good-line c line hs (omega (arith, within)) are.0 good)

-- All else of it stays.
line-is : (c : Timers) (line : ℕ) (hs : List Held) → with_line c line hs ≡ record c { running = (with_line c line hs).running }
line-is c line [] = refl
line-is c line (h ∷ hs) = line-is (with_held c line h) line hs

pub lines-are : (c : Timers) (line : ℕ) (lists : List (List Held)) → with_lines c line lists ≡ record c { running = (with_lines c line lists).running }
lines-are c line [] = refl
lines-are c line (hs ∷ more) =
    lines-are (with_line c line hs) (line + 1) more
    ∙ ap (λ (t : Timers). record t { running = (with_lines (with_line c line hs) (line + 1) more).running }) (line-is c line hs)

-- ---- the timers of a clock are free as their turn comes

pub record FitTogether (places : ℕ) (all : List Expiry) : Type 0 where
  pub once : IsOneEach all
  pub few : (l : ℕ) → count_on l all ≤ places
  pub timers : AllByRecursion MayBeSaved all

all-back : (P : Expiry → Type 0) (xs ys : List Expiry) → AllByRecursion P (xs ++ ys) → AllByRecursion P ys
all-back P [] ys h = h
all-back P (x ∷ xs) ys h = all-back P xs ys h.1

apart : (e : Expiry) (es more : List Expiry) → IsOneEach (es ++ e ∷ more) → AllByRecursion (λ other. is_of e.line e.timer other ≡ false) es
apart e [] more once = tt
apart e (x ∷ xs) more once =
    (other_way x e (all-back (λ other. is_of x.line x.timer other ≡ false) xs (e ∷ more) once.0).0, apart e xs more once.1)

none-held : (line : ℕ) (timer : Timer) (es : List Expiry) → AllByRecursion (λ other. is_of line timer other ≡ false) es → is_held line timer es ≡ false
none-held line timer [] none = refl
none-held line timer (e ∷ es) none = ap (λ b. b || is_held line timer es) none.0 ∙ none-held line timer es none.1

one-free : (c : Timers) (line : ℕ) (h : Held) (es more : List Expiry) → c.running ≡ in_order es → FitTogether c.places (es ++ expiry_on line h ∷ more) → IsFree c line h
one-free c line h es more is fit =
    let e = expiry_on line h in
    let own : MayBeSaved e = (all-back MayBeSaved es (e ∷ more) fit.timers).0 in
    let on : (e.line == line) ≡ true = grind (arith, nat_tests) in
    let count : count_on line (es ++ e ∷ more) ≡ count_on line es + count_on line (e ∷ more) = sum_by-append (λ x. cond (x.line == line) 1 0) es (e ∷ more) in
    let one : count_on line (e ∷ more) ≡ 1 + count_on line more = count_by-cons (λ x. x.line == line) e more ∙ ap (λ b. cond b 1 0 + count_on line more) on in
    let whole : count_on line c.running ≡ count_on line es = ap (count_on line) is ∙ count_by-in_order (λ x. x.line == line) es in
    record {
      timer = record { tei = own.0; moment = own.1 };
      free = ap (is_held line h.timer) is ∙ none-held line h.timer (in_order es) (All-in_order (λ other. is_of line h.timer other ≡ false) es (apart e es more fit.once));
      room = omega (arith, fit.few line, count, one, whole);
    }

line-free : (c : Timers) (line : ℕ) (hs : List Held) (es rest : List Expiry) → c.running ≡ in_order es → FitTogether c.places (es ++ (on_line line hs ++ rest)) → AreFree c line hs
unfolding on_line
line-free c line [] es rest is fit = tt
line-free c line (h ∷ hs) es rest is fit =
    let e = expiry_on line h in (
      one-free c line h es (on_line line hs ++ rest) is fit,
      line-free (with_held c line h) line hs (es ++ e ∷ []) rest (ap (put_in_order is_before e) is ∙ one-more e es)
          (subst (FitTogether c.places) (sym (append_assoc es (e ∷ []) (on_line line hs ++ rest))) fit),
    )

places-stay : (c : Timers) (line : ℕ) (hs : List Held) → (with_line c line hs).places ≡ c.places
places-stay c line [] = refl
places-stay c line (h ∷ hs) = places-stay (with_held c line h) line hs

pub lines-free : (c : Timers) (line : ℕ) (lists : List (List Held)) (es : List Expiry) → c.running ≡ in_order es → FitTogether c.places (es ++ from_lists line lists) → AreFreeLines c line lists
unfolding from_lists
lines-free c line [] es is fit = tt
lines-free c line (hs ∷ more) es is fit = (
  line-free c line hs es (from_lists (line + 1) more) is fit,
  lines-free (with_line c line hs) (line + 1) more (es ++ on_line line hs) (line-runs c line hs es is)
      (subst (λ n. FitTogether n ((es ++ on_line line hs) ++ from_lists (line + 1) more)) (sym (places-stay c line hs))
      (subst (FitTogether c.places) (sym (append_assoc es (on_line line hs) (from_lists (line + 1) more))) fit)),
)
