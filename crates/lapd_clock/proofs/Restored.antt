-- A clock that was read is that of its image; and where its lines cannot be read, there is none.
use Rattle.std.specs.Prelude.{flat_map, Ok, Err, OnOk, OnErr}
use Rattle.std.specs.Result.{is_err}
use Rattle.std.specs.declared.result.Result.{Result}
use Rattle.lapd_clock.proofs.Vocabulary.{◌≡◌, ℕ, ◌+◌, ◌*◌, ◌/◌, true, false, false≢true, ◌==◌, List, [], ◌∷◌, ◌++◌, length, refl, sym, ap, ◌∙◌, subst, arith, append-nil, All, AllByRecursion, All-from_recursion, recursion_from_All}
use Rattle.lapd_clock.proofs.Vocabulary.{AreInRange, Lengths, Timers, Held, count_on, IsOneEach, in_order}
use Rattle.lapd_clock.proofs.ImageRead.{lines-kept, list-of-timers}
use Rattle.lapd_clock.proofs.Once.{All-from_in_order, from_in_order}
use Rattle.lapd_clock.proofs.Restoring.{good-lines, lines-are, lines-free, lines-run, FitTogether, IsGood, MayBeSaved}
use Rattle.lapd_clock.proofs.Running.{none_sound}
use Rattle.lapd_clock.proofs.StandsFor.{count_by-in_order}
use Rattle.lapd_clock.specs.Image.{from_lists, image, lengths, timer, AreItsTimers, IsNoImage, IsRead, IsSaved}
use Rattle.lapd_clock.specs.Places.{IsOfCard}
use Rattle.lapd_clock.specs.Restoring.{with_lines, AreFreeLines, HasNoLines, IsHead, ReadsLines}
use Rattle.lapd_clock.specs.Restoring.{IsTimer}
use Rattle.lapd_clock.specs.Timers.{idle_with}
use Rattle.lapd_image.specs.Numbers.{number, list_of}
use Rattle.lapd_image.proofs.Reading.{all-read, front-read, heads, length-number, tails}
use Rattle.std.proofs.Common.{length-append}

-- What was answered, and what holds then.
pub if_ok : {T E P : Type 0} (r : Result T E) → is_err r ≡ false → OnOk r P → P
if_ok (Ok t) is holds = holds
if_ok (Err e) is holds = absurd (false≢true (sym is))

pub if_err : {T E P : Type 0} (r : Result T E) → is_err r ≡ true → OnErr r P → P
if_err (Ok t) is holds = absurd (false≢true is)
if_err (Err e) is holds = holds

none-first : [] ≡ in_order []
unfolding in_order
none-first = refl

start-good : (l : Lengths) (lines terminals : ℕ) → AreInRange l → IsGood (idle_with l lines terminals)
start-good l lines terminals range = record { sound = none_sound _ _ _ range; timers = tt }

pub clock-read : {octets front : List ℕ} (lines terminals : ℕ) (l : Lengths) (lists : List (List Held)) → IsHead lines terminals l octets front
    → length lists ≡ lines → AreFreeLines (idle_with l lines terminals) 0 lists → front ≡ flat_map (list_of timer) lists ++ []
    → IsRead octets (with_lines (idle_with l lines terminals) 0 lists)
clock-read lines terminals l lists head many free is =
    let start = idle_with l lines terminals in
    let new = with_lines start 0 lists in
    let are = lines-are start 0 lists in
    let good = good-lines start 0 lists (omega (arith, many)) free (start-good l lines terminals head.range) in
    let all = All-from_recursion MayBeSaved new.running good.timers in
    let whole = is ∙ append-nil (flat_map (list_of timer) lists) in
    let quarter : terminals ≡ (4 * terminals + 1) / 4 = omega arith in
    record {
      lines = lists;
      saved = record {
        sound = good.sound;
        of_card = subst (λ (t : Timers). IsOfCard t.places t.lines) (sym are) (record { some_lines = head.lines_are; terminals = terminals; some = head.terminals_are; places_are = refl });
        teis = λ i d within. (all i d within).0;
        moments = λ i d within. (all i d within).1;
      };
      timers = record { each = many ∙ sym (ap (λ (t : Timers). t.lines) are); running = sym (lines-run start 0 lists [] none-first) };
      octets_are = head.octets ∙ (λ i. 76 ∷ 65 ∷ 80 ∷ 68 ∷ 1 ∷ 4 ∷ lines ∷ quarter i ∷ (lengths l ++ whole i)) ∙ ap (λ (t : Timers). image t lists) (sym are);
    }

-- ---- the lines of an image with this head can be read

length-lengths : (l : Lengths) → length (lengths l) ≡ 16
length-lengths l =
    let a = length-append (number 4 l.t200) (number 4 l.t203 ++ (number 4 l.t201 ++ number 4 l.t202)) in
    let b = length-append (number 4 l.t203) (number 4 l.t201 ++ number 4 l.t202) in
    let c = length-append (number 4 l.t201) (number 4 l.t202) in
    omega (arith, a, b, c, length-number 4 l.t200, length-number 4 l.t203, length-number 4 l.t201, length-number 4 l.t202)

fits : (c : Timers) (lists : List (List Held)) (places : ℕ) → c.places ≡ places → IsSaved c → AreItsTimers c lists → FitTogether places (from_lists 0 lists)
fits c lists places same saved its =
    let es = from_lists 0 lists in
    let all = recursion_from_All MayBeSaved c.running (λ i d within. (saved.teis i d within, saved.moments i d within)) in
    record {
      once = from_in_order es (subst IsOneEach (sym its.running) saved.sound.one_each);
      few = λ k. omega (arith, same, sym (count_by-in_order (λ x. x.line == k) es) ∙ ap (count_on k) its.running, saved.sound.in_places k);
      timers = All-from_in_order MayBeSaved es (subst (AllByRecursion MayBeSaved) (sym its.running) all);
    }

pub record AreLinesOf (start : Timers) (front : List ℕ) (lists : List (List Held)) : Type 0 where
  pub many : length lists ≡ start.lines
  pub free : AreFreeLines start 0 lists
  pub octets : front ≡ flat_map (list_of timer) lists

pub lines-of : {octets front : List ℕ} (lines terminals : ℕ) (l : Lengths) → IsHead lines terminals l octets front
    → (c : Timers) (lists : List (List Held)) → IsSaved c → AreItsTimers c lists → octets ≡ image c lists → AreLinesOf (idle_with l lines terminals) front lists
lines-of {octets} {front} lines terminals l head c lists saved its is =
    let e = tails (tails (tails (tails (tails (tails (sym head.octets ∙ is)))))) in
    let one : lines ≡ c.lines = heads e in
    let two : terminals ≡ c.places / 4 = heads (tails e) in
    let rest = front-read (lengths l) (lengths c.lengths) front (flat_map (list_of timer) lists) (length-lengths l ∙ sym (length-lengths c.lengths)) (tails (tails e)) in
    let same : c.places ≡ 4 * terminals + 1 = omega (arith, two, saved.of_card.places_are) in
    record {
      many = its.each ∙ sym one;
      free = lines-free (idle_with l lines terminals) 0 lists [] none-first (fits c lists (4 * terminals + 1) same saved its);
      octets = rest.1;
    }

pub none-there : {octets front : List ℕ} (lines terminals : ℕ) (l : Lengths) → IsHead lines terminals l octets front → HasNoLines front (idle_with l lines terminals) → IsNoImage octets
none-there lines terminals l head none c lists saved its is =
    let are = lines-of lines terminals l head c lists saved its is in
    none lists [] are.many are.free (are.octets ∙ sym (append-nil (flat_map (list_of timer) lists)))

pub more-there : {octets front rest : List ℕ} {new : Timers} (lines terminals : ℕ) (l : Lengths) → IsHead lines terminals l octets front
    → ReadsLines front rest (idle_with l lines terminals) new → (rest ≡ [] → ⊥) → IsNoImage octets
more-there {octets} {front} {rest} lines terminals l head read more c lists saved its is =
    let start = idle_with l lines terminals in
    let are = lines-of lines terminals l head c lists saved its is in
    let kept = lines-kept start 0 in
    let both = all-read (All IsTimer) (λ (gs hs : List Held). gs ≡ hs) (list_of timer) list-of-timers read.0 lists rest []
    (read.1 ∙ sym are.many) (kept.each read.0 read.2.saved) (kept.each lists are.free)
    (sym read.2.octets ∙ are.octets ∙ sym (append-nil (flat_map (list_of timer) lists))) in
    more both.1
