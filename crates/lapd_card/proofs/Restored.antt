-- A card is restored: what was read of its lines and of their counters is a card with which one may begin.
use Rattle.lapd_card.proofs.Vocabulary.{◌≡◌, ℕ, ◌+◌, ◌≤◌, ◌<◌, Bool, nat_lt, List, ◌++◌, length, get_or, get_or_default, refl, sym, ap, subst, ◌∙◌, arith, lt-ltb, flat_map, Config, IsInRange, fresh_line, Store, FrameLine, config_of, counters_in, LinesStand, Result, Ok, Err, IfErr}
use Rattle.std.proofs.Common.{append_assoc}
use Rattle.lapd_count.specs.Image.{counters}
use Rattle.lapd_image.specs.Reads.{IsReadAs, HasNone}
use Rattle.lapd_line.proofs.AwakeSteps.{marked_one}
use Rattle.lapd_line.specs.Marks.{AreMarked, Sets}
use Rattle.lapd_line.specs.Stands.{LineStands}
use Rattle.lapd_line.specs.Waiting.{has_next}
use Rattle.lapd_line.specs.declared.marks.Marks.{Marks}
use Rattle.lapd_store.specs.Ownership.{Owned}
use Rattle.model_card.proofs.Reaching.{reached-first}
use Rattle.model_card.specs.Reached.{MayBegin}
use Rattle.model_line.specs.Image.{IsSavedLine}
use Rattle.model_line.specs.Line.{Line, link_at}
use Rattle.model_link.specs.Timed.{IsTimed}
use Rattle.lapd_card.specs.Image.{Lines, image, image_of_lines, IsSavedOf, AreWhole, AreCounted, AreRead, StayLines, Restores, waits_in, WaitOn}
use Rattle.lapd_card.proofs.OneLine.{focused}
use Rattle.lapd_card.proofs.ReadLines.{lines_read}
use Rattle.lapd_card.proofs.Waiting.{of_lines}

-- ---- lines that are whole are a card with which one may begin, and back

module _ (c : Config) (range : IsInRange c) where
  begins : (ls : List Line) → AreWhole c ls → MayBegin (record { config = c; lines = ls })
  begins ls whole = record {
    sound = record { config = range; count = whole.count; lines = λ k d h. (whole.each k d h).sound; slots = whole.slots };
    timed = λ number within. (whole.each number (fresh_line c) (subst (λ n. number < n) (sym whole.count) within)).timed;
  }

whole_lines : (c : Config) (l : Lines) → IsSavedOf c l → AreWhole c l.card.lines
whole_lines c l saved = subst (λ d. AreWhole d l.card.lines) saved.config (record {
  count = saved.begins.sound.count;
  each = λ k d h. record {
    sound = saved.begins.sound.lines k d h;
    timed = λ number.
        subst (λ m. IsTimed (link_at number m)) (get_or_default l.card.lines k (fresh_line l.card.config) d h)
        (saved.begins.timed k (subst (λ n. k < n) saved.begins.sound.count h) number);
    saved = subst (λ e. IsSavedLine e (get_or l.card.lines k d)) (sym saved.config) (saved.lines k d h);
  };
  slots = saved.begins.sound.slots;
})

-- ---- the marks of lines on which a frame waits

-- one line more is looked at
waits_more : (c : Config) (ms : List Line) (i : ℕ) (b : Bool) (old new : Marks) → i < 64 → b ≡ has_next c (get_or ms i (fresh_line c)) → Sets i b old new
    → AreMarked old (waits_in c i ms) → AreMarked new (waits_in c (i + 1) ms)
waits_more c ms i b old new few told sets h = grind (arith, marked_one, lt-ltb, nat_lt)

-- Some lines are marked, if a frame waits on them.
abbrev pub WaitSoFar : List FrameLine → ℕ → Marks → Type 0
WaitSoFar lines i marks = (c : Config) (s : Store) (ms : List Line) → LinesStand c lines s ms → AreMarked marks (waits_in c i ms)

pub all_wait : {lines : List FrameLine} {i : ℕ} (marks : Marks) → i ≡ length lines → WaitSoFar lines i marks → WaitOn lines marks
all_wait {lines} marks all so = subst (λ n. WaitSoFar lines n marks) all so

pub one_more_waits : {lines : List FrameLine} {i : ℕ} {x : FrameLine} {b : Bool} {old new : Marks} → WaitSoFar lines i old → length lines ≤ 64 → i < length lines → x ≡ get_or lines i x
    → ((s : Store) (others : List Owned) (m : Line) → LineStands x s others m → b ≡ has_next (config_of x) m) → Sets i b old new → WaitSoFar lines (i + 1) new
one_more_waits {lines} {i} {x} {b} {old} {new} so few within is says sets c s ms h =
    let focus = focused c lines s ms i x within is h in
    waits_more c ms i b old new (omega (arith, few, within)) (says s focus.rest (get_or ms i (fresh_line c)) focus.stands ∙ ap (λ d. has_next d (get_or ms i (fresh_line c))) focus.config) sets (so c s ms h)

-- ---- the card

-- what is so of each fault is so of one that came
pub if_err : {T E : Type 0} {P : E → Type 0} (r : Result T E) → ((e : E) → P e) → IfErr r P
if_err (Ok x) p = tt
if_err (Err e) p = p e

module _ {c : Config} {front between rest : List ℕ} (range : IsInRange c) {old lines : List FrameLine} {marks : Marks} {S : Type 0} (store : S → Store) (shelf : S) (read : AreRead c front between old (store shelf))
    (counted : IsReadAs (flat_map counters) (AreCounted (length old)) (counters_in lines) between rest) (stay : StayLines old lines) (wait : WaitOn lines marks) where
  pub restores : Restores store c front rest (record { config = c; lines = lines; shelf = shelf; waiting = marks })
  restores =
      let ms = read.read_as in
      let whole = read.read.saved in
      let may = begins c range ms whole in
      let stand = stay.stand c (store shelf) ms read.stand in
      let many : length lines ≡ c.lines = stand.count ∙ whole.count in (
        record { card = record { config = c; lines = ms }; counted = counters_in lines },
        record {
          saved = record {
            config = refl;
            begins = may;
            lines = λ k d h. (whole.each k d h).saved;
            each_counted = counted.saved.count ∙ sym stay.count ∙ many;
            counted = counted.saved.each;
          };
          octets =
              read.read.octets ∙ ap (λ octets. image_of_lines c ms ++ octets) counted.octets
              ∙ sym (append_assoc (image_of_lines c ms) (flat_map counters (counters_in lines)) rest);
        },
        record {
          stands = record {
            config = refl;
            lines = stand;
            slots = read.slots;
            waiting = of_lines marks (record { config = c; lines = ms }) (subst (λ n. AreMarked marks (waits_in c n ms)) many (wait c (store shelf) ms stand));
            reached = reached-first (record { config = c; lines = ms }) may;
          };
          counted = refl;
        },
      )

-- Where no lines are read, no card is;
pub no_lines : {c : Config} {front : List ℕ} → HasNone (image_of_lines c) (AreWhole c) front → HasNone image (IsSavedOf c) front
no_lines {c} none l end saved e =
    none l.card.lines (flat_map counters l.counted ++ end) (whole_lines c l saved)
    (e ∙ append_assoc (image_of_lines l.card.config l.card.lines) (flat_map counters l.counted) end
    ∙ ap (λ d. image_of_lines d l.card.lines ++ (flat_map counters l.counted ++ end)) saved.config)

-- and where no counters are.
pub no_counters : {c : Config} {front between : List ℕ} → IsInRange c → {lines : List FrameLine} {s : Store} → AreRead c front between lines s → HasNone (flat_map counters) (AreCounted (length lines)) between → HasNone image (IsSavedOf c) front
no_counters {c} {front} {between} range read none l end saved e =
    let meant = e ∙ append_assoc (image_of_lines l.card.config l.card.lines) (flat_map counters l.counted) end ∙ ap (λ d. image_of_lines d l.card.lines ++ (flat_map counters l.counted ++ end)) saved.config in
    none l.counted end (record { count = saved.each_counted ∙ sym read.read.saved.count ∙ sym read.stand.count; each = saved.counted })
    (lines_read c range read.read_as l.card.lines between (flat_map counters l.counted ++ end) read.read.saved (whole_lines c l saved) (sym read.read.octets ∙ meant))
