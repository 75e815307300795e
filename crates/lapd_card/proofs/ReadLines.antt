-- The lines of a card are read, one after the other.
use Rattle.lapd_card.proofs.Vocabulary.{◌≡◌, ℕ, zero, suc, ◌+◌, ◌*◌, ◌≤◌, ◌<◌, List, [], ◌∷◌, ◌++◌, length, replicate, get_or, set, false, refl, sym, ap, subst, ◌∙◌, arith, append-nil, length-replicate, sum_by, sum_by-cons, All, All-nil, All-push, Config, IsInRange, ranges_of, fresh_line, slots_of, Owned, Store, SameLimits, used_slots, FrameLine, config_of, AreFresh, LinesStand, is_too_small}
use Rattle.std.proofs.Common.{length-append}
use Rattle.std.proofs.lemmas.List.Sums.{sum_by-append}
use Rattle.std.proofs.lemmas.List.Folds.{sum_by-replicate}
use Rattle.std.specs.List.{AllZip, range_with_len}
use Rattle.lapd_image.specs.Reads.{HasNone}
use Rattle.lapd_image.proofs.Reading.{Reads, all-read}
use Rattle.lapd_line.specs.Image.{Restores, HasNoLine}
use Rattle.lapd_line.specs.Stands.{LineStands}
use Rattle.model_line.specs.Image.{line, IsWhole}
use Rattle.model_line.specs.Same.{IsSameLine}
use Rattle.model_line.proofs.ImageRead.{line-read}
use Rattle.model_line.specs.Line.{Line, link_count}
use Rattle.model_line.specs.Stored.{slots_by_link}
use Rattle.model_line.proofs.SlotsGrow.{fresh_slots}
use Rattle.lapd_card.specs.Image.{image_of_lines, AreWhole, AreRead}
use Rattle.lapd_card.proofs.Begins.{has_room_for, lines_begin}
use Rattle.lapd_card.proofs.OneEvent.{used_by}
use Rattle.lapd_card.proofs.OneLine.{Focused, focused}
use Rattle.lapd_card.proofs.ReadMembers.{at_seam, set_seam, meant_by, one_more}

-- lines that are the same use as many slots
sums_same : (f g : ℕ → ℕ) (a n : ℕ) → ((k : ℕ) → k < a + n → f k ≡ g k) → sum_by f (range_with_len a n) ≡ sum_by g (range_with_len a n)
sums_same f g a zero each = refl
sums_same f g a (suc n) each =
    let rest = sums_same f g (a + 1) n (λ k below. each k (omega (arith, below))) in
    let here = each a (omega arith) in
    sum_by-cons f a (range_with_len (a + 1) n) ∙ omega (arith, here, rest) ∙ sym (sum_by-cons g a (range_with_len (a + 1) n))

slots_same : (c : Config) (l m : Line) → IsSameLine c l m → slots_of c l ≡ slots_of c m
slots_same c l m same =
    let units = ap length same.units in
    let links = sums_same (slots_by_link l) (slots_by_link m) 0 (link_count c) (λ k below. ap length (same.links k (omega (arith, below))).queue) in
    omega (arith, units, links)

used_same : (c : Config) (ls ms : List Line) → AllZip (IsSameLine c) ls ms → sum_by (slots_of c) ls ≡ sum_by (slots_of c) ms
used_same c [] [] same = refl
used_same c [] (m ∷ ms) same = absurd same
used_same c (l ∷ ls) [] same = absurd same
used_same c (l ∷ ls) (m ∷ ms) same =
    let here = slots_same c l m same.0 in
    let rest = used_same c ls ms same.1 in
    sum_by-cons (slots_of c) l ls ∙ omega (arith, here, rest) ∙ sym (sum_by-cons (slots_of c) m ms)

-- a line is read as that which was meant, and so are all
each_read : (c : Config) → IsInRange c → Reads (IsWhole c) (IsSameLine c) (line c)
each_read c range l m r s whole also = line-read c (ranges_of c range).n201.most l m r s (whole.sound, whole.saved) (also.sound, also.saved)

pub lines_read : (c : Config) → IsInRange c → (ls ms : List Line) (r s : List ℕ) → AreWhole c ls → AreWhole c ms → image_of_lines c ls ++ r ≡ image_of_lines c ms ++ s → r ≡ s
lines_read c range ls ms r s whole also e = (all-read (IsWhole c) (IsSameLine c) (line c) (each_read c range) ls ms r s (whole.count ∙ sym also.count) whole.each also.each e).1

-- Some lines are read, and the others are as they begin.
pub record ReadSoFar (c : Config) (front rest : List ℕ) (lines : List FrameLine) (s : Store) (i : ℕ) : Type 0 where
  pub done : List Line
  pub left : ℕ
  pub stand : LinesStand c lines s (done ++ replicate left (fresh_line c))
  pub so_many : length done ≡ i
  pub count : i + left ≡ c.lines
  pub whole : All (IsWhole c) done
  pub octets : front ≡ image_of_lines c done ++ rest
  pub slots : c.slots ≤ s.slots
  pub used : used_slots s ≤ c.slots

pub none_read : (c : Config) (lines : List FrameLine) (s : Store) (front : List ℕ) → AreFresh c lines → is_too_small c s ≡ false → ReadSoFar c front front lines s 0
none_read c lines s front fresh room =
    let stand = lines_begin c lines fresh s room in
    record {
      done = [];
      left = c.lines;
      stand = stand;
      so_many = refl;
      count = omega arith;
      whole = All-nil (IsWhole c);
      octets = refl;
      slots = (has_room_for c s room).1;
      used = omega (arith, used_by c lines s _ stand, sum_by-replicate (slots_of c) c.lines (fresh_line c), ap (λ n. c.lines * n) (fresh_slots c));
    }

module _ {c : Config} {front rest : List ℕ} {lines : List FrameLine} {s : Store} {i : ℕ} (so : ReadSoFar c front rest lines s i) where
  -- as many slots are used as the lines that are read use
  used_done : used_slots s ≡ sum_by (slots_of c) so.done
  used_done =
      let fresh = sum_by-replicate (slots_of c) so.left (fresh_line c) ∙ ap (λ n. so.left * n) (fresh_slots c) in
      used_by c lines s _ so.stand ∙ sum_by-append (slots_of c) so.done (replicate so.left (fresh_line c)) ∙ omega (arith, fresh)

  pub as_many : length lines ≡ c.lines
  as_many = so.stand.count ∙ length-append so.done (replicate so.left (fresh_line c)) ∙ omega (arith, so.so_many, so.count, length-replicate so.left (fresh_line c))

  -- when all are, these are read
  pub all_read : length lines ≤ i → AreRead c front rest lines s
  all_read all =
      let none : so.left ≡ 0 = omega (arith, all, as_many, so.count) in
      let few = used_done in
      record {
        read_as = so.done;
        read = record {
          saved = record { count = omega (arith, so.so_many, so.count, none); each = so.whole; slots = omega (arith, few, so.used) };
          octets = so.octets;
        };
        stand = subst (λ ms. LinesStand c lines s ms) (append-nil so.done) (subst (λ n. LinesStand c lines s (so.done ++ replicate n (fresh_line c))) none so.stand);
        slots = so.slots;
      }

  -- The next one stands as it begins.
  record Next (x : FrameLine) : Type 0 where
    after : ℕ
    left : so.left ≡ suc after
    focus : Focused c lines s (so.done ++ fresh_line c ∷ replicate after (fresh_line c)) i x
    stands : LineStands x s focus.rest (fresh_line (config_of x))

  module _ {x : FrameLine} (within : i < length lines) (is : x ≡ get_or lines i x) where
    next_of : (n : ℕ) → so.left ≡ n → Next x
    next_of zero none = absurd (omega (arith, within, as_many, so.count, none))
    next_of (suc k) more =
        let fresh = fresh_line c in
        let focus = focused c lines s (so.done ++ fresh ∷ replicate k fresh) i x within is (subst (λ n. LinesStand c lines s (so.done ++ replicate n fresh)) more so.stand) in
        let begun = ap (λ n. get_or (so.done ++ fresh ∷ replicate k fresh) n fresh) (sym so.so_many) ∙ at_seam so.done fresh fresh (replicate k fresh) ∙ ap fresh_line (sym focus.config) in
        record { after = k; left = more; focus = focus; stands = subst (λ l. LineStands x s focus.rest l) begun focus.stands }

    next : Next x
    next = next_of so.left refl

    pub stands_fresh : (others : List Owned) × LineStands x s others (fresh_line (config_of x))
    stands_fresh = (next.focus.rest, next.stands)

    -- It is read.
    pub one_more_line : {end : List ℕ} {y : FrameLine} {t : Store} → Restores rest end x s y t → config_of y ≡ config_of x → SameLimits s t → used_slots t ≤ c.slots → ReadSoFar c front end (set lines i y) t (i + 1)
    one_more_line {end} {y} {t} (m, read, becomes) config limits used =
        let fresh = fresh_line c in
        let n = next in
        let replaced = ap (λ i. set (so.done ++ fresh ∷ replicate n.after fresh) i m) (sym so.so_many) ∙ set_seam so.done fresh m (replicate n.after fresh) in
        record {
          done = so.done ++ m ∷ [];
          left = n.after;
          stand = subst (λ ms. LinesStand c (set lines i y) t ms) replaced (n.focus.back t y m limits config (becomes.stands n.focus.rest n.stands));
          so_many = length-append so.done (m ∷ []) ∙ omega (arith, so.so_many);
          count = omega (arith, so.count, n.left);
          whole = All-push (IsWhole c) so.done m so.whole (subst (λ d. IsWhole d m) n.focus.config read.saved);
          octets = one_more (line c) so.done m end so.octets (read.octets ∙ ap (λ d. line d m ++ end) n.focus.config);
          slots = subst (λ n. c.slots ≤ n) (sym limits.slots) so.slots;
          used = used;
        }

    -- If none is read there, no lines are.
    pub no_line_more : IsInRange c → {slots : ℕ} → slots ≡ c.slots → HasNoLine slots rest x s → HasNone (image_of_lines c) (AreWhole c) front
    no_line_more range {slots} few none ls end whole e =
        let m = meant_by (line c) (each_read c range) so.done ls (omega (arith, within, as_many, so.so_many, whole.count)) so.whole whole.each so.octets e in
        let l = m.parts.here in
        let used = used_done ∙ used_same c so.done m.parts.before m.same in
        let all = ap (sum_by (slots_of c)) m.parts.is ∙ sum_by-append (slots_of c) m.parts.before (l ∷ m.parts.after) in
        let last = sum_by-cons (slots_of c) l m.parts.after in
        subst (λ d. (m : Line) (next : List ℕ) → IsWhole d m → used_slots s + slots_of d m ≤ slots → rest ≡ line d m ++ next → ⊥) next.focus.config none l (image_of_lines c m.parts.after ++ end)
        m.sound (omega (arith, used, all, last, whole.slots, few)) m.octets
