-- What is read into the buffer of the lines.
use Rattle.lapd_script.proofs.Vocabulary.{◌≡◌, ◌≢◌, ℕ, ◌+◌, ◌-◌, ◌<◌, ◌≤◌, Bool, true, false, cond, eqb, ltb, List, [], ◌++◌, length, get_or, take, drop, Some, None, Option, inl, inr, sym, ap, ◌∙◌, subst, append_assoc, arith, copy_within, AllWithin, HoldsAt, position, cases_lt, eqb-false, nat_tests, common_steps, get_or-drop, get_or-take, length-drop, length-take}
use Rattle.lapd_script.proofs.Vocabulary.{take-append-le, take_at, take-take, with_items_is, position-Some, fails_before_first, Consumes, IsAtEnd, Keeps, Vec, with_items, length-paste, take-paste, between_is, take-append-add, ScriptLines, held, AreLeft}
use Rattle.std.proofs.lemmas.List.{length-append}
use borrow.Rule.Slice.PartMut.{put_mid}
use Rattle.lapd_script.proofs.Pieces.{IsOpen}

-- Where the first line feed stands, by place in the whole buffer.
abbrev pub is_line_feed : ℕ → Bool
is_line_feed octet = eqb octet 10

abbrev pub part : ℕ → ℕ → List ℕ → List ℕ
part low high octets = take (high - low) (drop low octets)

at_place : (low high place : ℕ) (octets : List ℕ) (d : ℕ) → low ≤ place → place < high → get_or (part low high octets) (place - low) d ≡ get_or octets place d
at_place low high place octets d after before =
    get_or-take (high - low) (drop low octets) (place - low) d (omega arith) ∙ get_or-drop low octets (place - low) d ∙ ap (λ (k : ℕ). get_or octets k d) (omega arith)

length-part : (low high : ℕ) (octets : List ℕ) → low ≤ high → high ≤ length octets → length (part low high octets) ≡ high - low
length-part low high octets after within = simp (length-take, length-drop) (omega arith)

is_ten : (octet : ℕ) → eqb octet 10 ≡ true → octet ≡ 10
is_ten octet h = grind (arith, nat_tests)

none_before : (n : ℕ) (octets : List ℕ) → cond (ltb n (length octets)) (Some n) None ≡ None → length octets ≤ n
none_before n octets e = grind (arith, common_steps)

pub no_line_feed : (low high : ℕ) (octets : List ℕ) → low ≤ high → high ≤ length octets → None ≡ position is_line_feed (part low high octets) → AllWithin (λ octet. octet ≢ 10) octets low high
no_line_feed low high octets after within none = grind (arith, none_before, fails_before_first, length-part, eqb-false, at_place)

pub line_feed_at : (low high place : ℕ) (octets : List ℕ) → low ≤ high → high ≤ length octets → Some place ≡ position is_line_feed (part low high octets) → HoldsAt (λ octet. octet ≡ 10) octets (low + place)
line_feed_at low high place octets after within some = grind (arith, position-Some, length-part, get_or-take, get_or-drop, is_ten)

pub line_feed_first : (low high place : ℕ) (octets : List ℕ) → low ≤ high → high ≤ length octets → Some place ≡ position is_line_feed (part low high octets) → AllWithin (λ octet. octet ≢ 10) octets low (low + place)
line_feed_first low high place octets after within some = λ k d from before.
    let first = position-Some is_line_feed (part low high octets) place d (sym some) in
    let short : place < high - low = omega (arith, first.0, length-part low high octets after within) in
    let fails : eqb (get_or (part low high octets) (k - low) d) 10 ≡ false = first.2 (k - low) (omega arith) in
    eqb-false (get_or octets k d) 10 (ap (λ (octet : ℕ). eqb octet 10) (sym (at_place low high k octets d from (omega arith))) ∙ fails)

-- What a read puts behind the line that is sought, which moves to the front.
front_is : (octets : List ℕ) (start filled : ℕ) → start ≤ filled → filled ≤ length octets → take (filled - start) (copy_within octets start filled 0) ≡ drop start (take filled octets)
front_is octets start filled after within =
    let short : filled - start ≤ length (drop start octets) = rw length-drop (omega arith) in
    let same : filled - start ≡ 0 + (filled - start) = omega arith in
    ap (λ (n : ℕ). take n (copy_within octets start filled 0)) same
    ∙ take-paste octets 0 (drop start octets) (filled - start) (omega arith) short ∙ between_is octets start filled

length-front : (octets : List ℕ) (start filled : ℕ) → start ≤ filled → filled ≤ length octets → length (copy_within octets start filled 0) ≡ length octets
length-front octets start filled after within = length-paste octets 0 (drop start octets) (filled - start) (omega arith) (rw length-drop (omega arith))

length-put_mid : (place : ℕ) (whole read : List ℕ) → place ≤ length whole → length read ≡ length whole - place → length (put_mid place (length whole - place) whole read) ≡ length whole
length-put_mid place whole read within fits = simp (length-append, length-take, length-drop) (omega arith)

pub filled_more : {Z : Type 0} (moved : Vec ℕ Z) (octets whole read : List ℕ) (start filled count total : ℕ) → start ≤ filled → filled ≤ length octets
    → whole ≡ copy_within octets start filled 0 → length whole ≡ moved.len → length read ≡ length (take (length whole - (filled - start)) (drop (filled - start) whole))
    → count ≤ length read → total ≡ filled - start + count
    → take total (with_items moved (put_mid (filled - start) (length whole - (filled - start)) whole read)).items ≡ drop start (take filled octets) ++ take count read
filled_more moved octets whole read start filled count total after within is long fits short counts =
    let size : length whole ≡ length octets = ap length is ∙ length-front octets start filled after within in
    let free : length read ≡ length whole - (filled - start) = fits ∙ simp (length-take, length-drop) (omega arith) in
    let begun : length (take (filled - start) whole) ≡ filled - start = simp length-take (omega arith) in
    let kept : (with_items moved (put_mid (filled - start) (length whole - (filled - start)) whole read)).items ≡ put_mid (filled - start) (length whole - (filled - start)) whole read =
    with_items_is moved (put_mid (filled - start) (length whole - (filled - start)) whole read) (length-put_mid (filled - start) whole read (omega arith) free ∙ long) in
    let place : total ≡ length (take (filled - start) whole) + count = omega arith in
    ap (take total) kept
    ∙ ap (λ (n : ℕ). take n (put_mid (filled - start) (length whole - (filled - start)) whole read)) place
    ∙ take-append-add (take (filled - start) whole) (read ++ drop (length whole - (filled - start)) (drop (filled - start) whole)) count
    ∙ ap (λ (list : List ℕ). take (filled - start) whole ++ list) (take-append-le count read (drop (length whole - (filled - start)) (drop (filled - start) whole)) short)
    ∙ ap (λ (list : List ℕ). list ++ take count read) (ap (take (filled - start)) is ∙ front_is octets start filled after within)

pub filled_held : {Z : Type 0} (moved : Vec ℕ Z) (lines : ScriptLines) (whole read : List ℕ) (count total : ℕ) → lines.next ≡ lines.start
    → whole ≡ moved.items → moved.items ≡ copy_within lines.buffer.items lines.start lines.filled 0 → length whole ≡ moved.len → length read ≡ length (take (length whole - (lines.filled - lines.start)) (drop (lines.filled - lines.start) whole))
    → count ≤ length read → total ≡ lines.filled - lines.start + count
    → take total (with_items moved (put_mid (lines.filled - lines.start) (length whole - (lines.filled - lines.start)) whole read)).items ≡ held lines ++ take count read
filled_held moved lines whole read count total begins same is long o short counts = grind (arith, filled_more)

pub length-held : (lines : ScriptLines) → length (held lines) ≡ lines.filled - lines.next
length-held lines = simp (length-drop, length-take) (omega (arith, lines.buffer.ok.0))

pub held_first : (lines : ScriptLines) (octets got : List ℕ) → lines.next ≡ lines.start → octets ≡ held lines ++ got → take (lines.filled - lines.start) octets ≡ held lines
held_first lines octets got begins is = ap (take (lines.filled - lines.start)) is ∙ take_at (held lines) got (lines.filled - lines.start) (length-held lines ∙ omega arith)

-- The text that is left stays the same.
pub left_kept : (old new : ScriptLines) (before now : Option (List ℕ)) (got text : List ℕ) → AreLeft old before text → held new ≡ held old ++ got → Consumes before now got
    → (new.is_at_end ≡ true → IsAtEnd now) → AreLeft new now text
left_kept old new before now got text left moved takes ends = grind (arith, append_assoc)

pub keeps_none : (before now : Option (List ℕ)) → Keeps before now → Consumes before now []
keeps_none before now kept = grind arith

-- no octet of a part is a line feed
pub open_part : (octets : List ℕ) (low high : ℕ) → high ≤ length octets → AllWithin (λ octet. octet ≢ 10) octets low high → IsOpen (drop low (take high octets))
open_part octets low high within h = grind (arith, length-drop, length-take, get_or-drop, get_or-take)

within_front : (octets : List ℕ) (high : ℕ) → high ≤ length octets → IsOpen (take high octets) → AllWithin (λ octet. octet ≢ 10) octets 0 high
within_front octets high within h = grind (arith, length-take, get_or-take)

-- what had been read has no line feed, and stands at the front
pub open_front : (old new : ScriptLines) (begun : ℕ) → old.next ≡ old.start → new.start ≡ 0 → new.next ≡ 0 → begun ≤ new.filled → AllWithin (λ octet. octet ≢ 10) old.buffer.items old.start old.filled
    → take begun (held new) ≡ held old → AllWithin (λ octet. octet ≢ 10) new.buffer.items new.start begun
open_front old new begun begins front first within h kept =
    let here : IsOpen (held old) = subst (λ (n : ℕ). IsOpen (drop n (take old.filled old.buffer.items))) (sym begins) (open_part old.buffer.items old.start old.filled (omega (arith, old.buffer.ok.0)) h) in
    let same : held old ≡ take begun new.buffer.items =
    sym kept ∙ ap (λ (n : ℕ). take begun (drop n (take new.filled new.buffer.items))) first ∙ take-take begun new.filled new.buffer.items within in
    subst (λ (n : ℕ). AllWithin (λ octet. octet ≢ 10) new.buffer.items n begun) (sym front)
    (within_front new.buffer.items begun (omega (arith, new.buffer.ok.0)) (subst IsOpen same here))

pub within_joined : (octets : List ℕ) (low middle high : ℕ) → AllWithin (λ octet. octet ≢ 10) octets low middle → AllWithin (λ octet. octet ≢ 10) octets middle high
    → AllWithin (λ octet. octet ≢ 10) octets low high
within_joined octets low middle high before after = λ k d from to.
    elim (cases_lt k middle) [ inl less ↦ before k d from less | inr more ↦ after k d more to ]
