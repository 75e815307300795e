-- How the lines of a script are gone through.
use Rattle.lapd_script.proofs.Vocabulary.{◌≡◌, ◌≢◌, ℕ, ◌+◌, ◌-◌, ◌<◌, ◌≤◌, Bool, true, false, List, [], ◌∷◌, ◌++◌, length, get_or, take, drop, Result, Ok, Err, Some, Option, refl, sym, ap, ◌∙◌, subst, append_assoc, arith, ◌==◌, inl, inr, IfOk, list_any, AllWithin, HoldsAt, eqb_tells, append-nil, drop-append-le, drop_all, drop_more, get_or-take, length-drop, length-take, take-append-drop}
use Rattle.lapd_script.proofs.Vocabulary.{take-take, PlayFault, Read, ScriptLines, held, too_long_after, AreLeft, Takes, Advances, IsReady, pieces_of, line_in}
use Rattle.std.proofs.Common.{true≢false}
use Rattle.std.proofs.lemmas.List.{length-append}
use Rattle.lapd_script.proofs.Pieces.{IsOpen, HasPiece, piece_ended, line_ended, piece_last, line_last, piece_long}
use Rattle.lapd_script.proofs.Reading.{open_part}

-- what is sought begins where the next line does
sought : (lines : ScriptLines) → lines.next ≡ lines.start → held lines ≡ drop lines.start (take lines.filled lines.buffer.items)
sought lines begins = ap (λ (n : ℕ). drop n (take lines.filled lines.buffer.items)) begins

length-between : (octets : List ℕ) (low high : ℕ) → high ≤ length octets → length (drop low (take high octets)) ≡ high - low
length-between octets low high within = simp (length-drop, length-take) (omega arith)

-- What is held, up to a line feed and after it.
split_at : (octets : List ℕ) (start end filled : ℕ) → start ≤ end → end < filled → filled ≤ length octets → HoldsAt (λ octet. octet ≡ 10) octets end
    → drop start (take filled octets) ≡ drop start (take end octets) ++ 10 ∷ drop (end + 1) (take filled octets)
split_at octets start end filled after before within here =
    let all : List ℕ = take filled octets in
    let size : length (take filled octets) ≡ filled = simp length-take (omega arith) in
    let shorter : length (take end (take filled octets)) ≡ end = simp length-take (omega arith) in
    let octet : get_or (take filled octets) end 0 ≡ 10 = get_or-take filled octets end 0 before ∙ here 0 in
    ap (drop start) (sym (take-append-drop end (take filled octets)))
    ∙ drop-append-le start (take end (take filled octets)) (drop end (take filled octets)) (omega arith)
    ∙ ap (λ (front : List ℕ). drop start front ++ drop end (take filled octets)) (take-take end filled octets (omega arith))
    ∙ ap (λ (more : List ℕ). drop start (take end octets) ++ more) (drop_more (take filled octets) end 0 (omega arith))
    ∙ ap (λ (n : ℕ). drop start (take end octets) ++ n ∷ drop (end + 1) (take filled octets)) octet

any_ended : (front : List ℕ) → list_any (λ octet. octet == 10) (front ++ 10 ∷ []) ≡ true
any_ended [] = refl
any_ended (octet ∷ front) = elim (eqb_tells octet 10) [ inl h ↦ rw h.0 refl | inr h ↦ rw h.0 (any_ended front) ]

-- A line up to `end` is the next one; the octets up to `next` are its piece.
record IsPiece (lines : ScriptLines) (source : Option (List ℕ)) (text : List ℕ) (end next : ℕ) : Type 0 where
  piece : List ℕ
  rest : List ℕ
  tells : source ≡ Some rest
  ended : lines.is_at_end ≡ true → rest ≡ []
  none : next ≡ lines.start → (text ≡ []) × (rest ≡ [])
  pieces : lines.start < next → pieces_of text ≡ piece ∷ pieces_of (drop next (take lines.filled lines.buffer.items) ++ rest)
  whole : lines.is_at_end ≡ false → list_any (λ octet. octet == 10) piece ≡ true
  line : line_in piece ≡ drop lines.start (take end lines.buffer.items)
  size : length piece ≡ next - lines.start
  short : length (drop lines.start (take end lines.buffer.items)) ≡ end - lines.start

take_piece : (old mid new : ScriptLines) (result : Result Bool PlayFault) (source : Option (List ℕ)) (text : List ℕ) (end next : ℕ) → mid.octets ≡ old.octets → mid.number ≡ old.number
    → end ≤ mid.start + 4096 → IsPiece mid source text end next → Takes result mid new end next → Advances result old new source text
take_piece old mid new result source text end next octets number short is taken = grind arith

-- It ends with a line feed.
found : (lines : ScriptLines) (source : Option (List ℕ)) (text : List ℕ) (end : ℕ) → lines.next ≡ lines.start → lines.start ≤ end → end < lines.filled
    → AllWithin (λ octet. octet ≢ 10) lines.buffer.items lines.start end → HoldsAt (λ octet. octet ≡ 10) lines.buffer.items end → AreLeft lines source text → IsPiece lines source text end (end + 1)
found lines source text end begins after before h here left =
    let open_is : IsOpen (drop lines.start (take end lines.buffer.items)) = open_part lines.buffer.items lines.start end (omega (arith, lines.buffer.ok.0)) h in
    let short : length (drop lines.start (take end lines.buffer.items)) ≡ end - lines.start = length-between lines.buffer.items lines.start end (omega (arith, lines.buffer.ok.0)) in
    let is : text ≡ drop lines.start (take end lines.buffer.items) ++ 10 ∷ (drop (end + 1) (take lines.filled lines.buffer.items) ++ left.rest) =
    left.is
    ∙ ap (λ (list : List ℕ). list ++ left.rest) (sought lines begins ∙ split_at lines.buffer.items lines.start end lines.filled after before (omega (arith, lines.buffer.ok.0)) here)
    ∙ append_assoc (drop lines.start (take end lines.buffer.items)) (10 ∷ drop (end + 1) (take lines.filled lines.buffer.items)) left.rest in
    record {
      piece = drop lines.start (take end lines.buffer.items) ++ 10 ∷ [];
      rest = left.rest;
      tells = left.tells;
      ended = left.ended;
      none = λ none. absurd (omega (arith, none, after));
      pieces = λ _. ap pieces_of is ∙ piece_ended (drop lines.start (take end lines.buffer.items)) (drop (end + 1) (take lines.filled lines.buffer.items) ++ left.rest) open_is;
      whole = λ _. any_ended (drop lines.start (take end lines.buffer.items));
      line = line_ended (drop lines.start (take end lines.buffer.items)) [] open_is;
      size = simp length-append (omega (arith, short));
      short = short;
    }

pub advances_found : (old mid new : ScriptLines) (result : Result Bool PlayFault) (source : Option (List ℕ)) (text : List ℕ) (end : ℕ) → mid.next ≡ mid.start → mid.octets ≡ old.octets → mid.number ≡ old.number
    → mid.start ≤ end → end < mid.filled → end ≤ mid.start + 4096 → AllWithin (λ octet. octet ≢ 10) mid.buffer.items mid.start end → HoldsAt (λ octet. octet ≡ 10) mid.buffer.items end
    → AreLeft mid source text → Takes result mid new end (end + 1) → Advances result old new source text
advances_found old mid new result source text end begins octets number after before short h here left taken =
    take_piece old mid new result source text end (end + 1) octets number short (found mid source text end begins after before h here left) taken

-- The same, where its line feed has come already.
pub ready_of : (result : Result Bool PlayFault) (old new : ScriptLines) (source : Option (List ℕ)) (text : List ℕ) → Advances result old new source text → IsReady result old new source text
ready_of (Ok false) old new source text h = tt
ready_of _ old new source text h = h

-- There is one then.
pub ready_is : (mid new : ScriptLines) (result : Result Bool PlayFault) (end : ℕ) → mid.start ≤ end → Takes result mid new end (end + 1) → IfOk result (λ more. more ≡ false → ⊥)
ready_is mid new result end after taken = grind (arith, true≢false)

-- It is the last, which has none.
last : (lines : ScriptLines) (source : Option (List ℕ)) (text : List ℕ) → lines.next ≡ lines.start → lines.is_at_end ≡ true
    → AllWithin (λ octet. octet ≢ 10) lines.buffer.items lines.start lines.filled → AreLeft lines source text → IsPiece lines source text lines.filled lines.filled
last lines source text begins at_end h left =
    let open_is : IsOpen (drop lines.start (take lines.filled lines.buffer.items)) = open_part lines.buffer.items lines.start lines.filled (omega (arith, lines.buffer.ok.0)) h in
    let size : length (drop lines.start (take lines.filled lines.buffer.items)) ≡ lines.filled - lines.start = length-between lines.buffer.items lines.start lines.filled (omega (arith, lines.buffer.ok.0)) in
    let is : text ≡ drop lines.start (take lines.filled lines.buffer.items) =
    left.is ∙ ap (λ (list : List ℕ). held lines ++ list) (left.ended at_end) ∙ append-nil (held lines) ∙ sought lines begins in
    let past : drop lines.filled (take lines.filled lines.buffer.items) ≡ [] = drop_all lines.filled (take lines.filled lines.buffer.items) (simp length-take (omega arith)) in
    record {
      piece = drop lines.start (take lines.filled lines.buffer.items);
      rest = left.rest;
      tells = left.tells;
      ended = left.ended;
      none = λ none. (is ∙ drop_all lines.start (take lines.filled lines.buffer.items) (simp length-take (omega (arith, none))), left.ended at_end);
      pieces = λ some. ap pieces_of is ∙ piece_last (drop lines.start (take lines.filled lines.buffer.items)) (omega (arith, size, some)) open_is
          ∙ ap (λ (list : List ℕ). drop lines.start (take lines.filled lines.buffer.items) ∷ pieces_of list) (sym (ap (λ (list : List ℕ). list ++ left.rest) past ∙ left.ended at_end));
      whole = λ goes_on. absurd (true≢false (sym at_end ∙ goes_on));
      line = line_last (drop lines.start (take lines.filled lines.buffer.items)) open_is;
      size = size;
      short = size;
    }

pub advances_last : (old mid new : ScriptLines) (result : Result Bool PlayFault) (source : Option (List ℕ)) (text : List ℕ) → mid.next ≡ mid.start → mid.octets ≡ old.octets → mid.number ≡ old.number
    → mid.is_at_end ≡ true → mid.filled ≤ mid.start + 4096 → AllWithin (λ octet. octet ≢ 10) mid.buffer.items mid.start mid.filled
    → AreLeft mid source text → Takes result mid new mid.filled mid.filled → Advances result old new source text
advances_last old mid new result source text begins octets number at_end short h left taken =
    take_piece old mid new result source text mid.filled mid.filled octets number short (last mid source text begins at_end h left) taken

-- A line without a line feed in the whole buffer is too long,
told_overlong : (old mid new : ScriptLines) (fault : PlayFault) (source : Option (List ℕ)) (text : List ℕ) → mid.number ≡ old.number → HasPiece text 4097 → fault ≡ too_long_after mid
    → Advances (Err fault) old new source text
told_overlong old mid new fault source text number first is = grind arith

pub advances_overlong : (old mid new : ScriptLines) (fault : PlayFault) (source : Option (List ℕ)) (text : List ℕ) → mid.next ≡ mid.start → mid.number ≡ old.number
    → mid.filled - mid.start ≡ 4097 → AllWithin (λ octet. octet ≢ 10) mid.buffer.items mid.start mid.filled → AreLeft mid source text → fault ≡ too_long_after mid
    → Advances (Err fault) old new source text
advances_overlong old mid new fault source text begins number full h left is =
    let open_is : IsOpen (drop mid.start (take mid.filled mid.buffer.items)) = open_part mid.buffer.items mid.start mid.filled (omega (arith, mid.buffer.ok.0)) h in
    let size : length (drop mid.start (take mid.filled mid.buffer.items)) ≡ 4097 = length-between mid.buffer.items mid.start mid.filled (omega (arith, mid.buffer.ok.0)) ∙ full in
    let whole : text ≡ drop mid.start (take mid.filled mid.buffer.items) ++ left.rest = left.is ∙ ap (λ (list : List ℕ). list ++ left.rest) (sought mid begins) in
    told_overlong old mid new fault source text number
    (subst (λ (list : List ℕ). HasPiece list 4097) (sym whole)
    (subst (λ (n : ℕ). HasPiece (drop mid.start (take mid.filled mid.buffer.items) ++ left.rest) n) size (piece_long (drop mid.start (take mid.filled mid.buffer.items)) left.rest (omega (arith, size)) open_is)))
    is

-- and one that could not be read to its end is cut.
pub advances_cut : (old mid new : ScriptLines) (fault : PlayFault) (source : Option (List ℕ)) (text : List ℕ) → mid.next ≡ mid.start
    → AllWithin (λ octet. octet ≢ 10) mid.buffer.items mid.start mid.filled → held new ≡ held mid → AreLeft new source text → fault ≡ Read → old.is_at_end ≡ false
    → Advances (Err fault) old new source text
advances_cut old mid new fault source text begins h same left is goes_on = grind (arith, IsOpen, open_part, sought)
