-- Octets that are written one part after the other.
use Rattle.lapd_text.proofs.Vocabulary.{◌≡◌, ℕ, ◌+◌, ◌*◌, ◌-◌, ◌<◌, ◌≤◌, true, suc, List, [], ◌∷◌, ◌++◌, length, take, drop, get_or, ap, sym, subst, refl, ◌∙◌, arith, append_assoc, append-nil, length-append, length-take-le, take-append_seam, drop-append_seam, take-append-drop, drop-drop, encode_upper, encode_with, length-encode_with, upper_digits, octets_text, digit_count, IsPutIn, codes}
use Rattle.lapd_text.proofs.OctetDigits.{one_more}

-- a part that is put behind a front
pub put_behind : (front back part middle new : List ℕ) (n : ℕ) → length front ≡ n → middle ≡ front ++ back
    → new ≡ take n middle ++ part ++ drop (n + length part) middle → new ≡ front ++ part ++ drop (length part) back
put_behind front back part middle new n count e put =
    let before : take n middle ≡ front = ap (take n) e ∙ ap (λ k. take k (front ++ back)) (sym count) ∙ take-append_seam front back in
    let after : drop n middle ≡ back = ap (drop n) e ∙ ap (λ k. drop k (front ++ back)) (sym count) ∙ drop-append_seam front back in
    let rest : drop (n + length part) middle ≡ drop (length part) back = sym (drop-drop (length part) n middle) ∙ ap (drop (length part)) after in
    put ∙ ap (λ l. l ++ part ++ drop (n + length part) middle) before ∙ ap (λ l. front ++ part ++ l) rest

pub nothing_put : (at : ℕ) (out : List ℕ) → out ≡ take at out ++ encode_upper (take 0 []) ++ drop (at + 2 * 0) out
unfolding encode_with
nothing_put at out = sym (take-append-drop at out) ∙ ap (λ l. l ++ drop at out) (sym (append-nil (take at out))) ∙ ap (λ n. take at out ++ [] ++ drop n out) (omega arith)

-- the digits of one octet more
pub digits_put : (octets old out new : List ℕ) (at i d : ℕ) (digits : List ℕ) → at + 2 * length octets ≤ length old → i < length octets
    → out ≡ take at old ++ encode_upper (take i octets) ++ drop (at + 2 * i) old → digits ≡ encode_upper (get_or octets i d ∷ [])
    → new ≡ take (at + 2 * i) out ++ digits ++ drop (at + 2 * i + length digits) out
    → new ≡ take at old ++ encode_upper (take (i + 1) octets) ++ drop (at + 2 * (i + 1)) old
digits_put octets old out new at i d digits room within before is put =
    let first = take at old in
    let done = encode_upper (take i octets) in
    let few : at ≤ length old = omega (arith, room) in
    let some : i ≤ length octets = omega (arith, within) in
    let count : length (first ++ done) ≡ at + 2 * i =
    length-append first done ∙ ap (λ n. n + length done) (length-take-le at old few)
    ∙ ap (λ n. at + n) (length-encode_with upper_digits (take i octets) ∙ ap (λ n. 2 * n) (length-take-le i octets some)) in
    let two : length digits ≡ 2 = ap length is ∙ length-encode_with upper_digits (get_or octets i d ∷ []) in
    let behind = put_behind (first ++ done) (drop (at + 2 * i) old) digits out new (at + 2 * i) count before put in
    let rest : drop (length digits) (drop (at + 2 * i) old) ≡ drop (at + 2 * (i + 1)) old =
    ap (λ n. drop n (drop (at + 2 * i) old)) two ∙ drop-drop 2 (at + 2 * i) old ∙ ap (λ n. drop n old) (omega arith) in
    let more : done ++ digits ≡ encode_upper (take (i + 1) octets) = ap (λ l. done ++ l) is ∙ sym (one_more octets i d within) in
    let whole : first ++ done ++ digits ≡ first ++ encode_upper (take (i + 1) octets) = append_assoc first done digits ∙ ap (λ l. first ++ l) more in
    behind ∙ ap (λ l. l ++ drop (length digits) (drop (at + 2 * i) old)) whole ∙ ap (λ l. first ++ encode_upper (take (i + 1) octets) ++ l) rest

some_digits : (n : ℕ) → 2 * suc n ≡ digit_count (suc n)
some_digits n = grind arith

-- so many digits
pub digits_are : (octets : List ℕ) → length (octets_text octets) ≡ digit_count (length octets)
digits_are [] = refl
digits_are (octet ∷ more) = length-encode_with upper_digits (octet ∷ more) ∙ some_digits (length more)

-- a whole line: head, information, what this means, and end
pub line_put : (head info meaning old first second third new : List ℕ) (end : ℕ) → end ≡ length head + length meaning + digit_count (length info)
    → end < length old
    → first ≡ take 0 old ++ head ++ drop (0 + length head) old
    → second ≡ take (length head) first ++ octets_text info ++ drop (length head + digit_count (length info)) first
    → third ≡ take (end - length meaning) second ++ meaning ++ drop (end - length meaning + length meaning) second
    → new ≡ take end third ++ (0 ∷ []) ++ drop (end + 1) third
    → IsPutIn true (head ++ octets_text info ++ meaning ++ codes "\n") old new
line_put head info meaning old first second third new end is within one two three four =
    let front = head ++ octets_text info in
    let digits = digits_are info in
    let so_far : length front ≡ length head + digit_count (length info) = length-append head (octets_text info) ∙ ap (λ n. length head + n) digits in
    let before_meaning : length front ≡ end - length meaning = omega (arith, so_far, is) in
    let words = front ++ meaning in
    let count : length words ≡ end = length-append front meaning ∙ omega (arith, so_far, is) in
    let back = drop (length (octets_text info)) (drop (length head) old) in
    let second_is : second ≡ front ++ back =
    put_behind head (drop (length head) old) (octets_text info) first second (length head) refl (one ∙ ap (λ n. head ++ drop n old) (omega arith))
    (two ∙ ap (λ n. take (length head) first ++ octets_text info ++ drop (length head + n) first) (sym digits)) in
    let third_is : third ≡ words ++ drop (length meaning) back = put_behind front back meaning second third (end - length meaning) before_meaning second_is three in
    let rest : drop (length meaning) back ≡ drop end old =
    ap (drop (length meaning)) (drop-drop (length (octets_text info)) (length head) old)
    ∙ drop-drop (length meaning) (length head + length (octets_text info)) old
    ∙ ap (λ n. drop n old) (omega (arith, digits, is)) in
    let whole : third ≡ words ++ drop end old = third_is ∙ ap (λ l. words ++ l) rest in
    let ended : new ≡ words ++ (0 ∷ []) ++ drop 1 (drop end old) = put_behind words (drop end old) (0 ∷ []) third new end count whole four in
    let line = words ++ codes "\n" in
    let long : length line ≡ end + 1 = length-append words (codes "\n") ∙ ap (λ n. n + 1) count in
    let before : take (length line - 1) line ≡ words =
    ap (λ n. take n line) (omega (arith, long) ∙ sym count) ∙ take-append_seam words (codes "\n") in (
      subst (λ n. n ≤ length old) (sym long) (omega (arith, within)),
      ended
          ∙ append_assoc words (0 ∷ []) (drop 1 (drop end old))
          ∙ ap (λ l. words ++ 0 ∷ l) (drop-drop 1 end old ∙ ap (λ n. drop n old) (sym long))
          ∙ ap (λ l. l ++ 0 ∷ drop (length line) old) (sym before),
    )

-- or no room
pub no_room : (head info meaning old : List ℕ) → length old ≤ length head + length meaning + digit_count (length info)
    → length old < length (head ++ octets_text info ++ meaning ++ codes "\n")
no_room head info meaning old h =
    let front = head ++ octets_text info in
    let so_far : length front ≡ length head + digit_count (length info) = length-append head (octets_text info) ∙ ap (λ n. length head + n) (digits_are info) in
    let words : length (front ++ meaning) ≡ length head + length meaning + digit_count (length info) = length-append front meaning ∙ omega (arith, so_far) in
    let long : length (front ++ meaning ++ codes "\n") ≡ length head + length meaning + digit_count (length info) + 1 =
    length-append (front ++ meaning) (codes "\n") ∙ ap (λ n. n + 1) words in
    subst (λ n. length old < n) (sym long) (omega (arith, h))
