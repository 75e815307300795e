-- Bits that end nothing go on the open gap all at once.
use Rattle.lapd_bits.proofs.Vocabulary.{◌≡◌, ℕ, suc, zero, ◌+◌, Bool, true, false, not, List, [], ◌∷◌, ◌++◌, length, reverse, replicate, nat_eq, if◌then◌else◌, min, Option, Some, None, option_map, refl, ap, sym, ◌∙◌, arith, and_parts, eq-eqb, false≢true, reverse-append, reverse-reverse, append_cancel_left, unstuffed, run_of, open_gap, AssemblesIn, HoldsGap, HoldsPast, IsJoined, onto, ends_nothing}
use Rattle.lapd_bits.proofs.Vocabulary.{Gap, ones_after, ones_after-reverse, unstuffed_after, unstuffed-counted, unstuffed_after-append, reverse_aux-onto, EndsNothing, IsQuiet, quiet}
use Rattle.lapd_bits.proofs.BitSteps.{open_run, for_open}

pub length-onto : (text past : List Bool) → length (onto text past) ≡ length text + length past
length-onto [] past = omega arith
length-onto (b ∷ text) past = length-onto text (b ∷ past) ∙ omega arith

pub reverse-onto : (text past : List Bool) → reverse (onto text past) ≡ reverse past ++ text
reverse-onto text past =
    ap reverse (reverse_aux-onto text [] past) ∙ reverse-append (reverse text) past
    ∙ ap (λ l. reverse past ++ l) (reverse-reverse text)

-- ---- what such bits bring

pub EndsNothing-by_test : (n : ℕ) (text : List Bool) → ends_nothing n text ≡ true → EndsNothing n text
EndsNothing-by_test n [] q = tt
EndsNothing-by_test n (b ∷ text) q =
    let parts = and_parts (not (nat_eq n 6)) (ends_nothing (if b then suc n else 0) text) q in
    (λ six. false≢true (ap not (sym (eq-eqb n 6 six)) ∙ parts.0), EndsNothing-by_test (if b then suc n else 0) text parts.1)

-- what a deframer then holds
pub HoldsPast-quiet :
    (octets : List ℕ) (ones : ℕ) (gap : Option Gap) (n : ℕ) (text past : List Bool) → IsQuiet 0 n text past
    → ones ≡ min 7 (ones_after n text) → HoldsGap octets gap (option_map (onto text) (open_gap past))
    → HoldsPast octets ones gap (onto text past)
HoldsPast-quiet octets ones gap n text past q e h = grind arith

-- also where no gap is open
pub HoldsGap-none : (octets : List ℕ) (text : List Bool) (o : Option (List Bool)) → HoldsGap octets None o → HoldsGap octets None (option_map (onto text) o)
HoldsGap-none octets text o h = grind arith

-- ---- 1s before a text

pub ones_after-ones : (m n : ℕ) → ones_after m (replicate n true) ≡ m + n
ones_after-ones m zero = omega arith
ones_after-ones m (suc n) = ones_after-ones (suc m) n ∙ omega arith

pub unstuffed_after-ones : (m n : ℕ) → unstuffed_after m (replicate n true) ≡ replicate n true
unstuffed_after-ones m zero = refl
unstuffed_after-ones m (suc n) = ap (λ t. true ∷ t) (unstuffed_after-ones (suc m) n)

run_of-ones : (n : ℕ) → run_of (replicate n true ++ false ∷ []) ≡ min 7 n
run_of-ones zero = refl
run_of-ones (suc n) = omega (arith, run_of-ones n)

-- the run behind a text, after `n` 1s
pub run-after : (n : ℕ) (text : List Bool) → ends_nothing n text ≡ true → run_of (onto text (replicate n true ++ false ∷ [])) ≡ min 7 (ones_after n text)
run-after n text q = (quiet 0 n text (replicate n true ++ false ∷ []) (run_of-ones n) (EndsNothing-by_test n text q)).run

-- what stays of it there
pub stays-after : (n : ℕ) (text content : List Bool) → unstuffed (replicate n true ++ text) ≡ replicate n true ++ content
    → unstuffed_after n text ≡ content
stays-after n text content e = grind (arith, append_cancel_left, unstuffed_after, unstuffed-counted, unstuffed_after-append, ones_after, unstuffed_after-ones, ones_after-ones)

-- ---- a text on the open gap

-- what stays of it joins the gap's octets
pub joined : (past text content : List Bool) → unstuffed_after (run_of past) text ≡ content → IsJoined text content (open_gap past)
joined past text content stays = grind (arith, for_open, reverse-onto, unstuffed-counted, unstuffed_after-append, unstuffed_after, ones_after-reverse, open_run)

-- and the gap stands for it
pub HoldsGap-joined :
    (octets octets' : List ℕ) (gap gap' : Gap) (text content : List Bool) (g : Option (List Bool))
    → gap'.since ≡ min 8 (gap.since + length text)
    → ((t : List Bool) → AssemblesIn octets gap t → AssemblesIn octets' gap' (t ++ content))
    → IsJoined text content g → HoldsGap octets (Some gap) g
    → HoldsGap octets' (Some gap') (option_map (onto text) g)
HoldsGap-joined octets octets' gap gap' text content g since taken joined h = grind (arith, length-onto)
