-- What a `frame` job has written where it ends.
use Rattle.lapd_script.proofs.Vocabulary.{◌≡◌, ℕ, zero, suc, ◌≤◌, List, [], ◌∷◌, ◌++◌, length, take, Result, Ok, Err, refl, ap, sym, subst, arith, IsErr, IsErrAnd, false≢true, Side, Parts, Spells, octets, WriteFailed, shown_text, on_line_text, Taken, IsWritten, IsBroken, broken_more, writes_then, FrameFault, on_line, IsShown, IsUnshown, ShowsFrame}
use Rattle.lapd_script.specs.declared.shown.FrameFault.TheVariants.{Write, OutOfMemory}

-- the exit of a `?`
pub exit_is : (r : Result Unit FrameFault) (fault : FrameFault) → IsErr r × IsErrAnd r (λ why. why ≡ fault) → r ≡ Err fault
exit_is (Ok u) fault h = absurd (false≢true h.0)
exit_is (Err why) fault h = ap (λ one. Err one) h.1

-- nothing has been written
pub unshown : (r : Result Unit FrameFault) (fault : FrameFault) (side : Side) (digits : List ℕ) (a : Taken) → r ≡ Err fault → IsUnshown fault side digits → ShowsFrame r side digits a a
unshown r fault side digits a e h = grind arith

pub length-take_most : (n : ℕ) (l : List ℕ) → length (take n l) ≤ n
length-take_most zero l = omega arith
length-take_most (suc n) [] = omega arith
length-take_most (suc n) (x ∷ l) = omega (arith, length-take_most n l)

pub shown_is : (side : Side) (digits room line : List ℕ) (count : ℕ) (frame : Parts) → octets digits ≡ Ok (take count room) → count ≤ 1028 → Spells side frame (take count room) → line ≡ on_line (take count room)
    → IsShown side digits (shown_text frame ++ on_line_text line)
shown_is side digits room line count frame digits_are short spelled e = grind (arith, length-take_most)

-- memory was refused
pub without_memory : (r : Result Unit FrameFault) (side : Side) (digits text : List ℕ) (a : Taken) → r ≡ Err OutOfMemory → IsShown side digits text → ShowsFrame r side digits a a
without_memory r side digits text a e shown = subst (λ s. ShowsFrame s side digits a a) (sym e) (text, shown, refl)

-- a write failed: of the first line,
pub broken_first : (r : Result Unit FrameFault) (side : Side) (digits first second : List ℕ) (a b : Taken) → r ≡ Err Write → IsShown side digits (first ++ second) → IsBroken a b first → ShowsFrame r side digits a b
broken_first r side digits first second a b e shown broken = subst (λ s. ShowsFrame s side digits a b) (sym e) (first ++ second, shown, broken_more a b first second broken)

-- or of the second
pub broken_second : (r : Result Unit FrameFault) (why : WriteFailed) (side : Side) (digits first second : List ℕ) (a b c : Taken) → r ≡ Err Write → IsShown side digits (first ++ second) → IsWritten a b first → IsBroken b c second
    → ShowsFrame r side digits a c
broken_second r why side digits first second a b c e shown written broken =
    subst (λ s. ShowsFrame s side digits a c) (sym e) (first ++ second, shown, writes_then (Err why) a b c first second written broken)

-- both lines have been written
pub written_both : (side : Side) (digits first second : List ℕ) (a b c : Taken) → IsShown side digits (first ++ second) → IsWritten a b first → IsWritten b c second
    → (text : List ℕ) × IsShown side digits text × IsWritten a c text
written_both side digits first second a b c shown h k = (first ++ second, shown, writes_then (Ok tt) a b c first second h k)
