-- Many bits fed to a register at once.
use Rattle.lapd_bits.proofs.Vocabulary.{◌≡◌, ℕ, ◌+◌, Bool, false, not, List, [], ◌∷◌, ◌++◌, length, replicate, refl, sym, ap, ◌∙◌, append_assoc, append-nil, length-append, arith, beq, fold, replicate-append-replicate, fold-append, plus, brought_down, remainder, differ_self, plus-swap, plus-append, plus-zeros, plus_zeros_of, plus_twice, plus-comm, length-plus, brought_down-plus, remainder-plus}
use Rattle.lapd_bits.proofs.Vocabulary.{length-remainder, divided_zeros, with_bit, length-with_bit, remainder-text_below}
use Rattle.std.proofs.Math.ListN.{length-replicate}

-- ---- a sum of registers, fed with a sum of texts

abbrev first : List Bool → Bool
first [] = false
first (a ∷ p) = a

-- the inner two of four bits change places
differ-swap : (a b c d : Bool) → not (beq (not (beq a b)) (not (beq c d))) ≡ not (beq (not (beq a c)) (not (beq b d)))
differ-swap a b c d = ap first (plus-swap (a ∷ []) (b ∷ []) (c ∷ []) (d ∷ []))

with_bit-plus :
    (s t : List Bool) (a b : Bool) → length s ≡ 16 → length t ≡ 16
    → with_bit (plus s t) (not (beq a b)) ≡ plus (with_bit s a) (with_bit t b)
with_bit-plus [] t a b s_size t_size = absurd (omega arith)
with_bit-plus (x ∷ r) [] a b s_size t_size = absurd (omega arith)
with_bit-plus (x ∷ r) (y ∷ q) a b s_size t_size =
    ap (λ z. brought_down (z ∷ plus r q) false) (differ-swap x y a b)
    ∙ brought_down-plus (not (beq x a) ∷ r) (not (beq y b) ∷ q) false false s_size t_size

fed-plus :
    (p q s t : List Bool) → length p ≡ length q → length s ≡ 16 → length t ≡ 16
    → fold with_bit (plus s t) (plus p q) ≡ plus (fold with_bit s p) (fold with_bit t q)
fed-plus [] [] s t same s_size t_size = refl
fed-plus [] (b ∷ q) s t same s_size t_size = absurd (omega arith)
fed-plus (a ∷ p) [] s t same s_size t_size = absurd (omega arith)
fed-plus (a ∷ p) (b ∷ q) s t same s_size t_size =
    let rest : length p ≡ length q = omega arith in
    ap (λ l. fold with_bit l (plus p q)) (with_bit-plus s t a b s_size t_size)
    ∙ fed-plus p q (with_bit s a) (with_bit t b) rest (length-with_bit s a s_size) (length-with_bit t b t_size)

-- ---- what a register takes of a text

-- bits that meet themselves leave zeros
fed-itself : (p h : List Bool) → fold with_bit (p ++ h) p ≡ h ++ replicate (length p) false
fed-itself [] h = sym (append-nil h)
fed-itself (b ∷ p) h =
    ap (λ x. fold with_bit (brought_down (x ∷ (p ++ h)) false) p) (differ_self b)
    ∙ ap (λ l. fold with_bit l p) (append_assoc p h (false ∷ []))
    ∙ fed-itself p (h ++ false ∷ [])
    ∙ append_assoc h (false ∷ []) (replicate (length p) false)

-- a register of zeros takes in the division of the text
fed-zeros : (t : List Bool) → fold with_bit (replicate 16 false) t ≡ remainder (t ++ replicate 16 false)
fed-zeros t =
    sym (remainder-text_below t (replicate 16 false) refl)
    ∙ ap (λ l. remainder (plus (t ++ replicate 16 false) l)) (replicate-append-replicate 16 (length t) false)
    ∙ ap remainder (plus_zeros_of (t ++ replicate 16 false) (16 + length t) (omega (arith, length-append t (replicate 16 false))))

-- A text, no longer than a register, is fed to it: the bits that it meets go in with it, the others move up.
pub fed-met :
    (p h t : List Bool) → length (p ++ h) ≡ 16 → length t ≡ length p
    → fold with_bit (p ++ h) t ≡ plus (h ++ replicate (length p) false) (remainder (plus p t ++ replicate 16 false))
fed-met p h t size same =
    let zeros : List Bool = replicate 16 false in
    let met : List Bool = plus p t in
    let text : t ≡ plus p met =
    sym (plus_twice t p same) ∙ plus-comm (plus t p) p ∙ ap (λ l. plus p l) (plus-comm t p) in
    ap (λ l. fold with_bit (p ++ h) l) text
    ∙ ap (λ l. fold with_bit l (plus p met)) (sym (plus_zeros_of (p ++ h) 16 size))
    ∙ fed-plus p met (p ++ h) zeros (sym (length-plus p t (sym same))) size refl
    ∙ ap (λ l. plus l (fold with_bit zeros met)) (fed-itself p h)
    ∙ ap (λ l. plus (h ++ replicate (length p) false) l) (fed-zeros met)

-- A text whose first bits meet the whole register is fed to it: no part of the register stays.
pub fed-longer :
    (s t more : List Bool) → length s ≡ 16 → length t ≡ 16
    → fold with_bit s (t ++ more) ≡ remainder ((plus s t ++ more) ++ replicate 16 false)
fed-longer s t more size same =
    let zeros : List Bool = replicate 16 false in
    let others : List Bool = replicate (length more) false in
    let met : List Bool = plus s t in
    let met_size : length met ≡ 16 = length-plus s t (size ∙ sym same) ∙ size in
    let text : t ++ more ≡ plus (s ++ others) (met ++ more) =
    ap (λ l. l ++ more) (sym (plus_twice t s (same ∙ sym size)) ∙ plus-comm (plus t s) s ∙ ap (λ l. plus s l) (plus-comm t s))
    ∙ ap (λ l. plus s met ++ l) (sym (plus-zeros more) ∙ plus-comm more others)
    ∙ sym (plus-append s met others more (size ∙ sym met_size)) in
    let sizes : length (s ++ others) ≡ length (met ++ more) =
    omega (arith, length-append s others, length-append met more, length-replicate (length more) false, size, met_size) in
    let nothing : fold with_bit s (s ++ others) ≡ zeros =
    fold-append with_bit s s others
    ∙ ap (λ l. fold with_bit l others) (ap (λ l. fold with_bit l s) (sym (append-nil s)) ∙ fed-itself s [] ∙ ap (λ n. replicate n false) size)
    ∙ fed-zeros others
    ∙ ap remainder (replicate-append-replicate (length more) 16 false) ∙ divided_zeros (length more + 16) in
    ap (λ l. fold with_bit s l) text
    ∙ ap (λ l. fold with_bit l (plus (s ++ others) (met ++ more))) (sym (plus_zeros_of s 16 size))
    ∙ fed-plus (s ++ others) (met ++ more) s zeros sizes size refl
    ∙ ap (λ l. plus l (fold with_bit zeros (met ++ more))) nothing
    ∙ ap (λ l. plus zeros l) (fed-zeros (met ++ more))
    ∙ plus-comm zeros (remainder ((met ++ more) ++ zeros))
    ∙ plus_zeros_of (remainder ((met ++ more) ++ zeros)) 16 (length-remainder ((met ++ more) ++ zeros))

-- zeros before a text change nothing of its division, and a text goes in part by part
pub remainder-first :
    (a b : List Bool) → remainder ((a ++ b) ++ replicate 16 false)
    ≡ plus (remainder (a ++ replicate (length b + 16) false)) (remainder (b ++ replicate 16 false))
remainder-first a b =
    let low : List Bool = b ++ replicate 16 false in
    let n = length b + 16 in
    let low_size : length low ≡ n = length-append b (replicate 16 false) in
    let zeros : List Bool = replicate (length a) false in
    let parts : (a ++ b) ++ replicate 16 false ≡ plus (a ++ replicate n false) (zeros ++ low) =
    append_assoc a b (replicate 16 false)
    ∙ ap (λ l. l ++ low) (sym (plus-zeros a))
    ∙ ap (λ l. plus a zeros ++ l) (sym (plus_zeros_of low n low_size) ∙ plus-comm low (replicate n false))
    ∙ sym (plus-append a zeros (replicate n false) low (sym (length-replicate (length a) false))) in
    let same : length (a ++ replicate n false) ≡ length (zeros ++ low) =
    omega (arith, length-append a (replicate n false), length-append zeros low, length-replicate (length a) false, length-replicate n false, low_size) in
    ap remainder parts ∙ remainder-plus (a ++ replicate n false) (zeros ++ low) same
    ∙ ap (λ l. plus (remainder (a ++ replicate n false)) l) (remainder-zeros_before (length a) low)
  where
    remainder-zeros_before : (n : ℕ) (t : List Bool) → remainder (replicate n false ++ t) ≡ remainder t
    remainder-zeros_before n t = grind (arith, fold-append, divided_zeros)
