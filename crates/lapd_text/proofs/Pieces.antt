-- The pieces of the line about a frame.
use Rattle.lapd_text.proofs.Vocabulary.{arith, ◌≡◌, ℕ, ◌+◌, ◌<◌, ◌≤◌, Bool, true, false, if◌then◌else◌, Bor, List, [], ◌∷◌, ◌++◌, length, take, get_or, take_more, codes, Option, Some, None, is_some, option_map, refl, ap, sym, subst, ◌∙◌, append_assoc, append-nil, length-append, length-flat_map-take, flat_map, flat_map-append, Seq, joined, number_text}

-- pieces, and then a text
abbrev pub before : List (List ℕ) → List ℕ → List ℕ
before [] text = text
before (piece ∷ pieces) text = piece ++ before pieces text

-- one piece, and what follows it
pub piece_is : (piece text more rest : List ℕ) → piece ≡ text → more ≡ rest → piece ++ more ≡ text ++ rest
piece_is piece text more rest e f = ap (λ p. p ++ more) e ∙ ap (λ m. text ++ m) f

-- a number's name and its digits, where there is one
abbrev pub value_of : Option Seq → Option ℕ
value_of number = option_map (λ (n : Seq). n.value) number

named : (name : List ℕ) (number : Option Seq) → (if is_some number then name else []) ++ number_text [] (value_of number) ≡ number_text name (value_of number)
named name None = refl
named name (Some n) = refl

pub number_is : (name piece digits more rest : List ℕ) (has : Bool) (number : Option Seq) (said : Option ℕ) → value_of number ≡ said → has ≡ is_some number
    → piece ≡ (if has then name else []) → digits ≡ number_text [] (value_of number) → more ≡ rest → piece ++ (digits ++ more) ≡ number_text name said ++ rest
number_is name piece digits more rest has number said e h p d f = grind (arith, piece_is, append_assoc, named)

-- a message of TEI management: name, the two octets of Ri, and Ai
pub message_is : (name high low pair action : List ℕ) → high ++ low ≡ pair
    → codes " " ++ (name ++ (codes ", Ri " ++ (high ++ (low ++ (codes ", Ai " ++ (action ++ []))))))
    ≡ codes " " ++ name ++ codes ", Ri " ++ pair ++ codes ", Ai " ++ action
message_is name high low pair action e =
    ap (λ l. codes " " ++ (name ++ (codes ", Ri " ++ (high ++ (low ++ (codes ", Ai " ++ l)))))) (append-nil action)
    ∙ ap (λ l. codes " " ++ (name ++ (codes ", Ri " ++ l))) (sym (append_assoc high low (codes ", Ai " ++ action)))
    ∙ ap (λ l. codes " " ++ (name ++ (codes ", Ri " ++ (l ++ (codes ", Ai " ++ action))))) e
    ∙ simp append_assoc

-- one piece more, and that it has room where all have
abbrev pub nowhere : Bor (List ℕ)
nowhere = record { ref_ptr = (0, 0); now = [] }

abbrev text_of : Bor (List ℕ) → List ℕ
text_of piece = piece.now

pub one_piece_more : (pieces : List (Bor (List ℕ))) (i : ℕ) (items : List ℕ) → i < length pieces → items ≡ joined (take i pieces)
    → items ++ (get_or pieces i nowhere).now ≡ joined (take (i + 1) pieces)
one_piece_more pieces i items h e =
    ap (λ text. text ++ (get_or pieces i nowhere).now) e
    ∙ ap (λ text. joined (take i pieces) ++ text) (sym (append-nil (get_or pieces i nowhere).now))
    ∙ sym (flat_map-append text_of (take i pieces) (get_or pieces i nowhere ∷ []))
    ∙ ap (flat_map text_of) (sym (take_more pieces i nowhere h))

pub piece_fits : (pieces : List (Bor (List ℕ))) (i : ℕ) (items : List ℕ) (n : ℕ) → length (joined pieces) ≤ n → i < length pieces → items ≡ joined (take i pieces)
    → length items + length (get_or pieces i nowhere).now ≤ n
piece_fits pieces i items n room h e =
    let part = length-flat_map-take text_of pieces i nowhere h in
    subst (λ (l : List ℕ). length l + length (get_or pieces i nowhere).now ≤ n) (sym e) (omega (arith, part, room))

-- where each piece is short, so is the head
pub short_head : (word sapi tei command name ns_word ns nr_word nr bit_word bit : List ℕ) → length word ≤ 5 → length sapi ≤ 20 → length tei ≤ 20 → length command ≤ 10 → length name ≤ 5
    → length ns_word ≤ 4 → length ns ≤ 20 → length nr_word ≤ 4 → length nr ≤ 20 → length bit_word ≤ 3 → length bit ≤ 1
    → length (word ++ (sapi ++ (codes " tei " ++ (tei ++ (command ++ (name ++ (ns_word ++ (ns ++ (nr_word ++ (nr ++ (bit_word ++ (bit ++ codes " info ")))))))))))) ≤ 128
short_head word sapi tei command name ns_word ns nr_word nr bit_word bit a b c d e f g h i j k = simp length-append (omega (arith, a, b, c, d, e, f, g, h, i, j, k))

pub one_of_short : (test : Bool) (one other piece : List ℕ) (n : ℕ) → length one ≤ n → length other ≤ n → piece ≡ (if test then one else other) → length piece ≤ n
one_of_short true one other piece n h k e = subst (λ (l : List ℕ). length l ≤ n) (sym e) h
one_of_short false one other piece n h k e = subst (λ (l : List ℕ). length l ≤ n) (sym e) k
