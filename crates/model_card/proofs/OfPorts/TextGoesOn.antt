-- The octets given are a beginning of the text of the items.
use Rattle.model_card.proofs.OfPorts.Vocabulary.{◌≡◌, ◌≤◌, Bool, List, [], ◌∷◌, ◌++◌, length, drop, ap, sym, ◌∙◌, arith, length-append, append_assoc, length-take-le, take-append-drop, drop-append_seam, bits, Item, item_text, line_text, bits-push, low_bits-number_of_n, line_text-push, Port, left_of, with_octet, IsTextOf}

-- The bits of an octet are left.
pub record IsReady (p : Port) : Type 0 where
  pub text : line_text p.items ≡ bits p.given ++ left_of p
  pub enough : 8 ≤ length (left_of p)

-- what is left of a text after its beginning
pub left_is : (p : Port) (left : List Bool) → line_text p.items ≡ bits p.given ++ left → left_of p ≡ left
left_is p left e = ap (drop (length (bits p.given))) e ∙ drop-append_seam (bits p.given) left

pub text_of : (p : Port) (left : List Bool) → line_text p.items ≡ bits p.given ++ left → IsTextOf p
text_of p left e = record { text = e ∙ ap (λ x. bits p.given ++ x) (sym (left_is p left e)) }

-- an octet is given
pub text_with_octet : (p : Port) → IsReady p → line_text p.items ≡ bits (with_octet p).given ++ drop 8 (left_of p)
text_with_octet p ready = grind (arith, take-append-drop, append_assoc, low_bits-number_of_n, length-take-le, bits-push)

pub one_given : (p : Port) → IsReady p → IsTextOf (with_octet p)
one_given p ready = text_of (with_octet p) (drop 8 (left_of p)) (text_with_octet p ready)

abbrev pub put_on : Item → Port → Port
put_on item p = record p { items = p.items ++ item ∷ [] }

-- an item goes on
pub text_with_item : (p : Port) (item : Item) → IsTextOf p → line_text (put_on item p).items ≡ bits p.given ++ (left_of p ++ item_text item)
text_with_item p item h = grind (arith, line_text-push, append_assoc)

-- what is left then
pub left_with_octet : (p : Port) → IsReady p → left_of (with_octet p) ≡ drop 8 (left_of p)
left_with_octet p ready = left_is (with_octet p) (drop 8 (left_of p)) (text_with_octet p ready)

pub left_with_item : (p : Port) (item : Item) → IsTextOf p → left_of (put_on item p) ≡ left_of p ++ item_text item
left_with_item p item h = left_is (put_on item p) (left_of p ++ item_text item) (text_with_item p item h)

pub one_item : (p : Port) (item : Item) → IsTextOf p → IsReady (put_on item p)
one_item p item h =
    let left = left_of p ++ item_text item in
    let text = text_with_item p item h in
    let is : left_of (put_on item p) ≡ left = left_is (put_on item p) left text in
    grind (arith, text_of, length-append)
