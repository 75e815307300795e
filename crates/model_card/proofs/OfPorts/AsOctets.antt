-- The bits of items are those of the octets that go out.
use Rattle.model_card.proofs.OfPorts.Vocabulary.{◌≡◌, ℕ, ◌+◌, ◌%◌, ◌<◌, ◌≤◌, List, [], ◌∷◌, ◌++◌, length, map, flat_map, slice_index, refl, ap, ◌∙◌, arith, map-append, low_bits-mod, All, All-nil, All-cons, All-head, All-tail, bits, low_bits, flag, check, stuffed, Item, idle, frame, item_text, line_text, AreOctets, frames_among, AreHeardWhole, IsNotShort, as_octets, item_octets}
use Rattle.model_card.proofs.OfPorts.LastItem.{IsCut, IsLongItem}

octets_are : (numbers : List ℕ) → AreOctets (as_octets numbers)
octets_are [] = All-nil (λ octet. octet < 256)
octets_are (x ∷ xs) = All-cons (λ octet. octet < 256) (x % 256) (as_octets xs) (omega arith) (octets_are xs)

pub as_many : (numbers : List ℕ) → length (as_octets numbers) ≡ length numbers
as_many [] = refl
as_many (x ∷ xs) = let rest = as_many xs in omega (arith, rest)

same_bits : (numbers : List ℕ) → bits (as_octets numbers) ≡ bits numbers
same_bits [] = refl
same_bits (x ∷ xs) = ap (λ b. b ++ bits (as_octets xs)) (low_bits-mod 8 x) ∙ ap (λ b. low_bits 8 x ++ b) (same_bits xs)

-- octets go out as they are
pub exact : (numbers : List ℕ) → AreOctets numbers → as_octets numbers ≡ numbers
exact [] h = refl
exact (x ∷ xs) h =
    let small : x < 256 = All-head (λ octet. octet < 256) x xs h in
    let same : x % 256 ≡ x = omega (arith, small) in
    ap (λ y. y ∷ as_octets xs) same ∙ ap (λ ys. x ∷ ys) (exact xs (All-tail (λ octet. octet < 256) x xs h))

pub all_exact : (frames : List (List ℕ)) → All AreOctets frames → map as_octets frames ≡ frames
all_exact [] h = refl
all_exact (f ∷ frames) h =
    ap (λ g. g ∷ map as_octets frames) (exact f (All-head AreOctets f frames h)) ∙ ap (λ fs. f ∷ fs) (all_exact frames (All-tail AreOctets f frames h))

-- An item as it goes out.
abbrev pub sent : Item → Item
sent idle = idle
sent (frame octets) = frame (as_octets octets)

same_item : (item : Item) → item_text (sent item) ≡ item_text item
same_item idle = refl
same_item (frame octets) = ap (λ b. stuffed (b ++ check b) ++ flag) (same_bits octets)

same_items : (items : List Item) → flat_map item_text (map sent items) ≡ flat_map item_text items
same_items [] = refl
same_items (i ∷ is) = ap (λ x. x ++ flat_map item_text (map sent is)) (same_item i) ∙ ap (λ x. item_text i ++ x) (same_items is)

pub same_text : (items : List Item) → line_text (map sent items) ≡ line_text items
same_text items = ap (λ x. flag ++ x) (same_items items)

pub frames_sent : (items : List Item) → frames_among (map sent items) ≡ map as_octets (frames_among items)
frames_sent [] = refl
frames_sent (idle ∷ is) = frames_sent is
frames_sent (frame octets ∷ is) = ap (λ fs. as_octets octets ∷ fs) (frames_sent is)

pub cut_sent : (items : List Item) (given : List ℕ) → IsCut items given → IsCut (map sent items) given
cut_sent items given o = grind (arith, map-append, same_text)

-- As octets each frame is heard whole.
third_rest : (numbers : List ℕ) → slice_index (as_octets numbers) 2 % 4 ≡ slice_index numbers 2 % 4
third_rest [] = refl
third_rest (a ∷ []) = refl
third_rest (a ∷ b ∷ []) = refl
third_rest (a ∷ b ∷ c ∷ rest) = let same : c % 256 % 4 ≡ c % 4 = omega arith in same

still_not_short : (numbers : List ℕ) → IsNotShort numbers → IsNotShort (as_octets numbers)
still_not_short numbers o = grind (arith, as_many, third_rest)

pub heard_whole : (n201 : ℕ) (items : List Item) → All IsLongItem items → All (λ item. item_octets item ≤ n201 + 4) items → AreHeardWhole n201 (map sent items)
heard_whole n201 [] long short = tt
heard_whole n201 (idle ∷ items) long short =
    heard_whole n201 items (All-tail IsLongItem idle items long) (All-tail (λ item. item_octets item ≤ n201 + 4) idle items short)
heard_whole n201 (frame octets ∷ items) long short =
    let few : length octets ≤ n201 + 4 = All-head (λ item. item_octets item ≤ n201 + 4) (frame octets) items short in (
      record {
        octets_are = octets_are octets;
        not_short = still_not_short octets (All-head IsLongItem (frame octets) items long);
        not_long = omega (arith, few, as_many octets);
      },
      heard_whole n201 items (All-tail IsLongItem (frame octets) items long) (All-tail (λ item. item_octets item ≤ n201 + 4) (frame octets) items short),
    )
