-- After noise an end hears again just what the other gave. Few bits are left at a port, if the frames that were put there are short.
use Rattle.laws_time.proofs.Vocabulary.{All-weaker, All-replicate, All, All-cons, All-head, All-nil, All-tail, Bool, IsCut, Item, List, Port, Some, [], after_flag, all-right, ap, append-nil, append_assoc, append_cancel_left, arith, bits, bits-append, cases_lt, flag, flat_map, flat_map-append, frame, frame_text, frames_among, gained, heard_in, heard_until, heard_until-onto, heard_with}
use Rattle.laws_time.proofs.Vocabulary.{idle, inl, inr, item_octets}
use Rattle.laws_time.proofs.Vocabulary.{item_text, left_of, length, length-append, length-bits, length-check, length-drop, line_text, longest, longest_text, option_to_list, refl, replicate, reverse_aux, reverse_aux-append, reverse_aux-onto, room_for, subst, suc, sym, zero, ℕ, ◌*◌, ◌++◌, ◌+◌, ◌<◌, ◌∙◌, ◌∷◌, ◌≡◌, ◌≤◌, ◌⊎◌}
use Rattle.model_bits.specs.Stream as stream
use Rattle.model_bits.proofs.RoundTripPlaces.{hears}
use Rattle.laws_time.proofs.OfCircuit.Words.{Fine, stuffed-longest}
use Rattle.laws_time.proofs.OfCircuit.AnsweredBits.{longer-begins, Comes, all_sent}
use Rattle.laws_time.proofs.OfCircuit.ArrivWay.{hears-same, bits-flags, one-of-two, gained-there}

-- ---- so few bits are left of frames that are so short

pub text-longest : (m : ℕ) (item : Item) → item_octets item ≤ m + 4 → length (item_text item) ≤ longest_text m
text-longest m item few = grind (arith, stuffed-longest, length-append, length-bits, length-check)

line-longer : (front : List Item) (last : Item) → length (line_text (front ++ last ∷ [])) ≡ length (line_text front) + length (item_text last)
line-longer [] last = let same = ap length (append-nil (item_text last)) in omega (arith, same)
line-longer (item ∷ front) last =
    let rest = line-longer front last in
    let one = length-append (item_text item) (flat_map item_text (front ++ last ∷ [])) in let two = length-append (item_text item) (flat_map item_text front) in omega (arith, rest, one, two)

pub all-small : (m : ℕ) (items : List Item) → All (λ (octets : List ℕ). length octets ≤ m + 4) (frames_among items) → All (λ item. item_octets item ≤ m + 4) items
all-small m [] h = All-nil (λ item. item_octets item ≤ m + 4)
all-small m (idle ∷ items) h = All-cons (λ item. item_octets item ≤ m + 4) idle items (omega arith) (all-small m items h)
all-small m (frame octets ∷ items) h =
    All-cons (λ item. item_octets item ≤ m + 4) (frame octets) items (All-head (λ (octets : List ℕ). length octets ≤ m + 4) octets (frames_among items) h)
    (all-small m items (All-tail (λ (octets : List ℕ). length octets ≤ m + 4) octets (frames_among items) h))

pub left-few : (m : ℕ) (p : Port) → IsCut p.items p.given → All (λ item. item_octets item ≤ m + 4) p.items → length (left_of p) ≤ longest_text m
left-few m p (inl none) small = grind (arith, length, line_text, length-drop, bits)
left-few m p (inr h) small =
    let all = ap (λ items. length (line_text items)) h.items_are ∙ line-longer h.front h.last in let its = subst (All (λ item. item_octets item ≤ m + 4)) h.items_are small in
    let last = All-head (λ item. item_octets item ≤ m + 4) h.last [] (all-right (λ item. item_octets item ≤ m + 4) h.front (h.last ∷ []) its) in let short = text-longest m h.last last in
    let before = h.before in let left = length-drop (length (bits p.given)) (line_text p.items) in omega (arith, all, left, before, short)

-- And so are the frames among them.
pub frames-small : (m : ℕ) (items : List Item) → All (λ item. item_octets item ≤ m + 4) items → All (λ (octets : List ℕ). length octets ≤ m + 4) (frames_among items)
frames-small m [] h = All-nil (λ (octets : List ℕ). length octets ≤ m + 4)
frames-small m (idle ∷ items) h = frames-small m items (All-tail (λ item. item_octets item ≤ m + 4) idle items h)
frames-small m (frame octets ∷ items) h =
    All-cons (λ (octets : List ℕ). length octets ≤ m + 4) octets (frames_among items) (All-head (λ item. item_octets item ≤ m + 4) (frame octets) items h)
    (frames-small m items (All-tail (λ item. item_octets item ≤ m + 4) (frame octets) items h))

-- ---- after noise an end hears again what the other gave: with each octet just that

-- ---- what came before a flag does not matter

module _ (n201 : ℕ) (S : List ℕ) (value : ℕ) (u part : List Bool) (stands : bits S ≡ u ++ (flag ++ part)) where
  abbrev place : List ℕ → List Bool
  place P = after_flag (reverse_aux (bits P ++ u) [])

  abbrev here : List ℕ → List Bool
  here P = reverse_aux part (place P)

  at-place : (P : List ℕ) → bits (P ++ S) ≡ (bits P ++ u) ++ (flag ++ part)
  at-place P = bits-append P S ∙ ap (λ b. bits P ++ b) stands ∙ sym (append_assoc (bits P) u (flag ++ part))

  heard-so : (P : List ℕ) → heard_in n201 (P ++ S) ≡ heard_until (room_for n201) (here P)
  heard-so P = grind (arith, at-place, reverse_aux-append)

  heard-then : (P : List ℕ) → heard_in n201 ((P ++ S) ++ value ∷ []) ≡ heard_until (room_for n201) (here P) ++ hears (room_for n201) (here P) (bits (value ∷ []))
  heard-then P = grind (arith, bits-append, at-place, reverse_aux-append, heard_until-onto)

  gains : (P : List ℕ) → option_to_list (gained n201 (P ++ S) value) ≡ hears (room_for n201) (here P) (bits (value ∷ []))
  gains h = grind (arith, heard_until, room_for, append_cancel_left, option_to_list, gained, hears, bits, heard-so, heard_with, heard-then)

  onto : (P : List ℕ) → here P ≡ reverse_aux part [] ++ place P
  onto P = reverse_aux-onto part [] (place P)

  pub same-gained : (P Q : List ℕ) → gained n201 (P ++ S) value ≡ gained n201 (Q ++ S) value
  same-gained h h' = grind (arith, room_for, bits, one-of-two, gained, gains, hears, onto, hears-same, reverse_aux)

-- ---- in so many bits of a line a flag stands

pub record FlagAfter (low most : ℕ) (text : List Bool) : Type 0 where
  pub front : List Bool
  pub rest : List Bool
  pub is : text ≡ front ++ (flag ++ rest)
  pub later : low ≤ length front
  pub soon : length front < low + most

its-text : (i : Item) → (y : List Bool) × (item_text i ≡ y ++ flag)
its-text idle = ([], refl)
its-text (frame o) = (frame_text o, refl)

abbrev FlagIn : ℕ → ℕ → List Bool → List Item → Type 0
FlagIn low most x items = FlagAfter low most (x ++ (flag ++ flat_map item_text items))

flag-here : (low most : ℕ) (items : List Item) (x : List Bool) → length x < low + most → low ≤ length x → FlagIn low most x items
flag-here low most items x near late = record { front = x; rest = flat_map item_text items; is = refl; later = late; soon = near }

-- After one item more.
module _ (low most : ℕ) (i : Item) (items : List Item) (x : List Bool) (few : All (λ item. length (item_text item) ≤ most) (i ∷ items)) (near : length x < low + most)
    (enough : low ≤ length x + length (flat_map item_text (i ∷ items))) where
  abbrev more : List Bool
  more = flat_map item_text items

  all : x ++ (flag ++ (item_text i ++ flat_map item_text items)) ≡ (x ++ (flag ++ (its-text i).0)) ++ (flag ++ flat_map item_text items)
  all = grind (arith, flag, its-text, append_assoc)

  flag-on : (length x < low) ⊎ (low ≤ length x) → (length (x ++ (flag ++ (its-text i).0)) < low + most → low ≤ length (x ++ (flag ++ (its-text i).0)) + length more → FlagIn low most (x ++ (flag ++ (its-text i).0)) items) → FlagIn low most x (i ∷ items)
  flag-on h rest = grind (arith, flag-here, length, item_text, length-append, flag, its-text, all)

flag-after : (low most : ℕ) (items : List Item) (x : List Bool) → All (λ item. length (item_text item) ≤ most) items → length x < low + most → low ≤ length x + length (flat_map item_text items)
    → FlagAfter low most (x ++ (flag ++ flat_map item_text items))
flag-after low most [] x few near enough = flag-here low most [] x near (omega (arith, enough))
flag-after low most (i ∷ items) x few near enough =
    flag-on low most i items x few near enough (cases_lt (length x) low)
    (λ near enough. flag-after low most items (x ++ (flag ++ (its-text i).0)) (All-tail (λ item. length (item_text item) ≤ most) i items few) near enough)

-- The flags of the beginning are items, too.
flags-pass : (n : ℕ) (b : List Bool) → flat_map item_text (replicate n idle) ++ (flag ++ b) ≡ flag ++ (flat_map item_text (replicate n idle) ++ b)
flags-pass zero b = refl
flags-pass (suc n) b = let F = flat_map item_text (replicate n idle) in append_assoc flag F (flag ++ b) ∙ ap (λ b. flag ++ b) (flags-pass n b ∙ sym (append_assoc flag F b))

all-flags : (most n : ℕ) → 8 ≤ most → All (λ item. length (item_text item) ≤ most) (replicate n idle)
all-flags most n long = All-replicate (λ item. length (item_text item) ≤ most) n idle long

pub all-texts : (m : ℕ) (items : List Item) → All (λ item. item_octets item ≤ m + 4) items → All (λ item. length (item_text item) ≤ longest_text m) items
all-texts m = All-weaker (λ item. item_octets item ≤ m + 4) (λ item. length (item_text item) ≤ longest_text m) (text-longest m)

-- ---- so what is heard with an octet is what the other gave

module _ (n201 m way k : ℕ) (p : Port) (value : ℕ) (more : List ℕ) (q : Port) (h : Fine n201 p) (c : Comes way k p (value ∷ more) q) (small : All (λ item. item_octets item ≤ m + 4) p.items)
    (enough : (k + (longest m + 1) ≤ length c.before + length c.as_sent) ⊎ (q.received ≡ c.before ++ c.as_sent)) where
  abbrev all_items : List Item
  all_items = replicate way idle ++ p.items

  abbrev tail : List Bool
  tail = bits (value ∷ more) ++ left_of p

  text-is : bits (all_sent way p) ++ left_of p ≡ [] ++ (flag ++ flat_map item_text all_items)
  text-is = grind (arith, left_of, bits-append, replicate, bits, bits-flags, append_assoc, flags-pass, flat_map, item_text, flag, flat_map-append)

  came-is : bits (all_sent way p) ++ left_of p ≡ bits c.before ++ (bits c.as_sent ++ tail)
  came-is = grind (arith, bits, left_of, append_assoc, bits-append)

  long-enough : 8 ≤ longest_text m
  long-enough = omega arith

  -- Since noise ended long ago,
  module _ (old : k + (longest m + 1) ≤ length c.before + length c.as_sent) where
    all-long : 8 * (length c.before + length c.as_sent) + 8 ≤ 8 + length (flat_map item_text all_items)
    all-long =
        let a = ap length (sym came-is ∙ text-is) in let b = length-append (bits c.before) (bits c.as_sent ++ tail) in let d = length-append (bits c.as_sent) tail in
        let e = length-append (bits (value ∷ more)) (left_of p) in let f = length-bits c.before in let g = length-bits c.as_sent in let i = length-bits (value ∷ more) in
        let j = length-append flag (flat_map item_text all_items) in omega (arith, a, b, d, e, f, g, i, j)

    found : FlagAfter (8 * k) (longest_text m) ([] ++ (flag ++ flat_map item_text all_items))
    found =
        let all = all-long in
        flag-after (8 * k) (longest_text m) all_items [] ((Rattle.std.proofs.lemmas.List.Elements.All-append (λ item. length (item_text item) ≤ (longest_text m)) (replicate way idle) p.items) (all-flags (longest_text m) way long-enough) (all-texts m p.items small))
        (let long = long-enough in omega (arith, long)) (omega (arith, all, old))

    u : (u : List Bool) × (found.front ≡ bits c.before ++ u) × (bits c.as_sent ++ tail ≡ u ++ (flag ++ found.rest))
    u = grind (arith, length-bits, longer-begins, came-is, text-is)

    part : (part : List Bool) × (bits c.as_sent ≡ (u.0 ++ flag) ++ part) × (found.rest ≡ part ++ tail)
    part =
        let a = found.soon in let b = ap length u.1 ∙ length-append (bits c.before) u.0 in let d = length-bits c.before in let e = length-bits c.as_sent in let f = length-append u.0 flag in
        longer-begins (u.0 ++ flag) found.rest (bits c.as_sent) tail (append_assoc u.0 flag found.rest ∙ sym u.2) (omega (arith, a, b, d, e, f, old))

    came-so : gained n201 q.received value ≡ gained n201 (c.before ++ c.as_sent) value
    came-so = ap (λ os. gained n201 os value) c.received ∙ same-gained n201 c.as_sent value u.0 part.0 (part.1 ∙ append_assoc u.0 flag part.0) c.noisy c.before

  -- or there was none, it came as it was sent.
  gained-as-sent : gained n201 q.received value ≡ gained n201 (c.before ++ c.as_sent) value
  gained-as-sent = elim enough [ inl long ↦ came-so long | inr same ↦ ap (λ os. gained n201 os value) same ]

  all-given : replicate way 0x7E ++ p.given ≡ (c.before ++ c.as_sent) ++ (value ∷ more)
  all-given = c.sent

  -- What is heard stood in what the other gave.
  pub heard-was : (e : stream.Event) → gained n201 q.received value ≡ Some e → (before : List ℕ) × (p.given ≡ before ++ value ∷ more) × (gained n201 before value ≡ Some e)
  heard-was e gains = grind (arith, gained-there, all-given, gained-as-sent)
