-- What a terminal has put on its line, up to the octets of a frame that it sends.
use Rattle.lapd_transcript.proofs.Vocabulary.{◌≡◌, ℕ, zero, suc, ◌+◌, ◌*◌, ◌%◌, ◌==◌, ◌<◌, ◌≤◌, Bool, true, if◌then◌else◌, List, [], ◌∷◌, ◌++◌, length, drop, refl, ap, sym, ◌∙◌, subst, arith, append_assoc, length-append, le-ltb, lt-ltb, ne_eqb, append-nil, drop_at, All-append, All-head, All-tail, bits, flag, low_bits, octets_of, stuffed, Framing, refilled, with_idle, Item, idle, frame}
use Rattle.lapd_transcript.proofs.Vocabulary.{item_text, line_text, AreOctets, bits-append, length-bits, length-low_bits, length-check, number_of-low_bits, HasPut, Sends, with_frame, sending}
use Rattle.model_bits.specs.Framer as framing
use Rattle.lapd_transcript.specs.Terminal.{Terminal, octets_sent, after_sending}
use Rattle.lapd_transcript.specs.declared.terminal.Terminal as rust

-- ---- octets of bits

-- bits that begin with those of octets
octets_of-bits_then : (octets : List ℕ) (more : List Bool) → AreOctets octets → octets_of (bits octets ++ more) ≡ octets ++ octets_of more
unfolding low_bits
octets_of-bits_then [] more h = refl
octets_of-bits_then (octet ∷ octets) more h =
    ap (λ x. x ∷ octets_of (bits octets ++ more)) (number_of-low_bits 8 octet (All-head (λ x. x < 256) octet octets h))
    ∙ ap (λ l. octet ∷ l) (octets_of-bits_then octets more (All-tail (λ x. x < 256) octet octets h))

-- fewer than eight bits
octets_of-few : (few : List Bool) → length few < 8 → octets_of few ≡ []
octets_of-few (a ∷ b ∷ c ∷ d ∷ e ∷ f ∷ g ∷ i ∷ more) h = absurd (omega arith)
octets_of-few _ h = refl

-- what is left of a line's octets after those that were given before
octets_since : (framer : Framing) (items : List Item) (given octets : List ℕ) (tail : List Bool) → AreOctets octets → framing.FramerStands framer items (given ++ octets)
    → octets_of (drop (8 * length given) (line_text items ++ tail)) ≡ octets ++ octets_of (framer.left ++ tail)
octets_since framer items given octets tail are_octets s =
    let text : line_text items ++ tail ≡ bits given ++ (bits octets ++ (framer.left ++ tail)) =
    ap (λ l. l ++ tail) (s.text ∙ ap (λ l. l ++ framer.left) (bits-append given octets))
    ∙ append_assoc (bits given ++ bits octets) framer.left tail
    ∙ append_assoc (bits given) (bits octets) (framer.left ++ tail) in
    ap (λ l. octets_of (drop (8 * length given) l)) text
    ∙ ap octets_of (drop_at (bits given) (bits octets ++ (framer.left ++ tail)) (8 * length given) (length-bits given))
    ∙ octets_of-bits_then octets (framer.left ++ tail) are_octets

-- ---- the items of a terminal that sends a frame

-- how many bits are left tells whether the last octet is whole
length-text : (framer : Framing) (items : List Item) (given : List ℕ) → framing.FramerStands framer items given → length (line_text items) ≡ 8 * length given + length framer.left
length-text framer items given s = ap length s.text ∙ length-append (bits given) framer.left ∙ ap (λ n. n + length framer.left) (length-bits given)

whole_where : (framer : Framing) (octets : List ℕ) (t : Terminal) (given : List ℕ) → framing.FramerStands framer (with_frame octets t.items) given → length framer.left ≡ 0 → with_frame octets t.items ≡ sending octets t
whole_where framer octets t given s none =
    let items = with_frame octets t.items in
    let whole : length (line_text items) % 8 ≡ 0 = omega (arith, length-text framer items given s, none) in
    sym (ap (λ n. if n == 0 then items else items ++ idle ∷ []) whole)

rest_where : (framer : Framing) (octets : List ℕ) (t : Terminal) (given : List ℕ) → framing.FramerStands framer (with_frame octets t.items) given → 0 < length framer.left → length framer.left < 8
    → with_idle framer.left (with_frame octets t.items) ≡ sending octets t
rest_where framer octets t given s some few =
    let items = with_frame octets t.items in
    let size = length-text framer items given s in
    let rest : length (line_text items) % 8 ≡ 0 → ⊥ = λ whole. absurd (omega (arith, size, whole)) in
    ap (λ b. if b then items ++ idle ∷ [] else items) (lt-ltb (length framer.left) 8 few)
    ∙ sym (ap (λ b. if b then items else items ++ idle ∷ []) (ne_eqb (length (line_text items) % 8) 0 rest))

-- ---- how long it is

-- a text grows by a fifth at most
length-stuffed_most : (b : List Bool) → 5 * length (stuffed b) ≤ 6 * length b
length-stuffed_most [] = omega arith
length-stuffed_most (true ∷ true ∷ true ∷ true ∷ true ∷ b) = omega (arith, length-stuffed_most b)
length-stuffed_most (x ∷ b) = omega (arith, length-stuffed_most b)

frame_fits : (octets : List ℕ) → length octets ≤ 1028 → length (item_text (frame octets)) ≤ 9896
frame_fits octets few = grind (arith, length-append, length-bits, length-check, length-stuffed_most)

-- an octet takes eight of the bits that are left
pub octet_takes : (left new : List Bool) (octet : ℕ) → low_bits 8 octet ++ new ≡ refilled left → 8 ≤ length left → 8 + length new ≡ length left
octet_takes left new octet is enough = grind (arith, le-ltb, length-append, length-low_bits)

-- and where none is left, an idle flag goes on first
pub rest_stays : (left new : List Bool) (octet : ℕ) → low_bits 8 octet ++ new ≡ refilled left → length left < 8 → length new ≡ length left
rest_stays left new octet is few =
    let taken : low_bits 8 octet ++ new ≡ left ++ flag = rw (lt-ltb (length left) 8 few) at is in
    omega (arith, ap length taken, length-append (low_bits 8 octet) new, length-low_bits 8 octet, length-append left flag)

-- a frame that is loaded
pub loaded_fits : (left new : List Bool) (sent octets : List ℕ) → new ≡ left ++ item_text (frame sent) → sent ≡ octets → length octets ≤ 1028 → length new ≤ length left + 9896
loaded_fits left new sent octets is same few =
    omega (arith, ap length is, length-append left (item_text (frame sent)), ap (λ l. length (item_text (frame l))) same, frame_fits octets few)

-- ---- what is put

with_one : (octets : List ℕ) (octet : ℕ) → AreOctets octets → octet < 256 → AreOctets (octets ++ octet ∷ [])
with_one octets octet are small = All-append (λ x. x < 256) octets (octet ∷ []) are one
  where
    one : AreOctets (octet ∷ [])
    one zero d k = small
    one (suc n) d k = absurd (omega arith)

-- nothing yet
pub nothing_put : (framer : Framing) (items : List Item) (given : List ℕ) → framing.FramerStands framer items given → HasPut framer given [] items
nothing_put framer items given s = grind (arith, append-nil)

-- How an octet leads a framer on.
abbrev pub Steps : Framing → Framing → ℕ → Type 0
Steps old new octet = (items : List Item) (given : List ℕ) → framing.FramerStands old items given → framing.FramerStands new (with_idle old.left items) (given ++ octet ∷ [])

-- one octet of a framer that is busy
pub put_more : (old new : Framing) (before octets : List ℕ) (octet : ℕ) (items : List Item) → octet < 256 → 8 ≤ length old.left → Steps old new octet
    → HasPut old before octets items → HasPut new before (octets ++ octet ∷ []) items
put_more old new before octets octet items small busy steps put = record {
  are_octets = with_one octets octet put.are_octets small;
  stands = subst (λ l. framing.FramerStands new items l) (append_assoc before octets (octet ∷ []))
      (subst (λ b. framing.FramerStands new (if b then items ++ idle ∷ [] else items) ((before ++ octets) ++ octet ∷ [])) (le-ltb (length old.left) 8 busy) (steps items (before ++ octets) put.stands));
}

-- a frame that is loaded
pub loaded_put : (old loaded : Framing) (before octets sent given : List ℕ) (items : List Item) → sent ≡ given
    → ((items : List Item) (given : List ℕ) → framing.FramerStands old items given → framing.FramerStands loaded (items ++ frame sent ∷ []) given)
    → HasPut old before octets items → HasPut loaded before octets (items ++ frame given ∷ [])
loaded_put old loaded before octets sent given items is loads put = grind arith

-- no bit is left after the closing flag
pub whole_put : (framer : Framing) (sent : List ℕ) (t : Terminal) (before octets : List ℕ) → length framer.left ≡ 0 → HasPut framer before octets (with_frame sent t.items) → HasPut framer before octets (sending sent t)
whole_put framer sent t before octets none put =
    subst (λ items. HasPut framer before octets items) (whole_where framer sent t (before ++ octets) put.stands none) put

-- some are, and then an idle flag begins
pub rest_put : (old new : Framing) (sent : List ℕ) (t : Terminal) (before octets : List ℕ) (octet : ℕ) → octet < 256 → 0 < length old.left → length old.left < 8 → Steps old new octet
    → HasPut old before octets (with_frame sent t.items) → HasPut new before (octets ++ octet ∷ []) (sending sent t)
rest_put old new sent t before octets octet small some few steps put = record {
  are_octets = with_one octets octet put.are_octets small;
  stands = subst (λ l. framing.FramerStands new (sending sent t) l) (append_assoc before octets (octet ∷ []))
      (subst (λ items. framing.FramerStands new items ((before ++ octets) ++ octet ∷ [])) (rest_where old sent t (before ++ octets) put.stands some few)
      (steps (with_frame sent t.items) (before ++ octets) put.stands));
}

-- where no whole octet is left, that is what is sent
sent_is : (framer : Framing) (sent : List ℕ) (t : Terminal) (before octets : List ℕ) → length before ≡ t.given → length framer.left < 8
    → HasPut framer before octets (sending sent t) → octets ≡ octets_sent sent t
sent_is framer sent t before octets many few put =
    let items = sending sent t in
    let none : octets_of (framer.left ++ []) ≡ [] = ap octets_of (append-nil framer.left) ∙ octets_of-few framer.left few in
    sym
    (ap (λ n. octets_of (drop (8 * n) (line_text items))) (sym many)
    ∙ ap (λ l. octets_of (drop (8 * length before) l)) (sym (append-nil (line_text items)))
    ∙ octets_since framer items before octets [] put.are_octets put.stands
    ∙ ap (λ l. octets ++ l) none
    ∙ append-nil octets)

pub sent : (terminal : rust.Terminal) (octets : List ℕ) (t : Terminal) (before line : List ℕ) → length before ≡ t.given → length terminal.framer.left < 8
    → HasPut terminal.framer before line (sending octets t) → (line ≡ octets_sent octets t) × Sends terminal (after_sending octets t)
sent terminal octets t before line many few put = grind (arith, sent_is, length-append)
