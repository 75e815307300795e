-- What is left where a frame has been loaded.
use Rattle.lapd_bits.proofs.Vocabulary.{◌≡◌, ℕ, zero, suc, ◌<◌, ◌≤◌, Bool, List, [], ◌∷◌, ◌++◌, length, take, drop, get_or, refl, ap, sym, ◌∙◌, append-nil, append_assoc, arith, take_all, drop_all, drop_at, length-append, All-append, All-cons, All-nil, bits, low_bits, flag, stuffed, unstuffed, text_after, Goes, check, frame_text, bits-append, AreOctets, ones_after, unstuffed_after}
use Rattle.lapd_bits.proofs.Vocabulary.{unstuffed_after-append, unstuffed-counted, unstuffed-stuffed}
use Rattle.std.proofs.Common.{Fits, w8}
use Rattle.std.proofs.Math.Seq.{take-append_seam}
use Rattle.std.proofs.lemmas.List.{take-append-drop}
use Rattle.std.proofs.lemmas.List.Elements.{All-head, All-tail}
use Rattle.model_bits.specs.Bits.{octets_of}
use Rattle.model_bits.proofs.BitLemmas.{number_of-low_bits}

-- a text that has gone on with a frame's first octets, and ends with its others, its check and a flag
pub frame_made : (before middle : List Bool) (head info : List ℕ) (fcs run : ℕ) → low_bits 16 fcs ≡ check (bits (head ++ info)) → Goes before 0 (bits head) middle run → middle ++ (text_after run (bits info ++ low_bits 16 fcs) ++ flag) ≡ before ++ (frame_text (head ++ info) ++ flag)
frame_made before middle head info fcs run checked goes =
    let more = bits info ++ low_bits 16 fcs in
    let all : bits head ++ more ≡ bits (head ++ info) ++ check (bits (head ++ info)) =
    sym (append_assoc (bits head) (bits info) (low_bits 16 fcs))
    ∙ ap (λ l. l ++ low_bits 16 fcs) (sym (bits-append head info))
    ∙ ap (λ l. bits (head ++ info) ++ l) checked in
    sym (append_assoc middle (text_after run more) flag)
    ∙ ap (λ l. l ++ flag) (goes more ∙ ap (λ l. before ++ stuffed l) all)
    ∙ append_assoc before (frame_text (head ++ info)) flag

-- what is left of a list of octets that others of the same number have replaced
pub written_back : (len : ℕ) (new old : List ℕ) → len ≡ length old → length new ≡ length old → take len (new ++ drop (length new) old) ≡ new
written_back len new old size same = grind (arith, drop_all, append-nil, take_all)

-- ---- read back

are_octets : (octets : List ℕ) → ((i : ℕ) → Fits w8 (get_or octets i 0)) → AreOctets octets
are_octets [] fit = All-nil (λ x. x < 256)
are_octets (o ∷ octets) fit = All-cons (λ x. x < 256) o octets (octet_fits (fit 0)) (are_octets octets (λ i. fit (suc i)))
  where
    octet_fits : Fits w8 o → o < 256
    octet_fits h = omega (arith, h)

pub both_octets : (head info : List ℕ) → ((i : ℕ) → Fits w8 (get_or head i 0)) → ((i : ℕ) → Fits w8 (get_or info i 0)) → AreOctets (head ++ info)
both_octets head info h i = All-append (λ x. x < 256) head info (are_octets head h) (are_octets info i)

-- octets come first of their bits and others
pub octets_first : (octets : List ℕ) (more : List Bool) → AreOctets octets → octets_of (bits octets ++ more) ≡ octets ++ octets_of more
unfolding low_bits
octets_first [] more are = refl
octets_first (o ∷ octets) more are =
    ap (λ y. y ∷ octets_of (bits octets ++ more)) (number_of-low_bits 8 o (All-head (λ x. x < 256) o octets are))
    ∙ ap (λ l. o ∷ l) (octets_first octets more (All-tail (λ x. x < 256) o octets are))

-- the front of a text is in what was cut off at its end by less
front_stays : (front back text cut : List Bool) → length cut ≤ length back → text ++ cut ≡ front ++ back → text ≡ front ++ drop (length front) text
front_stays front back text cut few same =
    let long : length front ≤ length text = omega (arith, few, ap length same, length-append text cut, length-append front back) in
    let of_both : take (length front) text ≡ front =
    sym (take_front text cut (length front) long) ∙ ap (take (length front)) same ∙ take-append_seam front back in
    sym (take-append-drop (length front) text) ∙ ap (λ l. l ++ drop (length front) text) of_both
  where
    take_front : (xs ys : List Bool) (n : ℕ) → n ≤ length xs → take n (xs ++ ys) ≡ take n xs
    take_front xs ys zero h = refl
    take_front [] ys (suc n) h = absurd (omega (arith, h))
    take_front (x ∷ xs) ys (suc n) h = ap (λ l. x ∷ l) (take_front xs ys n (omega (arith, h)))

-- The octets of a frame come first of those that a receiver makes of its text, and of what stands behind that.
pub frame_first : (octets : List ℕ) (start text cut : List Bool) → AreOctets octets → length cut < 8 → text ++ cut ≡ start ++ (frame_text octets ++ flag)
    → (rest : List ℕ) × (octets_of (unstuffed (drop (length start) text)) ≡ octets ++ rest)
frame_first octets start text cut are few same =
    let whole = frame_text octets in
    let front = start ++ whole in
    let behind = drop (length front) text in
    let text_is : text ≡ front ++ behind = front_stays front flag text cut (omega (arith, few)) (same ∙ sym (append_assoc start whole flag)) in
    let more = unstuffed_after (ones_after 0 whole) behind in (
      octets_of (check (bits octets) ++ more),
      ap (λ t. octets_of (unstuffed (drop (length start) t))) (text_is ∙ append_assoc start whole behind)
          ∙ ap (λ t. octets_of (unstuffed t)) (drop_at start (whole ++ behind) (length start) refl)
          ∙ ap octets_of (unstuffed-counted (whole ++ behind) ∙ unstuffed_after-append 0 whole behind
          ∙ ap (λ b. b ++ more) (sym (unstuffed-counted whole) ∙ unstuffed-stuffed (bits octets ++ check (bits octets)))
          ∙ append_assoc (bits octets) (check (bits octets)) more)
          ∙ octets_first octets (check (bits octets) ++ more) are,
    )
