-- A frame that stands whole after a flag is heard with its closing flag, whatever came before.
use Rattle.laws_time.proofs.Vocabulary.{All, All-cons, All-head, All-nil, AreHeardWhole, AreOctets, Bool, IsHeardWhole, Item, List, Option, Port, Some, [], after_flag, all-right, all_exact, ap, append-nil, append_assoc, append_cancel_left, arith, as_octets, bits, bits-append, false, flag, flat_map, frame, frame_text, frames_among, frames_among-append, front-none, gained, heard_in, heard_until}
use Rattle.laws_time.proofs.Vocabulary.{heard_until-onto, heard_whole, heard_with, hears-append, hears_items, idle, item_text, left_of, length, length-append, length-bits, length-replicate, line_text, map, option_to_list, refl, replicate, reverse_aux, reverse_aux-append, room_for, sent, some_text, subst, suc, sym, true, ℕ, ◌*◌, ◌++◌, ◌+◌, ◌<◌, ◌∙◌, ◌∷◌, ◌≡◌, ◌≢◌, ◌≤◌}
use Rattle.model_bits.specs.Stream as stream
use Rattle.model_bits.proofs.Quiet.{EndsNothing, quiet}
use Rattle.model_bits.proofs.RoundTripPlaces.{hears}
use Rattle.model_bits.proofs.StuffingCounted.{NoSix}
use Rattle.model_bits.proofs.StuffingShape.{NoSix-stuffed}
use Rattle.model_bits.specs.Check.{check}
use Rattle.laws_time.proofs.OfCircuit.AnsweredEnds.{OnLine, one-more}
use Rattle.laws_time.proofs.OfCircuit.Sender.{Fine, text_length}

-- A list in two parts twice: the longer first part begins with the shorter.
pub longer-begins : {A : Type 0} (a b c d : List A) → a ++ b ≡ c ++ d → length a ≤ length c → (m : List A) × (c ≡ a ++ m) × (b ≡ m ++ d)
longer-begins [] b c d is few = (c, refl, is)
longer-begins (x ∷ a) b [] d is few = absurd (omega (arith, few))
longer-begins (x ∷ a) b (y ∷ c) d is few = go (longer-begins a b c d (cc is) (omega (arith, few))) (cc is)
  where
    go : (m : List _) × (c ≡ a ++ m) × (b ≡ m ++ d) → y ≡ x → (m : List _) × (y ∷ c ≡ x ∷ a ++ m) × (b ≡ m ++ d)
    go r same = (r.0, (λ i. same i ∷ r.1 i), r.2)

-- A flag without its last bit, after a text, ends nothing.
abbrev flag_front : List Bool
flag_front = false ∷ true ∷ true ∷ true ∷ true ∷ true ∷ true ∷ []

no_six : (n : ℕ) → n ≤ 5 → n ≢ 6
no_six n few six = omega (arith, few, six)

ends_nothing_with : (n : ℕ) (text : List Bool) → n ≤ 5 → NoSix n text → EndsNothing n (text ++ flag_front)
ends_nothing_with n [] few p = grind (arith, no_six)
ends_nothing_with n (false ∷ text) few p = (no_six n few, ends_nothing_with 0 text (omega arith) p)
ends_nothing_with n (true ∷ text) few p = (no_six n few, ends_nothing_with (suc n) text (omega (arith, p.0)) p.1)

module _ (room : ℕ) (past text : List Bool) (fair : NoSix 0 text) where
  front-silent : hears room (after_flag past) (text ++ flag_front) ≡ []
  front-silent =
      let place = after_flag past in let front = text ++ flag_front in
      append_cancel_left (heard_until room place) (hears room place front) []
      (sym (heard_until-onto room front place) ∙ (quiet room 0 front place refl (ends_nothing_with 0 text (omega arith) fair)).heard ∙ sym (append-nil (heard_until room place)))

  part-silent : (part rest : List Bool) → text ++ flag ≡ part ++ rest → 0 < length rest → hears room (after_flag past) part ≡ []
  part-silent part rest is some =
      let all = ap length is ∙ length-append part rest in let long = length-append text flag in let short = length-append text flag_front in
      let x = longer-begins part rest (text ++ flag_front) (false ∷ []) (sym is ∙ sym (append_assoc text flag_front (false ∷ []))) (omega (arith, all, long, short, some)) in
      let place = after_flag past in
      front-none (hears room place part) (hears room (reverse_aux part place) x.0) (sym (hears-append room part x.0 place) ∙ ap (hears room place) (sym x.1) ∙ front-silent)

module _ (n201 : ℕ) (o : List ℕ) (whole : IsHeardWhole n201 o) where
  its-text : (past : List Bool) → hears (room_for n201) (after_flag past) (frame_text o ++ flag) ≡ stream.frame o ∷ []
  its-text past =
      ap (hears (room_for n201) (after_flag past)) (sym (append-nil (frame_text o ++ flag)) ∙ ap (λ t. t) (sym (append-nil ((frame_text o ++ flag) ++ []))))
      ∙ hears_items n201 past (frame o ∷ []) 0 (omega arith) (whole, tt)

  some-gained : (H E : List stream.Event) (g : Option stream.Event) → H ++ (stream.frame o ∷ E) ≡ H ++ option_to_list g → g ≡ Some (stream.frame o)
  some-gained h h' h'' is = grind (arith, append_cancel_left)

  -- These octets came, of which the last ones end in a flag and a part of the frame; and the rest of it comes.
  module _ (P X : List ℕ) (value : ℕ) (u part rest extra : List Bool) (stands : bits X ≡ u ++ (flag ++ part)) (text : frame_text o ++ flag ≡ part ++ rest)
      (comes : bits (value ∷ []) ≡ rest ++ extra) (some : 0 < length rest) where
    abbrev past : List Bool
    past = reverse_aux (bits P ++ u) []

    abbrev place : List Bool
    place = after_flag (reverse_aux (bits P ++ u) [])

    at-place : (more : List Bool) → reverse_aux ((bits P ++ u) ++ (flag ++ more)) [] ≡ reverse_aux more place
    at-place more = reverse_aux-append (bits P ++ u) (flag ++ more) [] ∙ reverse_aux-append flag more (reverse_aux (bits P ++ u) [])

    came : bits (P ++ X) ≡ (bits P ++ u) ++ (flag ++ part)
    came = bits-append P X ∙ ap (λ b. bits P ++ b) stands ∙ sym (append_assoc (bits P) u (flag ++ part))

    heard-before : heard_in n201 (P ++ X) ≡ heard_until (room_for n201) place
    heard-before =
        ap (λ b. heard_until (room_for n201) (reverse_aux b [])) came ∙ ap (heard_until (room_for n201)) (at-place part) ∙ heard_until-onto (room_for n201) part place
        ∙ ap (λ l. heard_until (room_for n201) place ++ l) (part-silent (room_for n201) past (frame_text o) (NoSix-stuffed (bits o ++ check (bits o))) part rest text some)
        ∙ append-nil (heard_until (room_for n201) place)

    comes-then : bits ((P ++ X) ++ value ∷ []) ≡ (bits P ++ u) ++ (flag ++ ((frame_text o ++ flag) ++ extra))
    comes-then = grind (arith, bits-append, bits, came, flag, append_assoc)

    heard-then : (E : List stream.Event) × (heard_in n201 ((P ++ X) ++ value ∷ []) ≡ heard_until (room_for n201) place ++ (stream.frame o ∷ E))
    heard-then =
        let E = hears (room_for n201) (reverse_aux (frame_text o ++ flag) place) extra in (
          E,
          ap (λ b. heard_until (room_for n201) (reverse_aux b [])) comes-then ∙ ap (heard_until (room_for n201)) (at-place ((frame_text o ++ flag) ++ extra))
              ∙ heard_until-onto (room_for n201) ((frame_text o ++ flag) ++ extra) place
              ∙ ap (λ l. heard_until (room_for n201) place ++ l) (hears-append (room_for n201) (frame_text o ++ flag) extra place ∙ ap (λ l. l ++ E) (its-text past)),
        )

    pub frame-gained : gained n201 (P ++ X) value ≡ Some (stream.frame o)
    frame-gained = grind (arith, heard-then, some-gained, heard_until, room_for, gained, heard_with, option_to_list, heard-before)

-- ---- what an end gave comes to the other as it is, once there is no noise; so a frame whose opening flag came so is heard

-- All octets that were in transit from an end, the flags of the beginning first.
abbrev pub all_sent : ℕ → Port → List ℕ
all_sent way p = replicate way 0x7E ++ p.given

-- Of those the other end received some as they were, after some that came with noise, and the rest is in transit.
pub record Comes (way clean : ℕ) (p : Port) (transit : List ℕ) (q : Port) : Type 0 where
  pub noisy : List ℕ
  pub as_sent : List ℕ
  pub before : List ℕ
  pub received : q.received ≡ noisy ++ as_sent
  pub sent : all_sent way p ≡ (before ++ as_sent) ++ transit
  pub few : length before ≤ clean

pub ends-flag : (items : List Item) (before : List Bool) → (z : List Bool) × (before ++ (flag ++ flat_map item_text items) ≡ z ++ flag)
ends-flag [] before = (before, refl)
ends-flag (idle ∷ items) before = let x = ends-flag items (before ++ flag) in (x.0, sym (append_assoc before flag (flag ++ flat_map item_text items)) ∙ x.1)
ends-flag (frame o ∷ items) before =
    let x = ends-flag items ((before ++ flag) ++ frame_text o) in
    let rest = flat_map item_text items in (
      x.0,
      ap (λ b. before ++ (flag ++ b)) (append_assoc (frame_text o) flag rest)
          ∙ sym (append_assoc before flag (frame_text o ++ (flag ++ rest))) ∙ sym (append_assoc (before ++ flag) (frame_text o) (flag ++ rest)) ∙ x.1,
    )

text-of : (xs ys : List Item) (before : List Bool) → before ++ flat_map item_text (xs ++ ys) ≡ (before ++ flat_map item_text xs) ++ flat_map item_text ys
text-of [] ys before = ap (λ b. b ++ flat_map item_text ys) (sym (append-nil before))
text-of (x ∷ xs) ys before =
    sym (append_assoc before (item_text x) (flat_map item_text (xs ++ ys))) ∙ text-of xs ys (before ++ item_text x)
    ∙ ap (λ b. b ++ flat_map item_text ys) (append_assoc before (item_text x) (flat_map item_text xs))

whole-of : (n201 : ℕ) (xs : List Item) (o : List ℕ) (ys : List Item) → AreHeardWhole n201 (map sent (xs ++ frame o ∷ ys)) → IsHeardWhole n201 (as_octets o)
whole-of n201 [] o ys all = all.0
whole-of n201 (idle ∷ xs) o ys all = whole-of n201 xs o ys all
whole-of n201 (frame f ∷ xs) o ys all = whole-of n201 xs o ys all.1

pub one-among : (P : List ℕ → Type 0) (items xs : List Item) (o : List ℕ) (ys : List Item) → items ≡ xs ++ frame o ∷ ys → All P (frames_among items) → P o
one-among P items xs o ys is all =
    All-head P o (frames_among ys) (all-right P (frames_among xs) (frames_among (frame o ∷ ys)) (subst (All P) (ap frames_among is ∙ frames_among-append xs (frame o ∷ ys)) all))

-- So many flags have so many bits.
pub flags-long : (way : ℕ) → length (bits (replicate way 0x7E)) ≡ 8 * way
flags-long way = let all = length-bits (replicate way 0x7E) in let n = length-replicate {A = ℕ} way 0x7E in omega (arith, all, n)

module _ (n201 : ℕ) (kind : List ℕ → Bool) (low most way heard clean : ℕ) (p q : Port) (value : ℕ) (more : List ℕ) (h : Fine n201 p) (c : Comes way clean p (value ∷ more) q)
    (d : OnLine kind low most way heard p) (now : text_length (d.front ++ frame d.o ∷ []) + 8 * way ≤ 8 * (heard + 1)) (soon : clean + 1 ≤ low)
    (so_many : length c.before + length c.as_sent ≡ heard) where
  abbrev T : List Bool
  T = frame_text d.o ++ flag

  abbrev R : List Bool
  R = flat_map item_text d.more

  abbrev first : List Bool
  first = bits (replicate way 0x7E)

  abbrev tail : List Bool
  tail = bits more ++ left_of p

  z : (z : List Bool) × (line_text d.front ≡ z ++ flag)
  z = ends-flag d.front []

  its-octets : AreOctets d.o
  its-octets = one-among AreOctets p.items d.front d.o d.more d.items h.octets

  exact : as_octets d.o ≡ d.o
  exact = cc (all_exact (d.o ∷ []) (All-cons AreOctets d.o [] its-octets (All-nil AreOctets)))

  whole : IsHeardWhole n201 d.o
  whole = subst (IsHeardWhole n201) exact (whole-of n201 d.front d.o d.more (subst (λ is. AreHeardWhole n201 (map sent is)) d.items (heard_whole n201 p.items h.on.long h.sound.sizes)))

  -- the text of the line, in two ways
  text-is : line_text p.items ≡ z.0 ++ (flag ++ (T ++ R))
  text-is = ap line_text d.items ∙ text-of d.front (frame d.o ∷ d.more) flag ∙ ap (λ b. b ++ (T ++ R)) z.1 ∙ append_assoc z.0 flag (T ++ R)

  came-is : bits (all_sent way p) ++ left_of p ≡ bits c.before ++ (bits c.as_sent ++ (bits (value ∷ []) ++ tail))
  came-is = grind (arith, bits, left_of, append_assoc, bits-append)

  sent-is : bits (all_sent way p) ++ left_of p ≡ (first ++ z.0) ++ (flag ++ (T ++ R))
  sent-is = grind (arith, left_of, bits-append, replicate, append_assoc, bits, text-is, z, flag)

  front-long : text_length d.front ≡ length z.0 + 8
  front-long = ap length z.1 ∙ length-append z.0 flag

  end-long : text_length (d.front ++ frame d.o ∷ []) ≡ length z.0 + 8 + length T
  end-long = let x = one-more d.front d.o in let y = front-long in omega (arith, x, y)

  T-long : 9 ≤ length T
  T-long = let x = length-append (frame_text d.o) flag in let y = some_text d.o in omega (arith, x, y)

  u : (u : List Bool) × (first ++ z.0 ≡ bits c.before ++ u) × (bits c.as_sent ++ (bits (value ∷ []) ++ tail) ≡ u ++ (flag ++ (T ++ R)))
  u = grind (arith, length-append, flags-long, front-long, length-bits, longer-begins, came-is, sent-is)

  u-long : 8 * way + length z.0 ≡ 8 * length c.before + length u.0
  u-long = let a = ap length u.1 in let b = length-append first z.0 in let k = length-append (bits c.before) u.0 in let l1 = flags-long way in let l3 = length-bits c.before in omega (arith, a, b, k, l1, l3)

  part : (part : List Bool) × (bits c.as_sent ≡ (u.0 ++ flag) ++ part) × (T ++ R ≡ part ++ (bits (value ∷ []) ++ tail))
  part =
      let a = u-long in let l = length-append u.0 flag in let s = length-bits c.as_sent in let e = end-long in let t = T-long in
      longer-begins (u.0 ++ flag) (T ++ R) (bits c.as_sent) (bits (value ∷ []) ++ tail) (append_assoc u.0 flag (T ++ R) ∙ sym u.2) (omega (arith, a, l, s, e, t, now, so_many))

  part-long : 8 * length c.as_sent ≡ length u.0 + 8 + length part.0
  part-long = let a = ap length part.1 in let l = length-append u.0 flag in let b = length-append (u.0 ++ flag) part.0 in let s = length-bits c.as_sent in omega (arith, a, l, b, s)

  rest : (rest : List Bool) × (T ≡ part.0 ++ rest) × (bits (value ∷ []) ++ tail ≡ rest ++ R)
  rest = grind (arith, end-long, u-long, part-long, longer-begins)

  rest-long : length T ≡ length part.0 + length rest.0
  rest-long = ap length rest.1 ∙ length-append part.0 rest.0

  extra : (extra : List Bool) × (bits (value ∷ []) ≡ rest.0 ++ extra) × (R ≡ extra ++ tail)
  extra =
      let e = end-long in let a = u-long in let b = part-long in let r = rest-long in let one = length-bits (value ∷ []) in
      longer-begins rest.0 R (bits (value ∷ [])) tail (sym rest.2) (omega (arith, e, a, b, r, one, now, so_many))

  pub heard-here : gained n201 q.received value ≡ Some (stream.frame d.o)
  heard-here = grind (arith, end-long, u-long, part-long, rest-long, gained, frame-gained, whole, u, part, rest, extra, append_assoc)
