-- After a flag that came as it was sent each frame is heard, whatever came before: of items that were put on a line since, all.
use Rattle.laws_time.proofs.Vocabulary.{All, All-head, All-tail, AreHeardWhole, AreOctets, Bool, Item, List, Port, [], after_flag, ap, append-nil, append_assoc, arith, bits, bits-append, drop, exact, flag, flat_map, flat_map-append, frame, framed, frames_among, frames_among-append, frames_of, heard_in, heard_until, heard_until-onto, heard_whole, hears-append, hears_items, idle, item_text, left_of}
use Rattle.laws_time.proofs.Vocabulary.{length, length-append, length-bits, line_text, longest, longest_text, map, refl, replicate, reverse_aux, reverse_aux-append, room_for, sent, subst, sym, ℕ, ◌*◌, ◌++◌, ◌+◌, ◌∙◌, ◌∷◌, ◌≡◌, ◌≤◌}
use Rattle.model_bits.specs.Stream as stream
use Rattle.model_bits.proofs.RoundTripPlaces.{hears}
use Rattle.laws_time.proofs.OfCircuit.AnsweredBits.{longer-begins, Comes, all_sent, ends-flag, flags-long}
use Rattle.laws_time.proofs.OfCircuit.Sender.{Fine}

-- ---- items as they go out

sent-same : (items : List Item) → All AreOctets (frames_among items) → map sent items ≡ items
sent-same [] all = refl
sent-same (idle ∷ items) all = ap (λ is. idle ∷ is) (sent-same items all)
sent-same (frame o ∷ items) all =
    let one = exact o (All-head AreOctets o (frames_among items) all) in
    let rest = sent-same items (All-tail AreOctets o (frames_among items) all) in λ i. frame (one i) ∷ rest i

pub all-whole : (n201 : ℕ) (p : Port) → Fine n201 p → AreHeardWhole n201 p.items
all-whole n201 p h = subst (AreHeardWhole n201) (sent-same p.items h.octets) (heard_whole n201 p.items h.on.long h.sound.sizes)

whole-right : (n201 : ℕ) (xs ys : List Item) → AreHeardWhole n201 (xs ++ ys) → AreHeardWhole n201 ys
whole-right n201 [] ys all = all
whole-right n201 (idle ∷ xs) ys all = whole-right n201 xs ys all
whole-right n201 (frame o ∷ xs) ys all = whole-right n201 xs ys all.1

pub whole-left : (n201 : ℕ) (xs ys : List Item) → AreHeardWhole n201 (xs ++ ys) → AreHeardWhole n201 xs
whole-left n201 [] ys all = tt
whole-left n201 (idle ∷ xs) ys all = whole-left n201 xs ys all
whole-left n201 (frame o ∷ xs) ys all = (all.0, whole-left n201 xs ys all.1)

as-framed : (items : List Item) → frames_of items ≡ framed (frames_among items)
as-framed [] = refl
as-framed (idle ∷ items) = as-framed items
as-framed (frame o ∷ items) = ap (λ es. stream.frame o ∷ es) (as-framed items)

pub items-heard : (n201 : ℕ) (past : List Bool) (items : List Item) → AreHeardWhole n201 items → hears (room_for n201) (after_flag past) (flat_map item_text items) ≡ framed (frames_among items)
items-heard n201 past items whole = ap (hears (room_for n201) (after_flag past)) (sym (append-nil (flat_map item_text items))) ∙ hears_items n201 past items 0 (omega arith) whole ∙ as-framed items

drop-front : (xs ys : List (List ℕ)) → drop (length xs) (xs ++ ys) ≡ ys
drop-front [] ys = refl
drop-front (x ∷ xs) ys = drop-front xs ys

pub put-later : (old new : List Item) → drop (length (frames_among old)) (frames_among (old ++ new)) ≡ frames_among new
put-later old new = ap (drop (length (frames_among old))) (frames_among-append old new) ∙ drop-front (frames_among old) (frames_among new)

-- ---- the text that was put since a flag

module _ (n201 way k m : ℕ) (v w u : Port) (transit received : List ℕ) (q : Port) (whole : AreHeardWhole n201 u.items) (c : Comes way k u transit q) (new later : List Item)
    (items : w.items ≡ v.items ++ new) (items_u : u.items ≡ w.items ++ later) (text_v : line_text v.items ≡ bits v.given ++ left_of v) (text_w : line_text w.items ≡ bits w.given ++ left_of w)
    (text_u : line_text u.items ≡ bits u.given ++ left_of u) (given : k + 1 ≤ length v.given) (few : length (left_of w) ≤ longest_text m)
    (heard : way + (length w.given + longest m) ≤ length c.before + length c.as_sent) (noisy_is : length c.before ≡ length c.noisy)
    (more : List ℕ) (goes_on : q.received ≡ received ++ more) (had : length received ≡ k + 1) where
  abbrev N : List Bool
  N = flat_map item_text new

  abbrev M : List Bool
  M = flat_map item_text later

  abbrev first : List Bool
  first = bits (replicate way 0x7E)

  abbrev rest : List Bool
  rest = bits transit ++ left_of u

  z : (z : List Bool) × (line_text v.items ≡ z ++ flag)
  z = ends-flag v.items []

  text-w : line_text w.items ≡ z.0 ++ (flag ++ N)
  text-w = ap line_text items ∙ ap (λ b. flag ++ b) (flat_map-append item_text v.items new) ∙ ap (λ b. b ++ N) z.1 ∙ append_assoc z.0 flag N

  text-u : line_text u.items ≡ (z.0 ++ (flag ++ N)) ++ M
  text-u = ap line_text items_u ∙ ap (λ b. flag ++ b) (flat_map-append item_text w.items later) ∙ ap (λ b. b ++ M) text-w

  sent-is : bits (all_sent way u) ++ left_of u ≡ (first ++ z.0) ++ ((flag ++ N) ++ M)
  sent-is = grind (arith, left_of, bits-append, replicate, append_assoc, bits, text-u, z, flag)

  came-is : bits (all_sent way u) ++ left_of u ≡ bits c.before ++ (bits c.as_sent ++ rest)
  came-is = grind (arith, bits, left_of, append_assoc, bits-append)

  -- the flag comes so late
  v-long : 8 * (k + 1) ≤ length z.0 + 8
  v-long = let a = ap length z.1 ∙ length-append z.0 flag in let b = ap length text_v ∙ length-append (bits v.given) (left_of v) in let n = length-bits v.given in omega (arith, a, b, n, given)

  -- and all that was put by then so early
  w-long : length z.0 + 8 + length N ≤ 8 * length w.given + 8 * longest m
  w-long =
      let a = ap length text-w ∙ length-append z.0 (flag ++ N) in let f = length-append flag N in
      let b = ap length text_w ∙ length-append (bits w.given) (left_of w) in let n = length-bits w.given in omega (arith, a, f, b, n, few)

  x : (x : List Bool) × (first ++ z.0 ≡ bits c.before ++ x) × (bits c.as_sent ++ rest ≡ x ++ ((flag ++ N) ++ M))
  x =
      let a = length-append first z.0 in let late = v-long in let few_before = c.few in let l1 = flags-long way in let l2 = length-bits c.before in
      longer-begins (bits c.before) (bits c.as_sent ++ rest) (first ++ z.0) ((flag ++ N) ++ M) (sym came-is ∙ sent-is) (omega (arith, a, late, few_before, l1, l2))

  x-long : 8 * way + length z.0 ≡ 8 * length c.before + length x.0
  x-long = let a = ap length x.1 in let b = length-append first z.0 in let d = length-append (bits c.before) x.0 in let l1 = flags-long way in let l2 = length-bits c.before in omega (arith, a, b, d, l1, l2)

  part : (part : List Bool) × (bits c.as_sent ≡ (x.0 ++ (flag ++ N)) ++ part) × (M ≡ part ++ rest)
  part =
      let a = x-long in let b = w-long in let l = length-append x.0 (flag ++ N) in let f = length-append flag N in let s = length-bits c.as_sent in
      longer-begins (x.0 ++ (flag ++ N)) M (bits c.as_sent) rest (append_assoc x.0 (flag ++ N) M ∙ sym x.2) (omega (arith, a, b, l, f, s, heard))

  abbrev past : List Bool
  past = reverse_aux (bits c.noisy ++ x.0) []

  came : bits q.received ≡ (bits c.noisy ++ x.0) ++ (flag ++ (N ++ part.0))
  came = grind (arith, bits, bits-append, part, append_assoc, x, flag)

  heard-all : heard_in n201 q.received ≡ heard_until (room_for n201) (after_flag past) ++ hears (room_for n201) (after_flag past) (N ++ part.0)
  heard-all = grind (arith, heard_until, room_for, reverse_aux, came, reverse_aux-append, bits, x, flag, part, heard_until-onto, after_flag)

  -- What had been received before goes before the flag.
  front : (front : List Bool) × (bits c.noisy ++ (x.0 ++ flag) ≡ bits received ++ front) × (bits more ≡ front ++ (N ++ part.0))
  front =
      let a = x-long in let b = v-long in let l = length-append (bits c.noisy) (x.0 ++ flag) in let f = length-append x.0 flag in let n = length-bits c.noisy in let r = length-bits received in
      longer-begins (bits received) (bits more) (bits c.noisy ++ (x.0 ++ flag)) (N ++ part.0)
      (sym (bits-append received more) ∙ ap bits (sym goes_on) ∙ came ∙ sym (append_assoc (bits c.noisy ++ x.0) flag (N ++ part.0)) ∙ ap (λ b. b ++ (N ++ part.0)) (append_assoc (bits c.noisy) x.0 flag))
      (omega (arith, a, b, l, f, n, r, had, noisy_is))

  place-is : after_flag past ≡ reverse_aux front.0 (reverse_aux (bits received) [])
  place-is = grind (arith, reverse_aux-append)

  -- So they are heard, in order, and nothing between.
  pub heard-since : (first rest : List stream.Event) × (heard_in n201 q.received ≡ heard_in n201 received ++ (first ++ (framed (drop (length (frames_among v.items)) (frames_among w.items)) ++ rest)))
  heard-since =
      let room = room_for n201 in let H = heard_in n201 received in let A = hears room (reverse_aux (bits received) []) front.0 in let B = hears room (reverse_aux N (after_flag past)) part.0 in
      let put : framed (frames_among new) ≡ framed (drop (length (frames_among v.items)) (frames_among w.items)) =
      sym (ap framed (ap (λ is. drop (length (frames_among v.items)) (frames_among is)) items ∙ put-later v.items new)) in (
        A,
        B,
        heard-all ∙ ap (λ l. l ++ hears room (after_flag past) (N ++ part.0)) (ap (heard_until (room_for n201)) place-is ∙ heard_until-onto (room_for n201) front.0 (reverse_aux (bits received) []))
            ∙ ap (λ l. (H ++ A) ++ l) (hears-append room N part.0 (after_flag past) ∙ ap (λ l. l ++ B) (items-heard n201 past new (whole-right n201 v.items new (subst (AreHeardWhole n201) items (whole-left n201 w.items later (subst (AreHeardWhole n201) items_u whole)))) ∙ put))
            ∙ append_assoc H A (framed (drop (length (frames_among v.items)) (frames_among w.items)) ++ B),
      )
