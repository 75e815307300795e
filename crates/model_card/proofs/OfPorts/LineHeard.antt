-- What is heard in a beginning of the bits of a line: the frames whose flags it has.
use Rattle.model_card.proofs.OfPorts.Vocabulary.{◌≡◌, ℕ, ◌≤◌, inl, inr, Bool, List, [], ◌∷◌, ◌++◌, length, map, flat_map, refl, sym, ap, ◌∙◌, subst, arith, append_assoc, append-nil, append_cancel_left, bits, Item, idle, frame, item_text, line_text, line_text-push, room_for, after_flag, heard_until-onto, frames_among, AreHeardWhole, GoOut, frames_of, heard_in, hears, hears-append, hears_items}
use Rattle.model_card.proofs.OfPorts.Vocabulary.{reverse_aux}
use Rattle.model_bits.specs.Stream as stream
use Rattle.model_card.proofs.OfPorts.LastItem.{HasLast, IsCut}

-- ---- lists

-- a list that is no shorter than another one, and begins as it does
record IsFront {X : Type 0} (short long : List X) : Type 0 where
  rest : List X
  is : long ≡ short ++ rest

front_of : {X : Type 0} (short u long v : List X) → short ++ u ≡ long ++ v → length short ≤ length long → IsFront short long
front_of [] u long v e few = record { rest = long; is = refl }
front_of (x ∷ short) u [] v e few = absurd (omega (arith, few))
front_of (x ∷ short) u (y ∷ long) v e few = grind (arith, (front_of short u long v))

second_none : {X : Type 0} (xs ys : List X) → xs ++ ys ≡ [] → ys ≡ []
second_none [] ys e = e
second_none (x ∷ xs) ys e = absurd (cc e)

no_last : {X : Type 0} (front : List X) (x : X) → front ++ x ∷ [] ≡ [] → ⊥
no_last [] x e = cc e
no_last (y ∷ front) x e = cc e

same_last : {X : Type 0} (xs ys : List X) (x y : X) → xs ++ x ∷ [] ≡ ys ++ y ∷ [] → x ≡ y
same_last [] [] x y e = cc e
same_last [] (z ∷ ys) x y e = let tail : [] ≡ ys ++ y ∷ [] = cc e in absurd (no_last ys y (sym tail))
same_last (z ∷ xs) [] x y e = let tail : xs ++ x ∷ [] ≡ [] = cc e in absurd (no_last xs x tail)
same_last (z ∷ xs) (w ∷ ys) x y e = same_last xs ys x y (cc e)

-- ---- frames among items

front_whole : (n201 : ℕ) (front behind : List Item) → AreHeardWhole n201 (front ++ behind) → AreHeardWhole n201 front
front_whole n201 [] behind h = tt
front_whole n201 (idle ∷ front) behind h = front_whole n201 front behind h
front_whole n201 (frame octets ∷ front) behind h = (h.0, front_whole n201 front behind h.1)

as_heard : (items : List Item) → map (λ octets. stream.frame octets) (frames_among items) ≡ frames_of items
as_heard [] = refl
as_heard (idle ∷ items) = as_heard items
as_heard (frame octets ∷ items) = ap (λ x. stream.frame octets ∷ x) (as_heard items)

frames_of-append : (front behind : List Item) → frames_of (front ++ behind) ≡ frames_of front ++ frames_of behind
frames_of-append [] behind = refl
frames_of-append (idle ∷ front) behind = frames_of-append front behind
frames_of-append (frame octets ∷ front) behind = ap (λ x. stream.frame octets ∷ x) (frames_of-append front behind)

-- ---- what is heard in bits

by_bits : (n201 : ℕ) (octets : List ℕ) → heard_in n201 octets ≡ hears (room_for n201) [] (bits octets)
by_bits n201 octets = heard_until-onto (room_for n201) (bits octets) []

items_heard : (n201 : ℕ) (items : List Item) → AreHeardWhole n201 items → hears (room_for n201) [] (line_text items) ≡ frames_of items
items_heard n201 items whole =
    ap (hears (room_for n201) (after_flag [])) (sym (append-nil (flat_map item_text items))) ∙ hears_items n201 [] items 0 (omega arith) whole

-- What is left to hear of one item.
record IsLeft (left : List stream.Event) : Type 0 where
  frames : List (List ℕ)
  one : length frames ≤ 1
  are : left ≡ map (λ octets. stream.frame octets) frames

of_last : (item : Item) (now left : List stream.Event) → now ++ left ≡ frames_of (item ∷ []) → IsLeft left
of_last idle [] [] e = record { frames = []; one = omega arith; are = refl }
of_last idle [] (x ∷ left) e = absurd (cc e)
of_last idle (x ∷ now) left e = absurd (cc e)
of_last (frame octets) [] left e = record { frames = octets ∷ []; one = omega arith; are = e }
of_last (frame octets) (x ∷ []) [] e = record { frames = []; one = omega arith; are = refl }
of_last (frame octets) (x ∷ []) (y ∷ left) e = absurd (cc e)
of_last (frame octets) (x ∷ y ∷ now) left e = absurd (cc e)

none_left : (now left : List stream.Event) → now ++ left ≡ [] → IsLeft left
none_left now left e = record { frames = []; one = omega arith; are = second_none now left e }

module _ (n201 : ℕ) (items : List Item) (given : List ℕ) (left : List Bool) (text : line_text items ≡ bits given ++ left) (whole : AreHeardWhole n201 items) where
  abbrev later : List stream.Event
  later = hears (room_for n201) (reverse_aux (bits given) []) left

  both : frames_of items ≡ heard_in n201 given ++ later
  both =
      sym (items_heard n201 items whole) ∙ ap (hears (room_for n201) []) text ∙ hears-append (room_for n201) (bits given) left []
      ∙ ap (λ x. x ++ later) (sym (by_bits n201 given))

  -- what is heard and to hear of the last item
  rest_of : (h : HasLast items given) → (now : List stream.Event) × (now ++ later ≡ frames_of (h.last ∷ []))
  rest_of h =
      let room = room_for n201 in
      let same : line_text h.front ++ item_text h.last ≡ bits given ++ left = sym (line_text-push h.front h.last) ∙ ap line_text (sym h.items_are) ∙ text in
      let part = front_of (line_text h.front) (item_text h.last) (bits given) left same h.before in
      let now = hears room (reverse_aux (line_text h.front) []) part.rest in
      let heard : heard_in n201 given ≡ frames_of h.front ++ now =
      by_bits n201 given ∙ ap (hears room []) part.is ∙ hears-append room (line_text h.front) part.rest []
      ∙ ap (λ x. x ++ now) (items_heard n201 h.front (front_whole n201 h.front (h.last ∷ []) (subst (AreHeardWhole n201) h.items_are whole))) in (
        now,
        append_cancel_left (frames_of h.front) (now ++ later) (frames_of (h.last ∷ []))
            (sym (append_assoc (frames_of h.front) now later) ∙ ap (λ x. x ++ later) (sym heard) ∙ sym both ∙ ap frames_of h.items_are ∙ frames_of-append h.front (h.last ∷ [])),
      )

  at_most_one : IsCut items given → IsLeft later
  at_most_one (inl none) = none_left (heard_in n201 given) later (sym both ∙ ap frames_of none)
  at_most_one (inr h) = let rest = rest_of h in of_last h.last rest.0 later rest.1

  pub go_out : IsCut items given → GoOut n201 given (frames_among items)
  go_out cut = grind (arith, at_most_one, as_heard, both)

  -- behind a flag nothing is left
  pub all_out : (front : List Item) → items ≡ front ++ idle ∷ [] → IsCut items given → map (λ octets. stream.frame octets) (frames_among items) ≡ heard_in n201 given
  all_out front ends (inl none) = absurd (no_last front idle (sym ends ∙ none))
  all_out front ends (inr h) =
      let rest = rest_of h in
      grind (arith, same_last, as_heard, both, second_none, append-nil)
