-- What is left of the messages of a queue when some of the oldest are to go.
use Rattle.lapd_link_steps.proofs.Vocabulary.{◌≡◌, ℕ, zero, suc, ◌+◌, ◌-◌, ◌<◌, ◌≤◌, List, [], ◌∷◌, length, drop, take, min, None, inl, inr, refl, sym, ap, ◌∙◌, arith, zero-add, slice_get, cases_lt, drop-drop, drop_all, length-drop, length-take, min-eq_left, min-eq_right}

-- all of them go
pub discarded : (messages contents : List (List ℕ)) (a : ℕ) → length messages ≤ 127 → drop 127 messages ≡ drop a (take a contents)
discarded messages contents a few =
    drop_all 127 messages few ∙ sym (drop_all a (take a contents) (omega (arith, length-take a contents)))

-- a count that stops at 127
counted : (messages : List (List ℕ)) (n : ℕ) → length messages ≤ 127 → drop (min n 127) messages ≡ drop n messages
counted messages n few = elim (cases_lt 127 n) [
  | inl beyond ↦
      ap (λ k. drop k messages) (min-eq_right {n = 127} {m = n} (omega arith))
      ∙ drop_all 127 messages few ∙ sym (drop_all n messages (omega arith))
  | inr within ↦ ap (λ k. drop k messages) (min-eq_left within)
]

-- some more go
pub released_more : (messages contents : List (List ℕ)) (released more a n : ℕ) → length messages ≤ 127 → a + more ≡ n → drop released messages ≡ drop a contents → drop (min (released + more) 127) messages ≡ drop n contents
released_more messages contents released more a n few is queue =
    counted messages (released + more) few
    ∙ sym (drop-drop more released messages)
    ∙ ap (drop more) queue
    ∙ drop-drop more a contents
    ∙ ap (λ k. drop k contents) is

-- and stays above what it was above
pub still_beyond : (messages : List (List ℕ)) (from released more : ℕ) → length messages ≤ 127 → (from < length messages → length messages ≤ released) → from < length messages → length messages ≤ min (released + more) 127
still_beyond messages from released more few whole some = elim (cases_lt 127 (released + more)) [
  | inl beyond ↦ omega (arith, few, min-eq_right {n = 127} {m = released + more} (omega arith))
  | inr within ↦ omega (arith, whole some, min-eq_left within)
]

-- what is not released yet is given up beside what was
pub given_up_more : (messages contents : List (List ℕ)) (from released a given_up : ℕ) → (from < length messages → length messages ≤ released) → drop released messages ≡ drop a contents → given_up ≡ length messages - from → given_up + length (drop a contents) ≡ length messages - min from released
given_up_more messages contents from released a given_up whole queue is =
    let left : length (drop a contents) ≡ length messages - released = ap (λ x. length x) (sym queue) ∙ length-drop released messages in elim (cases_lt from (length messages)) [
      | inl some ↦ omega (arith, is, left, whole some, min-eq_left {n = from} {m = released} (omega (arith, some, whole some)))
      | inr none ↦ elim (cases_lt from released) [
        | inl before ↦ omega (arith, is, left, none, before, min-eq_left {n = from} {m = released} (omega (arith, before)))
        | inr after ↦ omega (arith, is, left, none, min-eq_right {n = released} {m = from} after)
      ]
    ]

-- the place of contents in what is left of a list
pub slice_get-drop : {X : Type 0} (n : ℕ) (xs : List X) (i : ℕ) → slice_get (drop n xs) i ≡ slice_get xs (n + i)
slice_get-drop zero xs i = ap (slice_get xs) (sym (zero-add i))
slice_get-drop (suc n) [] i = refl
slice_get-drop (suc n) (x ∷ xs) i = slice_get-drop n xs i ∙ ap (slice_get (x ∷ xs)) {x = suc (n + i)} {y = suc n + i} (omega arith)

-- the contents at a place of a queue that nothing left yet
pub contents_at-queue : (messages contents : List (List ℕ)) (released a s place : ℕ) → released ≡ 0 → drop released messages ≡ drop a contents → a + place ≡ s → slice_get messages place ≡ slice_get contents s
contents_at-queue messages contents released a s place none queue is =
    ap (λ l. slice_get l place) (sym (ap (λ n. drop n messages) none) ∙ queue)
    ∙ slice_get-drop a contents place
    ∙ ap (slice_get contents) is

-- a list without a first item
pub nothing_first : {X : Type 0} (xs : List X) → slice_get xs 0 ≡ None → xs ≡ []
nothing_first [] none = refl
nothing_first (x ∷ xs) none = absurd (cc)
