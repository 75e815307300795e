-- What an offer gives.
use Rattle.laws_link.proofs.Vocabulary.{arith, ◌≡◌, ℕ, ◌+◌, ◌<◌, Bool, true, false, cond, List, [], ◌∷◌, length, slice_get, Option, None, refl, sym, ap, ◌∙◌, add-zero, All, IfSome, nat_lt, option_map_or, ltb-true, and_parts, slice_get-get_or, get_or, All-head, seq, Control, ControlFrame, Terms, Link, course, after, given, given_of, IsSound, IsWaitingFrame, is_information, Course, Sent, begun}
use Rattle.laws_link.proofs.Vocabulary.{IsOffered, is_i_frame, both_ways, offer, first_unsent, may_send_information, next_information, offer_among}

-- a frame without contents that is no I-frame
alone : (all : List (List ℕ)) (j : ℕ) (command : Bool) (control : Control) → is_information control ≡ false → IsOffered all j (record { command = command; control = control }) None
alone all j command control e = grind arith

module _ (t : Terms) (l : Link) (h : IsSound t l) where
  abbrev Offers-it : Course → Type 0
  Offers-it c = IfSome c.sent (λ s. IsOffered l.contents l.s s.frame s.contents)

  unsent : may_send_information t l ≡ true → l.s < length l.contents
  unsent e = grind (arith, and_parts, nat_lt, ltb-true)

  information : may_send_information t l ≡ true → IsOffered l.contents l.s (next_information l) (first_unsent l)
  unfolding seq
  information e =
      let some = slice_get-get_or l.contents l.s [] (unsent e) in
      record { information = get_or l.contents l.s []; is = some; among = some; number = refl }

  tested : (b : Bool) → may_send_information t l ≡ b → (u v : Course) → (b ≡ true → Offers-it u) → Offers-it v → Offers-it (cond b u v)
  tested b e u v x y = grind arith

  offered : (ws : List ControlFrame) → All (IsWaitingFrame t) ws → Offers-it (offer_among t ws (begun l))
  offered (f ∷ fs) frames = alone l.contents l.s f.command f.control (All-head (IsWaitingFrame t) f fs frames).without_contents
  offered [] frames = grind (arith, tested, both_ways, information, alone)

  from-sent : (c : Course) (o : Option Sent) → IfSome o (λ s. IsOffered l.contents l.s s.frame s.contents)
      → IfSome (given_of t l c o) (λ g. IsOffered l.contents l.s g.frame g.contents)
  from-sent c o x = grind arith

  pub given-is-offered : IfSome (given t l) (λ g. IsOffered l.contents l.s g.frame g.contents)
  given-is-offered = from-sent (course t offer l) (course t offer l).sent (offered l.waiting h.frames)

-- What such a frame carries is the contents with the number, if it is an I-frame, and else nothing.
pub carried-is : (all : List (List ℕ)) (j : ℕ) (command : Bool) (control : Control) (contents : Option (List ℕ))
    → IsOffered all j (record { command = command; control = control }) contents → contents ≡ cond (is_information control) (slice_get all j) None
carried-is all j command control contents x = grind arith

-- and V(S) counts the I-frame that it gives.
abbrev counts-it : Terms → Link → Course → Type 0
counts-it t l c = c.link.s ≡ l.s + cond (option_map_or is_i_frame (given_of t l c c.sent) false) 1 0

module _ (t : Terms) (l : Link) (h : IsSound t l) where
  counting : (ws : List ControlFrame) → All (IsWaitingFrame t) ws → counts-it t l (offer_among t ws (begun l))
  counting (f ∷ fs) frames = sym (add-zero l.s) ∙ ap (λ b. l.s + cond b 1 0) (sym ((All-head (IsWaitingFrame t) f fs frames).without_contents))
  counting [] frames = grind (arith, both_ways, add-zero)

  pub offer-counts : (after t offer l).s ≡ l.s + cond (option_map_or is_i_frame (given t l) false) 1 0
  offer-counts = counting l.waiting h.frames
