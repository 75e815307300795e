-- What an event of a link leaves of the contents that it keeps, and how far V(A) goes on.
use Rattle.laws_trace.proofs.Vocabulary.{◌≡◌, ℕ, ◌+◌, ◌%◌, ◌≤◌, Bool, true, false, cond, not, List, [], ◌∷◌, ◌++◌, ◌&&◌, ◌||◌, drop, refl, sym, ap, ◌∙◌, arith, eq-eqb, All, list_any, All-head, All-tail, none-some, Note, Parts, Terms, restarts, received, Link, is_multiple_frame, queue_of, state_number, accepted, ends, empties, is_loss, event-follows, event-done, is_loss_of, service-same, Control}
use Rattle.laws_trace.proofs.Vocabulary.{LinkEvent as Event, frame, link_after as after, IsOwn, LinkIsSound as IsSound, link_told as told, tells_loss, acknowledged, is_sabme, steps, is_up, cond_both}
use Rattle.laws_link.specs.History.{with_share}
use Rattle.laws_trace.proofs.Begins.{unless}
use Rattle.laws_trace.proofs.DataOfLink.{acknowledged-went}
use Rattle.laws_trace.proofs.NewsRows.{sabme_of}
use Rattle.laws_trace.proofs.Facts.{number-up}

-- In states 7 and 8, and behind what leaves a link there, V(A) goes on by what is acknowledged; otherwise nothing is.
module _ (t : Terms) (k : Link) where
  -- where it goes down
  going-acked : (e : Event) → is_multiple_frame (after t e k).state ≡ false → acknowledged t e k ≡ 0
  going-acked e goes = grind (arith, cond_both, event-follows, none-some)

  -- or where it was down
  down-acked : (e : Event) → is_multiple_frame k.state ≡ false → acknowledged t e k ≡ 0
  down-acked e down = grind (arith, none-some)

  -- by SABME
  anew-acked : (e : Event) → sabme_of e ≡ true → acknowledged t e k ≡ 0
  anew-acked e anew = grind arith

  -- and in states 7 and 8 the numbers begin anew by SABME alone
  frame-goes-on : (f : Parts) (ct : Control) → f.control ≡ ct → is_multiple_frame k.state ≡ true → is_sabme ct ≡ false → restarts t (received (frame f)) k ≡ true → ⊥
  frame-goes-on f ct is up none anew = grind arith

  goes-on : (e : Event) → is_multiple_frame k.state ≡ true → sabme_of e ≡ false → ends t e k ≡ false → restarts t e k ≡ true → ⊥
  goes-on e up none stays anew = grind (arith, frame-goes-on)

or_parts_false : (a b : Bool) → (a || b) ≡ false → a ≡ false
or_parts_false a b none = grind arith

-- V(A) goes on by what is acknowledged.
abbrev pub went_by : Bool → Link → Link → ℕ
went_by anew k x = cond (is_up (state_number k.state) && is_up (state_number x.state) && not anew) (steps (k.a % 128) (x.a % 128)) 0

module _ (t : Terms) (k : Link) (s : IsSound t k) (small : t.k ≤ 127) (e : Event) where
  abbrev next : Link
  next = after t e k

  abbrev more : List (List ℕ)
  more = accepted t e k

  abbrev gone : ℕ
  gone = acknowledged t e k

  -- What is left.
  pub none-left : empties t e k ≡ true → queue_of next ≡ []
  none-left all = (event-done t k s e).comes.kept ∙ ap (λ true. cond {A = List (List ℕ)} true [] (drop gone (queue_of k) ++ more)) all

  -- in states 7 and 8, where the numbers go on
  moved : restarts t e k ≡ false → empties t e k ≡ false → next.a ≡ k.a + gone
  moved on some =
      (event-done t k s e).comes.acknowledged
      ∙ ap (λ r. (with_share (record { accepted = k.contents; acknowledged = k.a }) (record { restarts = r; empties = empties t e k; accepted = more; acknowledged = gone })).acknowledged) on
      ∙ ap (λ r. (with_share (record { accepted = k.contents; acknowledged = k.a }) (record { restarts = false; empties = r; accepted = more; acknowledged = gone })).acknowledged) some

  went-up : next.a ≡ k.a + gone → steps (k.a % 128) (next.a % 128) ≡ gone
  went-up is = omega (arith, is, acknowledged-went t e k s.ordered, s.within, small)

  went-is : empties t e k ≡ false → went_by (sabme_of e) k next ≡ gone
  went-is some =
      ap (λ b. cond (b && is_up (state_number next.state) && not (sabme_of e)) (steps (k.a % 128) (next.a % 128)) 0) (number-up k.state)
      ∙ ap (λ b. cond (is_multiple_frame k.state && b && not (sabme_of e)) (steps (k.a % 128) (next.a % 128)) 0) (number-up next.state)
      ∙ go (is_multiple_frame k.state) refl (is_multiple_frame next.state) refl (sabme_of e) refl
    where
      go : (u : Bool) → is_multiple_frame k.state ≡ u → (v : Bool) → is_multiple_frame next.state ≡ v → (m : Bool) → sabme_of e ≡ m
          → cond (u && v && not m) (steps (k.a % 128) (next.a % 128)) 0 ≡ gone
      go false was v is m by = sym (down-acked t k e was)
      go true was false is m by = sym (going-acked t k e is)
      go true was true is true by = sym (anew-acked t k e by)
      go true was true is false by =
          went-up (moved (sym (unless (restarts t e k) (goes-on t k e was by (or_parts_false (ends t e k) (tells_loss (told t e k).notes) some)))) some)

  pub some-left : empties t e k ≡ false → queue_of next ≡ drop (went_by (sabme_of e) k next) (queue_of k) ++ more
  some-left some =
      ((event-done t k s e).comes.kept ∙ ap (λ false. cond {A = List (List ℕ)} false [] (drop gone (queue_of k) ++ more)) some)
      ∙ ap (λ n. drop n (queue_of k) ++ more)
      (sym (went-is some))

-- A note of a link of a loss is one of this link.
module _ (t : Terms) where
  pub own-losses : (ns : List Note) → All (IsOwn t) ns → list_any is_loss ns ≡ list_any (is_loss_of t.service t.tei) ns
  own-losses [] all = refl
  own-losses (n ∷ ns) all =
      ap (λ b. b || list_any is_loss ns) (grind (arith, service-same, eq-eqb, All-head))
      ∙ ap (λ b. is_loss_of t.service t.tei n || b) (own-losses ns (All-tail (IsOwn t) n ns all))
