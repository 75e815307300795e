-- What the other end does leaves what an end sends as sure as it was, where nothing more is lost.
use Rattle.laws_wire.proofs.Vocabulary.{◌≡◌, ℕ, ◌+◌, ◌≤◌, Bool, true, IsTrue, List, [], ◌∷◌, refl, sym, ap, subst, ◌∙◌, inl, inr, eq-eqb, arith, Control, Parts, LinkTimer, Terms, received, expired, Link, is_multiple_frame, frame_of, frame_step, begun, LinkEndpoint, with_link, has_room, rr_or_rnr, response, frames_of, Rising, is_recovering, Heard, most, heard, line, line-longer, NoAlien, Kind}
use Rattle.laws_wire.proofs.Vocabulary.{numbered, enquiry, alien, kind_of, kinds_of, kinds-append, tally, tally-push, one_enquiry, one_answer, frame, after, line_of}
use Rattle.laws_link.specs.two.Timely.{IsTimely}
use Rattle.laws_wire.proofs.Dense.{Replies, reaches-push}
use Rattle.laws_wire.proofs.Firm.{Firm}
use Rattle.laws_wire.proofs.Replying.{line-push, expires-so, ready-same, reject-same, Answers, enquiry-answered, next-taken}
use Rattle.laws_wire.proofs.Roomy.{kinds, roomy}
use Rattle.laws_wire.proofs.Sure.{Asking, Sure, longer-tally, room-for, none-open, back, known}
use Rattle.laws_wire.proofs.Tame.{IsFree}
use Rattle.laws_link.proofs.OfTwo.Flowing.{one-at-most}

replied-tally : (r : ℕ) (owes owes' : Bool) (fs fs' : List Parts) → Replies r owes owes' fs fs' → tally one_answer (kinds_of fs) ≤ tally one_answer (kinds_of fs')
replied-tally r owes owes' fs fs' o = grind (arith, one_answer, kinds_of, kind_of, kinds-append, tally-push)

-- The other end has the same V(R), and says nothing, or has it in what it says.
module _ (n m : LinkEndpoint) (rising : Rising m.link.a n.link.r (line_of n)) (l' : Link) (way : List Parts) (ds : List (List ℕ)) where
  abbrev then : LinkEndpoint
  then = record n { link = l'; way = way; delivered = ds }

  pub sure-replied : l'.r ≡ n.link.r → Replies n.link.r n.link.pending l'.pending (line_of n) (line_of then) → Sure m n → Sure m then
  sure-replied same says (inl q) =
      let more = replied-tally n.link.r n.link.pending l'.pending (line_of n) (line_of then) says in
      inl (record { state = q.state; open_ = omega (arith, q.open_, more) })
  sure-replied same says (inr q) = grind (arith, kinds, reaches-push)

module _ (n m : LinkEndpoint) (h : Firm n m) (wide : 3 ≤ n.terms.control) where
  pub other-expires : (timer : LinkTimer) → IsTimely timer n m → IsTrue (is_multiple_frame (after n.terms (expired timer) n.link).state) → Sure m n → Sure m (with_link (expired timer) n)
  other-expires timer timely up s =
      let l' : Link = after n.terms (expired timer) n.link in
      let ds : List (List ℕ) = (with_link (expired timer) n).delivered in
      elim (expires-so n.terms n.link h.joined.near_up timer (λ running. room-for n m h wide (none-open n m h wide timer timely running)) up) [
        | inl e ↦ subst (λ l. Sure m (record n { link = l; delivered = ds })) (sym e) (sure-replied n m h.joined.back.rising n.link n.way ds refl (inl (refl, refl)) s)
        | inr q ↦ sure-replied n m h.joined.back.rising l' n.way ds q.r (inr (frame_of n.terms q.frame, line-push n.terms n.way n.link.waiting l'.waiting q.frame q.waits, q.means)) s
      ]

-- ---- it hears a frame

-- one that asks nothing and carries nothing
module _ (t : Terms) (l : Link) (before : IsTrue (is_multiple_frame l.state)) (octets : List ℕ) where
  abbrev IsUpBy : Bool → Control → Type 0
  IsUpBy b control = IsTrue (is_multiple_frame (frame_step t b octets control (begun l)).link.state)

  -- an enquiry
  asked-answers : has_room t l ≡ true → (b : Bool) (control : Control) → kind_of b control ≡ enquiry → IsFree control → IsUpBy b control
      → Answers t l (frame_step t b octets control (begun l)).link
  asked-answers room b control e free up = grind (arith, enquiry-answered)

module _ (n m : LinkEndpoint) (h : Firm n m) (wide : 3 ≤ n.terms.control) (p : Parts) (fs : List Parts) (first : m.way ≡ p ∷ fs) (free : IsFree p.control)
    (up' : IsTrue (is_multiple_frame (after n.terms (received (frame p)) n.link).state)) where
  abbrev l' : Link
  l' = after n.terms (received (frame p)) n.link

  abbrev n' : LinkEndpoint
  n' = with_link (received (frame p)) n

  abbrev m' : LinkEndpoint
  m' = record m { way = fs }

  abbrev x : Kind
  x = kind_of p.address.command p.control

  abbrev rest : List Kind
  rest = line m.terms fs m.link.waiting

  -- the sender has one frame less on its way, of which none was an enquiry
  less : (y : Kind) → x ≡ y → one_enquiry y ≡ 0 → Asking m n → Asking m' n
  less y e none q = grind (arith, kinds, one_enquiry, one_answer)

  -- an enquiry
  asked : (1 + tally one_enquiry rest) + tally one_answer (kinds n) ≤ most (is_recovering m.link.state) → tally one_enquiry (kinds n) + tally one_answer (kinds n) ≤ 1
  asked all = grind (arith, is_recovering, one-at-most, one_enquiry, kinds, one_answer)

  by-enquiry : x ≡ enquiry → Sure m n → Sure m' n'
  by-enquiry e (inl q) =
      let room = roomy n m h wide (asked (subst (λ y. (one_enquiry y + tally one_enquiry rest) + tally one_answer (kinds n) ≤ most (is_recovering m.link.state)) e (back n m h p fs first).asked)) in
      let a = asked-answers n.terms n.link h.joined.near_up p.info room p.address.command p.control e free up' in
      let f = response (rr_or_rnr true n.link) in
      let one : one_answer (kind_of f.command f.control) ≡ 1 = grind arith in
      let all : tally one_answer (kinds n') ≡ tally one_answer (kinds n) + one_answer (kind_of f.command f.control) =
      ap (λ fs. tally one_answer (kinds_of fs)) (line-push n.terms n.way n.link.waiting l'.waiting f a.waits)
      ∙ ap (tally one_answer) (kinds-append (line_of n) (frame_of n.terms f ∷ [])) ∙ tally-push one_answer (kinds n) (kind_of f.command f.control) in
      inl (record { state = q.state; open_ = omega (arith, one, all) })
  by-enquiry e (inr q) = grind (arith, one_enquiry, one_answer, kinds, is_recovering, back)

  by-kind : (y : Kind) → x ≡ y → NoAlien y → Heard y (is_recovering n.link.state) n.link l' → Sure m n → Sure m' n'
  by-kind (numbered ns) e known_ k s = grind (arith, less, longer-tally, one_answer, kinds, line-longer, eq-eqb, next-taken)
  by-kind enquiry e known_ k s = by-enquiry e s
  by-kind alien e known_ k s = absurd known_
  by-kind other e known_ k s = grind (arith, ready-same, reject-same, sure-replied, frames_of, Sure, less)

  pub other-hears : Sure m n → Sure m' n'
  other-hears s = by-kind x refl (known n m h p fs first) (heard n.terms n.link h.joined.near_up p.address.command p.info p.control up') s
