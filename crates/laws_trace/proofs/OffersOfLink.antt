-- What a link gives next is what an observer has it offer.
use Rattle.laws_trace.proofs.Vocabulary.{◌≡◌, ℕ, zero, suc, ◌+◌, ◌%◌, ◌<◌, ◌≤◌, ◌==◌, Bool, true, false, cond, List, [], ◌∷◌, drop, length, slice_get, Some, None, refl, sym, ap, ◌∙◌, inl, inr, arith, and_parts, fold, Service, place_of-is, Information, ReceiveReady, seq, given-in-order, given-is-offered, IsInOrder, IsOffered, State, Established, ControlFrame, Terms, Link, is_multiple_frame}
use Rattle.laws_trace.proofs.Vocabulary.{state_number, Given, Config, Line, link_of, place_in, terms, IsInRange, IsSilent, terms_in_range, line_at, moments, ltb-true, lt-ltb, line_frame_of as frame_of, IsSound, fresh, CardEvent as Event, after_all, AreAtLines, is_seq, text, may_go, offers, View, steps, view_of, Outgoing, outgoing_of, is_up, offer, link_after as after, given}
use Rattle.laws_trace.specs.FramesAreDue.{window}
use Rattle.model_link.specs.Sound as link_sound
use Rattle.laws_link.specs.Sending.{MayGo}
use Rattle.laws_trace.proofs.LineAtEnd.{line-at-end, link-at-end}
use Rattle.laws_trace.proofs.DeliveriesKept.{run-stands}
use Rattle.laws_trace.proofs.ObservedAcknowledged.{agrees-now}
use Rattle.laws_trace.proofs.ObservedLaws.{numbers-now}
use Rattle.laws_trace.proofs.ObservedShape.{known_of}
use Rattle.laws_trace.proofs.Outgoing.{view-is, kept-now}
use Rattle.laws_trace.proofs.OwedNow.{owed-now}
use Rattle.laws_trace.proofs.Plain.{all-wait}
use Rattle.laws_trace.proofs.SeenAs.{known-up, seen-before}
use Rattle.laws_trace.proofs.TimerClaims.{IsKnown}
use Rattle.laws_trace.proofs.TimersAreTimely.{true-now}
use Rattle.laws_trace.proofs.TimersWatched.{Known, nothing_yet, watch}
use Rattle.laws_trace.proofs.WaitingNow.{waiting-now}
use Rattle.laws_trace.proofs.Facts.{some-of, not-so, number-up}

-- The window of a link is that of its service.
window-is : (c : Config) (service : Service) (tei : ℕ) → window c service ≡ (terms c service tei).k
window-is c service tei = grind arith

-- What a link offers, one after the other.
abbrev unsent : Outgoing → List (List ℕ)
unsent o = drop (steps o.view.link.acknowledged o.view.link.next) o.kept

abbrev by_itself : Config → Service → ℕ → Outgoing → List (List ℕ)
by_itself c service tei o = cond o.owes (text c service tei false (ReceiveReady (seq o.view.link.count) false) [] ∷ []) []

abbrev sends : Config → Service → ℕ → Outgoing → List (List ℕ) → List (List ℕ)
sends c service tei o (contents ∷ rest) =
    cond (may_go c service o.view.link) (text c service tei true (Information (seq o.view.link.next) (seq o.view.link.count) false) contents ∷ []) (by_itself c service tei o)
sends c service tei o [] = by_itself c service tei o

abbrev offers_behind : Config → Service → ℕ → Outgoing → List ControlFrame → List (List ℕ)
offers_behind c service tei o (f ∷ fs) = text c service tei f.command f.control [] ∷ []
offers_behind c service tei o [] = sends c service tei o (unsent o)

module _ (c : Config) (service : Service) (tei : ℕ) (o : Outgoing) where
  offers-are : offers c service tei o ≡ offers_behind c service tei o o.waiting
  offers-are = grind arith

-- Lists.
drop-none : (n : ℕ) → drop {A = List ℕ} n [] ≡ []
drop-none n = grind arith

drop-twice : (xs : List (List ℕ)) (a n m : ℕ) → a + m ≡ n → drop m (drop a xs) ≡ drop n xs
drop-twice xs zero n m is = let same : m ≡ n = omega (arith, is) in ap (λ k. drop k xs) same
drop-twice [] (suc a) n m is = drop-none m ∙ sym (drop-none n)
drop-twice (x ∷ xs) (suc a) zero m is = absurd (omega (arith, is))
drop-twice (x ∷ xs) (suc a) (suc n) m is = drop-twice xs a n m (omega (arith, is))

at-front : (xs : List (List ℕ)) (n : ℕ) (x : List ℕ) → slice_get xs n ≡ Some x → (rest : List (List ℕ)) × (drop n xs ≡ x ∷ rest)
at-front [] n x is = absurd (cc is)
at-front (y ∷ xs) zero x is = (xs, ap (λ z. z ∷ xs) (cc is))
at-front (y ∷ xs) (suc n) x is = at-front xs n x is

some-left : (xs : List (List ℕ)) (n : ℕ) (x : List ℕ) (rest : List (List ℕ)) → drop n xs ≡ x ∷ rest → n < length xs
some-left [] n x rest is = grind (arith, drop-none)
some-left (y ∷ xs) zero x rest is = omega arith
some-left (y ∷ xs) (suc n) x rest is = let few = some-left xs n x rest is in omega (arith, few)

seven : (s : State) → (state_number s == 7) ≡ true → s ≡ Established
seven s is = grind arith

module _ (c : Config) (events : List Event) (number : ℕ) (ranged : IsInRange c) (all : AreAtLines (fresh c) events) (within : number < c.lines) (service : Service) (tei place : ℕ)
    (on : place_in (line_at number (after_all (fresh c) events)) tei ≡ Some place) where
  abbrev line : Line
  line = line_at number (after_all (fresh c) events)

  abbrev own : Link
  own = link_of service tei line

  abbrev t : Terms
  t = terms c service tei

  abbrev o : Outgoing
  o = outgoing_of c service tei number events

  abbrev v : View
  v = view_of c service tei number events

  line_sound : IsSound c line
  line_sound = line-at-end c events number ranged all within

  range : link_sound.IsInRange t
  range = terms_in_range c ranged service tei (line_sound.management.table.range place tei (place_of-is line.management.places tei place on).1)

  view : o.view ≡ v
  view = view-is c number ranged within service tei events

  waits-are : o.waiting ≡ own.waiting
  waits-are = waiting-now c number ranged within service tei events all place on ∙ all-wait c events number ranged all within service tei place on

  owes-are : o.owes ≡ own.pending
  owes-are = owed-now c number ranged within service tei events all place on

  state-is : o.view.link.state ≡ state_number own.state
  state-is = ap (λ (v : View). v.link.state) view ∙ (seen-before c events number ranged all within service tei place on).state_is

  -- In states 7 and 8 the numbers are the link's.
  module _ (up : is_multiple_frame own.state ≡ true) where
    abbrev k : Known
    k = fold (watch c service tei number) nothing_yet (moments (fresh c) events)

    known : IsKnown k own.a own.s own.peer_busy
    known = known-up own.state k own.a own.s own.peer_busy up (true-now c events number ranged all within service tei)

    numbers : known_of v.link ≡ k
    numbers = numbers-now c events number ranged all within service tei

    seen_up : is_up v.link.state ≡ true
    seen_up = ap is_up (seen-before c events number ranged all within service tei place on).state_is ∙ number-up own.state ∙ up

    count-is : o.view.link.count ≡ own.r
    count-is = grind (arith, view, agrees-now, seen_up, run-stands)

    acknowledged-is : o.view.link.acknowledged ≡ own.a % 128
    acknowledged-is = ap (λ (v : View). v.link.acknowledged) view ∙ ap (λ (z : Known). z.acknowledged) numbers ∙ known.acknowledged

    next-is : o.view.link.next ≡ own.s % 128
    next-is = ap (λ (v : View). v.link.next) view ∙ ap (λ (z : Known). z.next) numbers ∙ known.next

    busy-is : o.view.link.busy ≡ own.peer_busy
    busy-is = ap (λ (v : View). v.link.busy) view ∙ ap (λ (z : Known). z.busy) numbers ∙ known.busy_is

    steps-are : own.a + steps o.view.link.acknowledged o.view.link.next ≡ own.s
    steps-are =
        let low : own.a ≤ own.s = (link-at-end c line ranged line_sound service tei place on).ordered in
        let high : own.s ≤ own.a + t.k = (link-at-end c line ranged line_sound service tei place on).within in
        let small : t.k ≤ 127 = range.k_high in omega (arith, acknowledged-is, next-is, low, high, small)

    unsent-is : unsent o ≡ drop own.s own.contents
    unsent-is = grind (arith, steps, kept-now, drop-twice, steps-are)

  may-so : MayGo t own → may_go c service o.view.link ≡ true
  may-so may = grind (arith, steps-are, state-is, busy-is, lt-ltb, window-is)

  -- where none may go, it is the acknowledgement,
  none-sent : (MayGo t own → ⊥) → sends c service tei o (unsent o) ≡ by_itself c service tei o
  none-sent may_not = go (unsent o) refl (may_go c service o.view.link) refl
    where
      go : (left : List (List ℕ)) → unsent o ≡ left → (b : Bool) → may_go c service o.view.link ≡ b → sends c service tei o left ≡ by_itself c service tei o
      go [] none b may = refl
      go (contents ∷ rest) some true may = absurd (may_not (grind (arith, and_parts, seven, state-is, steps-are, ltb-true, not-so, busy-is, some-left, unsent-is, window-is)))
      go (contents ∷ rest) some false may = ap (λ b. cond b (text c service tei true (Information (seq o.view.link.next) (seq o.view.link.count) false) contents ∷ []) (by_itself c service tei o)) may

  behind-none : own.waiting ≡ [] → offers c service tei o ≡ sends c service tei o (unsent o)
  behind-none none = offers-are c service tei o ∙ ap (offers_behind c service tei o) (waits-are ∙ none)

  pub nothing-offered : IsSilent t own → offers c service tei o ≡ []
  nothing-offered silent = grind (arith, behind-none, none-sent, owes-are)

  -- What is given is offered.
  abbrev Offers : Given → Type 0
  Offers g = offers c service tei o ≡ frame_of c t g ∷ []

  seq-again : (n : ℕ) → seq (n % 128) ≡ seq n
  unfolding seq
  seq-again n = is_seq (seq (n % 128)) n (omega arith)

  in-order : (g : Given) → IsInOrder t own (after t offer own) g.frame → IsOffered own.contents own.s g.frame g.contents → Offers g
  in-order g (inl oldest) offered =
      offers-are c service tei o ∙ ap (offers_behind c service tei o) (waits-are ∙ oldest.waited) ∙ ap (λ f. f ∷ []) (sym (grind arith))
  in-order g (inr (inl x)) offered = grind (arith, at-front, behind-none, unsent-is, may-so, next-is, seq-again, count-is)
  in-order g (inr (inr x)) offered =
      let up : is_multiple_frame own.state ≡ true = ((run-stands c events number ranged all within service tei).2.pends_up) x.was_owed in
      let bare : g.contents ≡ None = grind arith in
      behind-none x.none ∙ none-sent x.may_not
      ∙ ap (λ b. cond b (text c service tei false (ReceiveReady (seq o.view.link.count) false) [] ∷ []) []) (owes-are ∙ x.was_owed)
      ∙ ap (λ n. text c service tei false (ReceiveReady (seq n) false) [] ∷ []) (count-is up) ∙ ap (λ f. f ∷ []) (sym (grind arith))

  pub given-is-offered-so : (g : Given) → given t own ≡ Some g → Offers g
  given-is-offered-so g some =
      in-order g (some-of (λ g. IsInOrder t own (after t offer own) g.frame) (given t own) g some (given-in-order t own (link-at-end c line ranged line_sound service tei place on)))
      (some-of (λ g. IsOffered own.contents own.s g.frame g.contents) (given t own) g some (given-is-offered t own (link-at-end c line ranged line_sound service tei place on)))
