-- There is room for each enquiry and each answer of two ends of which neither was ever busy, where three control frames may wait.
use Rattle.laws_wire.proofs.Vocabulary.{◌≡◌, ℕ, ◌+◌, ◌≤◌, true, false, List, [], ◌∷◌, ◌++◌, length, refl, arith, All, lt-ltb, All-head, All-tail, Parts, ControlFrame, Terms, Bool, Control, LinkEndpoint, has_room, frames_of, is_enquiry, HasNo, line, Kind, kind_of, kinds_of, kinds-append, tally, one_enquiry, one_answer, one_rejection, not-enquiry, NoAlien, Every, inl, inr, subst}
use Rattle.laws_link.specs.two.Timely.{is_answer}
use Rattle.laws_wire.proofs.Firm.{Firm}
use Rattle.laws_link.proofs.OfTwo.Flow.{Order}
use Rattle.laws_link.proofs.OfTwo.Trains.{Rise, Comes, Beyond}
use Rattle.laws_wire.proofs.Tame.{WaitsSo, counts}

abbrev pub kinds : LinkEndpoint → List Kind
kinds n = line n.terms n.way n.link.waiting

tally-append : (one : Kind → ℕ) (xs ys : List Kind) → tally one (xs ++ ys) ≡ tally one xs + tally one ys
tally-append one [] ys = omega arith
tally-append one (x ∷ xs) ys = let more : tally one (xs ++ ys) ≡ tally one xs + tally one ys = tally-append one xs ys in omega (arith, more)

-- none of two that stay up is an alien
comes-known : (lo top : ℕ) (x : Kind) → Comes lo top x → NoAlien x
comes-known lo top x h = grind arith

beyond-known : (r : ℕ) (x : Kind) → Beyond r x → NoAlien x
beyond-known r x h = grind arith

rise-known : (lo hi : ℕ) (xs : List Kind) → Rise lo hi xs → Every NoAlien xs
rise-known lo hi [] h = tt
rise-known lo hi (x ∷ xs) (top, up, here, rest) = (comes-known lo top x here, rise-known top hi xs rest)

order-known : (rejects : Bool) (r s : ℕ) (xs : List Kind) → Order rejects r s xs → Every NoAlien xs
order-known false r s xs h = rise-known r s xs h
order-known true r s [] h = tt
order-known true r s (x ∷ xs) (inl h) = rise-known r s (x ∷ xs) h
order-known true r s (x ∷ xs) (inr h) = (beyond-known r x h.0, order-known true r s xs h.1)

every-right : (P : Kind → Type 0) (xs ys : List Kind) → Every P (xs ++ ys) → Every P ys
every-right P [] ys h = h
every-right P (x ∷ xs) ys h = every-right P xs ys h.1

one-known : (f : ControlFrame) → WaitsSo f → NoAlien (kind_of f.command f.control) → counts (kind_of f.command f.control) ≡ 1
one-known f h known = elim h.one [ inl e ↦ e | inr e ↦ absurd (subst NoAlien e known) ]

count-waits : (t : Terms) (ws : List ControlFrame) → All WaitsSo ws → Every NoAlien (kinds_of (frames_of t ws))
    → length ws ≡ tally one_enquiry (kinds_of (frames_of t ws)) + tally one_answer (kinds_of (frames_of t ws)) + tally one_rejection (kinds_of (frames_of t ws))
count-waits t [] h known = refl
count-waits t (f ∷ fs) h known =
    let x = kind_of f.command f.control in
    let here : one_enquiry x + one_answer x + one_rejection x ≡ 1 = one-known f (All-head WaitsSo f fs h) known.0 in
    let more : length fs ≡ tally one_enquiry (kinds_of (frames_of t fs)) + tally one_answer (kinds_of (frames_of t fs)) + tally one_rejection (kinds_of (frames_of t fs)) =
    count-waits t fs (All-tail WaitsSo f fs h) known.1 in
    omega (arith, here, more)

pub roomy : (n m : LinkEndpoint) → Firm n m → 3 ≤ n.terms.control → tally one_enquiry (kinds n) + tally one_answer (kinds n) ≤ 1 → has_room n.terms n.link ≡ true
roomy n m h wide few =
    let waits = frames_of n.terms n.link.waiting in
    let known = subst (Every NoAlien) (kinds-append n.way waits) (order-known m.link.rejecting m.link.r n.link.s (kinds n) h.there.order) in
    let all = count-waits n.terms n.link.waiting h.near_tame.waiting (every-right NoAlien (kinds_of n.way) (kinds_of waits) known) in
    grind (arith, frames_of, kinds_of, kinds-append, tally-append, lt-ltb)

-- none of a kind waits or is on its way
module _ (asked : Bool → Control → Bool) (one : Kind → ℕ) (not_one : (b : Bool) (control : Control) → asked b control ≡ false → one (kind_of b control) ≡ 0) where
  abbrev IsNot : ControlFrame → Type 0
  IsNot f = asked f.command f.control ≡ false

  abbrev IsNotOnWay : Parts → Type 0
  IsNotOnWay f = asked f.address.command f.control ≡ false

  none-waits : (t : Terms) (ws : List ControlFrame) → All IsNot ws → tally one (kinds_of (frames_of t ws)) ≡ 0
  none-waits t [] h = refl
  none-waits t (f ∷ fs) h =
      let here : one (kind_of f.command f.control) ≡ 0 = not_one f.command f.control (All-head IsNot f fs h) in
      let more : tally one (kinds_of (frames_of t fs)) ≡ 0 = none-waits t fs (All-tail IsNot f fs h) in
      omega (arith, here, more)

  none-goes : (t : Terms) (way : List Parts) (ws : List ControlFrame) → All IsNotOnWay way → All IsNot ws → tally one (line t way ws) ≡ 0
  none-goes t [] ws h k = none-waits t ws k
  none-goes t (f ∷ fs) ws h k =
      let here : one (kind_of f.address.command f.control) ≡ 0 = not_one f.address.command f.control (All-head IsNotOnWay f fs h) in
      let more : tally one (line t fs ws) ≡ 0 = none-goes t fs ws (All-tail IsNotOnWay f fs h) k in
      omega (arith, here, more)

not-answer : (b : Bool) (control : Control) → is_answer b control ≡ false → one_answer (kind_of b control) ≡ 0
not-answer b control e = grind arith

pub none-asked : (n : LinkEndpoint) → HasNo is_enquiry n → tally one_enquiry (kinds n) ≡ 0
none-asked n h = none-goes is_enquiry one_enquiry not-enquiry n.terms n.way n.link.waiting h.way h.waiting

pub none-answered : (n : LinkEndpoint) → HasNo is_answer n → tally one_answer (kinds n) ≡ 0
none-answered n h = none-goes is_answer one_answer not-answer n.terms n.way n.link.waiting h.way h.waiting
