-- Two cards of which one end, the far one, lasts in its establishment, whatever has become of the near one's: what goes to it.
use Rattle.laws_order.proofs.Vocabulary.{◌≡◌, ℕ, suc, ◌+◌, ◌<◌, ◌≤◌, false, List, [], ◌∷◌, ◌++◌, length, take, Option, Some, refl, arith, append-nil, inl, inr, slice_get, option_to_list, slice_get_within, Control, Information, ReceiveReady, ReceiveNotReady, Reject, Sabme, Disc, Parts, carries-next, Carries, Carried, Rising, Advance, HasNumber, is_ui, take-next}
use Rattle.laws_order.proofs.Down.{Speaks, Unheeded}
use Rattle.laws_order.proofs.Putting.{Each, Answered, Reporting}

-- What an end says that does not speak any more: SABME and DISC, behind reports.
abbrev pub Calls : Control → Type 0
Calls (ReceiveReady nr pf) = Unit {0}
Calls (ReceiveNotReady nr pf) = Unit {0}
Calls (Reject nr pf) = Unit {0}
Calls (Sabme p) = Unit {0}
Calls (Disc p) = Unit {0}
Calls other = ⊥

pub calls-report : Reporting Calls
calls-report = record { ready = λ nr pf. tt; not_ready = λ nr pf. tt; reject = λ nr pf. tt }

pub speaks-report : Reporting Speaks
speaks-report = record { ready = λ nr pf. tt; not_ready = λ nr pf. tt; reject = λ nr pf. tt }

pub calls-plain : (control : Control) → Calls control → is_ui control ≡ false
calls-plain control h = grind arith

pub speaks-plain : (control : Control) → Speaks control → is_ui control ≡ false
speaks-plain control h = grind arith

-- What speaks is answered by reports alone, and is not heeded by a link in states 4 to 6.
pub speaks-answered : (P : Control → Type 0) (control : Control) → Speaks control → Answered P control
speaks-answered P control h = grind arith

pub speaks-unheeded : (control : Control) → Speaks control → Unheeded control
speaks-unheeded control h = grind arith

pub rising-speaks : (a r : ℕ) (fs : List Parts) → Rising a r fs → Each Speaks fs
rising-speaks a r [] h = tt
rising-speaks a r (f ∷ fs) (m, up, means, h) = ((grind arith), rising-speaks m r fs h)

-- What is on the line to the far end, of which V(R) is r: I-frames as they were sent, reports, SABME and DISC.
abbrev pub Brings : List (List ℕ) → ℕ → ℕ → ℕ → List ℕ → Control → Type 0
Brings contents high r top octets (Information ns nr p) = Carries contents high r top ns octets
Brings contents high r top octets (ReceiveReady nr pf) = Unit {0}
Brings contents high r top octets (ReceiveNotReady nr pf) = Unit {0}
Brings contents high r top octets (Reject nr pf) = Unit {0}
Brings contents high r top octets (Sabme p) = Unit {0}
Brings contents high r top octets (Disc p) = Unit {0}
Brings contents high r top octets other = ⊥

abbrev pub Brought : List (List ℕ) → ℕ → ℕ → List Parts → Type 0
Brought contents high r [] = Unit {0}
Brought contents high r (f ∷ fs) = (top : ℕ) × (r ≤ top) × Brings contents high r top f.info f.control × Brought contents high top fs

module _ (contents : List (List ℕ)) (high : ℕ) where
  pub carried-brought : (r : ℕ) (fs : List Parts) → Carried contents high r fs → Brought contents high r fs
  carried-brought r [] h = tt
  carried-brought r (f ∷ fs) (top, up, piece, h) = (top, up, (grind arith), carried-brought top fs h)

  pub brought-lower : (r r' : ℕ) (fs : List Parts) → r' ≤ r → Brought contents high r fs → Brought contents high r' fs
  brought-lower r r' [] le h = tt
  brought-lower r r' (f ∷ fs) le (top, up, piece, h) = (top, omega (arith, le, up), (grind arith), h)

  pub brought-tail : (r : ℕ) (f : Parts) (fs : List Parts) → Brought contents high r (f ∷ fs) → Brought contents high r fs
  brought-tail r f fs (top, up, piece, h) = brought-lower top r fs up h

  pub brought-front : (r : ℕ) (fs gs : List Parts) → Brought contents high r (fs ++ gs) → Brought contents high r fs
  brought-front r [] gs h = tt
  brought-front r (f ∷ fs) gs (top, up, piece, h) = (top, up, piece, brought-front top fs gs h)

  pub brought-more : (r : ℕ) (fs gs : List Parts) → Brought contents high r fs → Each Calls gs → Brought contents high r (fs ++ gs)
  brought-more r [] [] h k = tt
  brought-more r [] (g ∷ gs) h k = (r, omega arith, (grind arith), brought-more r [] gs tt k.1)
  brought-more r (f ∷ fs) gs (top, up, piece, h) k = (top, up, piece, brought-more top fs gs h k)

  pub brought-plain : (r : ℕ) (fs : List Parts) → Brought contents high r fs → Each (λ control. is_ui control ≡ false) fs
  brought-plain r [] h = tt
  brought-plain r (f ∷ fs) (top, up, piece, h) = ((grind arith), brought-plain top fs h)

-- What the far end takes of the first frame on the line.
pub record Takes (contents : List (List ℕ)) (top r r' : ℕ) (d : Option (List ℕ)) : Type 0 where
  pub up : r ≤ r'
  pub to : r' ≤ top
  pub accepted : r' ≤ length contents
  pub delivered : take r contents ++ option_to_list d ≡ take r' contents

numbered : (contents : List (List ℕ)) (a k r top : ℕ) (octets : List ℕ) (control : Control) → k ≤ 127 → a ≤ r → Brings contents (a + k) r top octets control
    → HasNumber r control → (slice_get contents r ≡ Some octets) × (r + 1 ≤ top)
numbered contents a k r top octets (Information ns nr p) small low h is = carries-next contents (a + k) r top a k ns octets refl small low h is
numbered contents a k r top octets other small low h is = absurd is

pub takes-so : (contents : List (List ℕ)) (a k r r' top : ℕ) (octets : List ℕ) (control : Control) (d : Option (List ℕ)) → k ≤ 127 → a ≤ r → r ≤ top
    → r ≤ length contents → Brings contents (a + k) r top octets control → Advance control octets r r' d → Takes contents top r r' d
takes-so contents a k r r' top octets control d small low up accepted brings (inl (still, none)) = grind (arith, option_to_list, append-nil)
takes-so contents a k r r' top octets control d small low up accepted brings (inr (one, some, is)) =
    let known = numbered contents a k r top octets control small low brings is in
    let inside : r < length contents = slice_get_within contents r octets known.0 in
    let after : suc r ≡ r' = omega (arith, one) in
    grind (arith, option_to_list, take-next)
