-- The numbers of a link begin anew by nothing but an establishment, or the end of its TEI.
use Rattle.laws_link.proofs.Vocabulary.{arith, ◌≡◌, ℕ, Bool, true, false, List, refl, sym, ◌∙◌, true≢false, Control, Sabme, Ua, State, Terms, Link, Course, begun, restarts, IsEstablished, Establishes, Fits, FitsEvent, Kept, frame_row, event_row, Event, cleared, frame, received, after, frame_in, frame_step}

-- The numbers go on.
pub record GoesOn (zeroed : Bool) : Type 0 where
  pub on : zeroed ≡ false

abbrev pub On : Course → Type 0
On c = GoesOn c.zeroed

words : (t : Terms) → Kept t (Unit {0}) ⊥ (Unit {0}) On (λ p q c. On c) On
words t = grind arith

module _ (t : Terms) (l : Link) where
  begins : On (begun l)
  begins = record { on = refl }

  goes-on : (here : State) (b : Bool) (octets : List ℕ) (control : Control) → Fits (Unit {0}) ⊥ (Unit {0}) control
      → {X : Type 0} → (frame_in here t b octets control (begun l)).zeroed ≡ true → X
  goes-on here b octets control may e = absurd (true≢false (sym e ∙ ((frame_row (words t) here b octets control may).leads (begun l) begins).on))

  other : (e : Event) → FitsEvent (Unit {0}) ⊥ (Unit {0}) e → {X : Type 0} → restarts t e l ≡ true → X
  other e may is = absurd (true≢false (sym is ∙ ((event_row (words t) e may).leads (begun l) begins).on))

  by-sabme : (here : State) (b p : Bool) (octets : List ℕ) → (frame_in here t b octets (Sabme p) (begun l)).zeroed ≡ true
      → IsEstablished (Sabme p) (frame_in here t b octets (Sabme p) (begun l)).link
  by-sabme here b p octets e = grind (arith, other)

  by-ua : (here : State) (b f : Bool) (octets : List ℕ) → (frame_in here t b octets (Ua f) (begun l)).zeroed ≡ true
      → IsEstablished (Ua f) (frame_in here t b octets (Ua f) (begun l)).link
  by-ua here b f octets e = grind (arith, goes-on, other)

  frames : (b : Bool) (octets : List ℕ) (control : Control) → (frame_step t b octets control (begun l)).zeroed ≡ true
      → IsEstablished control (frame_step t b octets control (begun l)).link
  frames b octets (Sabme p) e = by-sabme l.state b p octets e
  frames b octets (Ua f) e = by-ua l.state b f octets e
  frames b octets other e = goes-on l.state b octets other tt e

  pub establishes : (e : Event) → restarts t e l ≡ true → Establishes e (after t e l)
  establishes (received (frame f)) is = frames f.address.command f.info f.control is
  establishes cleared is = refl
  establishes another is = other another tt is
