-- An event of a link in state 7 or 8 leaves it there, or a note ends the establishment or renews it.
use Rattle.laws_order.proofs.Vocabulary.{arith, ◌≡◌, ℕ, ◌==◌, ◌&&◌, ◌||◌, Bool, true, false, cond, IsTrue, List, [], ◌∷◌, ◌++◌, None, refl, ap, ◌∙◌, eq-eqb, ◌⊎◌, inl, inr, nat_lt, list_any, list_any-append, Control, Information, Sabme, Disc, ErrorCode, Note, Parts, Seq, State, AwaitingEstablishment, TimerRecovery, Terms, Link, is_multiple_frame, Received, received, undefined}
use Rattle.laws_order.proofs.Vocabulary.{wrong_size}
use Rattle.laws_order.proofs.Vocabulary.{overlong, is_overlong, requested, Release, Course, as_heard, is_invalid, receipt_of, is_faulty, by_frame, state_after, is_anew, error, told_by, told_by_frame, told_malformed, told_cleared, event-follows, service-same, is_own, is_ui, after, told, ends_by_note, NoteError, or-true}
use Rattle.lapd_frame.specs.declared.notes.ErrorCode.TheVariants as code
use Rattle.model_link.specs.Events.{Event, frame}
use Rattle.model_link.specs.Machine

module _ (t : Terms) where
  abbrev pub Ended : List Note → Type 0
  Ended ns = list_any (ends_by_note t.service t.tei) ns ≡ true

  pub own : is_own t.service t.tei t.service t.tei ≡ true
  own = ap (λ b. b && t.tei == t.tei) (service-same t.service) ∙ eq-eqb t.tei t.tei refl

  one-ends : (n : Note) → ends_by_note t.service t.tei n ≡ true → Ended (n ∷ [])
  one-ends n is = ap (λ b. b || false) is

  error-ends : (why : ErrorCode) → is_anew why ≡ true → Ended (error t why)
  error-ends why anew = one-ends (NoteError t.service t.tei why) (ap (λ b. b && is_anew why) own ∙ anew)

  before : (xs ys : List Note) → Ended xs → Ended (xs ++ ys)
  before xs ys h = list_any-append (ends_by_note t.service t.tei) xs ys ∙ ap (λ b. b || list_any (ends_by_note t.service t.tei) ys) h

  abbrev pub Leaves : List Note → State → Type 0
  Leaves ns to = Ended ns ⊎ IsTrue (is_multiple_frame to)

  module _ (l : Link) (octets : List ℕ) (taken : Bool) where
    abbrev By : State → Bool → Control → Type 0
    By here command control =
        let now = cond (is_multiple_frame here && is_invalid l (receipt_of control)) AwaitingEstablishment (by_frame t.reading l.owed here command control) in
        Leaves (told_by_frame here t command octets control taken l now) now

    -- in state 8 a response with F=1 leads back to state 7
    information-up : (owed command : Bool) (ns nr : Seq) (p : Bool) → IsTrue (is_multiple_frame (by_frame t.reading owed TimerRecovery command (Information ns nr p)))
    information-up owed command ns nr p = grind arith

    in-state : (here : State) → IsTrue (is_multiple_frame here) → (command : Bool) (control : Control) → By here command control
    in-state here up command control = grind (arith, list_any-append, or-true, before, error-ends, one-ends, own, information-up)

  abbrev pub IsNoRelease : Event → Type 0
  IsNoRelease (requested Release full) = ⊥
  IsNoRelease other = Unit {0}

  clears : (here : State) (owed : Bool) → IsTrue (is_multiple_frame here) → Ended (told_cleared here owed t)
  clears here owed up = grind (arith, one-ends, own)

  -- An event ends it, and leaves it in state 4, 5 or 6.
  abbrev pub Fallen : Event → Link → Type 0
  Fallen e l = Ended (told t e l).notes × (is_multiple_frame (after t e l).state ≡ false)

  module _ (l : Link) (up : IsTrue (is_multiple_frame l.state)) where
    abbrev Goes : Event → Type 0
    Goes e = Leaves (told_by t e l (state_after t e l)) (state_after t e l)

    by-event : (e : Event) → IsNoRelease e → Goes (as_heard t e)
    by-event e may = grind (arith, in-state, error-ends, clears)

    pub event-leaves : (e : Event) → IsNoRelease e → Leaves (told t e l).notes (after t e l).state
    event-leaves e may = grind (arith, event-follows, by-event)

    -- What the grammar does not have, or was too long, ends it, and so does a release.
    malformed-falls : (e : Event) (r : Received) (why : ErrorCode) → is_anew why ≡ true → as_heard t e ≡ received r → is_faulty r l ≡ true
        → told_by t (received r) l (after t e l).state ≡ told_malformed l.state t why → Fallen e l
    malformed-falls e r why anew heard faulty tells = grind (arith, event-follows, error-ends, cond)

    pub undefined-falls : Fallen (received undefined) l
    undefined-falls = malformed-falls (received undefined) undefined code.L refl refl refl refl

    pub wrong-size-falls : Fallen (received wrong_size) l
    wrong-size-falls = malformed-falls (received wrong_size) wrong_size code.N refl refl refl refl

    pub overlong-falls : Fallen (received overlong) l
    overlong-falls = malformed-falls (received overlong) overlong code.O refl refl refl refl

    -- So do SABME and DISC.
    by-sabme : (here : State) → IsTrue (is_multiple_frame here) → (command : Bool) (octets : List ℕ) (p taken : Bool) (to : State)
        → Ended (told_by_frame here t command octets (Sabme p) taken l to)
    by-sabme here up command octets p taken to = grind (arith, before, error-ends)

    pub sabme-ends : (f : Parts) (p : Bool) → Ended (told t (received (frame (record f { control = Sabme p }))) l).notes
    sabme-ends f p = grind (arith, event-follows, by-sabme)

    pub disc-ends : (f : Parts) (p : Bool) → Ended (told t (received (frame (record f { control = Disc p }))) l).notes
    disc-ends f p = grind (arith, event-follows, one-ends, own)

  -- UI leaves a link as it was, and delivers no contents of an I-frame; or by annex B it is over N201.
  module _ (l : Link) where
    abbrev pub Same : Course → Type 0
    Same c = (c.link ≡ l) × (c.delivered ≡ None)

    kept : (f : Parts) → is_ui f.control ≡ true → is_overlong t f.control f.info ≡ false → Same (Machine.course t (received (frame f)) l)
    kept f is fits = grind (arith, nat_lt)

    pub unit-data : (f : Parts) → is_ui f.control ≡ true → IsTrue (is_multiple_frame l.state) → Same (Machine.course t (received (frame f)) l) ⊎ Fallen (received (frame f)) l
    unit-data f is up = go (is_overlong t f.control f.info) refl
      where
        go : (b : Bool) → is_overlong t f.control f.info ≡ b → Same (Machine.course t (received (frame f)) l) ⊎ Fallen (received (frame f)) l
        go false fits = inl (kept f is fits)
        go true long = inr (malformed-falls l up (received (frame f)) overlong code.O refl (ap (λ b. received (cond b overlong (frame f))) long) refl refl)
