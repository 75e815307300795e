-- What a link tells of establishments and releases: each event of it; and who asked for the establishment that it awaits.
use Rattle.laws_trace.proofs.Vocabulary.{arith, ◌≡◌, refl, ap, eqb-true, ◌==◌, ◌&&◌, not, Bool, true, false, IsTrue, cond, Option, Some, None, LinkEstablish as Establish, LinkRelease as Release, List, sym, ◌∙◌, subst, filter, State, AwaitingEstablishment, Terms, received, requested, cleared, Link, state_number, notes-own, as_heard, state_after, moves, told_by, event-follows, Note}
use Rattle.laws_trace.proofs.Vocabulary.{LinkEvent as Event, LinkRequest as Request, frame, is_news, link_told, link_after}
use Rattle.lapd_frame.specs.Readings.{by_reading}
use Rattle.laws_link.specs.Flags.{asked_left, asks_establishment, owed_left}
use Rattle.laws_link.specs.States.{is_clearing}
use Rattle.model_link.specs.Sound.{IsOwing}
use Rattle.laws_trace.proofs.NewsWatched.{Wanted, due, newly, with_wish}
use Rattle.laws_trace.proofs.NewsRows.{all-news, errors_of, xid_of, sabme_of, released_of, Fits, Told, wanted_of, nothing-fits, by-control}

module _ (t : Terms) (l : Link) where
  asks : (here : State) (r : Request) (full : Bool) → Told t l here (requested r full)
  asks here r full = grind arith

  told : (e : Event) → (e ≡ cleared → ⊥) → let to = state_after t (as_heard t e) l in
      Fits t l (errors_of t e (state_number l.state) (state_number to)) (xid_of e) (sabme_of e) (released_of e) l.state to (told_by t (as_heard t e) l to)
  told (received (frame f)) some = by-control t l l.state f.address f.control f.info
  told e some = grind (arith, asks, nothing-fits)

  -- The notes of an event of a link.
  pub event-news : (e : Event) → (e ≡ cleared → ⊥) → let ns = (link_told t e l).notes in let to = (link_after t e l).state in
      filter (is_news t.service t.tei) ns
      ≡ due t.service t.tei (errors_of t e (state_number l.state) (state_number to)) (wanted_of l) (xid_of e) (sabme_of e) (released_of e) (not (l.s == l.a)) (state_number l.state) (state_number to)
  event-news e some =
      let leaves = (event-follows t e l).leaves in
      let ns = (link_told t e l).notes in
      let its : State → List Note → Type 0 = λ to ns. Fits t l (errors_of t e (state_number l.state) (state_number to)) (xid_of e) (sabme_of e) (released_of e) l.state to ns in
      all-news t ns (notes-own t e l)
      ∙ subst (λ ns. its (link_after t e l).state ns) (sym leaves.tells) (subst (λ to. its to (told_by t (as_heard t e) l to)) (sym leaves.state) (told e some))

-- Who asked for the establishment that is awaited, and whether a release is owed.
abbrev pub Asks : State → Wanted → Bool → Bool → Type 0
Asks AwaitingEstablishment was asked owed = (was.asked ≡ asked) × (was.owed ≡ owed)
Asks other was asked owed = Unit {0}

-- What layer 3 decides in state 5.
abbrev pub wish_at : Terms → Event → Option Bool
wish_at t (requested Establish full) = by_reading t.reading None (Some true)
wish_at t (requested Release full) = by_reading t.reading None (Some false)
wish_at t other = None

-- In state 5, and as the link comes there.
five-is : (s : State) → state_number s ≡ 5 → s ≡ AwaitingEstablishment
five-is s is = grind arith

asks-so : (t : Terms) (e : Event) (l : Link) → (state_number l.state == 5) ≡ false → state_after t e l ≡ AwaitingEstablishment → asks_establishment e l.state ≡ (state_number l.state == 4)
asks-so t e l other is = grind arith

module _ (t : Terms) (l : Link) (was : Wanted) (owing : IsTrue l.owed → IsOwing t l) (e : Event) (some : e ≡ cleared → ⊥) where
  abbrev then_asks : Bool → Bool → Type 0
  then_asks asked owed =
      Asks AwaitingEstablishment (cond ((state_number AwaitingEstablishment == 5) && moves l.state AwaitingEstablishment) (newly (state_number l.state == 4)) (with_wish (wish_at t e) was)) asked owed

  stays-5 : Asks l.state was l.asked l.owed → state_number l.state ≡ 5 → (asked owed : Bool) → asked ≡ asked_left t (as_heard t e) l AwaitingEstablishment → owed ≡ owed_left t (as_heard t e) l AwaitingEstablishment
      → then_asks asked owed
  stays-5 asks at asked owed asked_is owed_is = grind (arith, five-is, owing)

  comes-5 : state_after t (as_heard t e) l ≡ AwaitingEstablishment → (state_number l.state == 5) ≡ false → (asked owed : Bool) → asked ≡ asked_left t (as_heard t e) l AwaitingEstablishment → owed ≡ owed_left t (as_heard t e) l AwaitingEstablishment
      → then_asks asked owed
  comes-5 leads other asked owed asked_is owed_is = grind (arith, asks-so, owing)

module _ (t : Terms) (l : Link) (was : Wanted) (owing : IsTrue l.owed → IsOwing t l) where
  pub event-asking : (e : Event) → (e ≡ cleared → ⊥) → Asks l.state was l.asked l.owed → let y = link_after t e l in
      Asks y.state (cond ((state_number y.state == 5) && moves l.state y.state) (newly (state_number l.state == 4)) (with_wish (wish_at t e) was)) y.asked y.owed
  event-asking e some asks = by-to y.state refl (state_number l.state == 5) refl
    where
      y : Link
      y = link_after t e l

      heard : Event
      heard = as_heard t e

      leads : y.state ≡ state_after t heard l
      leads = (event-follows t e l).leaves.state

      no-end : is_clearing heard ≡ false
      no-end = grind arith

      asked-is : y.asked ≡ asked_left t heard l y.state
      asked-is = (event-follows t e l).leaves.asked

      owed-is : y.owed ≡ owed_left t heard l y.state
      owed-is = (event-follows t e l).leaves.owed

      by-to : (to : State) → y.state ≡ to → (five : Bool) → (state_number l.state == 5) ≡ five
          → Asks to (cond ((state_number to == 5) && moves l.state to) (newly (state_number l.state == 4)) (with_wish (wish_at t e) was)) y.asked y.owed
      by-to AwaitingEstablishment is true at = stays-5 t l was owing e some asks (eqb-true (state_number l.state) 5 at) y.asked y.owed (asked-is ∙ ap (asked_left t heard l) is) (owed-is ∙ ap (owed_left t heard l) is)
      by-to AwaitingEstablishment is false at = comes-5 t l was owing e some (sym leads ∙ is) at y.asked y.owed (asked-is ∙ ap (asked_left t heard l) is) (owed-is ∙ ap (owed_left t heard l) is)
      by-to to is five at = grind arith
