-- What each event tells of a link in state 6, and in state 4.
use Rattle.laws_order.proofs.Vocabulary.{arith, ◌≡◌, Bool, true, false, List, [], ◌∷◌, refl, ◌⊎◌, filter, nat_lt, list_any, Control, Ua, Dm, Note, State, TeiAssigned, AwaitingRelease, Terms, received, Release, requested, cleared, Link, as_heard, state_after, told_by, event-follows, is_data_of, own-is, after, told, is_news, begins_by_note, is_plain_dm, NoCall, NoteError, NoteReleaseConfirm}
use Rattle.lapd_frame.specs.declared.notes.ErrorCode.TheVariants as code
use Rattle.model_link.specs.Events.{Event, frame, Establish}

-- What confirms a release: UA and DM with F=1, and that the link is as one that begins.
abbrev pub Confirms : Control → Type 0
Confirms (Ua true) = Unit {0}
Confirms (Dm true) = Unit {0}
Confirms other = ⊥

abbrev pub ConfirmsAt : Event → Type 0
ConfirmsAt (received (frame f)) = Confirms f.control
ConfirmsAt cleared = Unit {0}
ConfirmsAt other = ⊥

module _ (t : Terms) where
  abbrev News : List Note → List Note
  News ns = filter (is_news t.reading t.service t.tei) ns

  -- These notes tell this of the link, and no data.
  pub record Tells (ns told : List Note) : Type 0 where
    pub news : News ns ≡ told
    pub no_data : list_any (is_data_of t.service t.tei) ns ≡ false

  abbrev pub confirm : List Note
  confirm = NoteReleaseConfirm t.service t.tei ∷ []

  abbrev pub given_up : List Note
  given_up = NoteError t.service t.tei code.H ∷ confirm

  -- In state 6 a link stays there and tells nothing, or it comes to state 4, which it tells; where it tells no error, by its cause.
  abbrev pub In6 : Type 0 → List Note → State → Type 0
  In6 cause ns to = ((to ≡ AwaitingRelease) × Tells ns []) ⊎ ((to ≡ TeiAssigned) × ((Tells ns confirm × cause) ⊎ Tells ns given_up))

  abbrev pub In4 : List Note → State → Type 0
  In4 ns to = (to ≡ TeiAssigned) × Tells ns []

  abbrev pub Begins : List Note → Type 0
  Begins ns = list_any (begins_by_note t.service t.tei) ns ≡ true

  silent : Tells [] []
  silent = record { news = refl; no_data = refl }

  abbrev pub AsksNothing : Event → Type 0
  AsksNothing (requested Establish full) = ⊥
  AsksNothing (requested Release full) = ⊥
  AsksNothing other = Unit {0}

  -- The other side asks for an establishment, where it finds state 4.
  abbrev pub rings : Event → Bool
  rings (received (frame f)) = is_plain_dm f.control
  rings other = false

  module _ (l : Link) where
    abbrev Now : Event → List Note
    Now e = (told t e l).notes

    tells : (e : Event) → Now e ≡ told_by t (as_heard t e) l (after t e l).state
    tells e = (event-follows t e l).leaves.tells

    leads : (e : Event) → (after t e l).state ≡ state_after t (as_heard t e) l
    leads e = (event-follows t e l).leaves.state

    -- of a link of which the state is known
    pub in-6 : l.state ≡ AwaitingRelease → (e : Event) → In6 (ConfirmsAt e) (Now e) (after t e l).state
    in-6 is e = grind (arith, tells, leads, silent, own-is, nat_lt)

    pub in-4 : l.state ≡ TeiAssigned → (e : Event) → AsksNothing e → NoCall t.reading (rings e) → Begins (Now e) ⊎ In4 (Now e) (after t e l).state
    in-4 is e none uncalled = grind (arith, tells, leads, silent, own-is, nat_lt)
