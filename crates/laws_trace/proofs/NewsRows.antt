-- What a link tells of establishments, releases and errors, by each frame that it hears.
use Rattle.laws_trace.proofs.Vocabulary.{arith, ◌≡◌, ℕ, ◌==◌, ◌&&◌, ◌||◌, not, Bool, true, false, cond, List, [], ◌∷◌, ◌++◌, refl, sym, ap, ◌∙◌, All, filter, is_some, All-head, All-tail, Address, ErrorCode, Note, State, AwaitingEstablishment, Established, Terms, undefined, wrong_size, overlong, received, expired, requested, Link, state_number, as_heard, state_after, told_by, numbered_as}
use Rattle.laws_trace.proofs.Vocabulary.{Control, NoteXid as Xid, LinkEvent as Event, frame, LinkRelease as Release, IsOwn, is_up, is_news, is_sabme, is_xid, wrong_number, wrong_frame, given_up, F, L, N, O, NoteData as Data, Error, EstablishConfirm, EstablishIndication, ReleaseConfirm, ReleaseIndication}
use Rattle.laws_trace.proofs.NewsWatched.{Wanted, due}
use Rattle.laws_trace.proofs.LinkLed.{own-is}
use Rattle.laws_trace.proofs.MovesOfLink.{is_long}
use Rattle.laws_trace.proofs.TimerRows.{in_state}
use Rattle.lapd_frame.specs.Readings.{by_reading}

-- The kinds of notes alone: notes of a link are its own.
abbrev pub is_kind : Note → Bool
is_kind (EstablishIndication s n) = true
is_kind (EstablishConfirm s n) = true
is_kind (ReleaseIndication s n) = true
is_kind (ReleaseConfirm s n) = true
is_kind (Xid s n) = true
is_kind (Error s n k) = true
is_kind other = false

pub all-news : (t : Terms) (ns : List Note) → All (IsOwn t) ns → filter (is_news t.service t.tei) ns ≡ filter is_kind ns
all-news t [] all = refl
all-news t (n ∷ ns) all =
    ap (λ b. cond b (n ∷ filter (is_news t.service t.tei) ns) (filter (is_news t.service t.tei) ns)) (grind (arith, own-is, All-head))
    ∙ ap (λ ms. cond (is_kind n) (n ∷ ms) ms) (all-news t ns (All-tail (IsOwn t) n ns all))

abbrev pub heard_of : (Control → Bool) → Event → Bool
heard_of is (received (frame f)) = is f.control
heard_of is other = false

abbrev pub sabme_of : Event → Bool
sabme_of e = heard_of is_sabme e

abbrev pub xid_of : Event → Bool
xid_of e = heard_of is_xid e

-- What is malformed or too long is an error in states 7 and 8, and by annex B in each.
abbrev pub minds_by : Terms → ℕ → Bool
minds_by t state = is_up state || by_reading t.reading false true

-- The errors of an event of a link.
abbrev pub errors_of : Terms → Event → ℕ → ℕ → List ErrorCode
errors_of t (received (frame f)) from to = wrong_frame (is_long t f && minds_by t from) f.address.command f.control from to
errors_of t (received undefined) from to = cond (minds_by t from) (L ∷ []) []
errors_of t (received wrong_size) from to = cond (minds_by t from) (N ∷ []) []
errors_of t (received overlong) from to = cond (minds_by t from) (O ∷ []) []
errors_of t (expired timer) from to = given_up from to
errors_of t other from to = []

abbrev pub released_of : Event → Bool
released_of (requested Release full) = true
released_of other = false

-- What layer 3 asked for, by the link.
abbrev pub wanted_of : Link → Wanted
wanted_of l = record { asked = l.asked; owed = l.owed }

module _ (t : Terms) (l : Link) where
  -- What is told, and what is due.
  abbrev pub Fits : List ErrorCode → Bool → Bool → Bool → State → State → List Note → Type 0
  Fits errors xid sabme released from to ns = filter is_kind ns ≡ due t.service t.tei errors (wanted_of l) xid sabme released (not (l.s == l.a)) (state_number from) (state_number to)

  pub nothing-fits : (here : State) (ns : List Note) → filter is_kind ns ≡ [] → Fits [] false false false here here ns
  nothing-fits here ns none = none ∙ sym (grind arith)

  -- An N(R) in state 7 or 8, behind what else is told.
  information-7 : (invalid taken : Bool) → let to = cond invalid AwaitingEstablishment Established in
      Fits (wrong_number false 7 (state_number to)) false false false Established to (cond taken (Data t.service t.tei ∷ []) [] ++ numbered_as t to)
  information-7 invalid taken = grind arith

  -- SABME in states 7 and 8, and UA with F=1 in state 5, by whether contents are outstanding.
  anew-7 : (none : Bool) → filter is_kind (Error t.service t.tei F ∷ cond none [] (EstablishIndication t.service t.tei ∷ [])) ≡ due t.service t.tei (F ∷ []) (wanted_of l) false true false (not none) 7 7
  anew-7 none = grind arith

  abbrev pub Told : State → Event → Type 0
  Told here e =
      let to = state_after t (as_heard t e) (in_state here l) in
      Fits (errors_of t e (state_number here) (state_number to)) (xid_of e) (sabme_of e) (released_of e) here to (told_by t (as_heard t e) (in_state here l) to)

  abbrev part : Address → Control → List ℕ → Event
  part address control info = received (frame (record { address = address; control = control; info = info }))

  pub by-control : (here : State) (address : Address) (control : Control) (info : List ℕ) → Told here (part address control info)
  by-control here address control info = grind (arith, information-7, is_some, anew-7)
