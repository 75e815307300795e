-- What puts an enquiry: nothing but the expiry of a timer leads a link to state 8.
use Rattle.laws_trace.proofs.Vocabulary.{arith, ◌≡◌, ◌&&◌, ◌||◌, Bool, true, false, cond, State, TeiAssigned, AwaitingEstablishment, TimerRecovery, Terms, Link, is_multiple_frame, Received, received, requested, offer, cleared, moves, by_frame, by_request, state_after, Control, LinkEvent as Event, LinkRequest as Request}
use Rattle.lapd_frame.specs.declared.readings.Reading.{Reading}

-- State 8 puts an enquiry where the link comes to it.
abbrev pub enquires : State → Bool
enquires TimerRecovery = true
enquires other = false

abbrev Still : State → State → Type 0
Still s to = (moves s to || false) ≡ true → enquires to ≡ true → ⊥

-- A frame, by the state.
in-4 : (r : Reading) (owed command : Bool) (control : Control) → Still TeiAssigned (by_frame r owed TeiAssigned command control)
in-4 r owed command control m h = grind arith

-- An N(R) that is invalid leads to state 5.
by-state : (r : Reading) (owed : Bool) (s : State) (command : Bool) (control : Control) → Still s (by_frame r owed s command control)
by-state r owed s command control = grind (arith, in-4)

-- What the grammar does not have.
malformed : (s : State) → Still s (cond (is_multiple_frame s && true) AwaitingEstablishment s)
malformed s m h = grind arith

-- Requests.
by-asked : (s : State) (r : Request) → Still s (by_request s r)
by-asked s r m h = grind arith

abbrev pub IsNoOther : Event → Type 0
IsNoOther offer = ⊥
IsNoOther cleared = ⊥
IsNoOther other = Unit {0}

-- So no frame and no request leads there.
pub none-heard : (t : Terms) (what : Received) (l : Link) → Still l.state (state_after t (received what) l)
none-heard t what l = grind (arith, by-state, malformed)

pub none-asked : (t : Terms) (r : Request) (full : Bool) (l : Link) → Still l.state (state_after t (requested r full) l)
none-asked t r full l = by-asked l.state r
