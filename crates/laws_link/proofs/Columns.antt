-- What an event leaves of a link, row by row of the tables.
use Rattle.laws_link.proofs.Vocabulary.{◌≡◌, ℕ, ◌+◌, Bool, false, cond, ◌||◌, List, [], ◌∷◌, ◌++◌, length, drop, Option, nat_lt, Control, Note, Parts, State, LinkTimer, ControlFrame, Terms, Link, Course, as_heard, state_after, numbers_begin, answers, commands, peer_busy_left, own_busy_left, flag_left, rejecting_heard, takes_contents, unless_put, owed_in, owed_behind, asked_left, owed_left}
use Rattle.laws_link.proofs.Vocabulary.{comes_to, repeats_left, told_with}
use Rattle.laws_link.proofs.Vocabulary.{Event, cleared, frame, offer, received, course}
use Rattle.lapd_frame.specs.declared.readings.Reading.{Reading}

-- What a course leaves: fields of its link, how many frames were lost, and whether the numbers begin.
pub record Left : Type 0 where
  pub state : State
  pub waiting : List ControlFrame
  pub notes : List Note
  pub lost : ℕ
  pub peer_busy : Bool
  pub own_busy : Bool
  pub rejecting : Bool
  pub pending : Bool
  pub asked : Bool
  pub owed : Bool
  pub repeats : ℕ
  pub zeroed : Bool

abbrev pub left : Course → Left
left c = record {
  state = c.link.state;
  waiting = c.link.waiting;
  notes = c.notes;
  lost = c.lost;
  peer_busy = c.link.peer_busy;
  own_busy = c.link.own_busy;
  rejecting = c.link.rejecting;
  pending = c.link.pending;
  asked = c.link.asked;
  owed = c.link.owed;
  repeats = c.link.repeats;
  zeroed = c.zeroed;
}

-- Frames that are put one after the other, and how many of them are lost.
abbrev pub queued : ℕ → List ControlFrame → List ControlFrame → List ControlFrame
queued most ws [] = ws
queued most ws (f ∷ fs) = queued most (cond (nat_lt (length ws) most) (ws ++ f ∷ []) ws) fs

abbrev pub unplaced : ℕ → List ControlFrame → ℕ → List ControlFrame → ℕ
unplaced most ws n [] = n
unplaced most ws n (f ∷ fs) =
    unplaced most (cond (nat_lt (length ws) most) (ws ++ f ∷ []) ws) (cond {A = ℕ} (nat_lt (length ws) most) n (n + 1)) fs

abbrev pub queued_by : Terms → Event → Link → List ControlFrame → List ControlFrame
queued_by t offer l fs = drop 1 l.waiting
queued_by t cleared l fs = []
queued_by t other l fs = queued t.control l.waiting fs

abbrev pub owed_by : Event → Link → State → List ControlFrame → Bool → Bool
owed_by offer l to fs takes = owed_behind l.waiting l.pending
owed_by other l to fs takes =
    cond (comes_to 6 l.state to) false (flag_left other l to (owed_in to (unless_put fs (takes || l.pending))) l.pending)

-- What the definitions say that it leaves, by the answers to it and what it says of REJ and of an I-frame that is taken.
abbrev pub due_by : Terms → Event → Link → List ControlFrame → Bool → Bool → State → Left
due_by t e l answers rejecting takes to = record {
  state = to;
  waiting = queued_by t e l (answers ++ commands e l to);
  notes = told_with t e takes l to;
  lost = unplaced t.control l.waiting 0 (answers ++ commands e l to);
  peer_busy = peer_busy_left e l to;
  own_busy = own_busy_left e l to;
  rejecting = flag_left e l to rejecting l.rejecting;
  pending = owed_by e l to (answers ++ commands e l to) takes;
  asked = asked_left t e l to;
  owed = owed_left t e l to;
  repeats = repeats_left t e l to;
  zeroed = numbers_begin e l.state to;
}

abbrev pub due : Terms → Event → Link → State → Left
due t e l to = due_by t e l (answers e l) (rejecting_heard e l) (takes_contents e l) to

abbrev pub at : State → Link → Link
at here l = record l { state = here }

abbrev pub at-busy : State → Bool → Bool → Bool → Link → Link
at-busy here owed own rej l = record l { state = here; owed = owed; own_busy = own; rejecting = rej }

abbrev pub at-owed : State → Bool → Link → Link
at-owed here owed l = record l { state = here; owed = owed }

abbrev pub at-running : State → Bool → Option LinkTimer → Link → Link
at-running here owed o l = record l { state = here; owed = owed; running = o }

abbrev pub at-waiting : State → List ControlFrame → Bool → Link → Link
at-waiting here ws owed l = record l { state = here; waiting = ws; pending = owed }

abbrev pub reads : Reading → Terms → Terms
reads r t = record t { reading = r }

abbrev pub hears : Parts → Bool → Control → Event
hears f b control = received (frame (record f { address = record f.address { command = b }; control = control }))

module _ (t : Terms) where
  -- The event leaves what is due in the state to which the table leads.
  abbrev pub Row : Event → Link → Type 0
  Row e l = left (course t e l) ≡ due t (as_heard t e) l (state_after t (as_heard t e) l)
