-- What an event of a link makes due are control frames.
use Rattle.laws_trace.proofs.Vocabulary.{arith, ◌≡◌, ℕ, ◌==◌, ◌||◌, cond, List, [], ◌∷◌, ◌++◌, Some, refl, ap, ◌∙◌, flat_map, All, nat_lt, length, All-nil, All-cons, All-append, All-head, All-tail, State, ControlFrame, received, requested, state_number, moves, LinkEvent as Event, frame}
use Rattle.laws_trace.proofs.ControlsWatched.{control_in, receipt, while_up, answer_to, changed, command_of}
use Rattle.laws_trace.proofs.DeliveriesWatched.{Standing}
use Rattle.laws_trace.proofs.MovesOfLink.{ticks}

abbrev pub controls : List ControlFrame → List ControlFrame
controls frames = flat_map (λ (f : ControlFrame). control_in f.command f.control) frames

-- What answers an event of a link, as it stands before and behind it, by the number of its state.
abbrev pub answers_of : ℕ → Standing → Standing → ℕ → Event → List ControlFrame
answers_of n201 was now state (received (frame f)) = answer_to was now state f.address.command (nat_lt n201 (length f.info)) f.control
answers_of n201 was now state (requested r full) = while_up state (changed was now)
answers_of n201 was now state other = []

-- All that is put are control frames.
abbrev pub IsControl : ControlFrame → Type 0
IsControl f = control_in f.command f.control ≡ f ∷ []

all-answers-of : (n201 : ℕ) (was now : Standing) (state : ℕ) (e : Event) → All IsControl (answers_of n201 was now state e)
all-answers-of n201 was now state e = grind (arith, changed, receipt, All-cons, All-nil)

-- What an event puts.
abbrev pub put_by : ℕ → Standing → Standing → Event → State → State → List ControlFrame
put_by n201 was now e from to = answers_of n201 was now (state_number from) e ++ cond (moves from to || ticks e == 1) (command_of now (Some (state_number to))) []

pub all-put : (n201 : ℕ) (was now : Standing) (e : Event) (from to : State) → All IsControl (put_by n201 was now e from to)
all-put n201 was now e from to =
    All-append IsControl (answers_of n201 was now (state_number from) e) _ (all-answers-of n201 was now (state_number from) e) (grind arith)

pub all-controls : (frames : List ControlFrame) → All IsControl frames → controls frames ≡ frames
all-controls [] h = refl
all-controls (f ∷ frames) h = ap (λ xs. xs ++ controls frames) (All-head IsControl f frames h) ∙ ap (λ xs. f ∷ xs) (all-controls frames (All-tail IsControl f frames h))
