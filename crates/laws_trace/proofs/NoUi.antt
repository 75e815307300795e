-- No UI waits on a link: what a link gives is no unit data.
use Rattle.laws_trace.proofs.Vocabulary.{arith, ◌≡◌, ◌||◌, Bool, false, cond, List, [], take, All, All-nil, All-cons, All-append, All-take, All-drop, State, ControlFrame, Terms, Link, offer, cleared, moves, answers_up, answers, command_in, is_time, commands, put, waiting_left, Control, LinkEvent as Event, room, is_ui}

abbrev pub IsPlain : ControlFrame → Type 0
IsPlain f = is_ui f.control ≡ false

abbrev ArePlain : List ControlFrame → Type 0
ArePlain frames = All IsPlain frames

none : ArePlain []
none = All-nil IsPlain

either : (b : Bool) (xs ys : List ControlFrame) → ArePlain xs → ArePlain ys → ArePlain (cond b xs ys)
either b xs ys h k = grind arith

up : (command : Bool) (c : Control) (l : Link) → ArePlain (answers_up command c l)
up command c l = grind (arith, either, All-cons, none)

all-put : (e : Event) (l : Link) (to : State) → ArePlain (put e l to)
all-put e l to =
    All-append IsPlain (answers e l) (commands e l to) (grind (arith, All-cons, either, up, none))
    (either (moves l.state to || is_time e l) (command_in to l) [] (grind (arith, All-cons, none)) none)

-- What an event leaves of those that wait.
pub all-left : (t : Terms) (e : Event) (l : Link) (to : State) → ArePlain l.waiting → ArePlain (waiting_left t e l to)
all-left t offer l to h = All-drop IsPlain 1 l.waiting h
all-left t cleared l to h = none
all-left t other l to h = All-append IsPlain l.waiting (take (room t l) (put other l to)) h (All-take IsPlain (room t l) (put other l to) (all-put other l to))
