-- What a link has to send, in turns, where w turns go again at most: what waits, what is unsent, an acknowledgement that is owed,
-- a REJ that may still be sent, and in state 8 what the answer may bring back.
use Rattle.laws_wire.proofs.Vocabulary.{◌≡◌, ℕ, ◌+◌, ◌*◌, ◌≤◌, Bool, cond, ◌&&◌, List, [], ◌∷◌, ◌++◌, length, refl, arith, Control, Information, ReceiveReady, ReceiveNotReady, Reject, Sabme, Parts, State, TimerRecovery, ControlFrame, Terms, Link, unsent, offer, course, given_of, begun, frame_given, Course}
use Rattle.model_link.specs.Offers

-- what a frame brings about, beyond itself
abbrev pub answer_to : Bool → ℕ
answer_to asks = cond {A = ℕ} asks 2 0

abbrev pub brings : ℕ → Bool → Control → ℕ
brings w command (Information ns nr p) = answer_to p
brings w command (ReceiveReady nr pf) = answer_to (command && pf)
brings w command (ReceiveNotReady nr pf) = answer_to (command && pf)
brings w command (Reject nr pf) = w + answer_to (command && pf)
brings w command (Sabme p) = 2
brings w command other = 0

-- a frame that waits is still to be given and taken, one on its way to be taken
abbrev pub load_waiting : ℕ → List ControlFrame → ℕ
load_waiting w [] = 0
load_waiting w (f ∷ fs) = 2 + brings w f.command f.control + load_waiting w fs

abbrev pub load_way : ℕ → List Parts → ℕ
load_way w [] = 0
load_way w (f ∷ fs) = 1 + brings w f.address.command f.control + load_way w fs

abbrev pub back : ℕ → State → ℕ
back w TimerRecovery = w
back w other = 0

abbrev pub owes : Bool → ℕ
owes pending = cond {A = ℕ} pending 2 0

abbrev pub may_reject : ℕ → Bool → ℕ
may_reject w rejecting = cond {A = ℕ} rejecting 0 (w + 2)

abbrev pub load : ℕ → Link → ℕ
load w l = load_waiting w l.waiting + 2 * unsent l + owes l.pending + may_reject w l.rejecting + back w l.state

-- ---- lists

pub waiting-append : (w : ℕ) (fs gs : List ControlFrame) → load_waiting w (fs ++ gs) ≡ load_waiting w fs + load_waiting w gs
waiting-append w [] gs = omega arith
waiting-append w (f ∷ fs) gs =
    let rest : load_waiting w (fs ++ gs) ≡ load_waiting w fs + load_waiting w gs = waiting-append w fs gs in
    omega (arith, rest)

pub way-append : (w : ℕ) (fs gs : List Parts) → load_way w (fs ++ gs) ≡ load_way w fs + load_way w gs
way-append w [] gs = omega arith
way-append w (f ∷ fs) gs =
    let rest : load_way w (fs ++ gs) ≡ load_way w fs + load_way w gs = way-append w fs gs in
    omega (arith, rest)

-- a frame more waits, where there is room
pub one-waits : (w : ℕ) (b : Bool) (ws : List ControlFrame) (f : ControlFrame) (n : ℕ) → brings w f.command f.control ≡ n
    → load_waiting w (cond b (ws ++ f ∷ []) ws) ≤ load_waiting w ws + (2 + n)
one-waits w b ws f n e = grind (arith, waiting-append)

-- ---- what is given goes to the way

module _ (w : ℕ) (t : Terms) (l : Link) where
  -- the link keeps its contents and V(R), and has less to send by what it gives
  pub record Gives (c : Course) : Type 0 where
    pub contents : c.link.contents ≡ l.contents
    pub received : c.link.r ≡ l.r
    pub falls : load w c.link + (load_way w (frame_given t (given_of t l c c.sent)) + length (frame_given t (given_of t l c c.sent))) ≤ load w l

  offered : (ws : List ControlFrame) → l.waiting ≡ ws → Gives (Offers.offer_among t ws (begun l))
  offered [] e = grind arith
  offered (f ∷ fs) e = grind arith

  pub offer-gives : Gives (course t offer l)
  offer-gives = offered l.waiting refl
