-- A control frame that waits is taken by one of so many calls also where other events of its line are between them.
use Rattle.laws_line.proofs.Vocabulary.{◌≡◌, ℕ, ◌+◌, ◌-◌, ◌<◌, ◌≤◌, Bool, false, cond, List, [], ◌∷◌, ◌++◌, Option, Some, sym, ap, ◌∙◌, ◌⊎◌, inl, inr, arith, append_assoc, append-nil, eq-eqb, Service, Parts, ControlFrame, State, Terms, Link, event-follows, as_heard, is_overlong, waiting_left, Change, Config, LineTold, Answer, Aim, of_change, of_aim, Line, link_count}
use Rattle.laws_line.proofs.Vocabulary.{service_at, place_at, tei_at, terms, link_at, IsInRange, Event, after, answer, IsSound, deactivates, IsBy, frames_before, is_take, priority_waiting, link_overlong, link_offer, link_received, link_frame, link_cleared, LinkEvent, link_after}
use Rattle.laws_line.proofs.Happening.{Happens, event-happens}
use Rattle.laws_line.proofs.Vocabulary.{None, refl, true, at_management, at_terminal, at_no_link, at_a_terminal, of_management, of_network, of_terminal, of_terminal_if, told_of_management, is_terminal, terminal_in, with_terminal, without_units, TeiEvent, TerminalEvent, tei_told, tei_after, terminal_told, terminal_after, down as line_down}

-- An event that is no call for the next frame leaves whose turn it is.
abbrev Meanwhile : Line → Line → Type 0
Meanwhile l l' = l'.turn ≡ l.turn

by-change : (c : Config) (o : Option Change) (t : LineTold) (l : Line) → (of_change c o t l).line.turn ≡ l.turn
by-change c o t l = grind arith

there : (c : Config) (e : TerminalEvent) (l : Line) → Meanwhile l (of_terminal c e l).line
there c e l = by-change c (terminal_told e (terminal_in l)).change (told_of_management (terminal_told e (terminal_in l))) (with_terminal (terminal_after e (terminal_in l)) l)

there-if : (c : Config) (o : Option TerminalEvent) (l : Line) → Meanwhile l (of_terminal_if c o l).line
there-if c None l = refl
there-if c (Some e) l = there c e l

managed : (c : Config) (e : TeiEvent) (l : Line) → Meanwhile l (of_management c e l).line
managed c e l = go (is_terminal c)
  where
    go : (b : Bool) → Meanwhile l (cond b (of_terminal_if c (at_a_terminal e) l) (of_network c e l)).line
    go true = there-if c (at_a_terminal e) l
    go false = by-change c (tei_told e l.management).change (told_of_management (tei_told e l.management)) (record l { management = tei_after e l.management })

pub by-aim : (c : Config) (l : Line) (aim : Aim) → Meanwhile l (of_aim c aim l).line
by-aim c l (at_management e) = managed c e l
by-aim c l (at_terminal e) = there c e l
by-aim c l at_no_link = managed c line_down (without_units l)
by-aim c l aim = grind arith

meanwhile : (c : Config) (e : Event) (l : Line) → is_take e ≡ false → Meanwhile l (after c e l)
unfolding after
meanwhile c e l other = grind (arith, by-aim)

-- What waits of a link stays before what comes.
Waits : List ControlFrame → List ControlFrame → Type 0
Waits ws ws' = (more : List ControlFrame) × (ws' ≡ ws ++ more)

abbrev IsOffer : LinkEvent → Type 0
IsOffer e = (e ≡ link_offer) ⊎ (e ≡ link_cleared)

by-heard : (t : Terms) (f : Parts) (l : Link) (to : State) (b : Bool) → Waits l.waiting (waiting_left t (link_received (cond b link_overlong (link_frame f))) l to)
unfolding Waits
by-heard t f l to b = grind arith

left-waiting : (t : Terms) (e : LinkEvent) (l : Link) (to : State) → (IsOffer e → ⊥) → Waits l.waiting (waiting_left t (as_heard t e) l to)
unfolding Waits
left-waiting t (link_received (link_frame f)) l to other = by-heard t f l to (is_overlong t f.control f.info)
left-waiting t e l to other = grind arith

module _ (c : Config) (ranged : IsInRange c) (number tei : ℕ) (few : number < link_count c) where
  abbrev frames : Line → List ControlFrame
  frames l = (link_at number l).waiting

  no-offer : (e : Event) (a : Answer) (service : Service) (other : ℕ) (event : LinkEvent) → is_take e ≡ false → IsBy c e a service other event → IsOffer event → ⊥
  no-offer e a service other event apart by o = grind arith

  stays : (e : Event) (l : Line) → is_take e ≡ false → deactivates (service_at number) tei e ≡ false → tei_at (place_at number) l ≡ Some tei → tei_at (place_at number) (after c e l) ≡ Some tei
      → Happens c number e l (after c e l) (answer c e l) → Waits (frames l) (frames (after c e l))
  unfolding Waits
  stays e l apart up at at' (inl same) = ([], ap (λ (x : Link). x.waiting) same ∙ sym (append-nil (frames l)))
  stays e l apart up at at' (inr (inl (inl moved, gone))) = absurd (moved (at' ∙ sym at))
  stays e l apart up at at' (inr (inl (inr down, gone))) = absurd (grind (arith, eq-eqb))
  stays e l apart up at at' (inr (inr one)) =
      let t = terms c (service_at number) one.tei in
      let w = left-waiting t one.event (link_at number l) (link_after t one.event (link_at number l)).state (no-offer e (answer c e l) (service_at number) one.tei one.event apart one.by) in
      (w.0, ap (λ (x : Link). x.waiting) one.is ∙ (event-follows t one.event (link_at number l)).leaves.waiting ∙ w.1)

  abbrev Waiting : Line → List ControlFrame → ControlFrame → List ControlFrame → Type 0
  Waiting l before f behind = frames l ≡ before ++ f ∷ behind

  still-waits : (e : Event) (l : Line) → Waits (frames l) (frames (after c e l)) → (before : List ControlFrame) (f : ControlFrame) (behind : List ControlFrame) → Waiting l before f behind
      → (behind' : List ControlFrame) × Waiting (after c e l) before f behind'
  unfolding Waits
  still-waits e l w before f behind waits = (behind ++ w.0, w.1 ∙ ap (λ ws. ws ++ w.0) waits ∙ append_assoc before (f ∷ behind) w.0)

  -- so it comes no nearer, and no farther than by what comes first
  pub no-farther-off : (e : Event) (l : Line) (others : ℕ) → is_take e ≡ false
      → frames_before c (after c e l) number others ≤ frames_before c l number others + (priority_waiting (after c e l) - priority_waiting l)
  no-farther-off e l others apart = grind (arith, meanwhile)

  pub other-waits : (e : Event) (l : Line) → is_take e ≡ false → deactivates (service_at number) tei e ≡ false → IsSound c l → tei_at (place_at number) l ≡ Some tei → tei_at (place_at number) (after c e l) ≡ Some tei
      → (before : List ControlFrame) (f : ControlFrame) (behind : List ControlFrame) → Waiting l before f behind → (behind' : List ControlFrame) × Waiting (after c e l) before f behind'
  other-waits e l apart up s at at' before f behind waits = still-waits e l (stays e l apart up at at' (event-happens c e l number s few)) before f behind waits
