-- What the steps of the tables do to what timers depend on: the state, V(A), V(S), whether the terminal is busy, and the timer.
use Rattle.laws_trace.proofs.Vocabulary.{arith, ◌≡◌, ℕ, ◌==◌, Bool, false, cond, Option, Some, None, refl, ap, ◌∙◌, nat_lt, Seq, named, State, TeiAssigned, AwaitingEstablishment, Established, Terms, LinkTimer, Link, ◌then◌, depending_on, by_bit, T200, T203, Course, Step, nothing, link_answer as answer, by_number, sabme_in_7_8}

pub record Timing : Type 0 where
  pub state : State
  pub a : ℕ
  pub s : ℕ
  pub busy : Bool
  pub running : Option LinkTimer
  pub started : Option LinkTimer

abbrev pub timing : Course → Timing
timing c = record { state = c.link.state; a = c.link.a; s = c.link.s; busy = c.link.peer_busy; running = c.link.running; started = c.started }

pub record Acts (f : Step) (F : Timing → Timing) : Type 0 where
  pub acts : (c : Course) → timing (f c) ≡ F (timing c)

abbrev pub itself : Timing → Timing
itself x = x

abbrev pub by_test : Bool → (Timing → Timing) → (Timing → Timing) → Timing → Timing
by_test b F G x = cond b (F x) (G x)

abbrev pub by_name : Option ℕ → (Timing → Timing) → (ℕ → Timing → Timing) → Timing → Timing
by_name None F G x = F x
by_name (Some n) F G x = G n x

-- what the words do
abbrev pub starts : LinkTimer → Timing → Timing
starts timer x = record x { running = Some timer; started = Some timer }

abbrev pub stops : Timing → Timing
stops x = record x { running = None; started = None }

abbrev pub begins : Timing → Timing
begins x = record x { state = Established; a = 0; s = 0; running = Some T203; started = Some T203 }

abbrev pub ends : Timing → Timing
ends x = record x { state = TeiAssigned; s = x.a; running = None; started = None }

abbrev pub awaits : State → Timing → Timing
awaits state x = record x { state = state; running = Some T200; started = Some T200 }

abbrev pub fails : Timing → Timing
fails x = record x { state = AwaitingEstablishment; busy = false; running = Some T200; started = Some T200 }

abbrev pub acknowledges : ℕ → Timing → Timing
acknowledges n x = record x { a = n }

abbrev pub with_busy : Bool → Timing → Timing
with_busy b x = record x { busy = b }

-- what a valid N(R) does, an I-frame, and a supervisory frame
abbrev pub informs : Bool → Seq → (ℕ → Timing → Timing) → Timing → Timing
informs over nr F x = cond over (fails x) (by_name (named x.a x.s nr) fails F x)

abbrev pub supervises : Bool → Seq → (ℕ → Timing → Timing) → Timing → Timing
supervises busy nr F x = by_name (named x.a x.s nr) fails F (with_busy busy x)

abbrev pub acknowledged : ℕ → Timing → Timing
acknowledged n x = cond (n == x.s) (starts T203 (acknowledges n x)) (cond (nat_lt x.a n) (starts T200 (acknowledges n x)) x)

abbrev pub informed : ℕ → Timing → Timing
informed n x = cond x.busy (acknowledges n x) (acknowledged n x)

abbrev pub recovers : LinkTimer → Bool → ℕ → Timing → Timing
recovers timer final n x = cond final (record (starts timer x) { a = n; s = n; state = Established }) (acknowledges n x)

-- One step after the other, and choices.
pub both : (f g : Step) (F G : Timing → Timing) → Acts f F → Acts g G → Acts (f then g) (λ x. G (F x))
both f g F G h k = record { acts = λ c. k.acts (f c) ∙ ap G (h.acts c) }

pub whichever : (test : Link → Bool) (f g : Step) (F : Timing → Timing) → Acts f F → Acts g F → Acts (depending_on test f g) F
whichever test f g F h k = grind arith

pub by-bit : (b : Bool) (f g : Step) (F G : Timing → Timing) → Acts f F → Acts g G → Acts (by_bit b f g) (by_test b F G)
by-bit b f g F G h k = grind arith

pub either-bit : (b : Bool) (f g : Step) (F : Timing → Timing) → Acts f F → Acts g F → Acts (by_bit b f g) F
either-bit b f g F h k = grind arith

-- by a choice that depends on it
module _ (t : Terms) where
  pub by-number : (nr : Seq) (step : ℕ → Step) (F : ℕ → Timing → Timing) → ((n : ℕ) → Acts (step n) (F n))
      → Acts (by_number t nr step) (λ x. by_name (named x.a x.s nr) fails F x)
  by-number nr step F h = grind arith

  pub answers : (b : Bool) → Acts (by_bit b (answer t) nothing) itself
  answers b = either-bit b (answer t) nothing itself (record { acts = λ c. refl }) (record { acts = λ c. refl })

  -- SABME in states 7 and 8, and UA in state 5
  pub sabme-acts : (p : Bool) → Acts (sabme_in_7_8 t p) (λ x. with_busy false (begins x))
  sabme-acts p = grind arith
