-- A timer that expires lets a link send w turns more, and an enquiry and its answer; or an error is told.
use Rattle.laws_wire.proofs.Vocabulary.{◌≡◌, ℕ, ◌+◌, ◌≤◌, Bool, true, cond, refl, ◌⊎◌, inr, arith, Sabme, State, TimerRecovery, LinkTimer, Terms, Link, may_repeat, expired, course, begun, ◌then◌, awaits_answer, T200, Course}
use Rattle.model_link.specs.Machine
use Rattle.model_link.specs.Words
use Rattle.laws_wire.proofs.Fair.{HasError}
use Rattle.laws_wire.proofs.Loads.{load, back, one-waits}

module _ (w : ℕ) (t : Terms) (l : Link) where
  pub record Expires (c : Course) : Type 0 where
    pub contents : c.link.contents ≡ l.contents
    pub received : c.link.r ≡ l.r
    pub within : load w c.link ≤ load w l + (w + 4)

  abbrev Fair : Course → Type 0
  Fair c = HasError c.notes ⊎ Expires c

  either : (b : Bool) (u v : Course) → Fair u → Fair v → Fair (cond b u v)
  either b u v x y = grind arith

  idle : Expires (begun l)
  idle = record { contents = refl; received = refl; within = omega arith }

  -- a command goes again
  sabme-again : Expires ((Words.send t (Words.command (Sabme true)) then Words.repeated then Words.start T200) (begun l))
  sabme-again = grind (arith, one-waits)

  asks-again : l.state ≡ TimerRecovery → Expires ((Words.enquire t then Words.repeated then Words.start T200) (begun l))
  asks-again at = grind (arith, one-waits, back)

  pub timer-expires : (timer : LinkTimer) → Fair (course t (expired timer) l)
  timer-expires timer = either (Machine.is_running timer l) _ _ (grind (arith, either, sabme-again, one-waits, asks-again, idle)) (inr idle)

  -- no error is told where it may go again
  abbrev pub May : LinkTimer → Type 0
  May timer = timer ≡ T200 → awaits_answer l.state ≡ true → Machine.is_running T200 l ≡ true → may_repeat t l ≡ true

  fairly-by-state : (here : State) → l.state ≡ here → (timer : LinkTimer) → May timer → Machine.is_running timer l ≡ true → Expires (Machine.expired_in here timer t (begun l))
  fairly-by-state o at timer may run = grind (arith, awaits_answer, sabme-again, one-waits, asks-again, idle)

  pub timer-fairly : (timer : LinkTimer) → May timer → Expires (course t (expired timer) l)
  timer-fairly timer may = grind (arith, fairly-by-state l.state refl timer may)
