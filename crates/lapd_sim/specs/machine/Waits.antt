-- What a wait comes to: nothing that falls due up to its end is left.
use Rattle.std.specs.Prelude.{◌≡◌, ℕ, ◌+◌, ◌<◌, List, All, None, Some}
use Rattle.lapd_clock.specs.InOrder.{IsInOrder}
use Rattle.lapd_clock.specs.Timer.{AreInRange}
use Rattle.lapd_clock.specs.Timers.{is_before}
use Rattle.lapd_script.specs.Pieces.{pieces_of}
use Rattle.lapd_sim.specs.machine.Setup.{Setup}
use Rattle.lapd_sim.specs.machine.Steps.{Scene, after_wait, due_by}
use Rattle.lapd_sim.specs.machine.Script.{played}

-- Every timer that runs falls due later than a moment.
abbrev pub AllLater : ℕ → Setup → Type 0
AllLater moment b = All (λ held. moment < held.moment) b.clock.running

pub record WaitsLeaveNothingDue : Type 0 where
  -- From any scene: the moment is then the wait's end, and at that moment nothing is due, as every timer that is started
  -- runs a millisecond at least.
  pub ends : (milliseconds : ℕ) (s : Scene) → (after_wait milliseconds s).setup.clock.now ≡ s.setup.clock.now + milliseconds
  pub none_due : (milliseconds : ℕ) (s : Scene) → AreInRange s.setup.clock.lengths → due_by (s.setup.clock.now + milliseconds) (after_wait milliseconds s).setup.clock ≡ None
  -- Where the clock has its timers in the order in which they fall due, as every clock has, all of them are later.
  pub all_later : (milliseconds : ℕ) (s : Scene) → AreInRange s.setup.clock.lengths → IsInOrder is_before s.setup.clock.running → AllLater (s.setup.clock.now + milliseconds) (after_wait milliseconds s).setup
  -- A script's clock has: after each line, also after a wait, every timer that runs is later than the moment.
  pub of_scripts : (text : List ℕ) (setup : Setup) → (played (pieces_of text)).setup ≡ Some setup → AllLater setup.clock.now setup
