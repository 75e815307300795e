-- A terminal that is taken for busy is asked again: T200 runs.
use Rattle.std.specs.Prelude.{◌≡◌, Bool, false, IsTrue, Option, Some}
use Rattle.model_link.specs.declared.states.State.{State}
use Rattle.model_link.specs.declared.states.State.TheVariants.{TeiAssigned, AwaitingEstablishment, AwaitingRelease, Established, TimerRecovery}
use Rattle.model_link.specs.declared.timers.LinkTimer.{LinkTimer}
use Rattle.model_link.specs.declared.timers.LinkTimer.TheVariants.{T200}
use Rattle.model_link.specs.Link.{Link}

-- In state 7 T200 runs where the terminal is taken for busy, and in state 8 always. In state 5 it is not taken for busy,
-- so that an establishment begins without it.
abbrev pub HeedsIn : State → Bool → Option LinkTimer → Type 0
HeedsIn TeiAssigned peer_busy running = Unit {0}
HeedsIn AwaitingEstablishment peer_busy running = peer_busy ≡ false
HeedsIn AwaitingRelease peer_busy running = Unit {0}
HeedsIn Established peer_busy running = IsTrue peer_busy → running ≡ Some T200
HeedsIn TimerRecovery peer_busy running = running ≡ Some T200

pub record Heeds (l : Link) : Type 0 where
  pub heeds : HeedsIn l.state l.peer_busy l.running
