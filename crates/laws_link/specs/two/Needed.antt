-- Which timer a link needs: a table by its state, and by what it awaits.
use Rattle.std.specs.Prelude.{◌≡◌, ◌||◌, Bool, false, Option, Some, None, if◌then◌else◌}
use Rattle.model_link.specs.declared.states.State.{State}
use Rattle.model_link.specs.declared.states.State.TheVariants.{TeiAssigned, AwaitingEstablishment, AwaitingRelease, Established, TimerRecovery}
use Rattle.model_link.specs.declared.timers.LinkTimer.{LinkTimer}
use Rattle.model_link.specs.declared.timers.LinkTimer.TheVariants.{T200, T203}
use Rattle.model_link.specs.Link.{Link, has_outstanding}

-- In state 7 an acknowledgement is awaited, of an I-frame that is outstanding (clause 5.6.1), or that a terminal which is
-- taken for busy can take I-frames again (clause 5.6.5).
abbrev pub is_awaiting : Link → Bool
is_awaiting l = has_outstanding l || l.peer_busy

abbrev pub needed_in : State → Link → Option LinkTimer
-- nothing is awaited of a link that is down
needed_in TeiAssigned l = None
-- the answer to SABME (clause 5.5.1.3)
needed_in AwaitingEstablishment l = Some T200
-- the answer to DISC (clause 5.5.3.3)
needed_in AwaitingRelease l = Some T200
-- where nothing is awaited, the longest time without frames exchanged (clauses 5.9.8 and 5.10.3)
needed_in Established l = if is_awaiting l then Some T200 else Some T203
-- the answer to an enquiry (clause 5.6.7)
needed_in TimerRecovery l = Some T200

abbrev pub needed : Link → Option LinkTimer
needed l = needed_in l.state l

-- In state 5 the terminal is not taken for busy, so that an establishment begins without anything awaited.
abbrev pub IsCalmIn : State → Link → Type 0
IsCalmIn TeiAssigned l = Unit {0}
IsCalmIn AwaitingEstablishment l = l.peer_busy ≡ false
IsCalmIn AwaitingRelease l = Unit {0}
IsCalmIn Established l = Unit {0}
IsCalmIn TimerRecovery l = Unit {0}

-- A link runs the timer that it needs, and no other.
pub record HasItsTimer (l : Link) : Type 0 where
  pub running : l.running ≡ needed l
  pub calm : IsCalmIn l.state l
