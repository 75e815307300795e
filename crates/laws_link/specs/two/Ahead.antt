-- What can lead two links out of states 7 and 8, and what does not.
use Rattle.std.specs.Prelude.{◌≡◌, ◌≤◌, true, IsTrue, List, [], ◌∷◌}
use Rattle.model_link.specs.declared.states.State.TheVariants.{TimerRecovery}
use Rattle.model_link.specs.declared.timers.LinkTimer.{LinkTimer}
use Rattle.model_link.specs.Events.{Request, Establish, Release, Data, SetBusy, ClearBusy}
use Rattle.model_link.specs.Link.{may_repeat}
use Rattle.model_link.specs.Machine.{is_running}
use Rattle.model_link.specs.TwoEnds.{Endpoint, Ends, Step, requests, expires, sends, receives, loses, StepAt, at_near, at_far, doing}

-- Neither link's V(S) is below the other's V(R).
abbrev pub IsAhead : Ends → Type 0
IsAhead e = (e.far.link.r ≤ e.near.link.s) × (e.near.link.r ≤ e.far.link.s)

-- Layer 3 does not release the link, and no timer expires with the repeats used up.
abbrev pub IsNotRelease : Request → Type 0
IsNotRelease Establish = Unit {0}
IsNotRelease Release = ⊥
IsNotRelease (Data octets) = Unit {0}
IsNotRelease SetBusy = Unit {0}
IsNotRelease ClearBusy = Unit {0}

abbrev pub CanRepeat : LinkTimer → Endpoint → Type 0
CanRepeat timer n = n.link.state ≡ TimerRecovery → is_running timer n.link ≡ true → IsTrue (may_repeat n.terms n.link)

abbrev pub KeepsLinkUp : Step → Endpoint → Type 0
KeepsLinkUp (requests request full) n = IsNotRelease request
KeepsLinkUp (expires timer) n = CanRepeat timer n
KeepsLinkUp sends n = Unit {0}
KeepsLinkUp receives n = Unit {0}
KeepsLinkUp loses n = Unit {0}

abbrev pub KeepsLinksUp : StepAt → Ends → Type 0
KeepsLinksUp (at_near act) e = KeepsLinkUp act e.near
KeepsLinksUp (at_far act) e = KeepsLinkUp act e.far

-- So it is at each step, before it.
unfoldable pub StayAhead : List StepAt → Ends → Type 0
StayAhead [] e = Unit {0}
StayAhead (d ∷ ds) e = IsAhead e × KeepsLinksUp d e × StayAhead ds (doing d e)
