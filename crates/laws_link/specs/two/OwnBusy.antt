-- An end that is busy itself (Q.921 clause 5.6.6): what it gives, the other takes; what the other gives, the other keeps.
use Rattle.std.specs.Prelude.{◌≡◌, ◌≤◌, true, false, [], length, All}
use Rattle.model_link.specs.declared.states.State.TheVariants.{Established}
use Rattle.model_link.specs.Events.{SetBusy}
use Rattle.model_link.specs.Sound.{IsInRange, IsSound}
use Rattle.model_link.specs.TwoEnds.{Endpoint, Ends, requests, at_near, at_far, doing}
use Rattle.laws_link.specs.two.Rounds.{HasArrived}

-- An end in state 7 with own busy on; nothing waits or is on its way, and it does not take the other for busy.
pub record IsBusyItself (n : Endpoint) : Type 0 where
  pub ranges : IsInRange n.terms
  pub sound : IsSound n.terms n.link
  pub state : n.link.state ≡ Established
  pub peer_busy : n.link.peer_busy ≡ false
  pub own_busy : n.link.own_busy ≡ true
  pub waiting : n.link.waiting ≡ []
  pub way : n.way ≡ []

-- The other end, in state 7 with own busy off; nothing waits or is on its way. It may take the first for busy, or not yet.
pub record IsUpAndIdle (m : Endpoint) : Type 0 where
  pub ranges : IsInRange m.terms
  pub sound : IsSound m.terms m.link
  pub state : m.link.state ≡ Established
  pub own_busy : m.link.own_busy ≡ false
  pub waiting : m.link.waiting ≡ []
  pub way : m.way ≡ []

-- Of what the other end has sent, the busy end took what it had before; the rest it dropped, or will drop. The contents fit.
pub record IsDropped (n m : Endpoint) : Type 0 where
  pub low : m.link.a ≤ n.link.r
  pub high : n.link.r ≤ m.link.s
  pub sizes : All (λ octets. length octets ≤ n.terms.n201) m.link.contents

-- A busy end and the other, before and after: the one is busy still, and delivered nothing; the other is in state 7, and
-- keeps all contents that the busy end did not take, none of them acknowledged.
pub record HasKept (n m n' m' : Endpoint) : Type 0 where
  pub own_busy : n'.link.own_busy ≡ true
  pub received : n'.link.r ≡ n.link.r
  pub delivered : n'.delivered ≡ n.delivered
  pub state : m'.link.state ≡ Established
  pub contents : m'.link.contents ≡ m.link.contents
  pub unacknowledged : m'.link.a ≤ n.link.r
  pub sent : n.link.r ≤ m'.link.s

-- All contents that the busy end had have arrived, in order, and are acknowledged; of the other's none is lost.
pub record GetsThrough (n m n' m' : Endpoint) : Type 0 where
  pub arrived : HasArrived n.link.contents n' m'
  pub kept : HasKept n m n' m'

-- Layer 3 at an end asks for own busy.
abbrev pub with_near_busy : Ends → Ends
with_near_busy e = doing (at_near (requests SetBusy false)) e

abbrev pub with_far_busy : Ends → Ends
with_far_busy e = doing (at_far (requests SetBusy false)) e
