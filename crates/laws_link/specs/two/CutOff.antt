-- Two links, all of whose frames on the way were lost.
use Rattle.std.specs.Prelude.{◌≡◌, ℕ, ◌+◌, ◌≤◌, Bool, false, IsTrue, [], length, take, All}
use Rattle.model_link.specs.declared.states.State.TheVariants.{TimerRecovery}
use Rattle.model_link.specs.declared.timers.LinkTimer.TheVariants.{T200}
use Rattle.model_link.specs.Link.{is_multiple_frame, may_repeat}
use Rattle.model_link.specs.Sound.{IsInRange, IsSound}
use Rattle.model_link.specs.Timed.{IsTimed}
use Rattle.model_link.specs.TwoEnds.{Endpoint, Ends, expires, at_near, at_far, doing}
use Rattle.laws_link.specs.two.Heeds.{Heeds}

-- The first end is in state 7 or 8, able to repeat an enquiry, with own busy off or on and nothing waiting or on its way;
-- what the second has received is at least what the first takes for acknowledged, and at most what it has sent. Whatever
-- else it was doing does not matter: its V(S) may be beyond what was received, the second may have sent REJ and be
-- waiting for an I-frame again, and the first may take the second for busy.
pub record IsCutOffWith (own : Bool) (n m : Endpoint) : Type 0 where
  pub ranges : IsInRange n.terms
  pub sound : IsSound n.terms n.link
  pub timed : IsTimed n.link
  pub heeds : Heeds n.link
  pub up : IsTrue (is_multiple_frame n.link.state)
  pub repeats : n.link.state ≡ TimerRecovery → IsTrue (may_repeat n.terms n.link)
  pub own_busy : n.link.own_busy ≡ own
  pub waiting : n.link.waiting ≡ []
  pub way : n.way ≡ []
  pub low : n.link.a ≤ m.link.r
  pub high : m.link.r ≤ n.link.s
  pub delivered : m.delivered ≡ take m.link.r n.link.contents
  pub sizes : All (λ octets. length octets ≤ m.terms.n201) n.link.contents

abbrev pub IsCutOff : Endpoint → Endpoint → Type 0
IsCutOff n m = IsCutOffWith false n m

-- T200 expires at both ends. Where it does not run nothing happens.
abbrev pub with_t200_expired : Ends → Ends
with_t200_expired e = doing (at_far (expires T200)) (doing (at_near (expires T200)) e)

-- At most so many contents of the first end were not received.
abbrev pub HasMissing : ℕ → Endpoint → Endpoint → Type 0
HasMissing u n m = length n.link.contents ≤ m.link.r + u

-- The part of this that has to be asked of links which came from an establishment: own busy is off, or on, nothing waits
-- or is on its way, an enquiry can be repeated, and V(S) is not below the other's V(R).
pub record CanRecoverFromWith (own : Bool) (n m : Endpoint) : Type 0 where
  pub repeats : n.link.state ≡ TimerRecovery → IsTrue (may_repeat n.terms n.link)
  pub own_busy : n.link.own_busy ≡ own
  pub waiting : n.link.waiting ≡ []
  pub way : n.way ≡ []
  pub high : m.link.r ≤ n.link.s

abbrev pub CanRecoverFrom : Endpoint → Endpoint → Type 0
CanRecoverFrom n m = CanRecoverFromWith false n m
