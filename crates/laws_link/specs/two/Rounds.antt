-- Two links that face each other, and what comes in the end.
use Rattle.std.specs.Prelude.{◌≡◌, ℕ, zero, suc, ◌+◌, ◌<◌, ◌≤◌, true, false, List, [], length, take, All}
use Rattle.model_link.specs.declared.states.State.TheVariants.{Established}
use Rattle.model_link.specs.Sound.{IsInRange, IsSound}
use Rattle.model_link.specs.TwoEnds.{Endpoint, Ends, sends, receives, at_near, at_far, doing}
use Rattle.laws_link.specs.two.Waits.{HasNothingToSend}

-- A round: each end in turn gives the next frame, if it has one, and the other receives it. Nothing is lost.
abbrev pub round : Ends → Ends
round e = doing (at_near receives) (doing (at_far sends) (doing (at_far receives) (doing (at_near sends) e)))

unfoldable pub rounds : ℕ → Ends → Ends
rounds zero e = e
rounds (suc n) e = rounds n (round e)

-- An end in state 7, with neither side busy, nothing waiting and nothing on its way.
pub record IsReady (n : Endpoint) : Type 0 where
  pub ranges : IsInRange n.terms
  pub sound : IsSound n.terms n.link
  pub state : n.link.state ≡ Established
  pub peer_busy : n.link.peer_busy ≡ false
  pub own_busy : n.link.own_busy ≡ false
  pub waiting : n.link.waiting ≡ []
  pub way : n.way ≡ []

-- What the first end has sent, the second has received and delivered, in order; it owes an acknowledgement for what is
-- outstanding, and can take what is to come.
pub record IsTaken (n m : Endpoint) : Type 0 where
  pub received : m.link.r ≡ n.link.s
  pub delivered : m.delivered ≡ take m.link.r n.link.contents
  pub owed : n.link.a < n.link.s → m.link.pending ≡ true
  pub sizes : All (λ octets. length octets ≤ m.terms.n201) n.link.contents

-- At most so many contents are unsent.
abbrev pub HasUnsent : ℕ → Endpoint → Type 0
HasUnsent u n = length n.link.contents ≤ n.link.s + u

-- All contents of the first end have arrived at the second, in order, and are acknowledged; the first is in state 7,
-- and has nothing more to say.
pub record HasArrived (contents : List (List ℕ)) (n m : Endpoint) : Type 0 where
  pub kept : n.link.contents ≡ contents
  pub delivered : m.delivered ≡ contents
  pub received : m.link.r ≡ length contents
  pub sent : n.link.s ≡ length contents
  pub acknowledged : n.link.a ≡ length contents
  pub state : n.link.state ≡ Established
  pub nothing : HasNothingToSend n.terms n.link
  pub way : n.way ≡ []
