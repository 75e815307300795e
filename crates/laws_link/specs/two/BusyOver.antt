-- The end of own busy (Q.921 clause 5.6.6): layer 3 asks for it, and RR tells the other end.
use Rattle.std.specs.Prelude.{◌≡◌, ◌≤◌, false, length, take, All}
use Rattle.model_link.specs.Events.{ClearBusy}
use Rattle.model_link.specs.TwoEnds.{Endpoint, Ends, requests, sends, receives, loses, at_near, at_far, doing}
use Rattle.laws_link.specs.two.Rounds.{HasArrived}

-- Layer 3 at an end asks for it, and that end gives its next frame; which the other receives, or which is lost.
abbrev pub with_near_over : Ends → Ends
with_near_over e = doing (at_near sends) (doing (at_near (requests ClearBusy false)) e)

abbrev pub with_near_told : Ends → Ends
with_near_told e = doing (at_far receives) (with_near_over e)

abbrev pub with_near_untold : Ends → Ends
with_near_untold e = doing (at_near loses) (with_near_over e)

abbrev pub with_far_over : Ends → Ends
with_far_over e = doing (at_far sends) (doing (at_far (requests ClearBusy false)) e)

abbrev pub with_far_told : Ends → Ends
with_far_told e = doing (at_near receives) (with_far_over e)

abbrev pub with_far_untold : Ends → Ends
with_far_untold e = doing (at_far loses) (with_far_over e)

-- The busy end has dropped nothing: it has delivered all that the other sent. What is to come fits.
pub record HasDroppedNothing (n m : Endpoint) : Type 0 where
  pub received : n.link.r ≡ m.link.s
  pub delivered : n.delivered ≡ take n.link.r m.link.contents
  pub sizes : All (λ octets. length octets ≤ n.terms.n201) m.link.contents

-- All contents that both ends had have arrived, in order, and are acknowledged.
abbrev pub BothHaveArrived : Ends → Ends → Type 0
BothHaveArrived e e' = HasArrived e.near.link.contents e'.near e'.far × HasArrived e.far.link.contents e'.far e'.near
