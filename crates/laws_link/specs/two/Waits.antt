-- What waits to be sent, and what goes in its turn.
use Rattle.std.specs.Prelude.{[], ◌≡◌, ℕ, zero, suc, false, Option, None, Some}
use Rattle.model_link.specs.declared.frames.ControlFrame.{ControlFrame}
use Rattle.model_link.specs.declared.terms.Terms.{Terms}
use Rattle.model_link.specs.Link.{Link}
use Rattle.model_link.specs.Events.{offer}
use Rattle.model_link.specs.Told.{Given}
use Rattle.model_link.specs.Offers.{may_send_information}
use Rattle.model_link.specs.Machine.{after}

-- No control frame waits, no I-frame may go, and no acknowledgement is owed.
pub record HasNothingToSend (t : Terms) (l : Link) : Type 0 where
  pub waiting : l.waiting ≡ []
  pub information : may_send_information t l ≡ false
  pub pending : l.pending ≡ false

-- The link after so many offers, with no other event between them.
unfoldable pub after_offers : Terms → ℕ → Link → Link
after_offers t zero l = l
after_offers t (suc n) l = after_offers t n (after t offer l)

-- An offer gives this control frame, without contents.
pub record Goes (f : ControlFrame) (g : Given) : Type 0 where
  pub frame : g.frame ≡ f
  pub alone : g.contents ≡ None

abbrev pub GoesWhole : ControlFrame → Option Given → Type 0
GoesWhole f None = ⊥
GoesWhole f (Some g) = Goes f g
