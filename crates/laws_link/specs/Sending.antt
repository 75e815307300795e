-- When an I-frame goes, and from where a link sends again.
use Rattle.std.specs.Prelude.{◌≡◌, ◌+◌, ◌<◌, false, length}
use Rattle.model_link.specs.declared.states.State.TheVariants.{Established}
use Rattle.model_link.specs.declared.terms.Terms.{Terms}
use Rattle.model_link.specs.Link.{Link}

-- An I-frame goes in state 7 alone, while the terminal is not busy, where fewer than k are outstanding, and contents are
-- unsent (Q.921 clauses 5.6.1 and 5.6.5).
pub record MayGo (t : Terms) (l : Link) : Type 0 where
  pub state : l.state ≡ Established
  pub free : l.peer_busy ≡ false
  pub window : l.s < l.a + t.k
  pub unsent : l.s < length l.contents
