-- When two links are the same, as far as a card can tell.
use Rattle.std.specs.Prelude.{◌≡◌, ◌%◌}
use Rattle.model_link.specs.Link.{Link, queue_of, outstanding}

-- Their numbers have the same remainders by 128, since all that is sent and heard has only these (Q.921 clause
-- 3.5.2). Contents that are acknowledged are no longer there.
pub record IsSameLink (l m : Link) : Type 0 where
  pub state : l.state ≡ m.state
  pub va : l.a % 128 ≡ m.a % 128
  pub sent : outstanding l ≡ outstanding m
  pub vr : l.r % 128 ≡ m.r % 128
  pub again : l.again ≡ m.again
  pub queue : queue_of l ≡ queue_of m
  pub peer_busy : l.peer_busy ≡ m.peer_busy
  pub own_busy : l.own_busy ≡ m.own_busy
  pub rejecting : l.rejecting ≡ m.rejecting
  pub pending : l.pending ≡ m.pending
  pub asked : l.asked ≡ m.asked
  pub owed : l.owed ≡ m.owed
  pub repeats : l.repeats ≡ m.repeats
  pub running : l.running ≡ m.running
  pub waiting : l.waiting ≡ m.waiting
  pub counts : l.counts ≡ m.counts
