-- What a link keeps, from event to event, and since its numbers began.
use Rattle.std.specs.Prelude.{◌≡◌, ℕ, ◌+◌, Bool, List, [], ◌++◌, length, drop, take, if◌then◌else◌}
use Rattle.lapd_frame.specs.declared.services.Service.{Service}
use Rattle.lapd_frame.specs.declared.services.Service.TheVariants.{Call, Packet}
use Rattle.model_link.specs.Told.{LinkTold}
use Rattle.model_link.specs.declared.terms.Terms.{Terms}
use Rattle.model_link.specs.Link.{Link, queue_of}
use Rattle.model_link.specs.Events.{Event}
use Rattle.model_link.specs.Machine.{after}
use Rattle.model_link.specs.Deliveries.{restarts}
use Rattle.laws_link.specs.Accepted.{accepted, acknowledged, empties}

-- What an event is to the contents of a link.
pub record Share : Type 0 where
  -- the link's numbers begin with 0 again
  pub restarts : Bool
  -- all contents that are kept go
  pub empties : Bool
  -- the contents that it adds, as a list of one, or none
  pub accepted : List (List ℕ)
  -- how many it acknowledges
  pub acknowledged : ℕ

abbrev pub share : Terms → Event → Link → Share
share t e l = record {
  restarts = restarts t e l;
  empties = empties t e l;
  accepted = accepted t e l;
  acknowledged = acknowledged t e l;
}

-- Of what was kept, an event leaves all but those that it acknowledges, which are the oldest, and puts those that it
-- accepts at the end; or it leaves nothing.
abbrev pub left_by : Share → List (List ℕ) → List (List ℕ)
left_by share kept = if share.empties then [] else drop share.acknowledged kept ++ share.accepted

abbrev pub IsKept : Share → Link → Link → Type 0
IsKept share before after = queue_of after ≡ left_by share (queue_of before)

-- What it gives up: all that was kept where it leaves nothing, and else nothing.
abbrev pub given_up_by : Share → List (List ℕ) → ℕ
given_up_by share kept = if share.empties then length kept else 0

-- and how many it tells, of a service.
abbrev pub given_up_of : Service → LinkTold → ℕ
given_up_of Call t = t.given_up
given_up_of Packet t = t.given_up_16

-- The contents that were accepted since the numbers began, without those that went, oldest first, and how many of them
-- are acknowledged.
pub record History : Type 0 where
  pub accepted : List (List ℕ)
  pub acknowledged : ℕ

abbrev pub kept_of : History → List (List ℕ)
kept_of h = drop h.acknowledged h.accepted

-- Where the numbers begin again, what is left begins the new list. Where all that is kept goes, those that are
-- acknowledged stay counted.
abbrev pub with_share : History → Share → History
with_share h share =
    if share.restarts then record { accepted = left_by share (kept_of h); acknowledged = 0 }
    else if share.empties then record { accepted = take h.acknowledged h.accepted; acknowledged = h.acknowledged }
    else record { accepted = h.accepted ++ share.accepted; acknowledged = h.acknowledged + share.acknowledged }
