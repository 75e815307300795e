-- Two links that face each other, each with its frames in transit to the other. Frames that are not lost keep their order.
use Rattle.std.specs.Prelude.{◌≡◌, ℕ, ◌≤◌, Bool, false, IsTrue, List, [], ◌∷◌, ◌++◌, length, take, drop, Option, None, Some, unwrap_or, option_to_list}
use Rattle.lapd_frame.specs.Grammar.{Parts}
use Rattle.model_link.specs.declared.states.State.TheVariants.{Established}
use Rattle.model_link.specs.declared.timers.LinkTimer.{LinkTimer}
use Rattle.model_link.specs.declared.terms.Terms.{Terms}
use Rattle.model_link.specs.Link.{Link, is_multiple_frame, frame_of}
use Rattle.model_link.specs.Events.{frame, Request, Event, received, requested, expired, offer}
use Rattle.model_link.specs.Told.{Given}
use Rattle.model_link.specs.Machine.{after, told, given}
use Rattle.model_link.specs.Sound.{IsInRange, IsSound}

-- An endpoint: a link with its terms, its frames in transit to the other end, and what it has delivered.
pub record Endpoint : Type 0 where
  pub terms : Terms
  pub link : Link
  pub way : List Parts
  pub delivered : List (List ℕ)

pub record Ends : Type 0 where
  pub near : Endpoint
  pub far : Endpoint

-- A step at an endpoint: layer 3 requests something, a timer expires, the link sends its next frame, it receives the oldest
-- frame in transit to it, or the oldest of its own frames in transit is lost.
pub data Step : Type 0 where
  requests : Request → Bool → Step
  expires : LinkTimer → Step
  sends : Step
  receives : Step
  loses : Step

pub data StepAt : Type 0 where
  at_near : Step → StepAt
  at_far : Step → StepAt

-- The link alone goes on by an event.
abbrev pub with_link : Event → Endpoint → Endpoint
with_link e n = record n { link = after n.terms e n.link; delivered = n.delivered ++ option_to_list (told n.terms e n.link).delivered }

-- The frame that an offer gives, with its contents.
abbrev pub frame_given : Terms → Option Given → List Parts
frame_given t None = []
frame_given t (Some g) = record (frame_of t g.frame) { info = unwrap_or g.contents [] } ∷ []

abbrev pub with_sent : Endpoint → Endpoint
with_sent n = record n { link = after n.terms offer n.link; way = n.way ++ frame_given n.terms (given n.terms n.link) }

abbrev pub without_first : Endpoint → Endpoint
without_first n = record n { way = drop 1 n.way }

-- The first frame of the other's way, if there is one.
abbrev pub with_first_of : List Parts → Endpoint → Endpoint
with_first_of [] n = n
with_first_of (f ∷ fs) n = with_link (received (frame f)) n

abbrev pub acting : Step → Ends → Ends
acting (requests request full) e = record e { near = with_link (requested request full) e.near }
acting (expires timer) e = record e { near = with_link (expired timer) e.near }
acting sends e = record e { near = with_sent e.near }
acting receives e = record { near = with_first_of e.far.way e.near; far = without_first e.far }
acting loses e = record e { near = without_first e.near }

abbrev pub turned : Ends → Ends
turned e = record { near = e.far; far = e.near }

abbrev pub doing : StepAt → Ends → Ends
doing (at_near act) e = acting act e
doing (at_far act) e = turned (acting act (turned e))

unfoldable pub doing_all : List StepAt → Ends → Ends
doing_all [] e = e
doing_all (d ∷ ds) e = doing_all ds (doing d e)

-- An end as the establishment leaves it: state 7, numbers zero, flags off, nothing waiting and nothing on the way.
pub record Begins (n : Endpoint) : Type 0 where
  pub ranges : IsInRange n.terms
  pub sound : IsSound n.terms n.link
  pub state : n.link.state ≡ Established
  pub a : n.link.a ≡ 0
  pub s : n.link.s ≡ 0
  pub r : n.link.r ≡ 0
  pub peer_busy : n.link.peer_busy ≡ false
  pub own_busy : n.link.own_busy ≡ false
  pub rejecting : n.link.rejecting ≡ false
  pub pending : n.link.pending ≡ false
  pub waiting : n.link.waiting ≡ []
  pub way : n.way ≡ []
  pub delivered : n.delivered ≡ []

-- Both links stay in states 7 and 8.
abbrev pub IsUp : Ends → Type 0
IsUp e = IsTrue (is_multiple_frame e.near.link.state) × IsTrue (is_multiple_frame e.far.link.state)

unfoldable pub StayUp : List StepAt → Ends → Type 0
StayUp [] e = Unit {0}
StayUp (d ∷ ds) e = IsUp (doing d e) × StayUp ds (doing d e)

-- What one end has delivered are exactly the first contents that the other accepted, in order, as many as V(R) counts;
-- and the other takes no more of them for acknowledged.
pub record Agree (n m : Endpoint) : Type 0 where
  pub delivered : n.delivered ≡ take n.link.r m.link.contents
  pub accepted : n.link.r ≤ length m.link.contents
  pub acknowledged : m.link.a ≤ n.link.r
