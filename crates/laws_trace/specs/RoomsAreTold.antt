-- What `FrameCard::room` tells of a link.
use Rattle.std.specs.Prelude.{◌≡◌, ℕ, ◌+◌, nat_lt, true, false, List, length, Ok, Err, if◌then◌else◌}
use Rattle.lapd_frame.specs.declared.refusals.Refusal.TheVariants.{BadTei, NoLink}
use Rattle.lapd_frame.specs.declared.services.Service.{Service}
use Rattle.model_link.specs.declared.rooms.Room.{Room}
use Rattle.model_line.specs.declared.config.Config.{Config}
use Rattle.model_card.specs.Card.{fresh}
use Rattle.model_card.specs.Event.{Event}
use Rattle.model_card.specs.Room.{room}
use Rattle.model_card.specs.Run.{after_all}
use Rattle.laws_trace.specs.Managing.{is_on}
use Rattle.laws_trace.specs.NoSlotIsLost.{slots_taken}
use Rattle.laws_trace.specs.Observer.{view_of}
use Rattle.laws_trace.specs.Outgoing.{Outgoing, outgoing_of}
use Rattle.laws_trace.specs.Trace.{is_up}

-- Of a link of a TEI on the line there is a room. The places of its queue are those that are left and those of the contents
-- that it keeps, and the slots of the pool those that are left and those that all lines take (profile). In states 7 and 8 V(A)
-- is the N(R) that was heard last (Q.921 clause 3.5.2.3).
pub record IsRoom (c : Config) (events : List Event) (number : ℕ) (service : Service) (tei : ℕ) (o : Outgoing) : Type 0 where
  pub left : Room
  pub is : room number service tei (after_all (fresh c) events) ≡ Ok left
  pub queue : left.queue + length o.kept ≡ c.queue
  pub pool : left.pool + slots_taken c events ≡ c.slots
  pub va : is_up o.view.link.state ≡ true → left.va ≡ o.view.link.acknowledged

abbrev pub RoomsAreTold : Config → List Event → ℕ → Type 0
RoomsAreTold c events number =
    (service : Service) (tei : ℕ) → let o = outgoing_of c service tei number events in is_on tei o.view.teis ≡ true → IsRoom c events number service tei o

-- Of one that is not on the line it is told why there is no such link (profile).
abbrev pub NoRoomIsTold : Config → List Event → ℕ → Type 0
NoRoomIsTold c events number =
    (service : Service) (tei : ℕ) → is_on tei (view_of c service tei number events).teis ≡ false →
    room number service tei (after_all (fresh c) events) ≡ Err (if nat_lt 126 tei then BadTei else NoLink)
