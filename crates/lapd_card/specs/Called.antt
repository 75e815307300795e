-- What a call of a card comes to: one event of the machine of its kind. What it answers and writes is the machine's answer,
-- whichever machine the card stood for. After it the card stands for the machine after the event, and what that shows is counted;
-- if the machine refuses the event, nothing has changed.
use Rattle.std.specs.Prelude.{◌≡◌}
use Rattle.lapd_card.specs.Card as octets
use Rattle.lapd_card.specs.FrameCard as frames
use Rattle.lapd_card.specs.FrameStands as frames_stand
use Rattle.lapd_card.specs.FrameStands.{FrameStands}
use Rattle.lapd_card.specs.Kinds as kinds
use Rattle.lapd_card.specs.Kinds.{AnyLeads, AnyStands, Machine}
use Rattle.lapd_card.specs.Stands as octets_stand
use Rattle.lapd_card.specs.Stands.{OctetCardStands}
use Rattle.lapd_card.specs.declared.kinds.AnyCard.{AnyCard}
use Rattle.lapd_frame.specs.declared.refusals.Refusal.{Refusal}
use Rattle.lapd_store.specs.Store.{Store}
use Rattle.model_card.specs.Card.{Card}
use Rattle.model_card.specs.Event as frame
use Rattle.model_card.specs.Machine as machine
use Rattle.model_card.specs.ports.Card as ports
use Rattle.model_card.specs.ports.Card.{OctetCard}
use Rattle.model_card.specs.ports.Event as octet
use Rattle.model_card.specs.ports.Port as port
use Rattle.model_line.specs.Event as line

-- A call of a card of frames is this event,
pub record Called {S : Type 0} (store : S → Store) (e : frame.Event) (answered : line.Answer) (old new : frames.Held S) : Type 0 where
  pub answers : (m : Card) → FrameStands store old m → answered ≡ machine.answer e m
  pub unchanged : (why : Refusal) → answered ≡ line.refused why → new ≡ old
  pub leads : frames_stand.Leads store e old new

-- or one of a card of octets,
pub record OctetCalled {S : Type 0} (store : S → Store) (e : octet.Event) (answered : port.Answer) (old new : octets.Held S) : Type 0 where
  pub answers : (m : OctetCard) → OctetCardStands store old m → answered ≡ ports.answer e m
  pub unchanged : (why : Refusal) → answered ≡ port.refused why → new ≡ old
  pub leads : octets_stand.Leads store e old new

-- or one, at the card of frames, of a card of either kind.
pub record AnyCalled (e : frame.Event) (answered : line.Answer) (old new : AnyCard) : Type 0 where
  pub answers : (m : Machine) → AnyStands old m → answered ≡ kinds.answer e m
  pub unchanged : (why : Refusal) → answered ≡ line.refused why → new ≡ old
  pub leads : AnyLeads e old new
