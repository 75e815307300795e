-- Where an event leads a card of one kind: it stays of its kind, and what the event shows is counted.
use Rattle.std.proofs.Common.{◌≡◌, refl}
use Rattle.lapd_card.specs.Kinds.{alone, config_of, counters_of, kind_of, with_ports, AnyStands}
use Rattle.lapd_card.specs.Stands.{meaning_counted}
use Rattle.lapd_card.specs.declared.kinds.AnyCard.{AnyCard}
use Rattle.lapd_card.specs.declared.kinds.AnyCard.TheVariants.{Octets, Frames}
use Rattle.lapd_timed.specs.Kinds.{LedByFrames, LedByOctets}
use Rattle.model_card.specs.Card.{Card}
use Rattle.model_card.specs.Counted.{moment_counted, moment_of}
use Rattle.model_card.specs.Event as frame
use Rattle.model_card.specs.Machine as machine
use Rattle.model_card.specs.ports.Card as ports
use Rattle.model_card.specs.ports.Card.{OctetCard}
use Rattle.model_card.specs.ports.Event as octet

pub record FramesLed (e : frame.Event) (old new : AnyCard) : Type 0 where
  pub kind : kind_of new ≡ kind_of old
  pub config : config_of new ≡ config_of old
  pub stands : (m : Card) → AnyStands old (alone m) → AnyStands new (alone (machine.after e m))
  pub counted : (m : Card) → AnyStands old (alone m) → counters_of new ≡ moment_counted (counters_of old) (moment_of m e)

pub frames-led : (e : frame.Event) (old new : AnyCard) → LedByFrames e old new → FramesLed e old new
frames-led e (Frames old) (Frames new) leads = record { kind = refl; config = leads.config; stands = leads.stands; counted = leads.counted }
frames-led e (Frames old) (Octets new) leads = absurd leads
frames-led e (Octets old) new leads = absurd leads

pub record OctetsLed (e : octet.Event) (old new : AnyCard) : Type 0 where
  pub kind : kind_of new ≡ kind_of old
  pub config : config_of new ≡ config_of old
  pub stands : (m : OctetCard) → AnyStands old (with_ports m) → AnyStands new (with_ports (ports.after e m))
  pub counted : (m : OctetCard) → AnyStands old (with_ports m) → counters_of new ≡ meaning_counted (counters_of old) m e

pub octets-led : (e : octet.Event) (old new : AnyCard) → LedByOctets e old new → OctetsLed e old new
octets-led e (Octets old) (Octets new) leads = record { kind = refl; config = leads.config; stands = leads.stands; counted = leads.counted }
octets-led e (Octets old) (Frames new) leads = absurd leads
octets-led e (Frames old) new leads = absurd leads
