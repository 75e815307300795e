-- What is asked of a card of either kind is an event of its machine, in words of their own.
use Rattle.std.specs.Prelude.{◌≡◌, ◌&&◌, ℕ, nat_lt, List, Option, is_some, replicate}
use Rattle.lapd_frame.specs.declared.timers.Timer.{Timer}
use Rattle.model_line.specs.Event as line
use Rattle.model_line.specs.Event.{NextFrame, given_in}
use Rattle.model_line.specs.Came.{came, cause_of}
use Rattle.model_line.specs.declared.faults.Fault.{Fault}
use Rattle.model_line.specs.Request.{Request}
use Rattle.model_bits.specs.Stream.{dropped}
use Rattle.model_line.specs.declared.config.Config.{Config}
use Rattle.model_card.specs.Card as cards
use Rattle.model_card.specs.Card.{Card}
use Rattle.model_card.specs.Event.{Event, at}
use Rattle.model_card.specs.Machine as machine
use Rattle.model_card.specs.ports.Card as octets
use Rattle.model_card.specs.ports.Card.{OctetCard}
use Rattle.model_card.specs.ports.Event as octet
use Rattle.model_card.specs.ports.Port as port
use Rattle.model_card.specs.declared.kinds.CardKind.TheVariants as kinds
use Rattle.lapd_count.specs.Counters.{none_counted}
use Rattle.lapd_card.specs.Waiting.{has_next}
use Rattle.lapd_c.specs.Calls.{fresh}
use Rattle.lapd_c.specs.Frames.{fails, frame_comes, goes, next_at}
use Rattle.lapd_card.specs.Kinds.{with_ports, alone, after, answer}

pub record BothKindsAreServed : Type 0 where
  -- At a card of octets a request and an expiry are those events of its machine, and are answered so.
  pub request : (number : ℕ) (r : Request) (m : OctetCard) → after (at number (line.request r)) (with_ports m) ≡ with_ports (octets.after (octet.at number (port.request r)) m)
  pub expiry : (number : ℕ) (timer : Timer) (m : OctetCard) → after (at number (line.expiry timer)) (with_ports m) ≡ with_ports (octets.after (octet.at number (port.expiry timer)) m)
  pub answers_request : (number : ℕ) (r : Request) (m : OctetCard)
      → port.answer_of (answer (at number (line.request r)) (with_ports m)) ≡ octets.answer (octet.at number (port.request r)) m
  pub answers_expiry : (number : ℕ) (timer : Timer) (m : OctetCard)
      → port.answer_of (answer (at number (line.expiry timer)) (with_ports m)) ≡ octets.answer (octet.at number (port.expiry timer)) m
  -- At a card of frames each event is itself.
  pub event : (e : Event) (m : Card) → after e (alone m) ≡ alone (machine.after e m)
  pub answers_event : (e : Event) (m : Card) → answer e (alone m) ≡ machine.answer e m
  -- Each begins as its machine does, and of no line anything is counted.
  pub octets_begin : (c : Config) → fresh kinds.Octets c ≡ with_ports (octets.fresh c)
  pub frames_begin : (c : Config) → fresh kinds.Frames c ≡ alone (cards.fresh c)
  pub nothing_counted : none_counted ≡ record { values = replicate 79 0 }
  -- A frame that comes is heard as it is, a fault as what is dropped for its cause, and the next frame is called for. A frame waits
  -- exactly if a call for the next one gives it.
  pub frame : (number : ℕ) (octets : List ℕ) (m : Card) → frame_comes number octets m ≡ at number (line.hears (came m.config.n201 octets))
  pub fault : (number : ℕ) (fault : Fault) → fails number fault ≡ at number (line.hears (dropped (cause_of fault)))
  pub call : (number : ℕ) → goes number ≡ at number line.next
  pub next_frame : (number : ℕ) (m : Card) → next_at number m ≡ given_in (machine.answer (at number line.next) m)
  pub gives : (next : Option NextFrame) → given_in (line.gave next) ≡ next
  pub more : (number : ℕ) (m : Card) → has_next number m ≡ (nat_lt number m.config.lines && is_some (given_in (machine.answer (at number line.next) m)))
