-- What the port of a line stands for: its deframer for the octets received, its framer for the items that were put on the
-- line and the octets given; and it keeps how the frame begins that was heard last, and what the latest octet has ended.
use Rattle.std.specs.Prelude.{◌≡◌, ℕ, ◌+◌, ◌++◌, ◌∷◌, [], List, Option, Some, None, is_some, option_map}
use Rattle.std.specs.Option.{option_map_or}
use Rattle.lapd_bits.specs.Deframer as deframer
use Rattle.model_bits.specs.declared.heads.Head.{Head}
use Rattle.model_bits.specs.Framer as framer
use Rattle.model_bits.specs.Sent.{frame}
use Rattle.model_bits.specs.Stream as stream
use Rattle.lapd_frame.specs.declared.timers.Order.{Order}
use Rattle.model_line.specs.Event.{Answer, NextFrame, given_in}
use Rattle.model_card.specs.ports.Codec.{IsTextOf}
use Rattle.model_card.specs.ports.FrameHeard.{ended_by_latest}
use Rattle.model_card.specs.ports.HeadHeard.{head_heard, or_heard}
use Rattle.model_card.specs.ports.Port as machine
use Rattle.model_card.specs.ports.Port.{is_due, frame_begun, orders_with, after, answer, pull}
use Rattle.lapd_line.specs.declared.port.Port.{Port}
use Rattle.lapd_line.specs.declared.pulled.Pulled.{Pulled}
use Rattle.lapd_line.specs.Reports.{octets_of, pulled_of}

pub record PortStands (n201 : ℕ) (port : Port) (p : machine.Port) : Type 0 where
  pub received : deframer.DeframerStands n201 port.deframer p.received
  pub sent : framer.FramerStands port.framer p.items p.given
  pub room : port.framer.room ≡ n201
  pub latest : port.heard ≡ head_heard n201 p
  pub limit : port.too_long ≡ n201 + 5
  pub ended : deframer.latest_of port.deframer ≡ ended_by_latest n201 p.received

-- What the latest octet has ended, if it ended anything.
abbrev pub latest_in : Port → Option stream.Event
latest_in port = deframer.latest_of port.deframer

-- How the frame begins that was heard last, with what the latest octet has ended.
abbrev pub or_latest : ℕ → Option Head → Option stream.Event → Option Head
or_latest n201 before ended = option_map_or (or_heard n201 before) ended before

-- The octets of the frame that it ended; none where it ended no frame.
abbrev pub latest_frame : Port → List ℕ
latest_frame port = octets_of (latest_in port)

-- A frame that is given, if one is, goes behind what was put on the line.
abbrev pub with_frame : Option NextFrame → machine.Port → machine.Port
with_frame None p = p
with_frame (Some next) p = record p { items = p.items ++ frame next.octets ∷ [] }

-- It is loaded, and these are its orders.
pub record IsLoaded (said : Answer) (taken : Option (List Order)) (old new : Port) : Type 0 where
  pub orders : taken ≡ option_map orders_with (given_in said)
  pub stands : (n201 : ℕ) (p : machine.Port) → PortStands n201 old p → PortStands n201 new (with_frame (given_in said) p)

-- A pull of a port whose octets given are a beginning of its text: what a line has said to it, which is something exactly where
-- an item is due, with these orders.
pub record IsSaid (p : machine.Port) (said : Option Answer) (taken : Option (List Order)) : Type 0 where
  pub text : IsTextOf p
  pub due : is_some said ≡ is_due p
  pub orders : taken ≡ option_map orders_with (frame_begun said)

-- The port, with the frame that is given for the pull, gives the next octet: this is the answer, and it stands for what comes
-- of the pull.
pub record Pulls (n201 : ℕ) (p : machine.Port) (said : Option Answer) (pulled : Pulled) (new : Port) : Type 0 where
  pub told : pulled_of pulled ≡ answer pull said p
  pub after : PortStands n201 new (after pull said p)
