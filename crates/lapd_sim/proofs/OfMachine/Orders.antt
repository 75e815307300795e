-- An expiry at a board starts at most one timer.
use Rattle.lapd_sim.proofs.OfMachine.Vocabulary.{ℕ, ◌≤◌, Octets, Frames, CardKind, Config, arith, Board, at, expiry, orders_in, reply, starts, OctetCard, reply_of_octets, reply_of_frames}
use Rattle.model_card.proofs.Starts as cards
use Rattle.model_card.specs.Event as frames
use Rattle.model_card.specs.Machine as machine
use Rattle.model_line.specs.Event as line
use Rattle.model_line.specs.Laws as lines
use Rattle.model_card.specs.ports.Card as ports
use Rattle.model_card.specs.ports.Port as port
use Rattle.lapd_clock.specs.Timer.{Timer}

answered : (a : line.Answer) → starts (lines.orders_in a) ≤ 1 → starts (orders_in (reply_of_octets (port.answer_of a))) ≤ 1
unfolding starts
answered a h = grind arith

given-few : (a : line.Answer) → starts (lines.orders_in a) ≤ 1 → starts (orders_in (reply_of_frames a)) ≤ 1
given-few a h = grind arith

on : (kind : CardKind) (c : Config) (m : OctetCard) (number : ℕ) (timer : Timer) → starts (orders_in (reply (at number (expiry timer)) (record { kind = kind; config = c; card = m }))) ≤ 1
unfolding reply ports.answer ports.meant
on Octets c m number timer = answered (machine.answer (frames.at number (line.expiry timer)) m.card) (cards.expiry_starts number timer m.card)
on Frames c m number timer = given-few (machine.answer (frames.at number (line.expiry timer)) m.card) (cards.expiry_starts number timer m.card)

pub expiry_starts : (number : ℕ) (timer : Timer) (b : Board) → starts (orders_in (reply (at number (expiry timer)) b)) ≤ 1
expiry_starts number timer b = on b.kind b.config b.card number timer
