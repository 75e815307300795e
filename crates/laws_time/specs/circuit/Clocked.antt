-- Two cards of octets on one circuit, with their clocks. Both lines run at one rate, so many octets a millisecond; and so many octets
-- are in transit to each end at all times. Nothing else is in this world, except requests and noise.
use Rattle.std.specs.Prelude.{ℕ, zero, suc, ◌+◌, ◌/◌, List, [], ◌∷◌, length, replicate, fold, flat_map, option_to_list, Option, None}
use Rattle.std.specs.Option.{option_map_or, unwrap_or}
use Rattle.lapd_clock.specs.Timer.{Lengths}
use Rattle.lapd_clock.specs.Timers.{Expiry}
use Rattle.lapd_frame.specs.declared.notes.Note.{Note}
use Rattle.model_line.specs.Event.{LineTold}
use Rattle.model_line.specs.Request.{Request, Assign}
use Rattle.model_line.specs.declared.config.Config.{Config}
use Rattle.model_card.specs.ports.Port.{Event, octet, expiry, request, pull}
use Rattle.model_timed.specs.Clock.{Clock, stopped, obeyed, due, without_first, at_moment}
use Rattle.model_timed.specs.Octets.{orders_in}
use Rattle.laws_order.specs.circuit.Circuit as circuit
use Rattle.laws_order.specs.circuit.Circuit.{Endpoint, answered}
use Rattle.laws_order.specs.circuit.Through.{octet_endpoint}

-- An endpoint of the circuit, whose card keeps its own timers: what happens at it happens at its line, and what the answer orders is
-- carried out at once.
pub record TimedEndpoint : Type 0 where
  pub at : Endpoint
  pub clock : Clock

abbrev pub happens : Event → TimedEndpoint → TimedEndpoint
happens e s = record { at = circuit.happens e s.at; clock = obeyed s.at.line (orders_in (answered e s.at)) s.clock }

abbrev pub asks : TimedEndpoint → Request → TimedEndpoint
asks s r = happens (request r) s

-- All that is due falls due, the earliest first. That is at most what runs at that moment, as a timer that is started runs for a
-- millisecond at least.
abbrev pub falls : TimedEndpoint → Expiry → TimedEndpoint
falls s x = happens (expiry x.timer) (record s { clock = without_first s.clock })

unfoldable pub fall_due : ℕ → TimedEndpoint → TimedEndpoint
fall_due zero s = s
fall_due (suc n) s = fall_due n (option_map_or (falls s) (due s.clock) s)

abbrev pub all_due : TimedEndpoint → TimedEndpoint
all_due s = fall_due (length s.clock.running) s

-- The moment comes, layer 3 asks, and what is due falls due.
abbrev pub comes_to : ℕ → List Request → TimedEndpoint → TimedEndpoint
comes_to moment rs s = all_due (fold asks (record s { clock = at_moment moment s.clock }) rs)

-- The first octet in transit from the other end is received; or, if there is noise, any other in its place.
abbrev pub hears : Option ℕ → List ℕ → TimedEndpoint → TimedEndpoint
hears noise [] s = s
hears noise (value ∷ way) s = happens (octet (unwrap_or noise value)) s

abbrev pub without_first_octet : TimedEndpoint → TimedEndpoint
without_first_octet s = record s { at = circuit.without_first s.at }

pub record Clocked : Type 0 where
  pub near : TimedEndpoint
  pub far : TimedEndpoint
  pub beats : ℕ

-- What the world does not decide: what layer 3 of each end asks for in a beat, and what noise makes of the octet that comes there. A
-- beat is clean if there is no noise, and quiet if nothing is asked for.
pub record Beat : Type 0 where
  pub near_asks : List Request
  pub far_asks : List Request
  pub near_noise : Option ℕ
  pub far_noise : Option ℕ

abbrev pub plain : Beat
plain = record { near_asks = []; far_asks = []; near_noise = None; far_noise = None }

-- A beat is an octet time. The first happens at moment 0. Each end comes to the moment, and its next octet is pulled; then each
-- receives one.
abbrev pub gone : ℕ → Beat → Clocked → Clocked
gone rate b w = record w {
  near = happens pull (comes_to (w.beats / rate) b.near_asks w.near);
  far = happens pull (comes_to (w.beats / rate) b.far_asks w.far);
}

abbrev pub heard : Beat → Clocked → Clocked
heard b w = record {
  near = without_first_octet (hears b.near_noise w.far.at.way w.near);
  far = without_first_octet (hears b.far_noise w.near.at.way w.far);
  beats = w.beats + 1;
}

abbrev pub beat : ℕ → Clocked → Beat → Clocked
beat rate w b = heard b (gone rate b w)

abbrev pub after : ℕ → List Beat → Clocked → Clocked
after rate bs w = fold (beat rate) w bs

abbrev pub clean : ℕ → ℕ → Clocked → Clocked
clean rate n w = after rate (replicate n plain) w

-- As it begins: flags are in transit to each end, no timer runs, and the TEI is assigned at each card.
abbrev pub flags : ℕ → List ℕ
flags way = replicate way 0x7E

abbrev pub first : Config → ℕ → Lengths → ℕ → TimedEndpoint
first c line lengths way = record { at = record (octet_endpoint c line) { way = flags way }; clock = stopped lengths }

abbrev pub endpoint : Config → ℕ → Lengths → ℕ → ℕ → TimedEndpoint
endpoint c line lengths way tei = happens (request (Assign tei)) (first c line lengths way)

-- What layer 3 was told at an end: notes, and the contents of data. (What is dropped is told, too.)
abbrev pub notes_at : TimedEndpoint → List Note
notes_at s = flat_map (λ (t : LineTold). t.notes) s.at.told

abbrev pub contents_at : TimedEndpoint → List (List ℕ)
contents_at s = flat_map (λ (t : LineTold). option_to_list t.contents) s.at.told
