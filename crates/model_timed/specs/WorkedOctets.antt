-- Worked values: a card of octets that keeps its own timers. Each computes.
use Rattle.std.specs.Prelude.{◌≡◌, ℕ, List, [], ◌∷◌, map, refl}
use Rattle.lapd_clock.specs.Timer.{T203, Call}
use Rattle.lapd_frame.specs.Reading.{reading, header_of, control_of, unnumbered_of, supervisory_of}
use Rattle.lapd_frame.specs.Senders.{exchanged, reading as read_by}
use Rattle.lapd_seq.specs.Circle.{distance_of, named}
use Rattle.lapd_seq.specs.Numbers.{seq}
use Rattle.model_teis.specs.network.Events as teis
use Rattle.model_bits.specs.Bits.{low_bits}
use Rattle.model_line.specs.Machine as lines
use Rattle.model_line.specs.Request.{Assign}
use Rattle.model_card.specs.ports.Card as ports
use Rattle.model_card.specs.ports.Event.{Event, at}
use Rattle.model_card.specs.ports.Port.{octet, request}
use Rattle.model_timed.specs.Timed as timed
use Rattle.model_timed.specs.Timed.{Step, happens, time}
use Rattle.model_timed.specs.Octets.{fresh, after_all}
use Rattle.model_timed.specs.Worked.{usual, lengths}

abbrev octet_on_0 : ℕ → Step Event
octet_on_0 value = happens (at 0 (octet value))

-- A TEI is assigned at 5, and its SABME comes, flags and check around it; T203 runs from the closing flag on.
abbrev up : List (Step Event)
up = time 5 ∷ happens (at 0 (request (Assign 64))) ∷ map octet_on_0 (0x7E ∷ 0x00 ∷ 0x81 ∷ 0xEF ∷ 0x50 ∷ 0xB1 ∷ 0xFD ∷ 0xFC ∷ [])

runs_until_55 : (after_all up (fresh usual lengths)).clock.running ≡ record { moment = 55; line = 0; timer = T203 Call 64 } ∷ []
unfolding lines.after lines.answer lines.takes_slot exchanged read_by reading header_of control_of unnumbered_of supervisory_of teis.course teis.refusal seq distance_of named low_bits ports.after ports.answer ports.meant timed.after_all
runs_until_55 = refl
