-- A line in an image of its card.
use Rattle.std.specs.Prelude.{◌≡◌, ℕ, ◌+◌, ◌*◌, ◌<◌, Bool, true, false, if◌then◌else◌, List, [], ◌∷◌, ◌++◌, map, flat_map, All, Option, None, Some, is_some}
use Rattle.std.specs.List.{range_with_len}
use Rattle.lapd_frame.specs.declared.services.Service.{Service}
use Rattle.lapd_frame.specs.declared.services.Service.TheVariants.{Call, Packet}
use Rattle.lapd_frame.specs.declared.timers.Timer.{Timer}
use Rattle.lapd_frame.specs.declared.timers.Timer.TheVariants.{T201, T202}
use Rattle.lapd_image.specs.Numbers.{list_of, contents}
use Rattle.model_teis.specs.TableImage.{place}
use Rattle.model_teis.specs.network.Image.{management}
use Rattle.model_teis.specs.network.Messages.{information_of}
use Rattle.model_teis.specs.terminal.Image.{beside_table}
use Rattle.model_teis.specs.terminal.Messages as terminals
use Rattle.model_bits.specs.StuffingLaws.{AreOctets}
use Rattle.model_link.specs.declared.timers.LinkTimer.{LinkTimer}
use Rattle.model_link.specs.Image.{link, timer_of, IsSavedLink}
use Rattle.model_link.specs.Link.{Link}
use Rattle.model_link.specs.Timed.{IsTimed}
use Rattle.model_line.specs.declared.config.Config.{Config}
use Rattle.model_line.specs.Line.{Line, Own, UnitData, is_terminal, link_count, link_at, place_at, service_at, tei_at}
use Rattle.model_line.specs.Sound.{IsSound}

abbrev pub service_bit : Service → ℕ
service_bit Call = 0
service_bit Packet = 1

-- Unit data that waits: in one octet twice its TEI, and 1 more for packet mode; and its contents.
abbrev pub unit : UnitData → List ℕ
unit u = (2 * u.tei + service_bit u.service) ∷ contents u.contents

-- What a terminal has of TEI management beside the table.
abbrev pub own : Own → List ℕ
own o = beside_table o.number o.procedure o.waiting

-- What a side has of TEI management beside the table: a terminal's, or the other sides'.
abbrev pub teis : Bool → Line → List ℕ
teis true l = own l.own
teis false l = management l.management

-- A link, if there is a TEI at its place. (Otherwise it is as one that begins.)
abbrev pub link_if : Option ℕ → Link → List ℕ
link_if None l = []
link_if (Some tei) l = link l

abbrev pub link_numbered : Line → ℕ → List ℕ
link_numbered l number = link_if (tei_at (place_at number) l) (link_at number l)

-- The places of the table, in one octet each; the rest of TEI management; unit data that waits, the oldest first; the link
-- at which the next round begins; and the links of the TEIs, by their places, at each place that of call control first.
abbrev pub line : Config → Line → List ℕ
line c l =
    map place l.management.places ++ (teis (is_terminal c) l ++ (list_of unit l.units
    ++ (l.turn ∷ flat_map (link_numbered l) (range_with_len 0 (link_count c)))))

-- What may be saved of it: Ri has 16 bits, and so have those in the messages that wait; only a terminal uses its reference
-- number; contents are octets.
pub record IsSavedLine (c : Config) (l : Line) : Type 0 where
  pub remembered : All (λ r. r.ri < 65536) l.management.remembered
  pub messages : All (λ message. AreOctets (information_of message)) l.management.waiting
  pub own : All (λ message. AreOctets (terminals.information_of message)) l.own.waiting
  pub unused : is_terminal c ≡ false → l.own.number ≡ 0
  pub links : All IsSavedLink l.links
  pub units : All (λ u. AreOctets u.contents) l.units

-- A line that may be saved, whatever the others: it is sound, and its timers are those of its states.
pub record IsWhole (c : Config) (l : Line) : Type 0 where
  pub sound : IsSound c l
  pub timed : (number : ℕ) → IsTimed (link_at number l)
  pub saved : IsSavedLine c l

-- The timer that the link at a place runs, if there is a TEI.
abbrev pub timer_at : Service → Option ℕ → Option LinkTimer → List Timer
timer_at service None timer = []
timer_at service (Some tei) timer = timer_of service tei timer

abbrev pub timer_numbered : Line → ℕ → List Timer
timer_numbered l number = timer_at (service_at number) (tei_at (place_at number) l) (link_at number l).running

-- The timers that a line runs: those of its links, by their numbers; then T201 or T202. An image has their moments in this
-- order, if the card keeps its own timers.
abbrev pub timers : Config → Line → List Timer
timers c l =
    flat_map (timer_numbered l) (range_with_len 0 (link_count c))
    ++ ((if is_some l.management.check then T201 ∷ [] else []) ++ (if is_some l.own.procedure then T202 ∷ [] else []))
