-- What an event is to the parts of a line, and what comes of it.
use Rattle.std.specs.Prelude.{ℕ, Bool, [], ◌∷◌, ◌++◌, Option, Some, None, if◌then◌else◌}
use Rattle.std.specs.Option.{option_or}
use Rattle.model_bits.specs.declared.heard.Cause.{Cause}
use Rattle.model_bits.specs.declared.heard.Cause.TheVariants.{Unserved}
use Rattle.lapd_frame.specs.declared.services.Service.{Service}
use Rattle.lapd_frame.specs.declared.services.Service.TheVariants.{Call, Packet}
use Rattle.model_link.specs.Events as link
use Rattle.model_link.specs.Link.{fresh}
use Rattle.model_link.specs.Machine as links
use Rattle.model_link.specs.Told as link_told
use Rattle.model_teis.specs.network.Events as teis
use Rattle.model_teis.specs.terminal.Events as terminals
use Rattle.model_teis.specs.Told.{TeiTold}
use Rattle.model_teis.specs.declared.changes.Change.{Change}
use Rattle.model_teis.specs.declared.changes.Change.TheVariants.{Gained, Left}
use Rattle.model_line.specs.declared.config.Config.{Config}
use Rattle.model_line.specs.Event.{LineTold, nothing}
use Rattle.model_line.specs.Line.{Line, is_terminal, terminal_in, with_terminal, UnitData, link_number, link_in, with_link, terms}

pub data Aim : Type 0 where
  -- no part is concerned
  at_none : LineTold → Aim
  -- the link of a service is, of the TEI at a place
  at_link : Service → ℕ → ℕ → link.Event → Aim
  -- TEI management is
  at_management : teis.Event → Aim
  -- a terminal's is, for what the network's has no event
  at_terminal : terminals.Event → Aim
  -- unit data goes to the end of those that wait
  at_units : UnitData → Aim
  -- what waits and is of no link is given up
  at_no_link : Aim

-- What an event leaves, and what is told of it.
pub record Effect : Type 0 where
  pub line : Line
  pub told : LineTold

abbrev pub unserved_cause : Bool → Option Cause
unserved_cause unserved = if unserved then Some Unserved else None

-- An event of a link.
abbrev pub told_of_link : link_told.LinkTold → LineTold
told_of_link t = record {
  notes = t.notes;
  contents = option_or t.delivered t.unit;
  cause = unserved_cause t.unserved;
  orders = t.orders;
  lost = t.lost;
  given_up = t.given_up;
  given_up_16 = t.given_up_16;
}

abbrev pub of_link : Config → Service → ℕ → ℕ → link.Event → Line → Effect
of_link c service tei place event l =
    let t = terms c service tei in
    record {
      line = with_link (link_number place service) (links.after t event (link_in l service place)) l;
      told = told_of_link (links.told t event (link_in l service place));
    }

-- An event of TEI management. A TEI that comes to the line opens its two links. One that leaves clears them, that of
-- call control first. What they tell comes after what TEI management tells, except for the order of T201 or T202, which is
-- the last (profile).
abbrev pub told_of_management : TeiTold → LineTold
told_of_management t =
    record nothing { notes = t.notes; cause = unserved_cause t.unserved; orders = t.orders; lost = t.lost }

abbrev pub with_opened : ℕ → Line → Line
with_opened place l = with_link (link_number place Packet) fresh (with_link (link_number place Call) fresh l)

abbrev pub with_cleared : LineTold → LineTold → LineTold → LineTold
with_cleared call packet t =
    record t {
      notes = t.notes ++ call.notes ++ packet.notes;
      orders = call.orders ++ packet.orders ++ t.orders;
      given_up = call.given_up;
      given_up_16 = packet.given_up_16;
    }

abbrev pub of_change : Config → Option Change → LineTold → Line → Effect
of_change c None told l = record { line = l; told = told }
of_change c (Some (Gained tei place)) told l = record { line = with_opened place l; told = told }
of_change c (Some (Left tei place)) told l =
    let call = of_link c Call tei place link.cleared l in
    let packet = of_link c Packet tei place link.cleared call.line in
    record { line = packet.line; told = with_cleared call.told packet.told told }

abbrev pub of_network : Config → teis.Event → Line → Effect
of_network c event l =
    let t = teis.told event l.management in
    of_change c t.change (told_of_management t) (record l { management = teis.after event l.management })

-- The same of a terminal.
abbrev pub of_terminal : Config → terminals.Event → Line → Effect
of_terminal c event l =
    let t = terminals.told event (terminal_in l) in
    of_change c t.change (told_of_management t) (with_terminal (terminals.after event (terminal_in l)) l)

-- An event of TEI management is that of the side: of the network's, also at a trunk's end, or of a terminal. (T201 does not
-- run at a terminal, and it neither checks nor disowns a TEI.)
abbrev pub at_a_terminal : teis.Event → Option terminals.Event
at_a_terminal (teis.message octets) = Some (terminals.message octets)
at_a_terminal teis.expiry = None
at_a_terminal (teis.assign tei) = Some (terminals.assign tei)
at_a_terminal (teis.remove tei) = Some (terminals.remove tei)
at_a_terminal (teis.check tei) = None
at_a_terminal (teis.disown tei) = None
at_a_terminal teis.down = Some terminals.down

abbrev pub of_terminal_if : Config → Option terminals.Event → Line → Effect
of_terminal_if c None l = record { line = l; told = nothing }
of_terminal_if c (Some event) l = of_terminal c event l

abbrev pub of_management : Config → teis.Event → Line → Effect
of_management c event l = if is_terminal c then of_terminal_if c (at_a_terminal event) l else of_network c event l

-- The change of the TEIs that such an event brings.
abbrev pub change_at_terminal : terminals.Event → Line → Option Change
change_at_terminal event l = (terminals.told event (terminal_in l)).change

abbrev pub change_if : Option terminals.Event → Line → Option Change
change_if None l = None
change_if (Some event) l = change_at_terminal event l

abbrev pub change_of : Config → teis.Event → Line → Option Change
change_of c event l = if is_terminal c then change_if (at_a_terminal event) l else (teis.told event l.management).change

-- The line is down: the unit data that waits is given up, and what TEI management has going.
abbrev pub without_units : Line → Line
without_units l = record l { units = [] }

-- Any of them.
abbrev pub of_aim : Config → Aim → Line → Effect
of_aim c (at_none told) l = record { line = l; told = told }
of_aim c (at_link service tei place event) l = of_link c service tei place event l
of_aim c (at_management event) l = of_management c event l
of_aim c (at_terminal event) l = of_terminal c event l
of_aim c (at_units unit) l = record { line = record l { units = l.units ++ unit ∷ [] }; told = nothing }
of_aim c at_no_link l = of_management c teis.down (without_units l)
