-- What a line sends next.
use Rattle.std.specs.Prelude.{ℕ, ◌+◌, true, false, List, [], ◌∷◌, ◌++◌, take, drop, slice_get, Option, None, option_map, if◌then◌else◌}
use Rattle.std.specs.List.{range_with_len}
use Rattle.std.specs.Option.{option_or, unwrap_or}
use Rattle.lapd_frame.specs.declared.controls.Control.TheVariants.{Ui}
use Rattle.lapd_frame.specs.declared.senders.Sender.{Sender}
use Rattle.lapd_frame.specs.declared.timers.Order.{Order}
use Rattle.lapd_frame.specs.Senders.{spelling}
use Rattle.lapd_frame.specs.Services.{sapi_of}
use Rattle.model_link.specs.declared.terms.Terms.{Terms}
use Rattle.model_link.specs.Events as link
use Rattle.model_link.specs.Link.{address_at}
use Rattle.model_link.specs.Machine as links
use Rattle.model_link.specs.Told.{Given}
use Rattle.model_teis.specs.network.Events as teis
use Rattle.model_teis.specs.terminal.Events as terminals
use Rattle.model_line.specs.declared.config.Config.{Config}
use Rattle.model_line.specs.Event.{NextFrame}
use Rattle.model_line.specs.Line.{Line, is_terminal, terminal_in, with_terminal, UnitData, link_count, terms_at, link_at, with_link}

-- What is taken: a frame, with orders for timers, and the line without it.
pub record Taken : Type 0 where
  pub frame : List ℕ
  pub orders : List Order
  pub line : Line

-- The oldest message of TEI management,
abbrev pub with_message : Line → List ℕ → Taken
with_message l octets = record { frame = octets; orders = []; line = record l { management = teis.after_offer l.management } }

abbrev pub with_own_message : Line → List ℕ → Taken
with_own_message l octets = record { frame = octets; orders = []; line = with_terminal (terminals.after_offer (terminal_in l)) l }

abbrev pub message_taken : Config → Line → Option Taken
message_taken c l =
    if is_terminal c then option_map (with_own_message l) (terminals.offered (terminal_in l))
    else option_map (with_message l) (teis.offered c.side l.management)

-- Frames are this side's (clause 3.3.2), on a line on which the second service has the SAPI of the configuration.
abbrev pub own_side : Config → Sender
own_side c = record { side = c.side; sapi = c.sapi }

-- else the oldest unit data, in a UI command with P=0 (Q.921 clauses 3.6.5 and 5.2.2),
abbrev pub unit_frame : Config → UnitData → List ℕ
unit_frame c u =
    spelling (own_side c) (record { address = record { sapi = sapi_of u.service; command = true; tei = u.tei }; control = Ui false; info = u.contents })

abbrev pub with_unit : Config → Line → UnitData → Taken
with_unit c l u = record { frame = unit_frame c u; orders = []; line = record l { units = drop 1 l.units } }

abbrev pub unit_taken : Config → Line → Option Taken
unit_taken c l = option_map (with_unit c l) (slice_get l.units 0)

-- else what the first of the links has to give, going round from the one after that which was served last (profile). A
-- link that has nothing to give is passed over.
abbrev pub frame_of : Config → Terms → Given → List ℕ
frame_of c t g =
    spelling (own_side c) (record { address = address_at t g.frame.command; control = g.frame.control; info = unwrap_or g.contents [] })

abbrev pub with_given_frame : Config → Line → ℕ → Terms → Given → Taken
with_given_frame c l number t g = record {
  frame = frame_of c t g;
  orders = g.orders;
  line = record (with_link number (links.after t link.offer (link_at number l)) l) { turn = number + 1 };
}

abbrev pub link_taken : Config → Line → ℕ → Option Taken
link_taken c l number =
    let t = terms_at c number l in
    option_map (with_given_frame c l number t) (links.given t (link_at number l))

abbrev pub first_taken : Config → Line → List ℕ → Option Taken
first_taken c l [] = None
first_taken c l (number ∷ numbers) = option_or (link_taken c l number) (first_taken c l numbers)

abbrev pub round_from : ℕ → List ℕ → List ℕ
round_from turn numbers = drop turn numbers ++ take turn numbers

abbrev pub round : Config → Line → List ℕ
round c l = round_from l.turn (range_with_len 0 (link_count c))

abbrev pub taken : Config → Line → Option Taken
taken c l = option_or (message_taken c l) (option_or (unit_taken c l) (first_taken c l (round c l)))

-- The frame as it is given, and the line without it.
abbrev pub next_of : Taken → NextFrame
next_of t = record { octets = t.frame; orders = t.orders }

abbrev pub line_of : Taken → Line
line_of t = t.line
