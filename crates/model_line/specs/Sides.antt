-- What differs on the two sides of a line, beside the C/R bit.
use Rattle.std.specs.Prelude.{◌≡◌, ℕ, ◌≤◌, ◌==◌, ◌&&◌, ◌||◌, Bool, true, false, nat_le, List, [], ◌∷◌, length, Option, Some, None, if◌then◌else◌}
use Rattle.model_bits.specs.declared.heard.Cause.TheVariants.{Unserved}
use Rattle.lapd_frame.specs.declared.addresses.Side.{Side}
use Rattle.lapd_frame.specs.declared.addresses.Side.TheVariants.{User, Network}
use Rattle.lapd_frame.specs.declared.controls.Control.{Control}
use Rattle.lapd_frame.specs.declared.controls.Control.TheVariants.{Ui}
use Rattle.lapd_frame.specs.declared.notes.Note.TheVariants as notes
use Rattle.lapd_frame.specs.declared.services.Service.{Service}
use Rattle.lapd_frame.specs.Grammar.{Parts}
use Rattle.lapd_frame.specs.Services.{service_of}
use Rattle.model_teis.specs.network.Events as teis
use Rattle.model_line.specs.declared.config.Config.{Config}
use Rattle.model_line.specs.Event.{LineTold, nothing, dropped}
use Rattle.model_line.specs.Effect.{Aim, at_none, at_link, at_management, at_terminal, at_units, at_no_link}
use Rattle.model_line.specs.Line.{is_terminal}

-- The group of all terminals of a line (Q.921 clause 3.3.4).
abbrev pub group_tei : ℕ
group_tei = 127

-- The user's side hears what the network sends to the group. A UI frame with the SAPI of a service brings unit data with
-- that TEI (clauses 3.3.4 and 5.2.2), of at most N201 octets. No link has this TEI, so of every other frame to the group
-- that is told (profile).
abbrev pub group_told : Service → List ℕ → LineTold
group_told service contents = record nothing { notes = notes.Unit service group_tei ∷ []; contents = Some contents }

abbrev pub told_of_ui : Config → Service → Control → List ℕ → LineTold → LineTold
told_of_ui c service (Ui p) info told = if nat_le (length info) c.n201 then group_told service info else told
told_of_ui c service other info told = told

abbrev pub told_of_group : Config → Parts → Option Service → LineTold → LineTold
told_of_group c parts None told = told
told_of_group c parts (Some service) told =
    if parts.address.tei == group_tei then told_of_ui c service parts.control parts.info told else told

abbrev pub told_at : Config → Side → Parts → LineTold → LineTold
told_at c Network parts told = told
told_at c User parts told = told_of_group c parts (service_of parts.address.sapi) told

-- TEI management is the network's and a terminal's (clause 5.3). A trunk's end serves none of its frames (profile), and a
-- terminal none but commands.
abbrev pub managed_at : Config → Parts → Side → teis.Event → Aim
managed_at c parts Network event = at_management event
managed_at c parts User event = if is_terminal c && parts.address.command then at_management event else at_none (dropped Unserved)

-- So what a frame is that is for no link depends on the side. No message of TEI management is over N201 octets (clause 5.9.3).
abbrev pub at_side : Config → Parts → Aim → Aim
at_side c parts (at_none told) = at_none (told_at c c.side parts told)
at_side c parts (at_link service tei place event) = at_link service tei place event
at_side c parts (at_management event) = if nat_le (length parts.info) c.n201 then managed_at c parts c.side event else at_none (dropped Unserved)
at_side c parts (at_terminal event) = at_terminal event
at_side c parts (at_units unit) = at_units unit
at_side c parts at_no_link = at_no_link

-- The frame is a UI of the network to the group, which the user's side serves.
pub record IsToGroup (c : Config) (parts : Parts) (service : Service) : Type 0 where
  pub side : c.side ≡ User
  pub sapi : service_of parts.address.sapi ≡ Some service
  pub group : parts.address.tei ≡ group_tei
  pub poll : Bool
  pub control : parts.control ≡ Ui poll
  pub size : length parts.info ≤ c.n201

-- The greatest TEI to which unit data is sent: the group's on the network's side, that of a terminal on the user's.
abbrev pub last_unit_tei : Side → ℕ
last_unit_tei Network = 127
last_unit_tei User = 126

-- Whether a side is the network's, which checks and disowns TEIs; and whether it has TEI management, and so takes one off the line.
abbrev pub is_network : Side → Bool
is_network Network = true
is_network User = false

abbrev pub has_management : Config → Bool
has_management c = is_network c.side || is_terminal c
