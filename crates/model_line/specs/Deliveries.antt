-- What a link of a line delivers, and what it may.
use Rattle.std.specs.Prelude.{ℕ, ◌==◌, Bool, false, List, Option, Some, None, if◌then◌else◌}
use Rattle.std.specs.Option.{option_map_or}
use Rattle.lapd_frame.specs.declared.services.Service.{Service}
use Rattle.lapd_frame.specs.Services.{same_service}
use Rattle.lapd_frame.specs.declared.notes.Note.{Note}
use Rattle.lapd_frame.specs.declared.notes.Note.TheVariants as notes
use Rattle.std.specs.List.{list_any}
use Rattle.model_link.specs.Deliveries as links
use Rattle.model_teis.specs.declared.changes.Change.{Change}
use Rattle.model_teis.specs.declared.changes.Change.TheVariants.{Gained, Left}
use Rattle.model_line.specs.declared.config.Config.{Config}
use Rattle.model_line.specs.Event.{Event, Answer, told, refused, gave}
use Rattle.model_line.specs.Line.{Line, link_number, service_at, place_at, tei_at, terms, link_in}
use Rattle.model_line.specs.Effect.{Aim, at_none, at_link, at_management, at_terminal, at_units, at_no_link, change_of, change_at_terminal}
use Rattle.model_line.specs.Machine.{aim_of}

-- The eligible I-frame that an event brings to a link, if it brings one.
abbrev pub arrived_aimed : Config → ℕ → Line → Aim → Option links.Arrived
arrived_aimed c number l (at_none what) = None
arrived_aimed c number l (at_link service tei place event) =
    if link_number place service == number then links.eligible (terms c service tei) event (link_in l service place) else None
arrived_aimed c number l (at_management event) = None
arrived_aimed c number l (at_terminal event) = None
arrived_aimed c number l (at_units unit) = None
arrived_aimed c number l at_no_link = None

abbrev pub arrived : Config → ℕ → Event → Line → Option links.Arrived
arrived c number event l = arrived_aimed c number l (aim_of c event l)

-- An establishment of a link, or its end: an event that sets its numbers to zero, or clears it, since a TEI comes to
-- its place or leaves it.
abbrev pub is_change_at : ℕ → Option Change → Bool
is_change_at place None = false
is_change_at place (Some (Gained tei other)) = other == place
is_change_at place (Some (Left tei other)) = other == place

abbrev pub restarts_aimed : Config → ℕ → Line → Aim → Bool
restarts_aimed c number l (at_none what) = false
restarts_aimed c number l (at_link service tei place event) =
    if link_number place service == number then links.restarts (terms c service tei) event (link_in l service place) else false
restarts_aimed c number l (at_management event) = is_change_at (place_at number) (change_of c event l)
restarts_aimed c number l (at_terminal event) = is_change_at (place_at number) (change_at_terminal event l)
restarts_aimed c number l (at_units unit) = false
restarts_aimed c number l at_no_link = false

abbrev pub restarts : Config → ℕ → Event → Line → Bool
restarts c number event l = restarts_aimed c number l (aim_of c event l)

-- What an answer says is delivered by the link of a service with this TEI: the contents that it has, where it notes
-- that they are data of that link.
abbrev pub is_data_of : Service → ℕ → Note → Bool
is_data_of service tei (notes.Data of by) = if same_service of service then by == tei else false
is_data_of service tei _ = false

abbrev pub delivered_in : Service → ℕ → Answer → Option (List ℕ)
delivered_in service tei (told t) = if list_any (is_data_of service tei) t.notes then t.contents else None
delivered_in service tei (refused why) = None
delivered_in service tei (gave frame) = None

-- What an answer says is delivered by a link of the line: by the TEI that is at its place.
abbrev pub delivered_at : Service → Answer → ℕ → Option (List ℕ)
delivered_at service answer tei = delivered_in service tei answer

abbrev pub delivered : ℕ → Line → Answer → Option (List ℕ)
delivered number l answer = option_map_or (delivered_at (service_at number) answer) (tei_at (place_at number) l) None
