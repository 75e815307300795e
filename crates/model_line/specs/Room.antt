-- How much room a link of a line has.
use Rattle.std.specs.Prelude.{ℕ, [], ◌∷◌, Option, Some, None, Result, Ok, Err}
use Rattle.lapd_frame.specs.declared.refusals.Refusal.{Refusal}
use Rattle.lapd_frame.specs.declared.services.Service.{Service}
use Rattle.model_link.specs.declared.rooms.Room.{Room}
use Rattle.model_link.specs.Room.{room_of}
use Rattle.model_line.specs.declared.config.Config.{Config}
use Rattle.model_line.specs.Line.{Line, terms, link_of}
use Rattle.model_line.specs.Refusal.{first_that_holds, bad_tei, no_link}

abbrev pub unless : Option Refusal → Room → Result Room Refusal
unless None room = Ok room
unless (Some why) room = Err why

-- That of the link of a service with a TEI, where so many slots of the pool are free; or why there is no such link, as
-- a request to it is told.
abbrev pub room_in : Config → ℕ → Service → ℕ → Line → Result Room Refusal
room_in c free service tei l =
    unless (first_that_holds (bad_tei tei ∷ no_link tei l ∷ [])) (room_of (terms c service tei) free (link_of service tei l))
