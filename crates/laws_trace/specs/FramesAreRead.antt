-- What begins on a line are frames.
use Rattle.std.specs.Prelude.{◌≡◌, ℕ, ◌==◌, ◌||◌, true, List, [], All, is_some}
use Rattle.model_bits.specs.StreamLaws.{HasOctets}
use Rattle.model_bits.specs.StuffingLaws.{AreOctets}
use Rattle.lapd_frame.specs.Grammar.{Parts}
use Rattle.lapd_frame.specs.Senders.{Spells}
use Rattle.lapd_frame.specs.Services.{service_of}
use Rattle.model_line.specs.declared.config.Config.{Config}
use Rattle.model_line.specs.Request as asked
use Rattle.model_line.specs.Request.{Request}
use Rattle.model_line.specs.Taken.{own_side}
use Rattle.model_card.specs.Card.{fresh}
use Rattle.model_card.specs.Event.{Event}
use Rattle.model_card.specs.Run.{moments}
use Rattle.model_card.specs.Takes.{frames_given}
use Rattle.laws_trace.specs.Trace.{Seen, heard, granted, trace_of, frames_begun}

-- Each is one that the grammar has, as that of the card's side, of a service or of TEI management (Q.921 clauses 2, 3
-- and 3.3.3).
abbrev pub IsSpelled : Config → List ℕ → Type 0
IsSpelled c octets = (parts : Parts) × Spells (own_side c) parts octets × ((parts.address.sapi == 63 || is_some (service_of parts.address.sapi)) ≡ true)

abbrev pub FramesAreRead : Config → List Event → ℕ → Type 0
FramesAreRead c events number = All (IsSpelled c) (frames_given number (moments (fresh c) events))

-- The contents that are granted, and the frames that are heard, are octets, each 0 to 255.
abbrev pub contents_given : Request → List ℕ
contents_given (asked.Data service tei contents) = contents
contents_given (asked.Unit service tei contents) = contents
contents_given other = []

abbrev pub GivesOctets : Seen → Type 0
GivesOctets (granted r) = AreOctets (contents_given r)
GivesOctets (heard e) = HasOctets e
GivesOctets other = Unit {0}

-- Then so are those of the frames that begin.
abbrev pub FramesAreOctets : Config → List Event → ℕ → Type 0
FramesAreOctets c events number = let t = trace_of c events number in All GivesOctets t → All AreOctets (frames_begun t)
