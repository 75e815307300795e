-- How worked values are written: octets come from the terminal and go to it.
use Rattle.std.specs.Prelude.{ℕ, ◌+◌, false, List, [], ◌∷◌, ◌++◌, replicate, Option, None, Some, Result, Ok, Err, unwrap_or}
use Rattle.lapd_frame.specs.declared.addresses.Side.TheVariants.{User, Network}
use Rattle.lapd_frame.specs.declared.faults.ReadFault.{ReadFault}
use Rattle.lapd_frame.specs.declared.faults.ReadFault.TheVariants.{BadExtension, Undefined, WrongSize, Short}
use Rattle.lapd_frame.specs.declared.notes.Note.{Note}
use Rattle.lapd_frame.specs.declared.readings.Reading.TheVariants.{Profile, AnnexB}
use Rattle.lapd_frame.specs.declared.services.Service.TheVariants.{Call, Packet}
use Rattle.lapd_frame.specs.Grammar.{Parts, spelling}
use Rattle.lapd_frame.specs.Reading.{reading}
use Rattle.model_link.specs.declared.terms.Terms.{Terms}
use Rattle.model_link.specs.Link.{Link, fresh, frame_of}
use Rattle.model_link.specs.Events.{Received, frame, undefined, wrong_size, Request, Event, received, requested, offer}
use Rattle.model_link.specs.Told.{LinkTold, Given}
use Rattle.model_link.specs.Machine.{after, after_all, told, given}

-- TEI 64 with k 7, N201 260, N200 3, room for 8 contents and for 4 control frames; and the same with other numbers.
abbrev pub usual_terms : Terms
usual_terms = record { service = Call; tei = 64; k = 7; n201 = 260; n200 = 3; queue = 8; control = 4; reading = Profile }

abbrev pub with_k_and_queue : ℕ → ℕ → Terms
with_k_and_queue k queue = record usual_terms { k = k; queue = queue }

abbrev pub with_n200 : ℕ → Terms
with_n200 n200 = record usual_terms { n200 = n200 }

-- the usual terms by annex B, and with this N200
abbrev pub by_annex_b : ℕ → Terms
by_annex_b n200 = record usual_terms { n200 = n200; reading = AnnexB }

abbrev pub packet : Terms
packet = record usual_terms { service = Packet; k = 3 }

-- Octets of a frame from the terminal, with an address of the link.
abbrev pub received_as : Result Parts ReadFault → Received
received_as (Ok f) = frame f
received_as (Err (Undefined address)) = undefined
received_as (Err (WrongSize address)) = wrong_size
received_as (Err BadExtension) = undefined
received_as (Err Short) = undefined

abbrev pub frame_comes : List ℕ → Event
frame_comes octets = received (received_as (reading User octets))

-- A request while the shelf has free slots.
abbrev pub ask : Request → Event
ask request = requested request false

abbrev pub pulls : ℕ → List Event
pulls n = replicate n offer

-- The octets of what an offer gives.
abbrev pub octets_of : Terms → Given → List ℕ
octets_of t g = spelling Network (frame_of t g.frame) ++ unwrap_or g.contents []

abbrev pub octets_given : Terms → Option Given → List (List ℕ)
octets_given t None = []
octets_given t (Some g) = octets_of t g ∷ []

-- The frames that the offers among the events give, in order.
abbrev pub out_of_event : Terms → Event → Link → List (List ℕ)
out_of_event t offer l = octets_given t (given t l)
out_of_event t (received r) l = []
out_of_event t (Event.expired timer) l = []
out_of_event t (requested request pool_is_full) l = []
out_of_event t Event.cleared l = []

unfoldable pub out : Terms → List Event → Link → List (List ℕ)
out t [] l = []
out t (e ∷ es) l = out_of_event t e l ++ out t es (after t e l)

-- What the events tell: the notes of all; and all that the last tells.
unfoldable pub notes : Terms → List Event → Link → List Note
notes t [] l = []
notes t (e ∷ es) l = (told t e l).notes ++ notes t es (after t e l)

-- How many frames the events lose.
unfoldable pub lost : Terms → List Event → Link → ℕ
lost t [] l = 0
lost t (e ∷ es) l = (told t e l).lost + lost t es (after t e l)

abbrev pub told_after : Terms → List Event → Event → Link → LinkTold
told_after t es e l = told t e (after_all t es l)

-- A link that the terminal has established, its UA sent.
abbrev pub sabme : Event
sabme = frame_comes (0x00 ∷ 0x81 ∷ 0x7F ∷ [])

abbrev pub up : Link
up = after_all usual_terms (sabme ∷ offer ∷ []) fresh
