-- What is heard on a line brings to its links and to layer 3.
use Rattle.std.specs.Prelude.{◌≡◌, ◌⊎◌, ℕ, ◌==◌, ◌&&◌, ◌||◌, Bool, true, false, List, [], length, count_by, Ok, Err, Option, Some, None, option_to_list}
use Rattle.std.specs.List.{list_any}
use Rattle.std.specs.Option.{option_or}
use Rattle.model_bits.specs.Stream as stream
use Rattle.model_bits.specs.StuffingLaws.{AreOctets}
use Rattle.lapd_frame.specs.declared.addresses.Address.{Address}
use Rattle.lapd_frame.specs.declared.addresses.Side.TheVariants.{User}
use Rattle.lapd_frame.specs.declared.faults.ReadFault.TheVariants.{Undefined, WrongSize}
use Rattle.lapd_frame.specs.declared.notes.Note.{Note}
use Rattle.lapd_frame.specs.declared.notes.Note.TheVariants as notes
use Rattle.lapd_frame.specs.declared.overlong.Long.TheVariants as long
use Rattle.lapd_frame.specs.declared.services.Service.{Service}
use Rattle.lapd_frame.specs.declared.readings.Reading.TheVariants.{AnnexB}
use Rattle.lapd_frame.specs.Grammar.{Parts}
use Rattle.lapd_frame.specs.Overlong.{is_unit as begins_unit}
use Rattle.lapd_frame.specs.Senders.{Spells, reading, long_reading}
use Rattle.lapd_frame.specs.Services.{sapi_of, same_service}
use Rattle.model_link.specs.Events as link
use Rattle.model_link.specs.Machine as links
use Rattle.model_link.specs.Notes.{is_data, is_unit}
use Rattle.model_link.specs.Told as link_told
use Rattle.laws_link.specs.Heard.{in_i_frame, in_ui_frame}
use Rattle.model_line.specs.declared.config.Config.{Config}
use Rattle.model_line.specs.Event.{Event, hears, LineTold, Answer, told}
use Rattle.model_line.specs.Line.{Line, is_terminal, link_number, place_in, link_in, with_link, terms}
use Rattle.model_line.specs.Heard.{heard_side}
use Rattle.model_line.specs.Sides.{group_tei, IsToGroup}

-- An address names a link: the SAPI of a service, and a TEI on the line.
pub record IsTo (l : Line) (service : Service) (tei place : ℕ) (address : Address) : Type 0 where
  pub sapi : address.sapi ≡ sapi_of service
  pub tei_is : address.tei ≡ tei
  pub on_line : place_in l tei ≡ Some place

-- What a frame with an address is to a link where the grammar has no such frame: its control field is undefined, or it is
-- of wrong size (clauses 3.6.1, 3.6.11 and 5.8.5; `one_spelling` of `lapd_frame` says where it is read so).
abbrev pub IsMalformed : Config → Address → List ℕ → link.Received → Type 0
IsMalformed c address octets link.undefined = reading (heard_side c) octets ≡ Err (Undefined address)
IsMalformed c address octets link.wrong_size = reading (heard_side c) octets ≡ Err (WrongSize address)
IsMalformed c address octets other = ⊥

-- The same of one that was too long to keep, by its first four octets: then it may be an I-frame that is too long, or by annex B
-- a UI.
pub record IsLongUnit (c : Config) (address : Address) (head : List ℕ) : Type 0 where
  pub annex_b : c.reading ≡ AnnexB
  pub unit : begins_unit head ≡ true
  pub read : long_reading (heard_side c) head ≡ Ok (long.Unnumbered address)

abbrev pub IsTooLong : Config → Address → List ℕ → link.Received → Type 0
IsTooLong c address head link.undefined = long_reading (heard_side c) head ≡ Err (Undefined address)
IsTooLong c address head link.wrong_size = long_reading (heard_side c) head ≡ Err (WrongSize address)
IsTooLong c address head link.overlong = (long_reading (heard_side c) head ≡ Ok (long.Information address)) ⊎ IsLongUnit c address head
IsTooLong c address head other = ⊥

-- An answer says what a link tells: its notes, the contents of an I-frame or of a UI, its orders, what it loses, and what it
-- gives up.
pub record AnswerTells (t : link_told.LinkTold) (answer : Answer) : Type 0 where
  pub own : LineTold
  pub is : answer ≡ told own
  pub notes : own.notes ≡ t.notes
  pub contents : own.contents ≡ option_or t.delivered t.unit
  pub orders : own.orders ≡ t.orders
  pub lost : own.lost ≡ t.lost
  pub given_up : own.given_up ≡ t.given_up
  pub given_up_16 : own.given_up_16 ≡ t.given_up_16

-- Then what is heard is this event of the link of that service and TEI, and nothing else changes; and the line answers what
-- the link does.
pub record IsOneEvent (c : Config) (before after : Line) (answer : Answer) (service : Service) (tei place : ℕ) (event : link.Event) : Type 0 where
  pub line : after ≡ with_link (link_number place service) (links.after (terms c service tei) event (link_in before service place)) before
  pub answer_is : AnswerTells (links.told (terms c service tei) event (link_in before service place)) answer

-- What is for no part of the line changes nothing, and this is all that is answered.
pub record OnlyTells (t : LineTold) (before after : Line) (answer : Answer) : Type 0 where
  pub line : after ≡ before
  pub answer_is : answer ≡ told t

-- The contents that an answer hands on.
abbrev pub contents_in : Answer → Option (List ℕ)
contents_in (told t) = t.contents
contents_in other = None

-- Notes of data, and of unit data, of the link of a service with a TEI.
abbrev pub is_data_of : Service → ℕ → Note → Bool
is_data_of service tei (notes.Data of by) = same_service of service && by == tei
is_data_of service tei other = false

abbrev pub is_unit_of : Service → ℕ → Note → Bool
is_unit_of service tei (notes.Unit of by) = same_service of service && by == tei
is_unit_of service tei other = false

abbrev pub notes_of : Answer → List Note
notes_of (told t) = t.notes
notes_of other = []

abbrev pub IsData : Service → ℕ → Parts → List ℕ → Answer → Type 0
IsData service tei parts contents answer =
    (in_i_frame parts.control parts.info ≡ Some contents) × (list_any (is_data_of service tei) (notes_of answer) ≡ true)

abbrev pub IsUnit : Service → ℕ → Parts → List ℕ → Answer → Type 0
IsUnit service tei parts contents answer =
    (in_ui_frame parts.control parts.info ≡ Some contents) × (list_any (is_unit_of service tei) (notes_of answer) ≡ true)

-- Contents that are handed on are noted once, as data or as unit data; where none are, nothing is noted as such.
abbrev pub tells_contents : Note → Bool
tells_contents note = is_data note || is_unit note

abbrev pub IsNotedOnce : Answer → Type 0
IsNotedOnce answer = count_by tells_contents (notes_of answer) ≡ length (option_to_list (contents_in answer))

-- Contents are handed on only of a frame that is heard: an I-frame or a UI, as the grammar reads it and, where it is octets,
-- spells it, of a service and a TEI on the line, whose information they are; and the answer notes data, or unit data, of that
-- service and TEI.
pub record IsHeardAtLink (c : Config) (l : Line) (event : Event) (answer : Answer) (contents : List ℕ) : Type 0 where
  pub octets : List ℕ
  pub by : event ≡ hears (stream.frame octets)
  pub parts : Parts
  pub read : reading (heard_side c) octets ≡ Ok parts
  pub spelled : AreOctets octets → Spells (heard_side c) parts octets
  pub service : Service
  pub tei : ℕ
  pub place : ℕ
  pub whose : IsTo l service tei place parts.address
  pub told : IsData service tei parts contents answer ⊎ IsUnit service tei parts contents answer

-- Or, on the user's side, a UI of a service to the group (clauses 3.3.4 and 5.2.2), of at most N201 octets; and the answer
-- notes unit data of that service and the group's TEI.
pub record IsHeardByGroup (c : Config) (event : Event) (answer : Answer) (contents : List ℕ) : Type 0 where
  pub octets : List ℕ
  pub by : event ≡ hears (stream.frame octets)
  pub parts : Parts
  pub read : reading (heard_side c) octets ≡ Ok parts
  pub spelled : AreOctets octets → Spells (heard_side c) parts octets
  pub service : Service
  pub whose : IsToGroup c parts service
  pub contents_are : parts.info ≡ contents
  pub told : list_any (is_unit_of service group_tei) (notes_of answer) ≡ true

abbrev pub IsHeard : Config → Line → Event → Answer → List ℕ → Type 0
IsHeard c l event answer contents = IsHeardAtLink c l event answer contents ⊎ IsHeardByGroup c event answer contents

-- A frame of layer 2 management is for the user's side. TEI management is the network's and a terminal's (clause 5.3), so it is
-- not served at a trunk's end; and a terminal serves commands alone.
pub record IsToManagement (c : Config) (parts : Parts) : Type 0 where
  pub side : c.side ≡ User
  pub unserved : (is_terminal c && parts.address.command) ≡ false
  pub sapi : parts.address.sapi ≡ 63
  pub group : parts.address.tei ≡ group_tei
