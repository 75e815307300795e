-- What an event does to the contents that a link keeps: what layer 3 adds to them, what the terminal acknowledges, and
-- when all of them go.
use Rattle.std.specs.Prelude.{ℕ, ◌-◌, nat_lt, Bool, true, false, ◌||◌, List, [], ◌∷◌, length, Option, None, Some, is_some, if◌then◌else◌}
use Rattle.std.specs.List.{list_any}
use Rattle.std.specs.Option.{option_map_or}
use Rattle.lapd_seq.specs.declared.numbers.Seq.{Seq}
use Rattle.lapd_seq.specs.Circle.{named}
use Rattle.lapd_frame.specs.declared.controls.Control.{Control}
use Rattle.lapd_frame.specs.declared.controls.Control.TheVariants.{Information, ReceiveReady, ReceiveNotReady, Reject}
use Rattle.lapd_frame.specs.declared.notes.Note.{Note}
use Rattle.lapd_frame.specs.declared.notes.Note.TheVariants as notes
use Rattle.model_link.specs.declared.terms.Terms.{Terms}
use Rattle.model_link.specs.Link.{Link, is_multiple_frame}
use Rattle.model_link.specs.Events.{Received, frame, Request, Establish, Release, Data, Event, received, requested, cleared}
use Rattle.model_link.specs.Requests.{refusal}
use Rattle.model_link.specs.Machine.{told}

-- Contents that layer 3 gives in a data request that is not refused.
abbrev pub contents_asked : Request → List (List ℕ)
contents_asked (Data octets) = octets ∷ []
contents_asked other = []

abbrev pub accepted : Terms → Event → Link → List (List ℕ)
accepted t (requested request pool_is_full) l = if is_some (refusal t l pool_is_full request) then [] else contents_asked request
accepted t other l = []

-- The N(R) of a supervisory frame, or of an I-frame of at most N201 octets.
abbrev pub number_of : Terms → Control → List ℕ → Option Seq
number_of t (Information ns nr p) octets = if nat_lt t.n201 (length octets) then None else Some nr
number_of t (ReceiveReady nr pf) octets = Some nr
number_of t (ReceiveNotReady nr pf) octets = Some nr
number_of t (Reject nr pf) octets = Some nr
number_of t other octets = None

abbrev pub number_received : Terms → Received → Option Seq
number_received t (frame f) = number_of t f.control f.info
number_received t other = None

-- How many of the contents that are kept it acknowledges: in states 7 and 8 those before the number of a..=s that it
-- names, and none where it names no number (Q.921 clauses 5.6.3.2 and 5.8.2).
abbrev pub beyond : ℕ → ℕ → ℕ
beyond a n = n - a

abbrev pub acknowledged_by : Option Seq → Link → ℕ
acknowledged_by None l = 0
acknowledged_by (Some nr) l =
    if is_multiple_frame l.state then option_map_or (beyond l.a) (named l.a l.s nr) 0 else 0

abbrev pub acknowledged : Terms → Event → Link → ℕ
acknowledged t (received r) l = acknowledged_by (number_received t r) l
acknowledged t other l = 0

-- All contents that are kept go where layer 3 asked for it by an establishment or a release that is not refused (in state 4
-- none is kept), where the TEI leaves the line, and where layer 3 is told so: by an indication of an establishment, or by an
-- indication or a confirm of a release. These three notes are told of no other event, so that they always say that nothing is
-- kept.
abbrev pub gives_up : Request → Bool
gives_up Establish = true
gives_up Release = true
gives_up other = false

abbrev pub ends : Terms → Event → Link → Bool
ends t (requested request pool_is_full) l = if is_some (refusal t l pool_is_full request) then false else gives_up request
ends t cleared l = true
ends t other l = false

abbrev pub is_loss : Note → Bool
is_loss (notes.EstablishIndication service tei) = true
is_loss (notes.ReleaseIndication service tei) = true
is_loss (notes.ReleaseConfirm service tei) = true
is_loss other = false

abbrev pub tells_loss : List Note → Bool
tells_loss ns = list_any is_loss ns

abbrev pub empties : Terms → Event → Link → Bool
empties t e l = ends t e l || tells_loss (told t e l).notes
