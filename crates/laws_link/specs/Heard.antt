-- What a frame that is heard brings to layer 3.
use Rattle.std.specs.Prelude.{◌≡◌, ℕ, ◌%◌, ◌==◌, nat_le, List, length, count_by, Option, None, Some, option_to_list, if◌then◌else◌}
use Rattle.lapd_frame.specs.declared.controls.Control.{Control}
use Rattle.lapd_frame.specs.declared.controls.Control.TheVariants.{Information, Ui}
use Rattle.model_link.specs.declared.terms.Terms.{Terms}
use Rattle.model_link.specs.Deliveries.{Arrived, eligible}
use Rattle.model_link.specs.Link.{Link}
use Rattle.model_link.specs.Notes.{is_data, is_unit}
use Rattle.model_link.specs.Told.{LinkTold}
use Rattle.model_link.specs.Events.{frame, Event, received}

-- The information of an I-frame, and of a UI frame.
abbrev pub in_i_frame : Control → List ℕ → Option (List ℕ)
in_i_frame (Information ns nr p) octets = Some octets
in_i_frame other octets = None

abbrev pub in_ui_frame : Control → List ℕ → Option (List ℕ)
in_ui_frame (Ui p) octets = Some octets
in_ui_frame other octets = None

abbrev pub contents_heard : Event → Option (List ℕ)
contents_heard (received (frame f)) = in_i_frame f.control f.info
contents_heard other = None

abbrev pub unit_heard : Event → Option (List ℕ)
unit_heard (received (frame f)) = in_ui_frame f.control f.info
unit_heard other = None

-- Unit data of at most N201 octets is told in every state, and no other (Q.921 clause 5.2.3, and the profile).
abbrev pub within : ℕ → Option (List ℕ) → Option (List ℕ)
within n201 None = None
within n201 (Some octets) = if nat_le (length octets) n201 then Some octets else None

abbrev pub unit_due : Terms → Event → Option (List ℕ)
unit_due t e = within t.n201 (unit_heard e)

-- The contents of an I-frame that is eligible (it has at most N201 octets, and meets state 7 or 8 with own busy off) are
-- delivered where it is in sequence: its N(S) is V(R) modulo 128 (clauses 3.5.2.4, 3.5.2.5, 5.6.2 and 5.6.6).
abbrev pub in_sequence : ℕ → Option Arrived → Option (List ℕ)
in_sequence r None = None
in_sequence r (Some i) = if i.ns.value == r % 128 then Some i.contents else None

abbrev pub data_due : Terms → Event → Link → Option (List ℕ)
data_due t e l = in_sequence l.r (eligible t e l)

-- Contents that are delivered have one note of data, and unit data that is told has one; there is no other.
pub record IsNotedOnce (t : LinkTold) : Type 0 where
  pub contents : count_by is_data t.notes ≡ length (option_to_list t.delivered)
  pub unit : count_by is_unit t.notes ≡ length (option_to_list t.unit)
