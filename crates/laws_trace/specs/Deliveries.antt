-- What layer 3 is told of what is heard.
use Rattle.std.specs.Prelude.{◌≡◌, ℕ, ◌==◌, ◌&&◌, ◌||◌, not, nat_le, nat_lt, Bool, true, false, List, ◌∷◌, ◌++◌, length, option_to_list, option_map, count_by, Option}
use Rattle.std.specs.List.{list_any}
use Rattle.std.specs.Option.{option_map_or}
use Rattle.lapd_frame.specs.declared.controls.Control.{Control}
use Rattle.lapd_frame.specs.declared.controls.Control.TheVariants.{Information}
use Rattle.lapd_frame.specs.declared.notes.Note.{Note}
use Rattle.lapd_frame.specs.declared.notes.Note.TheVariants as notes
use Rattle.lapd_frame.specs.declared.services.Service.{Service}
use Rattle.lapd_frame.specs.Grammar.{Parts}
use Rattle.model_line.specs.declared.config.Config.{Config}
use Rattle.model_line.specs.Event as line_event
use Rattle.model_line.specs.Event.{Answer}
use Rattle.laws_line.specs.Heard.{notes_of, contents_in, is_data_of, is_unit_of}
use Rattle.model_card.specs.Event.{Event, at}
use Rattle.laws_trace.specs.LinkFrames.{brought}
use Rattle.laws_trace.specs.Managing.{Managed, is_on, manages}
use Rattle.laws_trace.specs.Observer.{Observed, View, takes_next, view_of, moment_of}
use Rattle.laws_trace.specs.Trace.{is_up}
use Rattle.laws_trace.specs.Units.{is_ui}

-- An I-frame is taken in states 7 and 8, while layer 3 is not busy, of at most N201 octets, and with the N(S) that is the
-- next, V(R) (Q.921 clauses 3.5.2.4 to 3.5.2.6, 5.6.2, 5.6.6 and 5.8.5).
abbrev pub brings_next : Observed → Control → Bool
brings_next o (Information ns nr p) = takes_next o ns
brings_next o other = false

abbrev pub is_taken : Config → Observed → Parts → Bool
is_taken c o f = is_up o.state && (not (nat_lt c.n201 (length f.info)) && brings_next o f.control)

-- A UI is for a TEI that is on the line, whatever the state of its link, or, on the user's side, for the group, which is TEI
-- 127 (clauses 3.3.4, 5.2.2 and 5.2.3). It is taken where it has at most N201 octets (clause 5.9.3).
abbrev pub is_unit_taken : Config → ℕ → Managed → Parts → Bool
is_unit_taken c tei w f = (is_ui f.control && (is_on tei w || (not (manages c.side) && tei == 127))) && nat_le (length f.info) c.n201

-- The notes of data and of unit data, of any link.
abbrev pub is_of_contents : Note → Bool
is_of_contents (notes.Data service tei) = true
is_of_contents (notes.Unit service tei) = true
is_of_contents other = false

-- By the frame that came for this link, if one came, exactly what is due is told: data by an I-frame that the link takes, unit
-- data by a UI. What is told are the contents of that frame, and they are told once.
pub record TellsWhatIsDue (c : Config) (service : Service) (tei : ℕ) (was : View) (frame : Option Parts) (a : Answer) : Type 0 where
  pub data_told : list_any (is_data_of service tei) (notes_of a) ≡ option_map_or (is_taken c was.link) frame false
  pub unit_told : list_any (is_unit_of service tei) (notes_of a) ≡ option_map_or (is_unit_taken c tei was.teis) frame false
  pub contents : (list_any (is_data_of service tei) (notes_of a) || list_any (is_unit_of service tei) (notes_of a)) ≡ true → contents_in a ≡ option_map (λ (f : Parts). f.info) frame
  pub once : count_by is_of_contents (notes_of a) ≡ length (option_to_list (contents_in a))

-- At every event of the line, for every link, by what an observer knew before.
abbrev pub WhatIsToldWasHeard : Config → List Event → ℕ → Type 0
WhatIsToldWasHeard c events line =
    (service : Service) (tei : ℕ) (past : List Event) (event : line_event.Event) (later : List Event) →
    events ≡ past ++ at line event ∷ later →
    TellsWhatIsDue c service tei (view_of c service tei line past) (brought c service tei event) (moment_of c past line event).answer
