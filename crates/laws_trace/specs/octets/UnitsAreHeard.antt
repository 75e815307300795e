-- Unit data is heard at the other end.
use Rattle.std.specs.Prelude.{◌≡◌, ℕ, List, [], ◌∷◌, ◌++◌, filter, map, flat_map}
use Rattle.model_bits.specs.Stream as stream
use Rattle.model_line.specs.declared.config.Config.{Config}
use Rattle.model_line.specs.Taken.{own_side}
use Rattle.laws_trace.specs.Trace.{IsFront}
use Rattle.laws_trace.specs.UnitsGoOut.{is_unit}
use Rattle.model_card.specs.ports.Event.{Event}
use Rattle.model_card.specs.ports.GoingOut.{as_octets, octets_given}
use Rattle.laws_trace.specs.octets.Granted.{Asked, units_to_hear}
use Rattle.laws_trace.specs.octets.Pulled.{EndsInPulls}

-- The frames that a receiver hears in octets, and the UI among these, except those of TEI management.
abbrev pub whole_frame : stream.Event → List (List ℕ)
whole_frame (stream.frame octets) = octets ∷ []
whole_frame other = []

abbrev pub whole_frames : ℕ → List ℕ → List (List ℕ)
whole_frames n201 octets = flat_map whole_frame (stream.heard_in n201 octets)

abbrev pub units_heard : Config → List ℕ → List (List ℕ)
units_heard c octets = filter (is_unit (own_side c)) (whole_frames c.n201 octets)

-- Some of the first of each of these lists, one behind the other.
abbrev pub AreFronts : List (List ℕ) → List (List (List ℕ)) → Type 0
AreFronts frames [] = frames ≡ []
AreFronts frames (whole ∷ wholes) =
    (front rest : List (List ℕ)) × (frames ≡ front ++ rest) × IsFront front whole × AreFronts rest wholes

-- Those that a receiver hears in the octets that a line's pulls gave are the first of the unit data that is granted there, and
-- from each time that the line is down on, the first of what is granted behind it: in order, whole, each once, with its service
-- and its TEI, of each number the eight low bits (Q.921 clauses 2.2 to 2.7, 3.6.5 and 5.2.2, and annex B).
pub record AreHeard (heard : List (List ℕ)) (asked : Asked) : Type 0 where
  pub went : List (List ℕ)
  pub heard_are : IsFront heard went
  pub fronts : AreFronts went (map (map as_octets) (asked.earlier ++ asked.since ∷ []))

abbrev pub UnitsAreHeard : Config → List Event → ℕ → Type 0
UnitsAreHeard c events number = AreHeard (units_heard c (octets_given c events number)) (units_to_hear c events number)

-- And they are all that is granted since the line was down last, once the line was only pulled.
pub record AreAllHeard (heard : List (List ℕ)) (asked : Asked) : Type 0 where
  pub before : List (List ℕ)
  pub fronts : AreFronts before (map (map as_octets) asked.earlier)
  pub all : heard ≡ before ++ map as_octets asked.since

abbrev pub AllUnitsAreHeard : Config → List Event → ℕ → Type 0
AllUnitsAreHeard c events number =
    EndsInPulls c events number → AreAllHeard (units_heard c (octets_given c events number)) (units_to_hear c events number)
