-- A line that meets what the law of calls among other events asks, and what that gives.
use Rattle.laws_line.proofs.Vocabulary.{[], ◌≡◌, ◌∷◌, Some, refl, Fcs, Call, exchanged, reading, side_reading, header_of, control_of, unnumbered_of, supervisory_of, seq, distance_of, named, hears, request, Line, place_at, tei_at, after_sound, bits_dropped as dropped, after, IsSound, small, asked, course, tei_refusal}
use Rattle.model_line.specs.Request
use Rattle.laws_line.proofs.Premises.{asked-sound, in-range}

abbrev check_in : Line
check_in = after small (hears (dropped Fcs)) asked

abbrev unit_asked : Line
unit_asked = after small (request (Request.Unit Call 127 (0xAB ∷ []))) check_in

check-on_line : tei_at (place_at 0) check_in ≡ Some 64
unfolding after exchanged reading side_reading header_of control_of unnumbered_of supervisory_of course tei_refusal seq distance_of named
check-on_line = refl

unit-on_line : tei_at (place_at 0) unit_asked ≡ Some 64
unfolding after exchanged reading side_reading header_of control_of unnumbered_of supervisory_of course tei_refusal seq distance_of named
unit-on_line = refl

unit-sound : IsSound small unit_asked
unit-sound = after_sound small in-range (request (Request.Unit Call 127 (0xAB ∷ []))) check_in (after_sound small in-range (hears (dropped Fcs)) asked asked-sound)
