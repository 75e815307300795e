-- Worked values: unit data that is granted, pulled and heard, and octets that break the laws.
use Rattle.std.specs.Prelude.{◌≡◌, ℕ, List, [], ◌∷◌, ◌++◌, map, replicate, All, refl}
use Rattle.std.proofs.Common.{◌∙◌, ap, sym}
use Rattle.std.proofs.lemmas.List.Elements.{All-head}
use Rattle.model_bits.specs.Bits.{low_bits}
use Rattle.model_bits.specs.Stream as stream
use Rattle.model_bits.specs.declared.heard.Cause.TheVariants.{Fcs}
use Rattle.lapd_frame.specs.declared.services.Service.TheVariants.{Call}
use Rattle.lapd_frame.specs.Reading.{reading, header_of, control_of, unnumbered_of}
use Rattle.lapd_frame.specs.Senders.{exchanged, reading as read_by}
use Rattle.model_line.specs.Machine as lines
use Rattle.model_teis.specs.network.Events as teis
use Rattle.model_line.specs.Request.{Request, Unit, Down}
use Rattle.laws_line.specs.Drains.{most_frames}
use Rattle.laws_line.specs.card.Worked.{usual}
use Rattle.laws_trace.specs.WorkedUnits.{unit, spelled}
use Rattle.model_card.specs.ports.Card.{after, answer, meant}
use Rattle.model_card.specs.ports.Event.{Event, at}
use Rattle.model_card.specs.ports.GoingOut.{as_octets, octets_given}
use Rattle.model_card.specs.ports.Port.{request, pull}
use Rattle.model_card.specs.ports.Pulls.{most_pulls_behind}
use Rattle.model_card.specs.ports.Run.{moments}
use Rattle.laws_trace.specs.octets.FramesGoOut.{IsReadable}
use Rattle.laws_trace.specs.octets.Granted.{units_to_hear}
use Rattle.laws_trace.specs.octets.UnitsAreHeard.{units_heard, AreHeard, AreAllHeard}

abbrev asks : Request → Event
asks r = at 0 (request r)

abbrev pulls : ℕ → List Event
pulls n = replicate n (at 0 pull)

-- Of two unit data that were granted the first is heard after 9 pulls, and both after 16. One for a TEI that is not on the line
-- is refused, and not to be heard.
abbrev units_and_pulls : ℕ → List Event
units_and_pulls n = asks (unit 1) ∷ asks (unit 2) ∷ asks (Unit Call 64 (3 ∷ [])) ∷ pulls n

two_granted : units_to_hear usual (units_and_pulls 9) 0 ≡ record { earlier = []; since = spelled 1 ∷ spelled 2 ∷ [] }
unfolding exchanged moments after answer meant lines.after lines.answer lines.takes_slot low_bits
two_granted = refl

one_heard : units_heard usual (octets_given usual (units_and_pulls 9) 0) ≡ spelled 1 ∷ []
unfolding moments after answer meant lines.after lines.answer lines.takes_slot low_bits exchanged read_by reading header_of control_of unnumbered_of
one_heard = refl

two_heard : units_heard usual (octets_given usual (units_and_pulls 16) 0) ≡ spelled 1 ∷ spelled 2 ∷ []
unfolding moments after answer meant lines.after lines.answer lines.takes_slot low_bits exchanged read_by reading header_of control_of unnumbered_of
two_heard = refl

-- As often as this the usual configuration has to be pulled, and then all is heard.
usual_pulls : most_pulls_behind usual.n201 (most_frames usual) ≡ 64346
usual_pulls = refl

-- Where the line is down behind two pulls, the first is on its way, and is heard; the second waits, and is given up; and a third,
-- which is granted behind that, is heard.
abbrev down_between : List Event
down_between = asks (unit 1) ∷ asks (unit 2) ∷ pulls 2 ++ asks Down ∷ asks (unit 3) ∷ pulls 16

second_given_up : units_to_hear usual down_between 0 ≡ record { earlier = (spelled 1 ∷ spelled 2 ∷ []) ∷ []; since = spelled 3 ∷ [] }
unfolding exchanged moments after answer meant lines.after lines.answer lines.takes_slot low_bits teis.course teis.refusal
second_given_up = refl

third_heard : units_heard usual (octets_given usual down_between 0) ≡ spelled 1 ∷ spelled 3 ∷ []
unfolding moments after answer meant lines.after lines.answer lines.takes_slot low_bits teis.course teis.refusal exchanged read_by reading header_of control_of unnumbered_of
third_heard = refl

-- Where the second alone is heard, or none though one was granted, the laws of unit data are broken.
not_first : (went rest front left more : List (List ℕ)) → went ≡ spelled 2 ∷ rest → went ≡ front ++ left → left ≡ [] → spelled 1 ∷ spelled 2 ∷ [] ≡ front ++ more → ⊥
not_first went rest [] left more h split none is = let empty : spelled 2 ∷ rest ≡ [] = sym h ∙ split ∙ none in cc empty
not_first went rest (x ∷ front) left more h split none is =
    let second : spelled 2 ∷ rest ≡ x ∷ (front ++ left) = sym h ∙ split in cc (second, is)

second_alone : AreHeard (spelled 2 ∷ []) (record { earlier = []; since = spelled 1 ∷ spelled 2 ∷ [] }) → ⊥
second_alone h =
    let (front, left, split, is, none) = h.fronts in
    not_first h.went h.heard_are.rest front left is.rest h.heard_are.whole_is split none is.whole_is

unheard : AreAllHeard (units_heard usual []) (record { earlier = []; since = spelled 1 ∷ [] }) → ⊥
unheard h = let one : [] ≡ map as_octets (spelled 1 ∷ []) = h.all ∙ ap (λ before. before ++ map as_octets (spelled 1 ∷ [])) h.fronts in cc one

-- Where a receiver hears a frame whose check is bad, what goes out is no frame.
bad_check : All (IsReadable usual) (stream.dropped Fcs ∷ []) → ⊥
bad_check all = All-head (IsReadable usual) (stream.dropped Fcs) [] all
