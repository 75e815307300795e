-- The premises of the law on damaged octets are met by the worked run.
use Rattle.laws_order.proofs.Vocabulary.{arith, ◌≡◌, ℕ, ◌&&◌, ◌==◌, Bool, true, false, List, [], ◌∷◌, ◌++◌, Option, Some, eqb-true, refl, ap, and_parts, Call, Parts, exchanged, reading, side_reading, header_of, control_of, unnumbered_of, supervisory_of, distance_of, named, seq, low_bits, Config, heard_side, IsFront, user, network, Endpoint, of_link_at, data_noted, data_granted, None, port_of}
use Rattle.laws_order.proofs.Vocabulary.{known, kept_by, Circuit}
use Rattle.laws_order.proofs.Vocabulary.{doing_all, Mixed, establishes, stream_frame, StreamEvent, next, gave, port_octet, card_answer, tei_refusal, tei_course, FaceAtRest}
use Rattle.model_line.specs.Machine as lines
use Rattle.model_card.specs.ports.Card as ports
use Rattle.laws_order.specs.AnySteps as order
use Rattle.laws_order.specs.circuit.Damaged.{Endpoint as NoisyEndpoint, Noisy, Step as NoisyStep, happens, completes, elsewhere, loses, stands_with, IsOther, IsFirst, IsPossibleAt, HasReceived, StepAt as NoisyStepAt, at_near, at_far, doing, as_frame_endpoint, as_wire, seen_near, seen_far}
unfoldable use Rattle.laws_order.specs.circuit.Damaged.{ArePossible}
use Rattle.laws_order.specs.circuit.Mixed as mixed
unfoldable use Rattle.laws_order.specs.circuit.Mixed.{ArePossible as mixed_possible}
use Rattle.laws_order.specs.circuit.WorkedMixed as worked
use Rattle.laws_order.specs.circuit.WorkedCall as call
use Rattle.laws_order.specs.circuit.WorkedDamaged.{begins, goes_again, far_stays}
use Rattle.laws_order.proofs.OfCircuit.Damaged.{delivered-though-damaged}
use Rattle.laws_order.proofs.OfCircuit.Mixed.{delivered-between-kinds}
use Rattle.laws_order.proofs.OfCircuit.PremisesMet.{can, by-mutes, is_flag, ends-in-flag}
use Rattle.laws_order.proofs.OfCircuit.Resting.{calls-come-to-rest}
use Rattle.model_card.specs.Event as frames

-- ---- what happens is possible, as is computed

abbrev same_octets : List ℕ → List ℕ → Bool
same_octets [] [] = true
same_octets (x ∷ xs) (y ∷ ys) = (x == y) && same_octets xs ys
same_octets other any = false

same-octets : (xs ys : List ℕ) → same_octets xs ys ≡ true → xs ≡ ys
same-octets [] [] e = refl
same-octets (x ∷ xs) (y ∷ ys) e =
    let both = and_parts (x == y) (same_octets xs ys) e in
    let first : x ≡ y = eqb-true x y both.0 in
    let others : xs ≡ ys = same-octets xs ys both.1 in
    λ i. first i ∷ others i
same-octets other any e = absurd (cc e)

abbrev is_none : List Parts → Bool
is_none [] = true
is_none (f ∷ fs) = false

abbrev is_other : Config → Option StreamEvent → Bool
is_other c (Some (stream_frame octets)) = is_none (of_link_at Call 0 (heard_side c) octets)
is_other c other = true

abbrev is_head : List ℕ → List (List ℕ) → Bool
is_head octets [] = false
is_head octets (f ∷ fs) = same_octets f octets

abbrev is_first : Option StreamEvent → List (List ℕ) → Bool
is_first (Some (stream_frame octets)) way = is_head octets way
is_first other way = false

abbrev pub is_possible_at : NoisyStep → NoisyEndpoint → List (List ℕ) → Bool
is_possible_at (happens what) s way = is_other s.card.card.config (stands_with what s)
is_possible_at (completes value) s way = is_first (stands_with (port_octet value) s) way
is_possible_at (elsewhere e) s way = false
is_possible_at loses s way = true

abbrev is_possible : NoisyStepAt → Noisy → Bool
is_possible (at_near act) w = is_possible_at act w.near w.far.way
is_possible (at_far act) w = is_possible_at act w.far w.near.way

unfoldable are_possible : List NoisyStepAt → Noisy → Bool
are_possible [] w = true
are_possible (h ∷ hs) w = is_possible h w && are_possible hs (doing h w)

none-so : (fs : List Parts) → is_none fs ≡ true → fs ≡ []
none-so fs e = grind arith

other-so : (c : Config) (o : Option StreamEvent) → is_other c o ≡ true → IsOther Call 0 c o
other-so c o e = grind (arith, none-so)

head-so : (octets : List ℕ) (way : List (List ℕ)) → is_head octets way ≡ true → (rest : List (List ℕ)) × (way ≡ octets ∷ rest)
head-so octets [] e = absurd (cc e)
head-so octets (f ∷ fs) e = (fs, ap (λ x. x ∷ fs) (same-octets f octets e))

first-so : (o : Option StreamEvent) (way : List (List ℕ)) → is_first o way ≡ true → IsFirst o way
first-so o way e = grind (arith, head-so)

pub at-so : (act : NoisyStep) (s : NoisyEndpoint) (way : List (List ℕ)) → is_possible_at act s way ≡ true → IsPossibleAt Call 0 act s way
at-so act s way e = grind (arith, other-so, first-so)

all-so : (hs : List NoisyStepAt) (w : Noisy) → are_possible hs w ≡ true → ArePossible Call 0 hs w
unfolding ArePossible are_possible
all-so [] w e = tt
all-so (at_near act ∷ hs) w e =
    let both = and_parts (is_possible_at act w.near w.far.way) (are_possible hs (doing (at_near act) w)) e in (at-so act w.near w.far.way both.0, all-so hs (doing (at_near act) w) both.1)
all-so (at_far act ∷ hs) w e =
    let both = and_parts (is_possible_at act w.far w.near.way) (are_possible hs (doing (at_far act) w)) e in (at-so act w.far w.near.way both.0, all-so hs (doing (at_far act) w) both.1)

computed : are_possible goes_again begins ≡ true
unfolding lines.after lines.answer lines.takes_slot exchanged reading side_reading header_of control_of unnumbered_of supervisory_of tei_course tei_refusal seq distance_of named low_bits ports.after ports.answer ports.meant doing_all are_possible
computed = refl

-- ---- the two ends are at rest

abbrev established : Circuit
established = doing_all establishes call.begins

near-flag : is_flag false (port_of established.near).items ≡ true
unfolding lines.after lines.answer lines.takes_slot exchanged reading side_reading header_of control_of unnumbered_of supervisory_of tei_course tei_refusal seq distance_of named low_bits ports.after ports.answer ports.meant doing_all
near-flag = refl

far-flag : is_flag false (port_of established.far).items ≡ true
unfolding lines.after lines.answer lines.takes_slot exchanged reading side_reading header_of control_of unnumbered_of supervisory_of tei_course tei_refusal seq distance_of named low_bits ports.after ports.answer ports.meant doing_all
far-flag = refl

near-none : card_answer (frames.at established.near.line next) established.near.card.card ≡ gave None
unfolding lines.after lines.answer lines.takes_slot exchanged reading side_reading header_of control_of unnumbered_of supervisory_of tei_course tei_refusal seq distance_of named low_bits ports.after ports.answer ports.meant doing_all
near-none = refl

far-none : card_answer (frames.at established.far.line next) established.far.card.card ≡ gave None
unfolding lines.after lines.answer lines.takes_slot exchanged reading side_reading header_of control_of unnumbered_of supervisory_of tei_course tei_refusal seq distance_of named low_bits ports.after ports.answer ports.meant doing_all
far-none = refl

near-heard : established.near.way ≡ []
unfolding lines.after lines.answer lines.takes_slot exchanged reading side_reading header_of control_of unnumbered_of supervisory_of tei_course tei_refusal seq distance_of named low_bits ports.after ports.answer ports.meant doing_all
near-heard = refl

far-heard : established.far.way ≡ []
unfolding lines.after lines.answer lines.takes_slot exchanged reading side_reading header_of control_of unnumbered_of supervisory_of tei_course tei_refusal seq distance_of named low_bits ports.after ports.answer ports.meant doing_all
far-heard = refl

pub rested : FaceAtRest Call 0 (as_wire begins) × HasReceived begins.near × HasReceived begins.far
rested =
    let near = ends-in-flag (port_of established.near).items near-flag in
    let far = ends-in-flag (port_of established.far).items far-flag in
    calls-come-to-rest Call user network 0 0 0 establishes can (by-mutes establishes refl) (
      record { none = near-none; flag = (near.front, near.flag); heard = near-heard },
      record { none = far-none; flag = (far.front, far.flag); heard = far-heard },
    )

pub rest : FaceAtRest Call 0 (as_wire begins)
rest = rested.0

-- what is kept at the near end, and the far end was not told of
abbrev pub kept : List (List ℕ)
kept = kept_by (known Call 0 (as_frame_endpoint begins.near) rest.0) (known Call 0 (as_frame_endpoint begins.far) rest.1)

-- so the law says what the worked values show
pub in-order : IsFront (data_noted Call 0 (seen_far goes_again begins)) (kept ++ data_granted Call 0 (seen_near goes_again begins))
in-order = (delivered-though-damaged Call 0 begins rest.0 rest.1 goes_again rest.2.0 rested.1 rested.2 (all-so goes_again begins computed)).1 far_stays

-- ---- and so of a card of frames and one of octets

abbrev is_act : order.AnyStep → Bool
is_act (order.step act) = true
is_act other = false

unfoldable are_mixed : List mixed.StepAt → Mixed → Bool
are_mixed [] w = true
are_mixed (mixed.by_frames act ∷ hs) w = is_act act && are_mixed hs (mixed.doing (mixed.by_frames act) w)
are_mixed (mixed.by_octets act ∷ hs) w = is_possible_at act w.far w.near.way && are_mixed hs (mixed.doing (mixed.by_octets act) w)

act-so : (act : order.AnyStep) (s : Endpoint) → is_act act ≡ true → order.IsPossibleAt Call 0 s act
act-so act s e = grind arith

mixed-so : (hs : List mixed.StepAt) (w : Mixed) → are_mixed hs w ≡ true → mixed.ArePossible Call 0 hs w
unfolding mixed_possible are_mixed
mixed-so [] w e = tt
mixed-so (mixed.by_frames act ∷ hs) w e =
    let both = and_parts (is_act act) (are_mixed hs (mixed.doing (mixed.by_frames act) w)) e in (act-so act w.near both.0, mixed-so hs (mixed.doing (mixed.by_frames act) w) both.1)
mixed-so (mixed.by_octets act ∷ hs) w e =
    let both = and_parts (is_possible_at act w.far w.near.way) (are_mixed hs (mixed.doing (mixed.by_octets act) w)) e in
    (at-so act w.far w.near.way both.0, mixed-so hs (mixed.doing (mixed.by_octets act) w) both.1)

mixed-computed : are_mixed worked.goes_again worked.begins ≡ true
unfolding lines.after lines.answer lines.takes_slot exchanged reading side_reading header_of control_of unnumbered_of supervisory_of tei_course tei_refusal seq distance_of named low_bits ports.after ports.answer ports.meant doing_all are_mixed
mixed-computed = refl

pub mixed-in-order : IsFront (data_noted Call 0 (mixed.seen_far worked.goes_again worked.begins)) (kept ++ data_granted Call 0 (mixed.seen_near worked.goes_again worked.begins))
mixed-in-order = (delivered-between-kinds Call 0 worked.begins rest.0 rest.1 worked.goes_again rest.2.0 rested.2 (mixed-so worked.goes_again worked.begins mixed-computed)).1 worked.far_stays
