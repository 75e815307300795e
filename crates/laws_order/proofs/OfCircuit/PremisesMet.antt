-- The premises of the laws are met by the worked call: all has gone behind it, so layer 3 of each was told all.
use Rattle.laws_order.proofs.Vocabulary.{◌≡◌, Bool, true, false, List, [], ◌∷◌, ◌++◌, ◌&&◌, ◌<◌, None, refl, ap, arith, All, and_parts, All-append, All-cons, All-nil, Call, exchanged, reading, side_reading, header_of, control_of, unnumbered_of, supervisory_of, distance_of, named, seq, low_bits, Item, idle, AreOctets, next, gave, CanCall, user, network, IsCall, calling, Circuit, OctetStep}
use Rattle.laws_order.proofs.Vocabulary.{octet_requests, OctetStepAt}
use Rattle.laws_order.proofs.Vocabulary.{at_near, at_far, doing_all, port_of, IsTalkOf, IsTalk, both_call, HasAllGone, IsToldAll, begins, establishes, goes_on, sends_octets, at, StepAt, wire_doing_all, card_answer, tei_refusal, tei_course, Data, frame, IsThrough, call_begins, talks, are_talk}
use Rattle.model_line.specs.Machine as lines
use Rattle.model_card.specs.ports.Card as ports
use Rattle.laws_order.specs.circuit.MixedCall as mixed
use Rattle.laws_order.proofs.OfCircuit.MixedCall.{calls-are-of-frames, calls-come-through-between-kinds}
use Rattle.laws_order.proofs.OfCircuit.Through.{calls-come-through-in-octets}
use Rattle.model_line.specs.Config.{sapi_fault}

pub can : CanCall user 0 network 0 0
unfolding sapi_fault
can = record { near = (refl, omega arith); far = (refl, omega arith); opposite = (refl, refl); terminal = omega arith }

abbrev after_it : Circuit
after_it = doing_all sends_octets begins

-- an idle flag is the last item
abbrev pub is_flag : Bool → List Item → Bool
is_flag b [] = b
is_flag b (idle ∷ items) = is_flag true items
is_flag b (frame octets ∷ items) = is_flag false items

pub record EndsInFlag (items : List Item) : Type 0 where
  pub front : List Item
  pub flag : items ≡ front ++ idle ∷ []

behind : (i : Item) (items : List Item) → EndsInFlag items → EndsInFlag (i ∷ items)
behind i items h = record { front = i ∷ h.front; flag = ap (λ l. i ∷ l) h.flag }

pub ends-in-flag : (items : List Item) → is_flag false items ≡ true → EndsInFlag items
ends-in-flag [] e = absurd (cc e)
ends-in-flag (idle ∷ []) e = record { front = []; flag = refl }
ends-in-flag (idle ∷ idle ∷ items) e = behind idle (idle ∷ items) (ends-in-flag (idle ∷ items) e)
ends-in-flag (idle ∷ frame octets ∷ items) e = behind idle (frame octets ∷ items) (ends-in-flag (frame octets ∷ items) e)
ends-in-flag (frame octets ∷ items) e = behind (frame octets) items (ends-in-flag items e)

near-flag : is_flag false (port_of after_it.near).items ≡ true
unfolding lines.after lines.answer lines.takes_slot exchanged reading side_reading header_of control_of unnumbered_of supervisory_of tei_course tei_refusal seq distance_of named low_bits ports.after ports.answer ports.meant doing_all
near-flag = refl

far-flag : is_flag false (port_of after_it.far).items ≡ true
unfolding lines.after lines.answer lines.takes_slot exchanged reading side_reading header_of control_of unnumbered_of supervisory_of tei_course tei_refusal seq distance_of named low_bits ports.after ports.answer ports.meant doing_all
far-flag = refl

near-none : card_answer (at after_it.near.line next) after_it.near.card.card ≡ gave None
unfolding lines.after lines.answer lines.takes_slot exchanged reading side_reading header_of control_of unnumbered_of supervisory_of tei_course tei_refusal seq distance_of named low_bits ports.after ports.answer ports.meant doing_all
near-none = refl

far-none : card_answer (at after_it.far.line next) after_it.far.card.card ≡ gave None
unfolding lines.after lines.answer lines.takes_slot exchanged reading side_reading header_of control_of unnumbered_of supervisory_of tei_course tei_refusal seq distance_of named low_bits ports.after ports.answer ports.meant doing_all
far-none = refl

near-heard : after_it.near.way ≡ []
unfolding lines.after lines.answer lines.takes_slot exchanged reading side_reading header_of control_of unnumbered_of supervisory_of tei_course tei_refusal seq distance_of named low_bits ports.after ports.answer ports.meant doing_all
near-heard = refl

far-heard : after_it.far.way ≡ []
unfolding lines.after lines.answer lines.takes_slot exchanged reading side_reading header_of control_of unnumbered_of supervisory_of tei_course tei_refusal seq distance_of named low_bits ports.after ports.answer ports.meant doing_all
far-heard = refl

pub gone : HasAllGone after_it
gone =
    let near = ends-in-flag (port_of after_it.near).items near-flag in
    let far = ends-in-flag (port_of after_it.far).items far-flag in
    (record { none = near-none; flag = (near.front, near.flag); heard = near-heard }, record { none = far-none; flag = (far.front, far.flag); heard = far-heard })

-- what is done in it
abbrev mute : OctetStep → Bool
mute (octet_requests r) = false
mute other = true

abbrev are_mute : List OctetStepAt → Bool
are_mute [] = true
are_mute (at_near act ∷ ds) = mute act && are_mute ds
are_mute (at_far act ∷ ds) = mute act && are_mute ds

mute-talk : (act : OctetStep) → mute act ≡ true → IsTalkOf Call 0 act
mute-talk act e = grind arith

pub by-mutes : (ds : List OctetStepAt) → are_mute ds ≡ true → All (IsTalk Call 0) ds
by-mutes [] e = All-nil (IsTalk Call 0)
by-mutes (at_near act ∷ ds) e =
    let both = and_parts (mute act) (are_mute ds) e in All-cons (IsTalk Call 0) (at_near act) ds (mute-talk act both.0) (by-mutes ds both.1)
by-mutes (at_far act ∷ ds) e =
    let both = and_parts (mute act) (are_mute ds) e in All-cons (IsTalk Call 0) (at_far act) ds (mute-talk act both.0) (by-mutes ds both.1)

is-octet : AreOctets (0xAB ∷ [])
is-octet = let few : 0xAB < 256 = omega arith in All-cons (λ octet. octet < 256) 0xAB [] few (All-nil (λ octet. octet < 256))

pub talk : All (IsTalk Call 0) sends_octets
talk =
    let asked : IsTalk Call 0 (at_near (octet_requests (Data Call 0 (0xAB ∷ [])))) = (refl, refl, is-octet) in
    All-append (IsTalk Call 0) establishes (at_near (octet_requests (Data Call 0 (0xAB ∷ []))) ∷ goes_on) (by-mutes establishes refl)
    (All-cons (IsTalk Call 0) (at_near (octet_requests (Data Call 0 (0xAB ∷ [])))) goes_on asked (by-mutes goes_on refl))

-- so each was told all
pub told : IsToldAll Call 0 (both_call sends_octets begins) after_it
told = let x = calls-come-through-in-octets Call user network 0 0 0 sends_octets can talk in record { near = x.near.1 gone; far = x.far.1 gone }

-- and so by the call between a card of frames and one of octets
mixed-call : (es : List StepAt) × All (IsCall Call 0) es × (wire_doing_all es (mixed.as_wire call_begins) ≡ mixed.as_wire (mixed.doing_all talks call_begins))
mixed-call = calls-are-of-frames Call 0 call_begins talks are_talk

mixed-through : IsThrough Call 0 (calling Call 0 user 0 network 0) (mixed.as_wire (mixed.doing_all talks call_begins))
mixed-through = (calls-come-through-between-kinds Call user network 0 0 0 talks can).0 are_talk
