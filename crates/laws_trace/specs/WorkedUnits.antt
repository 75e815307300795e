-- Worked values: a trace, unit data that goes out, and a trace that breaks the law.
use Rattle.std.specs.Prelude.{◌≡◌, ℕ, List, [], ◌∷◌, ◌++◌, fold, None, Some, replicate, refl}
use Rattle.model_bits.specs.Stream as stream
use Rattle.lapd_frame.specs.declared.services.Service.TheVariants.{Call}
use Rattle.lapd_frame.specs.Reading.{reading, header_of, control_of, unnumbered_of}
use Rattle.lapd_frame.specs.Senders.{exchanged, reading as read_by}
use Rattle.model_teis.specs.network.Events as teis
use Rattle.model_line.specs.Event as line_event
use Rattle.model_line.specs.Event.{hears, request, next, Answer, told, gave, nothing}
use Rattle.model_line.specs.Machine as lines
use Rattle.model_line.specs.Request.{Request, Assign, Check, Unit, Down}
use Rattle.model_card.specs.Event.{Event, at}
use Rattle.model_card.specs.Run.{moments, after_all}
use Rattle.laws_line.specs.card.Worked.{usual, on_0}
use Rattle.laws_trace.specs.Observer.{moment_of}
use Rattle.laws_trace.specs.Trace.{begun, noted, granted, lost, frame_in, trace_of, IsFront}
use Rattle.laws_trace.specs.UnitsGoOut.{waits, units_of}

-- Unit data for the group: with a call for the next frame its UI frame begins, and with one more call none.
abbrev pub unit : ℕ → Request
unit n = Unit Call 127 (n ∷ [])

abbrev pub calls : ℕ → List Event
calls n = replicate n (at 0 next)

abbrev pub frame_comes : List ℕ → Event
frame_comes octets = at 0 (hears (stream.frame octets))

abbrev pub spelled : ℕ → List ℕ
spelled n = 0x02 ∷ 0xFF ∷ 0x03 ∷ n ∷ []

unit_seen : trace_of usual (on_0 (unit 0xAB) ∷ calls 2) 0
    ≡ granted (unit 0xAB) ∷ noted [] None ∷ lost 0 ∷ begun (spelled 0xAB) ∷ []
unfolding exchanged moments lines.after lines.answer lines.takes_slot
unit_seen = refl

-- Another line shows none of it.
none_elsewhere : trace_of (record usual { lines = 2 }) (on_0 (unit 0xAB) ∷ calls 2) 1 ≡ []
unfolding moments lines.after lines.answer lines.takes_slot
none_elsewhere = refl

-- Two go out behind a message of TEI management, in their order; the third is granted, and waits.
abbrev three_units : List Event
three_units = on_0 (Assign 64) ∷ on_0 (Check 64) ∷ on_0 (unit 1) ∷ on_0 (unit 2) ∷ on_0 (unit 3) ∷ calls 3

second_begins : frame_in (moment_of usual (on_0 (unit 1) ∷ on_0 (unit 2) ∷ calls 1) 0 next).answer ≡ spelled 2 ∷ []
unfolding exchanged after_all lines.after lines.answer lines.takes_slot
second_begins = refl

third_waits : units_of usual three_units 0 ≡ spelled 3 ∷ []
unfolding moments lines.after lines.answer lines.takes_slot teis.course teis.refusal exchanged read_by reading header_of control_of unnumbered_of
third_waits = refl

-- Where the line is down while the second waits, it is given up; the third is granted behind that, and waits alone.
abbrev down_between : List Event
down_between = on_0 (unit 1) ∷ on_0 (unit 2) ∷ calls 1 ++ on_0 Down ∷ on_0 (unit 3) ∷ []

third_alone : units_of usual down_between 0 ≡ spelled 3 ∷ []
unfolding moments lines.after lines.answer lines.takes_slot teis.course teis.refusal exchanged read_by reading header_of control_of unnumbered_of
third_alone = refl

-- What waits once these events are answered so: a request that is granted, and a call that begins a frame.
abbrev waiting : List (line_event.Event × Answer) → List (List ℕ)
waiting es = fold (λ units (x : line_event.Event × Answer). waits usual x.0 x.1 units) [] es

abbrev grants : Request → line_event.Event × Answer
grants r = (request r, told nothing)

abbrev begins : List ℕ → line_event.Event × Answer
begins octets = (next, gave (Some (record { octets = octets; orders = [] })))

-- Where the second is destroyed, and the third begins, the law is broken,
abbrev two_wait : List (List ℕ)
two_wait = waiting (grants (unit 1) ∷ grants (unit 2) ∷ grants (unit 3) ∷ begins (spelled 1) ∷ [])

is_no_front : IsFront (spelled 3 ∷ []) two_wait → ⊥
unfolding exchanged read_by reading header_of control_of unnumbered_of
is_no_front front = cc front.whole_is

-- where one begins for the second time,
once_more : IsFront (spelled 1 ∷ []) two_wait → ⊥
unfolding exchanged read_by reading header_of control_of unnumbered_of
once_more front = cc front.whole_is

-- and where one is kept for when the line is up again.
is_kept : IsFront (spelled 1 ∷ []) (waiting (grants (unit 1) ∷ grants Down ∷ [])) → ⊥
is_kept front = cc front.whole_is

-- Where one is granted, and never begins, that all of it goes out is broken.
never_begun : waiting (grants (unit 1) ∷ []) ≡ [] → ⊥
never_begun all = cc all
