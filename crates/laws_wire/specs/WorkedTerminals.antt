-- Worked values: a terminal asks for a TEI and calls, or is called. Each computes.
use Rattle.std.specs.Prelude.{◌≡◌, false, List, [], ◌∷◌, refl, Some}
use Rattle.lapd_frame.specs.declared.services.Service.TheVariants.{Call}
use Rattle.lapd_frame.specs.Reading.{reading, header_of, control_of, unnumbered_of, supervisory_of}
use Rattle.lapd_frame.specs.Senders.{exchanged, reading as read_by}
use Rattle.lapd_seq.specs.Circle.{distance_of, named}
use Rattle.lapd_seq.specs.Numbers.{seq}
use Rattle.model_teis.specs.network.Events as teis
use Rattle.model_teis.specs.terminal.Events as terminals
use Rattle.model_line.specs.declared.config.Config.{Config}
use Rattle.model_line.specs.Machine as lines
use Rattle.model_line.specs.Request.{Establish, Data}
use Rattle.laws_wire.specs.Wire.{Wire, requests, sends, receives, StepAt, at_near, at_far, acting, turned, doing_all, turns}
use Rattle.laws_wire.specs.Call.{both_call, confirmed, indicated, data_told}
use Rattle.laws_wire.specs.Worked.{network, user}
use Rattle.laws_wire.specs.Terminals.{asking, assigned_told}

abbrev pub terminal : Config
terminal = record user { seed = Some 4660 }

abbrev pub asks : Wire
asks = asking terminal 0 network 0

-- The request goes and is heard, and its answer, too. The network is told first.
abbrev pub gets_tei : List StepAt
gets_tei = at_near sends ∷ at_far sends ∷ at_far receives ∷ at_near receives ∷ at_far sends ∷ at_near receives ∷ []

abbrev pub has_tei : Wire
has_tei = doing_all gets_tei asks

request_goes : (doing_all (at_near sends ∷ []) asks).near.way ≡ (0xFC ∷ 0xFF ∷ 0x03 ∷ 0x0F ∷ 0x12 ∷ 0x34 ∷ 0x01 ∷ 0xFF ∷ []) ∷ []
unfolding lines.after lines.answer lines.takes_slot exchanged read_by reading header_of control_of unnumbered_of supervisory_of teis.course teis.refusal terminals.course doing_all
request_goes = refl

pub near_has : has_tei.near.told ≡ assigned_told ∷ []
unfolding lines.after lines.answer lines.takes_slot exchanged read_by reading header_of control_of unnumbered_of supervisory_of teis.course teis.refusal terminals.course doing_all
near_has = refl

pub far_has : has_tei.far.told ≡ assigned_told ∷ []
unfolding lines.after lines.answer lines.takes_slot exchanged read_by reading header_of control_of unnumbered_of supervisory_of teis.course teis.refusal terminals.course doing_all
far_has = refl

pub turns_of_asking : turns gets_tei asks ≡ 4
unfolding lines.after lines.answer lines.takes_slot exchanged read_by reading header_of control_of unnumbered_of supervisory_of teis.course teis.refusal terminals.course doing_all turns
turns_of_asking = refl

-- Then the network calls, and the terminal sends.
abbrev pub called : Wire
called = acting (requests (Establish Call 64)) (turned has_tei)

abbrev pub talks : List StepAt
talks =
    at_near sends ∷ at_far receives ∷ at_far (requests (Data Call 64 (0xAB ∷ []))) ∷ at_far sends ∷ at_far sends ∷ at_near receives ∷ at_near receives
    ∷ at_near sends ∷ at_far receives ∷ []

told_network : (doing_all talks called).near.told ≡ assigned_told ∷ confirmed Call 64 ∷ data_told Call 64 (0xAB ∷ []) ∷ []
unfolding lines.after lines.answer lines.takes_slot exchanged read_by reading header_of control_of unnumbered_of supervisory_of teis.course teis.refusal terminals.course seq distance_of named doing_all
told_network = refl

told_terminal : (doing_all talks called).far.told ≡ assigned_told ∷ indicated Call 64 ∷ []
unfolding lines.after lines.answer lines.takes_slot exchanged read_by reading header_of control_of unnumbered_of supervisory_of teis.course teis.refusal terminals.course seq distance_of named doing_all
told_terminal = refl

pub one_calls : both_call talks called ≡ false
unfolding lines.after lines.answer lines.takes_slot exchanged read_by reading header_of control_of unnumbered_of supervisory_of teis.course teis.refusal terminals.course seq distance_of named doing_all both_call
one_calls = refl

-- Eight turns, and the four of the asking: as many as the law allows.
turns_of_talk : turns talks called ≡ 8
unfolding lines.after lines.answer lines.takes_slot exchanged read_by reading header_of control_of unnumbered_of supervisory_of teis.course teis.refusal terminals.course seq distance_of named doing_all turns
turns_of_talk = refl
