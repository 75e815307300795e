-- Whole scripts of establishment and supervision, and their transcripts: each computes.
use Rattle.std.specs.Prelude.{◌≡◌, ◌++◌, codes, Some, refl}
use Rattle.std.specs.Fmt.{digits}
use Rattle.hex.specs.Hex.{decode_pairs, encode_with}
use Rattle.model_bits.specs.Bits.{low_bits}
use Rattle.lapd_frame.specs.Reading.{reading, header_of, control_of, unnumbered_of}
use Rattle.lapd_frame.specs.Senders.{exchanged, reading as read_by}
use Rattle.model_teis.specs.network.Events as teis
use Rattle.model_teis.specs.terminal.Events as terminals
use Rattle.model_line.specs.Machine as lines
use Rattle.model_card.specs.ports.Card as cards
use Rattle.lapd_sim.specs.machine.Board as boards
use Rattle.lapd_script.specs.declared.kind.FaultKind.TheVariants.{UnknownWord}
use Rattle.lapd_sim.specs.machine.Steps.{teis_on}
use Rattle.lapd_sim.specs.machine.Script.{transcript, first_fault}
use Rattle.lapd_sim.specs.machine.WorkedEvents.{a_card}
use Rattle.model_line.specs.Config.{sapi_fault}

-- the terminal establishes the link; seven pulls give the flag, UA with its check, and a flag
established : transcript (a_card ++ codes "rx 0 7E0081EF50B1FDFC\npull 0 7\nstored\n") ≡ codes "0 establish-indication 64\n0 tx 7E008173C4127E\n0 frame 008173\nstored 0 limit 17470\n"
unfolding boards.reply cards.after cards.answer cards.meant lines.after lines.answer lines.takes_slot exchanged read_by sapi_fault reading header_of control_of unnumbered_of teis.course teis.refusal low_bits decode_pairs encode_with digits
established = refl

-- layer 3 asks for the link, and the terminal does not answer: four SABME wait
unanswered : transcript (a_card ++ codes "establish 0 64\nwait 4000\npull 0 8\n") ≡ codes "0 error 64 G\n0 release-indication 64\n0 tx 7E0281EF20DAFC04\n0 frame 02817F\n"
unfolding boards.reply cards.after cards.answer cards.meant lines.after lines.answer lines.takes_slot exchanged read_by sapi_fault reading header_of control_of unnumbered_of teis.course teis.refusal low_bits decode_pairs encode_with digits
unanswered = refl

-- T203 falls due, then T200 four times; four enquiries fill the control ring, and SABME is lost
supervised : transcript (a_card ++ codes "rx 0 7E0081EF50B1FDFC\npull 0 7\nwait 14000\n") ≡ codes "0 establish-indication 64\n0 tx 7E008173C4127E\n0 frame 008173\n0 error 64 I\n0 lost 1\n"
unfolding boards.reply cards.after cards.answer cards.meant lines.after lines.answer lines.takes_slot exchanged read_by sapi_fault reading header_of control_of unnumbered_of teis.course teis.refusal low_bits decode_pairs encode_with digits
supervised = refl

-- a frame from the terminal
sent : transcript (a_card ++ codes "in 0 00817F\n") ≡ codes "0 establish-indication 64\n"
unfolding boards.reply cards.after cards.answer cards.meant lines.after lines.answer lines.takes_slot exchanged read_by sapi_fault reading header_of control_of unnumbered_of teis.course teis.refusal low_bits decode_pairs encode_with digits
sent = refl

-- the line goes down: the link tells its release, and neither its UA nor unit data goes
line_down : transcript (a_card ++ codes "in 0 00817F\nunit 0 127 41\ndown 0\npull 0 4\n") ≡ codes "0 establish-indication 64\n0 release-indication 64\n0 tx 7E7E7E7E\n"
unfolding boards.reply teis_on cards.after cards.answer cards.meant lines.after lines.answer lines.takes_slot exchanged read_by sapi_fault reading header_of control_of unnumbered_of teis.course teis.refusal low_bits decode_pairs encode_with digits
line_down = refl

-- a line with an unknown word, after an empty one
unknown : first_fault (codes "card 1 8 7 8 4 4 64 260 3\n\nestablish 0 64\nfoo") ≡ Some (record { line = 4; kind = UnknownWord })
unfolding boards.reply cards.after cards.answer cards.meant lines.after lines.answer lines.takes_slot exchanged read_by sapi_fault reading header_of control_of unnumbered_of teis.course teis.refusal low_bits decode_pairs encode_with digits
unknown = refl

before_unknown : transcript (codes "card 1 8 7 8 4 4 64 260 3\n\nestablish 0 64\nfoo") ≡ codes "0 refused no-link\n"
unfolding boards.reply cards.after cards.answer cards.meant lines.after lines.answer lines.takes_slot exchanged read_by sapi_fault reading header_of control_of unnumbered_of teis.course teis.refusal low_bits decode_pairs encode_with digits
before_unknown = refl

-- a card of frames: its terminal establishes the link, the next frame is UA, and then none waits; a fault; and a frame
-- that is too short
in_frames : transcript (codes "frames 1 8 7 8 4 4 64 260 3\nassign 0 64\nin 0 00817F\nnext 0\nnext 0\nfailed 0 fcs\nin 0 00\n")
    ≡ codes "0 establish-indication 64\n0 frame 008173\n0 nothing\n0 dropped fcs\n0 dropped short\n"
unfolding boards.reply cards.after cards.answer cards.meant lines.after lines.answer lines.takes_slot exchanged read_by sapi_fault reading header_of control_of unnumbered_of teis.course teis.refusal low_bits decode_pairs encode_with digits
in_frames = refl

-- from the line `losses` on it is told that DISC gives up a content that waits
given_up : transcript (codes "frames 1 8 7 8 4 4 64 260 3\nassign 0 64\nin 0 00817F\ndata 0 64 41\nlosses\nin 0 008153\n") ≡ codes "0 establish-indication 64\n0 release-indication 64\n0 given-up 64 1\n"
unfolding boards.reply cards.after cards.answer cards.meant lines.after lines.answer lines.takes_slot exchanged read_by sapi_fault reading header_of control_of unnumbered_of teis.course teis.refusal low_bits decode_pairs encode_with digits
given_up = refl

-- a terminal: it asks for a TEI and establishes its link, answers a check, and its TEI is removed
terminal_called : transcript (codes "frames 1 8 7 8 4 4 64 260 3 user 4660\nask 0\nnext 0\nin 0 FEFF030F12340281\nestablish 0 64\nnext 0\nin 0 FEFF030F00000481\nnext 0\nin 0 FEFF030F00000681\n")
    ≡ codes "0 frame FCFF030F123401FF\n0 assigned 64\n0 frame 00817F\n0 frame FCFF030F295D0581\n0 removed 64\n0 release-indication 64\n"
unfolding boards.reply cards.after cards.answer cards.meant lines.after lines.answer lines.takes_slot exchanged read_by sapi_fault reading header_of control_of unnumbered_of terminals.course teis.refusal low_bits decode_pairs encode_with digits
terminal_called = refl

-- nobody answers: three requests, of which the newest takes the place of one that waits
terminal_unassigned : transcript (codes "frames 1 8 7 8 4 4 64 260 3 user 4660\nask 0\nwait 2000\nnext 0\nwait 4000\nnext 0\n") ≡ codes "0 frame FCFF030F295D01FF\n0 unassigned 127\n0 nothing\n"
unfolding boards.reply cards.after cards.answer cards.meant lines.after lines.answer lines.takes_slot exchanged read_by sapi_fault reading header_of control_of unnumbered_of terminals.course teis.refusal low_bits decode_pairs encode_with digits
terminal_unassigned = refl
