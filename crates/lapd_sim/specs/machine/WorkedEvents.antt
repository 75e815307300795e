-- The events of whole scripts: each computes.
use Rattle.std.specs.Prelude.{◌≡◌, ℕ, List, [], ◌∷◌, ◌++◌, map, replicate, codes, refl}
use Rattle.std.specs.Fmt.{digits}
use Rattle.hex.specs.Hex.{decode_pairs, encode_with}
use Rattle.model_bits.specs.Bits.{low_bits}
use Rattle.lapd_frame.specs.Reading.{reading, header_of, control_of, unnumbered_of}
use Rattle.lapd_frame.specs.Senders.{exchanged, reading as read_by}
use Rattle.lapd_frame.specs.declared.services.Service.TheVariants.{Call, Packet}
use Rattle.lapd_frame.specs.declared.timers.Timer.TheVariants.{T200}
use Rattle.model_teis.specs.network.Events as teis
use Rattle.model_line.specs.Machine as lines
use Rattle.model_card.specs.ports.Card as cards
use Rattle.lapd_sim.specs.machine.Board as boards
use Rattle.model_line.specs.Request.{Assign, Establish, Deactivate, Down}
use Rattle.lapd_sim.specs.machine.Board.{octet, pull, expiry, request, at}
use Rattle.lapd_sim.specs.machine.Steps.{teis_on}
use Rattle.lapd_sim.specs.machine.Events.{script_events}
use Rattle.model_line.specs.Config.{sapi_fault}

abbrev pub a_card : List ℕ
a_card = codes "card 1 8 7 8 4 4 64 260 3\nassign 0 64\n"

-- a request, eight octets from the line, seven pulls; `stored` brings none
established : script_events (a_card ++ codes "rx 0 7E0081EF50B1FDFC\npull 0 7\nstored\n")
    ≡ at 0 (request (Assign 64)) ∷ map (λ value. at 0 (octet value)) (0x7E ∷ 0x00 ∷ 0x81 ∷ 0xEF ∷ 0x50 ∷ 0xB1 ∷ 0xFD ∷ 0xFC ∷ []) ++ replicate 7 (at 0 pull)
unfolding boards.reply cards.after cards.answer cards.meant lines.after lines.answer lines.takes_slot exchanged read_by sapi_fault reading header_of control_of unnumbered_of teis.course teis.refusal low_bits decode_pairs encode_with digits
established = refl

-- a faulty line brings none, and no line after it
faulty : script_events (a_card ++ codes "pull 1 7\npull 0 7\n") ≡ at 0 (request (Assign 64)) ∷ []
unfolding boards.reply cards.after cards.answer cards.meant lines.after lines.answer lines.takes_slot exchanged read_by sapi_fault reading header_of control_of unnumbered_of teis.course teis.refusal low_bits decode_pairs encode_with digits
faulty = refl

-- a wait brings the expiries that fall due: T200, four times a second apart
unanswered : script_events (a_card ++ codes "establish 0 64\nwait 4000\n")
    ≡ at 0 (request (Assign 64)) ∷ at 0 (request (Establish Call 64)) ∷ replicate 4 (at 0 (expiry (T200 Call 64)))
unfolding boards.reply cards.after cards.answer cards.meant lines.after lines.answer lines.takes_slot exchanged read_by sapi_fault reading header_of control_of unnumbered_of teis.course teis.refusal low_bits decode_pairs encode_with digits
unanswered = refl

-- a line that goes down: each link of its TEIs, and then what is of none
line_down : script_events (a_card ++ codes "down 0\n")
    ≡ at 0 (request (Assign 64)) ∷ at 0 (request (Deactivate Call 64)) ∷ at 0 (request (Deactivate Packet 64)) ∷ at 0 (request Down) ∷ []
unfolding boards.reply teis_on cards.after cards.answer cards.meant lines.after lines.answer lines.takes_slot exchanged read_by sapi_fault reading header_of control_of unnumbered_of teis.course teis.refusal low_bits decode_pairs encode_with digits
line_down = refl
