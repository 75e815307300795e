-- Worked values: a control frame that waits at a line of octets, and the pulls by which it is heard.
use Rattle.std.specs.Prelude.{◌≡◌, ℕ, ◌+◌, true, List, [], ◌∷◌, replicate, refl}
use Rattle.laws_line.specs.WorkedWords.{Call, command, Sabme, link_at, Assign, Establish, most_frames_before}
use Rattle.lapd_frame.specs.Senders.{exchanged}
use Rattle.model_teis.specs.network.Events as teis
use Rattle.model_bits.specs.Bits.{low_bits}
use Rattle.model_bits.specs.Stream as stream
use Rattle.model_line.specs.Machine as lines
use Rattle.model_card.specs.Card.{line_at}
use Rattle.model_card.specs.ports.Card.{OctetCard, fresh, after, answer, meant, port_at}
use Rattle.model_card.specs.ports.Event.{at}
use Rattle.model_card.specs.ports.Port.{request, pull}
use Rattle.model_card.specs.ports.Pulls.{most_pulls_behind}
use Rattle.model_card.specs.ports.Run.{after_all}
use Rattle.laws_line.specs.WorkedPolled.{small}
use Rattle.laws_line.specs.card.WaitingIsHeard.{AreHeardSince}
use Rattle.laws_line.specs.card.Worked.{usual}

-- At most 23,370 pulls, with 71 frames before the one that waits and one behind it, each of the longest; and on the least card 178.
most_pulls : most_pulls_behind usual.n201 (most_frames_before usual + 1) ≡ 23370
most_pulls = refl

least_pulls : most_pulls_behind small.n201 (most_frames_before small + 1) ≡ 178
least_pulls = refl

-- SABME of the call link of TEI 64 waits.
abbrev waiting : OctetCard
waiting = after (at 0 (request (Establish Call 64))) (after (at 0 (request (Assign 64))) (fresh small))

sabme_waits : (link_at 0 (line_at 0 waiting.card)).waiting ≡ command (Sabme true) ∷ []
unfolding after meant lines.after lines.takes_slot teis.course teis.refusal
sabme_waits = refl

-- Nothing was pulled of the line before. The first pull gives a flag, seven more the 49 bits of the frame and those of the next
-- flag, without which it would be one bit short.
abbrev given_by : ℕ → List ℕ
given_by pulls = (port_at 0 (after_all waiting (replicate pulls (at 0 pull)))).given

it_is_heard : AreHeardSince 8 [] (given_by 8) ((0x02 ∷ 0x81 ∷ 0x7F ∷ []) ∷ [])
unfolding exchanged after_all after answer meant lines.after lines.answer lines.takes_slot teis.course teis.refusal low_bits
it_is_heard = record { since = stream.frame (0x02 ∷ 0x81 ∷ 0x7F ∷ []) ∷ []; goes_on = refl; among = ([], [], refl, tt) }

not_yet : stream.heard_in 8 (given_by 7) ≡ []
unfolding exchanged after_all after answer meant lines.after lines.answer lines.takes_slot teis.course teis.refusal low_bits
not_yet = refl
