-- Worked values: a line goes down.
use Rattle.std.specs.Prelude.{◌≡◌, [], ◌∷◌, map, refl}
use Rattle.laws_line.specs.WorkedWords.{ap, Call, Packet, Stop, T201, exchanged, read_by, reading, header_of, control_of, unnumbered_of, request, told, nothing, orders_in, Line, fresh_line, after, answer, Assign, Check, Unit, Deactivate, Down, after_events, GivesUp, HasNothing}
use Rattle.model_teis.specs.network.Events as teis
use Rattle.laws_line.specs.Worked.{usual, both_up}
use Rattle.laws_line.specs.WorkedServed.{asked}

-- Both links of TEI 64 are up, it is checked, and the check's message waits, and unit data.
abbrev busy : Line
busy = asked (Unit Call 127 (0xAB ∷ [])) (asked (Check 64) both_up)

-- The line is down: the message, the check and the unit data are given up, T201 stops, and all else stays.
given_up : asked Down busy ≡ both_up
unfolding exchanged read_by reading header_of control_of unnumbered_of teis.course teis.refusal
given_up = refl

t201_stopped : orders_in (answer usual (request Down) busy) ≡ Stop T201 ∷ []
unfolding answer exchanged read_by reading header_of control_of unnumbered_of teis.course teis.refusal
t201_stopped = refl

none_to_stop : answer usual (request Down) both_up ≡ told nothing
unfolding answer exchanged read_by reading header_of control_of unnumbered_of teis.course teis.refusal
none_to_stop = refl

-- Each link is deactivated besides: the line is as it was when the TEI was assigned.
all_given_up : after_events usual (map request (Deactivate Packet 64 ∷ Down ∷ Deactivate Call 64 ∷ [])) busy ≡ asked (Assign 64) (fresh_line usual)
unfolding after_events after exchanged read_by reading header_of control_of unnumbered_of teis.course teis.refusal
all_given_up = refl

-- Where the message waits still, the line is not down.
waits_still : HasNothing usual busy → ⊥
unfolding exchanged read_by reading header_of control_of unnumbered_of teis.course teis.refusal
waits_still h = cc h.messages.management

kept_for_later : GivesUp busy busy (told nothing) → ⊥
unfolding exchanged read_by reading header_of control_of unnumbered_of teis.course teis.refusal
kept_for_later g = let orders : [] ≡ Stop T201 ∷ [] = ap orders_in g.answer_is in cc orders
