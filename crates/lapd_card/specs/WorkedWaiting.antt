-- Worked values of which lines have a frame to give.
--
-- Of four lines on which no TEI is, none has. Then unit data to the group waits on lines 1 and 3: the first from 0 or 1 on is
-- line 1, from 2 or 3 on line 3, and from 4 on there is none. Once line 1 has given its frame, the first is line 3.
use Rattle.std.specs.Prelude.{◌≡◌, ℕ, false, true, [], ◌∷◌, Some, None, refl}
use Rattle.lapd_frame.specs.declared.services.Service.TheVariants.{Call}
use Rattle.model_line.specs.declared.config.Config.{Config}
use Rattle.model_line.specs.Event as line
use Rattle.model_line.specs.Machine as lines
use Rattle.model_line.specs.Request.{Unit}
use Rattle.model_line.specs.Usual.{usual}
use Rattle.model_card.specs.Card.{Card, fresh}
use Rattle.model_card.specs.Event.{at}
use Rattle.model_card.specs.Machine.{after}
use Rattle.lapd_card.specs.Waiting.{has_next, next_waiting}

abbrev four_lines : Config
four_lines = record usual { lines = 4; terminals = 2 }

abbrev asked_at : ℕ → Card → Card
asked_at number card = after (at number (line.request (Unit Call 127 (8 ∷ [])))) card

abbrev busy : Card
busy = asked_at 3 (asked_at 1 (fresh four_lines))

none_waits : next_waiting 0 (fresh four_lines) ≡ None
unfolding lines.answer lines.takes_slot
none_waits = refl

from_0 : next_waiting 0 busy ≡ Some 1
unfolding lines.after lines.answer lines.takes_slot
from_0 = refl

from_1 : next_waiting 1 busy ≡ Some 1
unfolding lines.after lines.answer lines.takes_slot
from_1 = refl

from_2 : next_waiting 2 busy ≡ Some 3
unfolding lines.after lines.answer lines.takes_slot
from_2 = refl

from_3 : next_waiting 3 busy ≡ Some 3
unfolding lines.after lines.answer lines.takes_slot
from_3 = refl

from_4 : next_waiting 4 busy ≡ None
unfolding lines.after lines.answer lines.takes_slot
from_4 = refl

one_given : next_waiting 0 (after (at 1 line.next) busy) ≡ Some 3
unfolding lines.after lines.answer lines.takes_slot
one_given = refl

waits_on_3 : has_next 3 busy ≡ true
unfolding lines.after lines.answer lines.takes_slot
waits_on_3 = refl

behind_the_last : has_next 4 busy ≡ false
unfolding lines.after lines.answer lines.takes_slot
behind_the_last = refl
