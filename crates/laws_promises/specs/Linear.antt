-- The frames that go, against the octets of those that came.
use Rattle.std.specs.Prelude.{ℕ, ◌+◌, ◌*◌, ◌≤◌, List, length, sum_by}
use Rattle.model_bits.specs.Stream as stream
use Rattle.model_line.specs.Event as line
use Rattle.model_card.specs.Card.{Card}
use Rattle.model_card.specs.Counts.{may_send, window, sent, accepted, expired}
use Rattle.model_card.specs.Event.{Event}
use Rattle.model_card.specs.Run.{moments, after_all}
use Rattle.model_card.specs.ports.Promises.{worth}

-- What a frame takes of a line at least: its octets, its check and one flag (Q.921 clauses 2.2 and 2.7). One that is overlong has
-- more than N201 and four octets of its own.
abbrev pub octets_taken : ℕ → stream.Event → ℕ
octets_taken n201 (stream.frame octets) = length octets + 3
octets_taken n201 (stream.overlong head) = n201 + 8
octets_taken n201 (stream.dropped cause) = 0

abbrev pub octets_by : ℕ → line.Event → ℕ
octets_by n201 (line.hears e) = octets_taken n201 e
octets_by n201 other = 0

abbrev pub octets_of : ℕ → Event → ℕ
octets_of n201 e = octets_by n201 e.what

abbrev pub octets_heard : ℕ → List Event → ℕ
octets_heard n201 events = sum_by (octets_of n201) events

-- The frames sent, with those that may still be sent, are linear in these octets, in accepted requests and in expiries: in
-- twenty-firsts of a frame, as two are worth six octets, and k more seven. (At a terminal an octet is worth more, as in the
-- law of octets.)
abbrev pub IsLinear : Card → List Event → Type 0
IsLinear m events =
    let ms = moments m events in
    let end = after_all m events in
    let k = window m.config in
    21 * (sent ms + may_send end)
    ≤ 21 * may_send m + (worth m.config + 3 * k) * octets_heard m.config.n201 events + 21 * accepted ms + 21 * (k + 1) * expired ms
