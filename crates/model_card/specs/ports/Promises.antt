-- What is promised of a list of events of octets, from a card on. What is promised of frames holds of what they mean
-- (`Codec`); this is what is said of octets.
use Rattle.std.specs.Prelude.{◌≡◌, ℕ, ◌+◌, ◌*◌, ◌≤◌, ◌<◌, List, map, if◌then◌else◌}
use Rattle.model_line.specs.declared.config.Config.{Config}
use Rattle.model_line.specs.Counts.{brought}
use Rattle.model_line.specs.Line.{is_terminal}
use Rattle.model_card.specs.Counts.{window, sent, heard, accepted, expired, rejected}
use Rattle.model_card.specs.Run as runs
use Rattle.model_card.specs.ports.Card.{OctetCard, fresh}
use Rattle.model_card.specs.ports.Counts.{octets_received}
use Rattle.model_card.specs.ports.Event.{Event}
use Rattle.model_card.specs.ports.Isolation.{events_at, answers_at}
use Rattle.model_card.specs.ports.Run.{Moment, moments, after_all, meant_all}
use Rattle.model_card.specs.ports.Stored.{stored, limit}

-- The octets stored at the end are within the limit.
abbrev pub IsWithinLimit : OctetCard → List Event → Type 0
IsWithinLimit m events = stored (after_all m events) ≤ limit m.card.config

-- The moments of the card of frames, from its beginning.
abbrev pub moments_meant : Config → List Event → List runs.Moment
moments_meant c events = runs.moments (fresh c).card (meant_all (fresh c) events)

-- Each frame heard has taken six octets of the octets received: an address of two, a control field of one, a check of
-- two and a flag.
abbrev pub HasSixOctetsAFrame : Config → List Event → Type 0
HasSixOctetsAFrame c events = 6 * heard (moments_meant c events) ≤ octets_received (after_all (fresh c) events)

-- And each REJ with a valid N(R) seven, as its control field has two.
abbrev pub HasSevenOctetsAReject : Config → List Event → Type 0
HasSevenOctetsAReject c events = 7 * rejected (moments_meant c events) ≤ octets_received (after_all (fresh c) events)

-- So the frames sent are linear in the octets received, the accepted requests and the expiries: two frames for six
-- octets, k more for seven. In twenty-firsts of a frame, as 21 is the least multiple of 3 and 7, an octet is worth
-- 21 * 2 / 6 = 7 of the former and 21 * k / 7 = 3 * k of the latter. (At a terminal six octets bring more frames: an octet
-- is worth 4 for each.)
abbrev pub worth : Config → ℕ
worth c = if is_terminal c then 4 * brought c else 7

abbrev pub IsLinear : Config → List Event → Type 0
IsLinear c events =
    let ms = moments_meant c events in
    let octets = octets_received (after_all (fresh c) events) in
    let k = window c in
    21 * sent ms ≤ (worth c + 3 * k) * octets + 21 * accepted ms + 21 * (k + 1) * expired ms

-- On a card as it begins, what a line answers except for a full pool is what it would answer on a card of its own, to the
-- events at it that did not find the pool full.
abbrev pub IsIsolated : Config → List Event → Type 0
IsIsolated c events =
    (number : ℕ) → number < c.lines →
    let ms = moments (fresh c) events in
    answers_at number ms ≡ map (λ (m : Moment). m.answer) (moments (fresh c) (events_at number ms))
