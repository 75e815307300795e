-- What is promised of a list of events, from a card on. The laws say of which cards, and of which lists.
use Rattle.std.specs.Prelude.{◌≡◌, ℕ, ◌+◌, ◌*◌, ◌≤◌, ◌<◌, false, List, fold, map, All}
use Rattle.model_line.specs.declared.config.Config.{Config}
use Rattle.model_line.specs.Counts.{brought, is_pool_full}
use Rattle.model_line.specs.Line.{link_count}
use Rattle.model_card.specs.Card.{Card, fresh}
use Rattle.model_card.specs.Counts.{may_send, window, sent, heard, long_heard, accepted, expired, rejected}
use Rattle.model_card.specs.Event.{Event}
use Rattle.model_card.specs.Isolation.{events_at, answers_at, answer_in}
use Rattle.model_card.specs.Numbered.{LinkName, received_by, IsNext, one_more}
use Rattle.model_card.specs.Run.{Moment, moments, after_all}
use Rattle.model_card.specs.Stored.{stored, limit}

-- The octets stored at the end are within the limit.
abbrev pub IsWithinLimit : Card → List Event → Type 0
IsWithinLimit m events = stored (after_all m events) ≤ limit m.config

-- The frames sent, and those that may be sent at the end, are at most those that might be sent at the beginning, two
-- for each frame heard (or so many as a terminal may have TEIs, if these are more), one for each accepted request, k + 1 for each
-- expiry of a running timer, and k for each REJ with a valid N(R). All of them are counted over the same moments.
abbrev pub IsAmortised : Card → List Event → Type 0
IsAmortised m events =
    let ms = moments m events in
    let end = after_all m events in
    let k = window m.config in
    sent ms + may_send end ≤ may_send m + brought m.config * heard ms + accepted ms + (k + 1) * expired ms + k * rejected ms

-- A card as it begins has nothing to send, so there it is the same bound without that.
abbrev pub IsAmortisedFromZero : Config → List Event → Type 0
IsAmortisedFromZero c events =
    let ms = moments (fresh c) events in
    let end = after_all (fresh c) events in
    let k = window c in
    sent ms + may_send end ≤ brought c * heard ms + accepted ms + (k + 1) * expired ms + k * rejected ms

-- Each REJ with a valid N(R) is one of the frames heard that have four octets or more.
abbrev pub AreRejectsLong : Card → List Event → Type 0
AreRejectsLong m events = rejected (moments m events) ≤ long_heard (moments m events)

-- On a card as it begins, what a line answers except for a full pool is what it would answer on a card of its own, to the
-- events at it that did not find the pool full.
abbrev pub IsIsolated : Config → List Event → Type 0
IsIsolated c events =
    (number : ℕ) → number < c.lines →
    let ms = moments (fresh c) events in
    answers_at number ms ≡ map answer_in (moments (fresh c) (events_at number ms))

-- Where there is a slot for each place of each queue, no request is refused because the pool is full.
abbrev pub IsNotRefusedForPool : Moment → Type 0
IsNotRefusedForPool m = is_pool_full m.answer ≡ false

abbrev pub IsNeverFull : Config → List Event → Type 0
IsNeverFull c events = c.lines * (2 * c.terminals * c.queue + c.unit_queue) ≤ c.slots → All IsNotRefusedForPool (moments (fresh c) events)

-- A link of the card.
abbrev pub HasLink : Card → LinkName → Type 0
HasLink card name = (name.line < card.config.lines) × (name.number < link_count card.config)

-- In every moment each link delivers what has the next number, V(R), which counts the deliveries since its latest establishment.
pub record IsNumberedAt (m : Card) (events : List Event) (name : LinkName) : Type 0 where
  pub next : All (IsNext name) (moments m events)
  pub counted : received_by name (after_all m events) ≡ fold (one_more name) (received_by name m) (moments m events)

abbrev pub IsNumbered : Card → List Event → Type 0
IsNumbered m events = (name : LinkName) → HasLink m name → IsNumberedAt m events name

-- From a card as it begins it counts from 0 on.
abbrev pub IsNumberedFromZero : Config → List Event → Type 0
IsNumberedFromZero c events =
    (name : LinkName) → HasLink (fresh c) name → received_by name (after_all (fresh c) events) ≡ fold (one_more name) 0 (moments (fresh c) events)
