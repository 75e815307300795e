-- The frames sent, amortised.
use Rattle.model_card.proofs.Vocabulary.{sum_by-replicate, fresh_may_send, event_rejects, is_long_heard, FramesAmortisedFromZero, RejectsAreLong, ◌+◌, ◌*◌, ◌≤◌, List, [], ◌∷◌, arith, sum_by, All-head, All-tail, event_rises, Event, Card, line_at, may_send, window, is_sent, is_heard, is_accepted, is_running_expiry, is_reject, FramesAmortised, after, answer, IsAmortised, Moment, moments, after_all}
use Rattle.model_card.proofs.Vocabulary.{IsAtLine, AreAtLines}
use Rattle.model_line.specs.Machine as lines
use Rattle.model_line.specs.Counts as line
use Rattle.model_card.proofs.Steps.{HasLines, has_lines, by_room, line_sound, after_lines, fresh_lines, one_line, count_cons}

-- one event
event_within : (card : Card) (e : Event) → HasLines card → IsAtLine card e
    → let k = window card.config in
    line.one (line.is_given (answer e card)) + may_send (after e card)
    ≤ may_send card + line.brought card.config * line.one (line.hears_frame e.what) + line.one (line.is_accepted e.what (answer e card))
    + (k + 1) * line.one (line.is_running_expiry e.what (line_at e.line card))
    + k * line.one (line.rejects card.config e.what (line_at e.line card))
event_within card e h within =
    by_room (λ ls a.
    line.one (line.is_given a) + sum_by (line.may_send card.config) ls
    ≤ may_send card + line.brought card.config * line.one (line.hears_frame e.what) + line.one (line.is_accepted e.what a)
    + (window card.config + 1) * line.one (line.is_running_expiry e.what (line_at e.line card))
    + window card.config * line.one (line.rejects card.config e.what (line_at e.line card))) e card
    (λ full. omega arith)
    (λ served.
    let l = line_at e.line card in
    let x = lines.after card.config e.what l in
    omega (
      arith,
      event_rises card.config h.config l (line_sound card e.line h within) e.what,
      one_line (line.may_send card.config) card e.line x h within,
    ))

-- a run
pub amortised : (card : Card) (events : List Event) → HasLines card → AreAtLines card events → IsAmortised card events
unfolding moments after_all
amortised card [] h within = omega arith
amortised card (e ∷ events) h within =
    let m : Moment = record { card = card; event = e; answer = answer e card } in
    let ms = moments (after e card) events in
    let here = All-head (IsAtLine card) e events within in
    let rest = amortised (after e card) events (after_lines e card h here) (All-tail (IsAtLine card) e events within) in
    rw (count_cons is_sent m ms, count_cons is_heard m ms, count_cons is_accepted m ms, count_cons is_running_expiry m ms, count_cons is_reject m ms)
    (omega (arith, event_within card e h here, rest))

pub frames_amortised : FramesAmortised
frames_amortised card events s within = amortised card events (has_lines card s) within

pub frames_amortised_from_zero : FramesAmortisedFromZero
frames_amortised_from_zero c events ranged within = grind (arith, amortised, fresh_lines, sum_by-replicate, fresh_may_send)

-- REJ frames are among the frames of four octets or more
pub rejects_are_long : RejectsAreLong
unfolding moments
rejects_are_long card [] = omega arith
rejects_are_long card (e ∷ events) =
    let m : Moment = record { card = card; event = e; answer = answer e card } in
    let ms = moments (after e card) events in
    rw (count_cons is_reject m ms, count_cons is_long_heard m ms)
    (omega (arith, event_rejects card.config e.what (line_at e.line card), rejects_are_long (after e card) events))
