-- A card is sound as it begins, and each event keeps it so.
use Rattle.model_card.proofs.Vocabulary.{◌≡◌, ◌≤◌, ◌*◌, ◌+◌, ◌&&◌, ℕ, Bool, false, nat_le, line_at, List, [], ◌∷◌, ap, ◌∙◌, arith, leb-false, sum_by, All-head, All-tail, sum_by-replicate, Config, fresh_line, slots_of, slots_grow, fresh_slots, Card, fresh, used, Event, CardsStaySound, after, after_all, IsAtLine, AreAtLines, IsSound}
use Rattle.model_line.specs.Counts.{one}
use Rattle.model_line.specs.Machine as lines
use Rattle.model_line.specs.Sound as line
use Rattle.model_card.proofs.Steps.{has_lines, by_room, line_sound, after_lines, fresh_lines, one_line}

-- Contents take a slot only if one is free.
one_fits : (takes : Bool) (slots used : ℕ) → (takes && nat_le slots used) ≡ false → used ≤ slots → used + one takes ≤ slots
one_fits takes slots used free few = grind (arith, leb-false)

slots_fit : (card : Card) (e : Event) → IsSound card → IsAtLine card e → used (after e card) ≤ card.config.slots
slots_fit card e s within =
    by_room (λ ls a. sum_by (slots_of card.config) ls ≤ card.config.slots) e card (λ full. s.slots)
    (λ served.
    let c = card.config in
    let l = line_at e.line card in
    let h = has_lines card s in
    let sums = one_line (slots_of c) card e.line (lines.after c e.what l) h within in
    let grows = slots_grow c e.what l h.config (line_sound card e.line h within) in
    omega (arith, sums, grows, one_fits (lines.takes_slot c e.what l) c.slots (used card) served s.slots))

pub after_is_sound : (card : Card) (e : Event) → IsSound card → IsAtLine card e → IsSound (after e card)
after_is_sound card e s within =
    let h = after_lines e card (has_lines card s) within in
    record { config = h.config; count = h.count; lines = h.lines; slots = slots_fit card e s within }

pub always_sound : (card : Card) (events : List Event) → IsSound card → AreAtLines card events → IsSound (after_all card events)
unfolding after_all
always_sound card [] s within = s
always_sound card (e ∷ events) s within =
    always_sound (after e card) events (after_is_sound card e s (All-head (IsAtLine card) e events within)) (All-tail (IsAtLine card) e events within)

pub fresh_used : (c : Config) → used (fresh c) ≡ 0
fresh_used c = sum_by-replicate (slots_of c) c.lines (fresh_line c) ∙ omega (arith, ap (λ x. c.lines * x) (fresh_slots c))

pub fresh_is_sound : (c : Config) → line.IsInRange c → IsSound (fresh c)
fresh_is_sound c ranged = grind (arith, fresh_lines, fresh_used)

pub cards_stay_sound : CardsStaySound
cards_stay_sound = record { begins = fresh_is_sound; stays = after_is_sound; always = always_sound }
