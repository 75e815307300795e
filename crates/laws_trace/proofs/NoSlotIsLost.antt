-- A request that finds the pool full finds what takes all slots: the law.
use Rattle.laws_trace.proofs.Vocabulary.{◌≡◌, ℕ, true, sym, ap, ◌∙◌, arith, true≢false, leb-true, and_parts, Card, line_at, is_full, at, by_room, fresh, card_answer as answer, Always, config-stays, always_sound, fresh_is_sound, PoolFull, refused, request, Request, used}
use Rattle.model_line.proofs.NotPool.{line_not_pool}
use Rattle.model_line.specs.Counts.{is_pool_full}
use Rattle.model_line.specs.Machine as lines
use Rattle.laws_trace.specs.NoSlotIsLost.{NoSlotIsLost}
use Rattle.laws_trace.proofs.SlotsTaken.{taken-is}

full-then : (card : Card) (number : ℕ) (r : Request) → answer (at number (request r)) card ≡ refused PoolFull → is_full card ≡ true
full-then card number r =
    by_room (λ ls a. a ≡ refused PoolFull → is_full card ≡ true) (at number (request r)) card (λ full is. (and_parts (lines.takes_slot card.config (request r) (line_at number card)) (is_full card) full).1)
    (λ room is. absurd (true≢false (sym (ap is_pool_full is) ∙ line_not_pool card.config (request r) (line_at number card))))

pub no-slot-is-lost : Always NoSlotIsLost
no-slot-is-lost c events number ranged all within = grind (arith, fresh, always_sound, fresh_is_sound, used, taken-is, config-stays, leb-true, full-then)
