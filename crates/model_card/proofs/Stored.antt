-- The octets stored, and their limit.
use Rattle.model_card.proofs.Vocabulary.{◌+◌, ◌*◌, ◌≤◌, List, [], ◌∷◌, length, subst, arith, sum_by, All, All-head, All-tail, sum_by-cons, mul-le-mul_left, Config, Line, slots_of, stored_in, stored_few, Card, StoredWithinLimit, IsSound, limit_in, stored, limit}
use Rattle.model_line.specs.Sound as line
use Rattle.model_card.proofs.CardSound.{always_sound}
use Rattle.model_card.proofs.Runs.{config_stays}

stored_by_lines : (c : Config) (ls : List Line) → All (line.IsSound c) ls
    → sum_by (stored_in c) ls ≤ length ls * limit_in c + sum_by (slots_of c) ls * c.n201
stored_by_lines c [] all = omega arith
stored_by_lines c (l ∷ ls) all =
    let head = stored_few c l (All-head (line.IsSound c) l ls all) in
    let rest = stored_by_lines c ls (All-tail (line.IsSound c) l ls all) in
    rw (sum_by-cons (stored_in c) l ls, sum_by-cons (slots_of c) l ls) (omega (arith, head, rest))

stored_now : (card : Card) → IsSound card → stored card ≤ limit card.config
stored_now card s =
    let c = card.config in
    let all = subst (λ n. stored card ≤ n * limit_in c + sum_by (slots_of c) card.lines * c.n201) s.count (stored_by_lines c card.lines s.lines) in
    omega (arith, all, mul-le-mul_left c.n201 s.slots)

pub stored_within_limit : StoredWithinLimit
stored_within_limit = grind (arith, stored_now, config_stays, always_sound)
