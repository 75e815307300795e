-- Where there is a slot for each place of each queue, the pool is never full.
use Rattle.model_card.proofs.Vocabulary.{◌≡◌, ℕ, zero, suc, ◌+◌, ◌*◌, ◌≤◌, ◌<◌, false, List, [], ◌∷◌, length, get_or, arith, sum_by, All, and_parts, leb-true, All-nil, All-cons, All-head, All-tail, sum_by-cons, sum_by-le, is_pool_full, line_not_pool, places_of, slots_few, taker_finds, Card, fresh, Event, PoolNeverFull, after, answer, IsNotRefusedForPool, moments, IsAtLine, AreAtLines}
use Rattle.model_card.proofs.Steps.{HasLines, by_room, line_sound, after_lines, fresh_lines}

-- a sum of terms of at most m, by one of them
sum_but_one : {X : Type 0} (f : X → ℕ) (m : ℕ) (xs : List X) (i : ℕ) (d : X) → i < length xs → All (λ x. f x ≤ m) xs
    → sum_by f xs + m ≤ length xs * m + f (get_or xs i d)
sum_but_one f m [] i d few all = absurd (omega (arith, few))
sum_but_one f m (x ∷ xs) zero d few all =
    let rest = sum_by-le f m xs (All-tail (λ x. f x ≤ m) x xs all) in
    omega (arith, rest, sum_by-cons f x xs)
sum_but_one f m (x ∷ xs) (suc i) d few all =
    let head = All-head (λ x. f x ≤ m) x xs all in
    let rest = sum_but_one f m xs i d (omega (arith, few)) (All-tail (λ x. f x ≤ m) x xs all) in
    omega (arith, head, rest, sum_by-cons f x xs)

-- fewer slots than there are, where one line finds a place
below_all : (n most sum own slots count : ℕ) → n ≡ count → sum + most ≤ n * most + own → own + 1 ≤ most → count * most ≤ slots → slots ≤ sum → ⊥
below_all n most sum own slots count e sums less enough full = grind arith

pub event_not_refused : (card : Card) (e : Event) → HasLines card → IsAtLine card e → card.config.lines * places_of card.config ≤ card.config.slots
    → is_pool_full (answer e card) ≡ false
event_not_refused card e h within enough =
    grind (arith, by_room, and_parts, taker_finds, line_sound, sum_but_one, slots_few, below_all, leb-true, line_not_pool)

run_not_refused : (card : Card) (events : List Event) → HasLines card → AreAtLines card events → card.config.lines * places_of card.config ≤ card.config.slots
    → All IsNotRefusedForPool (moments card events)
unfolding moments
run_not_refused card [] h all enough = All-nil IsNotRefusedForPool
run_not_refused card (e ∷ events) h all enough =
    let here = All-head (IsAtLine card) e events all in
    All-cons IsNotRefusedForPool (record { card = card; event = e; answer = answer e card }) (moments (after e card) events)
    (event_not_refused card e h here enough)
    (run_not_refused (after e card) events (after_lines e card h here) (All-tail (IsAtLine card) e events all) enough)

pub pool_never_full : PoolNeverFull
pool_never_full c events ranged all enough = run_not_refused (fresh c) events (fresh_lines c ranged) all enough
