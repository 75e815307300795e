-- The octets stored, and their limit.
use Rattle.model_card.proofs.OfPorts.Vocabulary.{ℕ, ◌+◌, ◌*◌, ◌≤◌, List, [], ◌∷◌, length, nat_lt, subst, arith, ltb-false, All, All-head, All-tail, sum_by, sum_by-cons, Config, kept_count, room_for, item_octets, last_octets, Item, Port, OctetCard, IsSoundOctetCard, IsSoundPort, held_at, held_received, held_sent, limit, limit_of_port, stored, StoredWithinLimit}
use Rattle.model_card.proofs.Stored as cards
use Rattle.model_card.proofs.OfPorts.Sound.{always_sound}
use Rattle.model_card.proofs.OfPorts.Steps.{config_stays}

-- of a frame that is received
kept_few : (n201 n : ℕ) → kept_count (room_for n201) n ≤ n201 + 6
kept_few n201 n = grind (arith, nat_lt, ltb-false)

received_few : (n201 : ℕ) (p : Port) → held_received n201 p ≤ n201 + 6
received_few n201 p = grind (arith, kept_few)

-- of the frame that is sent
last_few : (m : ℕ) (items : List Item) → All (λ item. item_octets item ≤ m) items → last_octets items ≤ m
last_few m [] all = omega arith
last_few m (item ∷ []) all = All-head (λ item. item_octets item ≤ m) item [] all
last_few m (first ∷ item ∷ items) all = last_few m (item ∷ items) (All-tail (λ item. item_octets item ≤ m) first (item ∷ items) all)

sent_few : (n201 : ℕ) (p : Port) → IsSoundPort n201 p → held_sent p ≤ n201 + 4
sent_few n201 p s = grind (arith, last_few)

-- of all ports
held_few : (c : Config) (ports : List Port) → All (IsSoundPort c.n201) ports → sum_by (held_at c.n201) ports ≤ length ports * limit_of_port c
held_few c [] all = omega arith
held_few c (p ∷ ports) all =
    let s = All-head (IsSoundPort c.n201) p ports all in
    let rest = held_few c ports (All-tail (IsSoundPort c.n201) p ports all) in
    rw sum_by-cons (omega (arith, received_few c.n201 p, sent_few c.n201 p s, rest))

stored_now : (m : OctetCard) → IsSoundOctetCard m → stored m ≤ limit m.card.config
stored_now m s =
    let c = m.card.config in
    let ports = subst (λ n. sum_by (held_at c.n201) m.ports ≤ n * limit_of_port c) s.count (held_few c m.ports s.ports) in
    omega (arith, ports, cards.stored_within_limit.now m.card s.card)

pub stored_within_limit : StoredWithinLimit
stored_within_limit m events s within = grind (arith, config_stays, stored_now, always_sound)
