-- Hand-written answers for `LinkLayer::unit_refusal`.
use Rattle.lapd_line.proofs.Vocabulary.{◌≡◌, false, nat_lt, nat_le, length, cond, Option, Some, None, subst, sym, ◌∙◌, arith, Refusal, QueueFull, PoolFull}
use Rattle.lapd_line.proofs.UnitSteps.{room_is_left}
use Rattle.lapd_line.proofs.link_layer.LinkLayer.unit_refusal.Goals as goal

pub returns-then-len-from : goal.returns-then-len-from
returns-then-len-from c =
    let config = c.args.self.now.config in
    let low : nat_lt c.last_unit_tei.result c.args.tei ≡ false = grind arith in
    let short : nat_lt config.n201 c.args.octets ≡ false = grind arith in
    let room : Some QueueFull ≡ cond (nat_le config.unit_queue (length c.args.self.now.units.waiting)) (Some QueueFull) (cond c.args.pool_is_full (Some PoolFull) None) = grind arith in
    λ store others m service contents st size.
    room_is_left c.args.self.now store others m service c.args.tei c.args.octets contents c.args.pool_is_full _ st size (subst (λ n. nat_lt n c.args.tei ≡ false) c.last_unit_tei.ensures low)
    (sym c.has_receiver.ensures ∙ c.if-not-has_receiver.false) short room

pub returns-then-pool_is_full : goal.returns-then-pool_is_full
returns-then-pool_is_full c =
    let config = c.args.self.now.config in
    let low : nat_lt c.last_unit_tei.result c.args.tei ≡ false = grind arith in
    let short : nat_lt config.n201 c.args.octets ≡ false = grind arith in
    let room : Some PoolFull ≡ cond (nat_le config.unit_queue (length c.args.self.now.units.waiting)) (Some QueueFull) (cond c.args.pool_is_full (Some PoolFull) None) = grind arith in
    λ store others m service contents st size.
    room_is_left c.args.self.now store others m service c.args.tei c.args.octets contents c.args.pool_is_full _ st size (subst (λ n. nat_lt n c.args.tei ≡ false) c.last_unit_tei.ensures low)
    (sym c.has_receiver.ensures ∙ c.if-not-has_receiver.false) short room

pub returns : goal.returns
returns c =
    let config = c.args.self.now.config in
    let low : nat_lt c.last_unit_tei.result c.args.tei ≡ false = grind arith in
    let short : nat_lt config.n201 c.args.octets ≡ false = grind arith in
    let room : ◌≡◌ {A = Option Refusal} None (cond (nat_le config.unit_queue (length c.args.self.now.units.waiting)) (Some QueueFull) (cond c.args.pool_is_full (Some PoolFull) None)) = grind arith in
    λ store others m service contents st size.
    room_is_left c.args.self.now store others m service c.args.tei c.args.octets contents c.args.pool_is_full _ st size (subst (λ n. nat_lt n c.args.tei ≡ false) c.last_unit_tei.ensures low)
    (sym c.has_receiver.ensures ∙ c.if-not-has_receiver.false) short room
