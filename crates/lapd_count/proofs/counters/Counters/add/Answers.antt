-- Hand-written answers for `Counters::add`: a sum that passes the greatest number is less than what was added.
use Rattle.lapd_count.proofs.Vocabulary.{◌+◌, ◌≤◌, min, ap, sym, set, get_or, arith, ◌∙◌, most}
use Rattle.std.proofs.Math.Nat.{min-eq_right}
use Rattle.std.proofs.lemmas.List.{set-set}
use Rattle.lapd_count.proofs.counters.Counters.add.Goals as goal

pub returns-then-sum-amount : goal.returns-then-sum-amount
returns-then-sum-amount c =
    let values = c.args.self.now.values in
    let full : most ≤ get_or values c.place-place.result 0 + c.args.amount = omega (arith, c.if-sum-amount.true) in
    ap (λ v. record c.fill.new.self { values = v })
    (c.fill.ensures
    ∙ set-set values c.place-place.result _ most
    ∙ ap (set values c.place-place.result) (sym (min-eq_right full))
    ∙ ap (λ i. set values i (min (get_or values i 0 + c.args.amount) most)) c.place-place.ensures.value)
