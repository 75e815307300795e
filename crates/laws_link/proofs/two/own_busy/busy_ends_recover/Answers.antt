-- Hand-written answers for `busy_ends_recover`.
use Rattle.laws_link.proofs.Vocabulary.{true, false, doing_all, ends-agree}
use Rattle.laws_link.proofs.OfTwo.Reached.{whole-first, cut-off, cut-off-far}
use Rattle.laws_link.proofs.OfTwo.BusyRecovery.{finished-through, knows-after, near-finished, far-finished}
use Rattle.laws_link.proofs.two.own_busy.busy_ends_recover.Goals as goal

pub returns-clause-near : goal.returns-clause-near
returns-clause-near c = λ u e hn hm un. finished-through e.near e.far _ _ (near-finished u e hn hm un)

pub returns-clause-far : goal.returns-clause-far
returns-clause-far c = λ u e hn hm un. finished-through e.far e.near _ _ (far-finished u e hn hm un)

pub returns-clause-near_known : goal.returns-clause-near_known
returns-clause-near_known c = λ u e hn hm un ran. knows-after e.near e.far _ _ (near-finished u e hn hm un) ran

pub returns-clause-far_known : goal.returns-clause-far_known
returns-clause-far_known c = λ u e hn hm un ran. knows-after e.far e.near _ _ (far-finished u e hn hm un) ran

pub returns-clause-reached_near : goal.returns-clause-reached_near
returns-clause-reached_near c = λ ds u e b b' t t' same up s s' un.
    let h = whole-first ds e b b' t t' same up in
    let agree = ends-agree ds e b b' up in
    finished-through (doing_all ds e).near (doing_all ds e).far _ _
    (near-finished u (doing_all ds e) (cut-off true (doing_all ds e) h agree.1 s) (cut-off-far false (doing_all ds e) h agree.0 s') un)

pub returns-clause-reached_far : goal.returns-clause-reached_far
returns-clause-reached_far c = λ ds u e b b' t t' same up s s' un.
    let h = whole-first ds e b b' t t' same up in
    let agree = ends-agree ds e b b' up in
    finished-through (doing_all ds e).far (doing_all ds e).near _ _
    (far-finished u (doing_all ds e) (cut-off-far true (doing_all ds e) h agree.0 s) (cut-off false (doing_all ds e) h agree.1 s') un)
