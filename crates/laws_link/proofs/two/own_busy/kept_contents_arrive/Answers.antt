-- Hand-written answers for `kept_contents_arrive`.
use Rattle.laws_link.proofs.Vocabulary.{true, false, turned, doing_all, ends-agree}
use Rattle.laws_link.proofs.OfTwo.Reached.{whole-first, cut-off, cut-off-far}
use Rattle.laws_link.proofs.OfTwo.Ended.{told-recovers, untold-recovers, near-arrives, far-arrives}
use Rattle.laws_link.proofs.two.own_busy.kept_contents_arrive.Goals as goal

pub returns-clause-near : goal.returns-clause-near
returns-clause-near c = λ u e hn hm there kept un um. near-arrives u e hn hm there kept un um

pub returns-clause-far : goal.returns-clause-far
returns-clause-far c = λ u e hn hm there kept un um. far-arrives u (turned e) hn hm there kept un um

pub returns-clause-near_told : goal.returns-clause-near_told
returns-clause-near_told c = λ u e hn hm un um. (told-recovers u e hn hm un um).0

pub returns-clause-far_told : goal.returns-clause-far_told
returns-clause-far_told c = λ u e hn hm un um. (told-recovers u (turned e) hn hm un um).1

pub returns-clause-near_untold : goal.returns-clause-near_untold
returns-clause-near_untold c = λ u e hn hm un um. (untold-recovers u e hn hm un um).0

pub returns-clause-far_untold : goal.returns-clause-far_untold
returns-clause-far_untold c = λ u e hn hm un um. (untold-recovers u (turned e) hn hm un um).1

pub returns-clause-reached_near : goal.returns-clause-reached_near
returns-clause-reached_near c = λ ds u e b b' t t' same up s s' un um.
    let h = whole-first ds e b b' t t' same up in
    let agree = ends-agree ds e b b' up in
    (told-recovers u (doing_all ds e) (cut-off true (doing_all ds e) h agree.1 s) (cut-off-far false (doing_all ds e) h agree.0 s') un um).0

pub returns-clause-reached_far : goal.returns-clause-reached_far
returns-clause-reached_far c = λ ds u e b b' t t' same up s s' un um.
    let h = whole-first ds e b b' t t' same up in
    let agree = ends-agree ds e b b' up in
    (told-recovers u (turned (doing_all ds e)) (cut-off-far true (doing_all ds e) h agree.0 s) (cut-off false (doing_all ds e) h agree.1 s') un um).1
