-- Hand-written answers for `busy_ends_are_heard`.
use Rattle.laws_link.proofs.OfTwo.BusyRounds.{from-near, from-far, paired-first, gets-through}
use Rattle.laws_link.proofs.OfTwo.BusyBegun.{near-through, far-through}
use Rattle.laws_link.proofs.two.own_busy.busy_ends_are_heard.Goals as goal

pub returns-clause-near : goal.returns-clause-near
returns-clause-near c = λ u e hn hm there back un.
    gets-through e.far.link.peer_busy e.near e.far _ _
    (from-near u e.far.link.peer_busy e.near.link.r e.near.delivered e.near.link.contents e.far.link.contents e (paired-first e.near e.far hn hm there back) un)

pub returns-clause-far : goal.returns-clause-far
returns-clause-far c = λ u e hn hm there back un.
    gets-through e.near.link.peer_busy e.far e.near _ _
    (from-far u e.near.link.peer_busy e.far.link.r e.far.delivered e.far.link.contents e.near.link.contents e (paired-first e.far e.near hn hm there back) un)

pub returns-clause-begun_near : goal.returns-clause-begun_near
returns-clause-begun_near c = λ u e hn hf there back un. near-through u e hn hf there back un

pub returns-clause-begun_far : goal.returns-clause-begun_far
returns-clause-begun_far c = λ u e hn hf there back un. far-through u e hf hn back there un
