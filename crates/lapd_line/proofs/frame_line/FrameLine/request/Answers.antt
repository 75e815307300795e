-- Hand-written answers for `FrameLine::request`.
use Rattle.lapd_line.proofs.Vocabulary.{nat_le, used_slots, request_of}
use Rattle.lapd_line.proofs.RequestSteps.{requested, request_told}
use Rattle.lapd_line.proofs.frame_line.FrameLine.request.Goals as goal

pub request-requires-clause-stands : goal.request-requires-clause-stands
request-requires-clause-stands g c =
    let (others, m, st) = c.requires.stands in
    (others, m, st.layer)

pub returns-clause-accepted : goal.returns-clause-accepted
returns-clause-accepted g c = λ others m st. c.in_ok-request.ensures.granted others m st.layer

pub returns-clause-told : goal.returns-clause-told
returns-clause-told g c = λ others m st.
    request_told (nat_le c.args.slots (used_slots (g.S.Shelf.store c.args.shelf.now))) (request_of c.args.request) c.in_ok-request.ensures.granted c.in_ok-request.ensures.served others m st.layer

pub returns-clause-after : goal.returns-clause-after
returns-clause-after g c =
    requested (nat_le c.args.slots (used_slots (g.S.Shelf.store c.args.shelf.now))) (request_of c.args.request) c.in_ok-request.ensures.granted c.in_ok-request.ensures.served c.count.ensures.counted
