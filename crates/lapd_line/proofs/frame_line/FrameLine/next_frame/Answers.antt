-- Hand-written answers for `FrameLine::next_frame`.
use Rattle.lapd_line.proofs.Vocabulary.{◌≡◌, ◌≤◌, length, take, drop, Some, begun_shown, answer_shown, ap, sym, ◌∙◌, orders_taken, gave_in, answer, next, config_of}
use Rattle.lapd_line.specs.Reports.{written}
use Rattle.lapd_line.proofs.NextSteps.{free_of, room_of, none_fits, octets_stay, next_leads, none_leads, gave_none, octets_shown, gave_is, is_written, ended}
use Rattle.lapd_line.proofs.frame_line.FrameLine.next_frame.Goals as goal

pub take-requires-clause-stands : goal.take-requires-clause-stands
take-requires-clause-stands g c = c.requires.stands

pub slice_bounds-given-end : goal.slice_bounds-given-end
slice_bounds-given-end g c =
    ended (λ out. c.take.new.out.length ≤ length out) c.take.new.out.octets.now _
    (is_written c.in_ok-orders.orders c.take.ensures (ap orders_taken c.in_ok-orders.was) c.requires.stands).fits (c.out-2-1.given.1.1 (sym c.take.ensures.reference))

pub returns-in_err-orders-clause-gave : goal.returns-in_err-orders-clause-gave
returns-in_err-orders-clause-gave g c = λ others m st.
    let none = gave_none c.take.ensures (ap orders_taken c.in_err-orders.was) others m st in
    ap (gave_in _) c.from_residual.ensures ∙ sym none.0

pub returns-in_err-orders-clause-after : goal.returns-in_err-orders-clause-after
returns-in_err-orders-clause-after g c = none_leads c.take.ensures (ap orders_taken c.in_err-orders.was)

pub returns-clause-gave : goal.returns-clause-gave
returns-clause-gave g c = λ others m st.
    ended (λ out. gave_in out (Some (record { length = c.take.new.out.length; orders = c.in_ok-orders.orders })) ≡ answer (config_of c.args.self.now) next m)
    c.take.new.out.octets.now _ (gave_is c.in_ok-orders.orders c.take.ensures (ap orders_taken c.in_ok-orders.was) others m st) (c.out-2-1.given.1.1 (sym c.take.ensures.reference))

pub returns-clause-fits : goal.returns-clause-fits
returns-clause-fits g c =
    ended (λ out. c.take.new.out.length ≤ length out) c.take.new.out.octets.now _
    (is_written c.in_ok-orders.orders c.take.ensures (ap orders_taken c.in_ok-orders.was) c.requires.stands).fits (c.out-2-1.given.1.1 (sym c.take.ensures.reference))

pub returns-clause-rest : goal.returns-clause-rest
returns-clause-rest g c =
    ended (λ out. drop c.take.new.out.length out ≡ drop c.take.new.out.length c.args.out.now) c.take.new.out.octets.now _
    (is_written c.in_ok-orders.orders c.take.ensures (ap orders_taken c.in_ok-orders.was) c.requires.stands).rest (c.out-2-1.given.1.1 (sym c.take.ensures.reference))

pub returns-clause-after : goal.returns-clause-after
returns-clause-after g c =
    next_leads c.take.ensures c.given.new.self _ c.given.ensures
    (λ others m st.
    ended (λ out. answer_shown (config_of c.args.self.now).side (answer (config_of c.args.self.now) next m)
    ≡ begun_shown (config_of c.take.new.self).side (take c.take.new.out.length out))
    c.take.new.out.octets.now _
    (octets_shown c.in_ok-orders.orders c.take.ensures (ap orders_taken c.in_ok-orders.was) others m st
    ∙ ap (λ d. begun_shown d.side (take c.take.new.out.length c.take.new.out.octets.now)) (sym c.take.ensures.config))
    (c.out-2-1.given.1.1 (sym c.take.ensures.reference)))

pub take-requires-clause-free : goal.take-requires-clause-free
take-requires-clause-free g c = free_of _ _ c.requires.room

pub take-requires-clause-room : goal.take-requires-clause-room
take-requires-clause-room g c = room_of _ _ c.requires.room

pub returns-in_err-orders-clause-fits : goal.returns-in_err-orders-clause-fits
returns-in_err-orders-clause-fits g c = none_fits _ _ c.from_residual.ensures

pub returns-in_err-orders-clause-rest : goal.returns-in_err-orders-clause-rest
returns-in_err-orders-clause-rest g c =
    ended (λ out. drop (written c.from_residual.result) out ≡ drop (written c.from_residual.result) c.args.out.now) c.take.new.out.octets.now _
    (ap (drop (written c.from_residual.result)) (octets_stay c.take.ensures (ap orders_taken c.in_err-orders.was) c.requires.stands)) (c.in_err-orders.out-1-own.given.1.1 (sym c.take.ensures.reference))

pub returns-in_err-orders-clause-room : goal.returns-in_err-orders-clause-room
returns-in_err-orders-clause-room g c = c.in_err-orders.out-1-own.given.1.0

pub returns-clause-room : goal.returns-clause-room
returns-clause-room g c = c.out-2-1.given.1.0
