-- Hand-written answers for `carry_out`.
use Rattle.lapd_c.proofs.Vocabulary.{◌∙◌}
use Rattle.lapd_c.proofs.Ordering.{alone_status}
use Rattle.lapd_c.proofs.clock_reports.carry_out.Goals as goal

pub returns-in-len1-clause-status : goal.returns-in-len1-clause-status
returns-in-len1-clause-status c =
    c.carry_out_one.ensures.status ∙ alone_status c.args.clock.now c.args.line c.args.now _ c.args.orders.now c.in-len1.len_at_least c.in-len1.len_below
