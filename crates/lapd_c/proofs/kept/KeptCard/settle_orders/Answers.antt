-- Hand-written answers for `KeptCard::settle_orders`.
use Rattle.lapd_c.proofs.Vocabulary.{sym, ap, ◌∙◌}
use Rattle.std.proofs.Common.{true, false}
use Rattle.lapd_frame.specs.ShortLists.{listed}
use Rattle.lapd_c.proofs.Reopening.{orders_shown}
use Rattle.lapd_c.specs.Reopened.{with_reopened}
use Rattle.lapd_c.proofs.kept.KeptCard.settle_orders.Goals.{then-is_timed, else-is_timed}
use Rattle.lapd_c.proofs.kept.KeptCard.settle_orders.Goals as goal

pub returns-clause-shown : goal.returns-clause-shown
returns-clause-shown c = elim c.if-is_timed.branch [
  | then-is_timed b ↦ orders_shown c.tell_reopened.new.report b.show_nothing.new.self _ true (listed c.args.orders.now) (c.tell_reopened.ensures.rest ∙ ap (with_reopened c.tell_reopened.new.report) b.report-is)
      (sym b.if-is_timed.true ∙ c.is_timed.ensures) b.show_nothing.ensures.told
  | else-is_timed b ↦ orders_shown c.tell_reopened.new.report b.show_orders.new.self _ false (listed c.args.orders.now) (c.tell_reopened.ensures.rest ∙ ap (with_reopened c.tell_reopened.new.report) b.report-is)
      (sym b.if-is_timed.false ∙ c.is_timed.ensures) b.show_orders.ensures.told
]
