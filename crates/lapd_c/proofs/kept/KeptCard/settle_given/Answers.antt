-- Hand-written answers for `KeptCard::settle_given`.
use Rattle.lapd_c.proofs.Vocabulary.{sym, ap, ◌∙◌}
use Rattle.std.proofs.Common.{true, false}
use Rattle.lapd_frame.specs.ShortLists.{listed}
use Rattle.lapd_c.proofs.Reopening.{given_shown_by}
use Rattle.lapd_c.specs.Reopened.{with_reopened}
use Rattle.lapd_c.proofs.kept.KeptCard.settle_given.Goals.{then-not-is_timed, else-not-is_timed}
use Rattle.lapd_c.proofs.kept.KeptCard.settle_given.Goals as goal

pub returns-clause-shown : goal.returns-clause-shown
returns-clause-shown c = elim c.if-not-is_timed.branch [
  | then-not-is_timed b ↦ given_shown_by c.tell_reopened.new.report b.add_orders.new.self c.args.more _ false (listed c.args.orders.now) (c.tell_reopened.ensures.rest ∙ ap (with_reopened c.tell_reopened.new.report) b.report-is)
      (sym b.if-not-is_timed.true ∙ c.is_timed.ensures) (b.add_orders.ensures true c.args.more c.show_begun.ensures)
  | else-not-is_timed b ↦ given_shown_by c.tell_reopened.new.report c.show_begun.new.self c.args.more _ true (listed c.args.orders.now) (c.tell_reopened.ensures.rest ∙ ap (with_reopened c.tell_reopened.new.report) b.report-is)
      (sym b.if-not-is_timed.false ∙ c.is_timed.ensures) c.show_begun.ensures
]
