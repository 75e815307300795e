-- Hand-written answers for `KeptCard::tell_reopened`.
use Rattle.lapd_c.proofs.Vocabulary.{refl, card_in}
use Rattle.lapd_c.proofs.Reopening.{line_told, none_reopened}
use Rattle.lapd_c.proofs.kept.KeptCard.tell_reopened.Goals as goal

pub returns-then-not-any-clause-settles : goal.returns-then-not-any-clause-settles
returns-then-not-any-clause-settles c = record {
  timed = refl;
  expired = c.show_reopened.ensures.expired;
  given_up = c.show_reopened.ensures.given_up;
  tail = c.show_reopened.ensures.tail;
  tells = λ m s w.
      none_reopened c.args.line (card_in m) c.args.self.now.refused c.show_reopened.new.self (c.any.ensures c.if-not-any.true c.args.line) c.show_reopened.ensures.shown
      (line_told c.args.self.now.timed.card m c.args.line c.show_reopened.new.self s w c.show_reopened.ensures.line);
}

pub returns-clause-settles : goal.returns-clause-settles
returns-clause-settles c = record {
  timed = c.take_first-told.ensures.timed;
  expired = c.show_reopened-2.ensures.expired;
  given_up = c.show_reopened-2.ensures.given_up;
  tail = c.show_reopened-2.ensures.tail;
  tells = λ m s w. record {
    told = c.take_first-told.result;
    first = c.take_first-told.ensures.first m s w;
    shown = c.show_reopened-2.ensures.shown;
    waits = c.take_first-told.ensures.marks m s w;
    of_line = line_told c.args.self.now.timed.card m c.args.line c.show_reopened-2.new.self s w c.show_reopened-2.ensures.line;
  };
}
