-- Hand-written answers for `first_open`.
use Rattle.lapd_c.proofs.Vocabulary.{sym, ◌∙◌}
use Rattle.lapd_c.proofs.Reopening.{shut_up_to, shut_behind}
use Rattle.lapd_c.proofs.kept.first_open.Goals as goal

pub returns-then-has_room : goal.returns-then-has_room
returns-then-has_room c = λ m s. record {
  within = c.in-Some.ensures.marked.1;
  marked = c.in-Some.ensures.marked.2;
  opened = sym (c.has_room.ensures m s) ∙ c.if-has_room.true;
  below = shut_up_to c.args.line c.loop-place.from c.in-Some.place m c.args.links.now (c.loop-place.invariant m s) c.in-Some.ensures.others;
}

pub loop-place-preserved : goal.loop-place-preserved
loop-place-preserved c = λ m s.
    shut_behind c.args.line c.in-Some.place m c.args.links.now
    (shut_up_to c.args.line c.loop-place.from c.in-Some.place m c.args.links.now (c.loop-place.invariant m s) c.in-Some.ensures.others)
    (sym (c.has_room.ensures m s) ∙ c.if-has_room.false)
