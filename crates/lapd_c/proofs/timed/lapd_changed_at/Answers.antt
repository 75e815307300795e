-- Hand-written answers for `lapd_changed_at`.
use Rattle.lapd_c.proofs.Vocabulary.{card_in}
use Rattle.lapd_c.proofs.Moments.{none-changed, one-changed}
use Rattle.lapd_c.proofs.Served.{marks_there, there}
use Rattle.lapd_c.proofs.timed.lapd_changed_at.Goals as goal

pub returns-in-None-changed_at-clause-told : goal.returns-in-None-changed_at-clause-told
returns-in-None-changed_at-clause-told c = λ m marks s stood within.
    none-changed c.args.line c.args.service c.args.tei _ _ (card_in m) marks _ _ c.link_in.ensures c.in-Ok.is
    (c.changed_at.ensures.changed m marks (there c.in-Some.ensures.card m s) (marks_there c.in-Some.ensures.card (card_in m) marks stood)) c.in-None-changed_at.is

pub returns-clause-told : goal.returns-clause-told
returns-clause-told c = λ m marks s stood within.
    one-changed c.args.line c.args.service c.args.tei _ _ (card_in m) marks _ _ c.link_in.ensures c.in-Ok.is
    (c.changed_at.ensures.changed m marks (there c.in-Some.ensures.card m s) (marks_there c.in-Some.ensures.card (card_in m) marks stood)) c.in-Some-changed_at.is
