-- Hand-written answers for `two_terminals_differ`.
use Rattle.laws_order.proofs.OfTeis.Law.{two-terminals-differ}
use Rattle.laws_order.proofs.teis.two_terminals_differ.Goals as goal

pub returns : goal.returns
returns c = λ b other its steps theirs can can_too there there_too same one two is is_too same_tei. two-terminals-differ b other its steps theirs can can_too there there_too same one two is is_too same_tei
