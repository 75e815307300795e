-- Hand-written answers for `takes_come_to_an_end`.
use Rattle.laws_line.proofs.Bounds.{to-go-few}
use Rattle.laws_line.proofs.Draining.{drains, idles, ends}
use Rattle.laws_line.proofs.Exact.{exactly-none}
use Rattle.laws_line.proofs.progress.takes_come_to_an_end.Goals as goal

pub returns-clause-exact : goal.returns-clause-exact
returns-clause-exact c = exactly-none

pub returns-clause-drained : goal.returns-clause-drained
returns-clause-drained c = λ c n l ranged s few. drains c ranged n l s few

pub returns-clause-idle : goal.returns-clause-idle
returns-clause-idle c = λ c n l s h. idles c n l s h

pub returns-clause-few : goal.returns-clause-few
returns-clause-few c = λ c l s. to-go-few c l s

pub returns-clause-ends : goal.returns-clause-ends
returns-clause-ends c = λ c n l ranged s few. ends c ranged n l s few
