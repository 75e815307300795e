-- Hand-written answers for `tells_little`.
use Rattle.model_link.proofs.TellRows.{event-tells, cleared-tells, two-orders, one-start, cleared-orders}
use Rattle.model_link.proofs.laws.tells_little.Goals as goal

pub returns-clause-notes : goal.returns-clause-notes
returns-clause-notes c = λ t e l. (event-tells t e l).0

pub returns-clause-data : goal.returns-clause-data
returns-clause-data c = λ t e l. (event-tells t e l).1

pub returns-clause-unit : goal.returns-clause-unit
returns-clause-unit c = λ t e l. (event-tells t e l).2

pub returns-clause-unit_data : goal.returns-clause-unit_data
returns-clause-unit_data c = λ t e l. (event-tells t e l).3

pub returns-clause-orders : goal.returns-clause-orders
returns-clause-orders c = λ t before started after. two-orders t before started after

pub returns-clause-clearing : goal.returns-clause-clearing
returns-clause-clearing c = λ t l. (cleared-tells t l, cleared-orders t l)

pub returns-clause-starts : goal.returns-clause-starts
returns-clause-starts c = λ t before started after. one-start t before started after
