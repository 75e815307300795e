-- Hand-written answers for `senders_agree`.
use Rattle.lapd_frame.proofs.Naming.{one-spelling, reading-again, reading-found, usual-reading}
use Rattle.lapd_frame.proofs.laws.senders_agree.Goals as goal

pub returns-clause-one : goal.returns-clause-one
returns-clause-one c = λ sender frame other octets s t. one-spelling sender frame other octets s t

pub returns-clause-read_again : goal.returns-clause-read_again
returns-clause-read_again c = λ sender frame octets s. reading-again sender frame octets s

pub returns-clause-spelled : goal.returns-clause-spelled
returns-clause-spelled c = λ sender frame octets small e. reading-found sender octets frame small e

pub returns-clause-usual : goal.returns-clause-usual
returns-clause-usual c = λ side octets. usual-reading side octets
