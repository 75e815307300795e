-- Hand-written answers for `one_spelling`.
use Rattle.lapd_frame.proofs.Spelling.{one-spelling, reading-again, reading-found, fault-found, fault-again}
use Rattle.lapd_frame.proofs.laws.one_spelling.Goals as goal

pub returns-clause-one : goal.returns-clause-one
returns-clause-one c = λ side frame other octets s t. one-spelling side frame other octets s t

pub returns-clause-read_again : goal.returns-clause-read_again
returns-clause-read_again c = λ side frame octets s. reading-again side frame octets s

pub returns-clause-spelled : goal.returns-clause-spelled
returns-clause-spelled c = λ side frame octets small e. reading-found side octets frame small e

pub returns-clause-fault : goal.returns-clause-fault
returns-clause-fault c = λ side fault octets small. (λ e. fault-found side octets fault small e, λ h. fault-again side octets fault small h)
