-- Hand-written answers for `ask`.
use Rattle.lapd_script.proofs.Rests.{third_kept}
use Rattle.lapd_script.proofs.read.ask.Goals as goal

pub returns-in_err-octets-clause-rest : goal.returns-in_err-octets-clause-rest
returns-in_err-octets-clause-rest c = λ n all.
    third_kept c.args.words.now c.in_ok-line.line c.in_ok-line.tei c.in_ok-line.digits n c.args.room.now c.octets.new.room c.in_ok-line.ensures.ok all c.octets.ensures.rest

pub returns-then-carries_octets-clause-rest : goal.returns-then-carries_octets-clause-rest
returns-then-carries_octets-clause-rest c = λ n all.
    third_kept c.args.words.now c.in_ok-line.line c.in_ok-line.tei c.in_ok-line.digits n c.args.room.now c.octets.new.room c.in_ok-line.ensures.ok all c.octets.ensures.rest
