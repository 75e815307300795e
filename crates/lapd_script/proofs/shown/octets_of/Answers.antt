-- Hand-written answers for `octets_of`.
use Rattle.lapd_script.proofs.Vocabulary.{sym, ◌∙◌, arith}
use Rattle.lapd_script.proofs.LongDigits.{long_digits, long_odd, long_others}
use Rattle.lapd_script.proofs.shown.octets_of.Goals as goal
use Rattle.lapd_script.proofs.shown.octets_of.Goals.{else-digits-eq0-via-then-digits-eq0+else-are_hex, else-digits-eq0-via-else-digits-eq0}

pub returns-then-are_hex-clause-fault : goal.returns-then-are_hex-clause-fault
returns-then-are_hex-clause-fault c = λ side. long_digits c.args.digits.now (omega arith) c.if-digits-eq0.true (sym c.are_hex.ensures ∙ c.if-are_hex.true)

pub returns-clause-fault : goal.returns-clause-fault
returns-clause-fault c = λ side.
    elim c.else-digits-eq0.branch [
      | else-digits-eq0-via-then-digits-eq0+else-are_hex w ↦ long_others c.args.digits.now (omega arith) (sym w.are_hex.ensures ∙ w.if-are_hex.false)
      | else-digits-eq0-via-else-digits-eq0 w ↦ long_odd c.args.digits.now (omega arith) w.if-digits-eq0.false
    ]
