-- Hand-written answers for `BareReport::unexpected`.
use Rattle.lapd_link_steps.proofs.Vocabulary.{length, arith, lt-ltb, le-ltb, leave_unserved, malformed}
use Rattle.lapd_frame.specs.declared.notes.ErrorCode.TheVariants as code
use Rattle.lapd_link_steps.proofs.Steps.{bit_yes, bit_no}
use Rattle.lapd_link_steps.proofs.report.BareReport.unexpected.Goals as goal

pub returns-then-from-octets-clause-does : goal.returns-then-from-octets-clause-does
returns-then-from-octets-clause-does c = λ info e len.
    bit_yes _ leave_unserved (lt-ltb c.args.terms.now.n201 (length info) (omega (arith, len, c.from.ensures, c.if-from-octets.true))) (c.malformed.ensures.does _ _ _)

pub returns-clause-does : goal.returns-clause-does
returns-clause-does c = λ info e len.
    bit_no _ (malformed c.args.terms.now code.O) (le-ltb c.args.terms.now.n201 (length info) (omega (arith, len, c.from.ensures, c.if-from-octets.false))) (c.leave_unserved.ensures.does _ _ _)
