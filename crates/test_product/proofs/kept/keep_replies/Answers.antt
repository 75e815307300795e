-- Hand-written answers for `keep_replies`.
use Rattle.std.proofs.lemmas.Result.{on_ok_weaker, IfErr-weaker}
use Rattle.test_product.proofs.Keeping.{keeps_moments, keeps_before}
use Rattle.test_product.proofs.kept.keep_replies.Goals as goal

pub returns-clause-all : goal.returns-clause-all
returns-clause-all g c = on_ok_weaker c.drive.result (λ taken m s. keeps_moments c.drive.ensures.laws.moments c.args.sink.now c.drive.new.sink m _ (taken m s)) c.drive.ensures.run.taken

pub returns-clause-before : goal.returns-clause-before
returns-clause-before g c = IfErr-weaker c.drive.result _ _ (λ fault missed m s. keeps_before c.drive.ensures.laws.moments c.args.sink.now c.drive.new.sink m _ _ (missed m s)) c.drive.ensures.run.taken_before
