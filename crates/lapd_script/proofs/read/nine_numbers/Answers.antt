-- Hand-written answers for `nine_numbers`.
use Rattle.lapd_script.proofs.Vocabulary.{arith, refl, ◌∙◌, Ok, Err}
use Rattle.lapd_script.proofs.ReadLemmas.{nine_grouped, err_is}
use Rattle.lapd_script.proofs.read.nine_numbers.Goals as goal

pub returns-in_err-first : goal.returns-in_err-first
returns-in_err-first c = record {
  read = err_is c.from_residual.result c.in_err-first.field-0.0 c.from_residual.ensures
      ∙ nine_grouped c.args.words.now (Err c.in_err-first.field-0.0) _ _ (omega (arith, c.in-len9.len_at_least, c.in-len9.len_below)) c.in_err-first.ensures refl refl;
}

pub returns-in_err-second : goal.returns-in_err-second
returns-in_err-second c = record {
  read = err_is c.from_residual-in_err-second.result c.in_err-second.field-0.0 c.from_residual-in_err-second.ensures
      ∙ nine_grouped c.args.words.now (Ok c.in_ok-first.first) (Err c.in_err-second.field-0.0) _ (omega (arith, c.in-len9.len_at_least, c.in-len9.len_below)) c.in_ok-first.ensures c.in_err-second.ensures refl;
}

pub returns-in_err-third : goal.returns-in_err-third
returns-in_err-third c = record {
  read = err_is c.from_residual-in_err-third.result c.in_err-third.field-0.0 c.from_residual-in_err-third.ensures
      ∙ nine_grouped c.args.words.now (Ok c.in_ok-first.first) (Ok c.in_ok-second.second) (Err c.in_err-third.field-0.0) (omega (arith, c.in-len9.len_at_least, c.in-len9.len_below)) c.in_ok-first.ensures c.in_ok-second.ensures c.in_err-third.ensures;
}

pub returns : goal.returns
returns c = record {
  read = nine_grouped c.args.words.now (Ok c.in_ok-first.first) (Ok c.in_ok-second.second) (Ok c.in_ok-third.third) (omega (arith, c.in-len9.len_at_least, c.in-len9.len_below)) c.in_ok-first.ensures c.in_ok-second.ensures c.in_ok-third.ensures;
}
