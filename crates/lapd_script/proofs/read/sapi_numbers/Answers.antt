-- Hand-written answers for `sapi_numbers`.
use Rattle.lapd_script.proofs.Vocabulary.{arith, length, refl, ap, sym, ◌∙◌, ◌-◌}
use Rattle.lapd_script.specs.Read.{for_sapi}
use Rattle.lapd_script.proofs.ReadLemmas.{at, sapi_read}
use Rattle.lapd_script.proofs.read.sapi_numbers.Goals as goal

pub returns-then-is_sapi : goal.returns-then-is_sapi
returns-then-is_sapi c = record {
  read = c.for_sapi.ensures ∙ ap (λ read. for_sapi read (at c.args.words.now (length c.args.words.now - 1))) c.side_numbers.ensures.read
      ∙ sapi_read c.args.words.now (length c.args.words.now) refl (omega arith) (sym c.is_sapi.ensures ∙ c.if-is_sapi.true);
}
