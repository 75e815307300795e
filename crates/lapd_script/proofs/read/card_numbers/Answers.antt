-- Hand-written answers for `card_numbers`.
use Rattle.lapd_script.proofs.Vocabulary.{arith, length, refl, ap, sym, ◌∙◌}
use Rattle.lapd_script.specs.Read.{for_annex_b}
use Rattle.lapd_script.proofs.ReadLemmas.{annex_b_read}
use Rattle.lapd_script.proofs.read.card_numbers.Goals as goal

pub returns-then-is_annex_b : goal.returns-then-is_annex_b
returns-then-is_annex_b c = record {
  read = c.for_annex_b.ensures ∙ ap for_annex_b c.sapi_numbers.ensures.read
      ∙ annex_b_read c.args.words.now (length c.args.words.now) refl (omega arith) (sym c.is_annex_b.ensures ∙ c.if-is_annex_b.true);
}
