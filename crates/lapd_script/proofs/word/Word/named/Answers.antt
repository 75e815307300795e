-- Hand-written answers for `Word::named`.
use Rattle.lapd_script.proofs.Vocabulary.{ap, ◌∙◌}
use Rattle.lapd_script.specs.Word.{named_in}
use Rattle.lapd_script.proofs.word.Word.named.Goals as goal

pub returns : goal.returns
returns c = c.named_in.ensures ∙ ap (named_in c.args.name.now) c.rows.ensures
