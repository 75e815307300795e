-- Hand-written answers for `side_numbers`.
use Rattle.lapd_script.proofs.Vocabulary.{◌∙◌}
use Rattle.lapd_script.proofs.ReadLemmas.{with_tenth, with_eleventh, with_twelfth}
use Rattle.lapd_script.proofs.read.side_numbers.Goals as goal

pub returns-in-10 : goal.returns-in-10
returns-in-10 c = record { read = c.ten_words.ensures ∙ with_tenth c.args.words.now c.in-10.is }

pub returns-in-11 : goal.returns-in-11
returns-in-11 c = record { read = c.eleven_words.ensures ∙ with_eleventh c.args.words.now c.in-11.is }

pub returns-in-12 : goal.returns-in-12
returns-in-12 c = record { read = c.twelve_words.ensures ∙ with_twelfth c.args.words.now c.in-12.is }
