-- Hand-written answers for `split_word`.
use Rattle.lapd_script.proofs.WordLemmas.{words_split, words_unsplit}
use Rattle.lapd_script.proofs.words.split_word.Goals as goal

pub returns-clause-split : goal.returns-clause-split
returns-clause-split c = words_split c.args.rest.now c.in-Some.end c.in-Some.ensures

pub returns-in_default-clause-last : goal.returns-in_default-clause-last
returns-in_default-clause-last c = words_unsplit c.args.rest.now c.in_default.ensures
