-- Hand-written answers for `words_mean_this`.
use Rattle.laws_trace.proofs.WordsMean.{words-mean-this, words-of-octets-mean-this}
use Rattle.laws_trace.proofs.words.words_mean_this.Goals as goal

pub returns-clause-words : goal.returns-clause-words
returns-clause-words c = words-mean-this

pub returns-clause-octets : goal.returns-clause-octets
returns-clause-octets c = words-of-octets-mean-this
