-- Hand-written answers for `numbered`.
use Rattle.model_link.proofs.Vocabulary.{fresh, nothing_yet}
use Rattle.model_link.proofs.Numbering.{numbered-after, numbered-fresh, numbered-all, delivered-at_once}
use Rattle.model_link.proofs.laws.numbered.Goals as goal

pub returns-clause-begins : goal.returns-clause-begins
returns-clause-begins c = numbered-fresh

pub returns-clause-each : goal.returns-clause-each
returns-clause-each c = λ t e l w h. numbered-after t e l w h

pub returns-clause-at_once : goal.returns-clause-at_once
returns-clause-at_once c = λ t e l contents d. delivered-at_once t e l contents d

pub returns-clause-always : goal.returns-clause-always
returns-clause-always c = λ t es. numbered-all t es fresh nothing_yet numbered-fresh
