-- Hand-written answers for `no_message_is_lost`.
use Rattle.model_teis.proofs.OfTerminal.Brief.{none_lost}
use Rattle.model_teis.proofs.OfTerminal.LawLemmas.{sound_throughout, room_is_enough}
use Rattle.model_teis.proofs.OfTerminal.Rising.{few_more_wait}
use Rattle.model_teis.proofs.terminal.laws.no_message_is_lost.Goals as goal

pub returns-clause-sound : goal.returns-clause-sound
returns-clause-sound c = sound_throughout

pub returns-clause-room : goal.returns-clause-room
returns-clause-room c = room_is_enough

pub returns-clause-lost : goal.returns-clause-lost
returns-clause-lost c = none_lost

pub returns-clause-more : goal.returns-clause-more
returns-clause-more c = few_more_wait
