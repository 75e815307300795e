-- Hand-written answers for `Setup::show_losses`.
use Rattle.lapd_sim.proofs.Vocabulary.{refl, puts_nothing}
use Rattle.lapd_sim.proofs.setup.Setup.show_losses.Goals as goal

pub returns : goal.returns
returns c = λ before m h. (
  puts_nothing before,
  record { config = h.config; board = h.board; counters = h.counters; timers = h.timers; terminals = h.terminals; listeners = h.listeners; losses = refl },
)
