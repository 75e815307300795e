-- The invariants of the loops of `Setup::hear`.
use Rattle.lapd_sim.proofs.Vocabulary.{◌≡◌, Ok, take, after_rx, kind_of, on, SetupSays, WriteFailed}
use Rattle.lapd_sim.proofs.setup.Setup.hear.Given as goal

-- configuration and kind are the same, and the octets so far have come
abbrev pub invariant-loop-octet : goal.invariant-loop-octet
invariant-loop-octet g l =
    (l.self.config ≡ l.fn.self.config)
    × (kind_of l.self.timed.card ≡ kind_of l.fn.self.timed.card)
    × SetupSays {E = WriteFailed} (Ok tt) l.fn.self l.self (on g.T.Target.taken l.fn.page) (on g.T.Target.taken l.page) (after_rx l.line (take l.octet-index l.octets))
