-- The invariants of the loops of `Setup::give_up`.
use Rattle.lapd_sim.proofs.Vocabulary.{◌≡◌, Ok, take, flat_map, deactivations, with_events, on, SetupSays, WriteFailed}
use Rattle.lapd_sim.proofs.setup.Setup.give_up.Given as goal

-- the configuration is the same, and the links of the TEIs so far are given up
abbrev pub invariant-loop-tei : goal.invariant-loop-tei
invariant-loop-tei g l =
    (l.self.config ≡ l.fn.self.config)
    × SetupSays {E = WriteFailed} (Ok tt) l.fn.self l.self (on g.T.Target.taken l.fn.page) (on g.T.Target.taken l.page) (with_events (flat_map (deactivations l.line) (take l.tei-index l.teis)))
