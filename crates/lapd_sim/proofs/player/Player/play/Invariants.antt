-- The invariants of the loops of `Player::play`.
use Rattle.lapd_sim.proofs.Vocabulary.{◌≡◌, ◌-◌, ◌^◌, ℕ, List, Option, AreLeft, Has, on, IsPut}
use Rattle.lapd_sim.specs.machine.Setup as machine
use Rattle.lapd_sim.proofs.Playing.{HasPlayed}
use Rattle.lapd_sim.proofs.player.Player.play.Given as goal

-- no read has failed; some text has been put; there is a setup that is stood for; and these lines of the text that was
-- left have been played
abbrev pub invariant-loop-fault : goal.invariant-loop-fault
invariant-loop-fault g l =
    (g.S.Source.failures l.source ≡ g.S.Source.failures l.fn.source)
    × ((text : List ℕ) × IsPut (on g.T.Target.taken l.fn.page) (on g.T.Target.taken l.page) text)
    × ((m : Option machine.Setup) × Has l.self.setup m)
    × ((text : List ℕ) → AreLeft l.fn.lines (g.S.Source.remaining l.fn.source) text
    → HasPlayed l.lines l.self.setup (g.S.Source.remaining l.source) text (on g.T.Target.taken l.fn.page) (on g.T.Target.taken l.page))

-- the octets that a script can still have
abbrev pub decreases-loop-fault : goal.decreases-loop-fault
decreases-loop-fault g l = 2 ^ 63 - l.lines.octets
