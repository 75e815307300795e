-- The open gap is the beginning of a flag, and the octet goes on with it.
use Rattle.lapd_bits.proofs.Vocabulary.{◌≡◌, ◌-◌, get_or, sym, subst, arith, eqb-true, HoldsPast, IDLE}
use Rattle.lapd_bits.proofs.Idle.{StaysIdle, stays_idle}
use Rattle.lapd_bits.proofs.Lent.{takes-idle}
use Rattle.lapd_bits.proofs.deframer.Deframer.is_idle.Goals as goal

pub returns : goal.returns
returns c =
    record {
      stays = λ idle.
          let s = c.args.self.now in
          let gap = c.in-Some.gap in
          let run : s.ones ≡ gap.since - 1 = omega (arith, c.saturating_sub.ensures) in
          takes-idle c.args.octet s
          (λ past h.
          subst (λ g. StaysIdle s.octets.items s.ones g c.args.octet past) (sym c.in-Some.is)
          (stays_idle s.octets.items s.ones c.args.octet gap past (subst (λ g. HoldsPast s.octets.items s.ones g past) c.in-Some.is h) (omega arith) run
          (eqb-true c.args.octet (get_or IDLE gap.since 0) idle)));
    }
