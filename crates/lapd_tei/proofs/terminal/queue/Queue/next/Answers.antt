-- Hand-written answers for `Queue::next`.
use Rattle.std.proofs.Common.{◌≡◌, Bool, true, false, not, ◌&&◌, [], ◌∷◌, ◌++◌, refl, sym, subst, ◌∙◌}
use Rattle.lapd_image.proofs.Parts.{none-other}
use Rattle.model_teis.proofs.OfTerminal.Vocabulary.{false≢true}
use Rattle.lapd_tei.specs.terminal.Saved.{MayWait}
use Rattle.lapd_tei.proofs.OfTerminal.Waiting.{last-follows, one-follows, one-read}
use Rattle.lapd_tei.proofs.terminal.queue.Queue.next.Goals as goal

both : (due waits : Bool) → true ≡ (due && not waits) → (due ≡ true) × (waits ≡ false)
both true true e = absurd (false≢true (sym e))
both true false e = (refl, refl)
both false waits e = absurd (false≢true (sym e))

pub returns-then-not-may_precede-clause-none : goal.returns-then-not-may_precede-clause-none
returns-then-not-may_precede-clause-none c =
    let follows = last-follows c.args.table.now c.args.procedure c.args.self.now in
    none-other one-read (λ message may. (follows message may).octets) c.in_ok-message.ensures.read
    (λ message may same.
    let may_follow = follows c.in_ok-message.message (subst (λ one. MayWait c.args.table.now c.args.procedure (c.args.self.now ++ one ∷ [])) same may) in
    false≢true (c.if-not-may_precede.ensures ∙ (λ i. may_follow.due i && not (may_follow.alone i))))

pub returns-clause-read : goal.returns-clause-read
returns-clause-read c =
    let tests = both _ _ c.if-not-may_precede.ensures in
    record {
      saved =
          one-follows c.args.table.now c.args.procedure c.args.self.now c.in_ok-message.message c.requires
          (record { due = tests.0; alone = tests.1; octets = c.in_ok-message.ensures.read.saved });
      octets = c.in_ok-message.ensures.read.octets;
    }
