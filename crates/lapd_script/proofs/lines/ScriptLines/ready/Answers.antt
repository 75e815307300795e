-- Hand-written answers for `ScriptLines::ready`.
use Rattle.lapd_script.proofs.Vocabulary.{refl, arith, Ok, Err, ◌≡◌, false, IfOk}
use Rattle.lapd_script.proofs.Advancing.{advances_found, ready_of, ready_is}
use Rattle.lapd_script.proofs.lines.ScriptLines.ready.Goals as goal

pub returns-clause-ready : goal.returns-clause-ready
returns-clause-ready c = λ remaining text left.
    ready_of c.take.result c.args.self.now c.take.new.self remaining text
    (advances_found c.args.self.now _ c.take.new.self c.take.result remaining text c.in-Some.end refl refl refl
    c.in-Some.ensures.from c.in-Some.ensures.within (omega (arith, c.in-Some.ensures.within, c.args.self.now.filled_within)) c.in-Some.ensures.first c.in-Some.ensures.found
    (record { rest = left.rest; tells = left.tells; is = left.is; ended = left.ended }) c.take.ensures.taken)

pub returns-clause-stays : goal.returns-clause-stays
returns-clause-stays c =
    elim c.take.result as (λ r. IfOk r (λ more. more ≡ false → ⊥) → IfOk r (λ more. more ≡ false → c.take.new.self ≡ c.args.self.now)) [
      | Ok more ↦ λ h none. absurd (h none)
      | Err fault ↦ λ h. tt
    ] (ready_is _ c.take.new.self c.take.result c.in-Some.end c.in-Some.ensures.from c.take.ensures.taken)
