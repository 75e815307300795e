-- Hand-written answers for `Teis::expire`.
use Rattle.lapd_tei.proofs.Vocabulary.{◌≡◌, true, IfSome, Some, Check, First, refl, subst, is_on, Management, AreSoundChecks, IsSoundCheck, management_of}
use Rattle.model_teis.proofs.OfNetwork.Dues.{dues-same}
use Rattle.lapd_tei.proofs.teis.Teis.expire.Goals as goal

pub begin_check-requires-clause-on : goal.begin_check-requires-clause-on
begin_check-requires-clause-on c =
    let m = management_of c.self.inside in
    let own = c.in-Some.own in
    let checked : IsSoundCheck m.reading m.places own = subst (λ check. IfSome check (IsSoundCheck m.reading m.places)) c.in-Some.is c.self.invariant.checked in
    subst (λ (n : Management). is_on own.tei n.places ≡ true) c.self.view_is checked.on_line

pub begin_check-requires-clause-due : goal.begin_check-requires-clause-due
begin_check-requires-clause-due c =
    let m = management_of c.self.inside in
    let own = c.in-Some.own in
    let now : Check = record { tei = own.tei; period = First; first = 0; second = 0 } in
    subst (λ (n : Management). AreSoundChecks n.places (Some now) n.to_check) c.self.view_is
    (dues-same m.places m.check m.to_check own now c.in-Some.is refl c.self.invariant.due)
