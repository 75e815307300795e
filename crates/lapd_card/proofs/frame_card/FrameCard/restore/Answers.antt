-- Hand-written answers for `FrameCard::restore`.
use Rattle.lapd_card.proofs.Restored.{if_err, no_counters, no_lines, restores}
use Rattle.lapd_card.proofs.frame_card.FrameCard.restore.Goals as goal

pub returns-in_err-restore_lines-clause-none : goal.returns-in_err-restore_lines-clause-none
returns-in_err-restore_lines-clause-none g c = if_err c.from_residual-in_err-restore_lines.result (λ fault is. no_lines c.in_err-restore_lines.ensures.none)

pub returns-in_err-restore_counters-clause-none : goal.returns-in_err-restore_counters-clause-none
returns-in_err-restore_counters-clause-none g c =
    if_err c.from_residual-in_err-restore_counters.result (λ fault is. no_counters c.requires c.in_ok-restore_lines.ensures.read c.in_err-restore_counters.ensures.none)

pub invariant_of-result : goal.invariant_of-result
invariant_of-result g c =
    let (l, read, stands) = restores c.requires g.S.Shelf.store c.restore_lines.new.shelf c.in_ok-restore_lines.ensures.read c.in_ok-restore_counters.ensures.read c.in_ok-restore_counters.ensures.stay c.waiting-waiting.ensures in
    (l.card, stands.stands)

pub returns-clause-read : goal.returns-clause-read
returns-clause-read g c = restores c.requires g.S.Shelf.store c.restore_lines.new.shelf c.in_ok-restore_lines.ensures.read c.in_ok-restore_counters.ensures.read c.in_ok-restore_counters.ensures.stay c.waiting-waiting.ensures
