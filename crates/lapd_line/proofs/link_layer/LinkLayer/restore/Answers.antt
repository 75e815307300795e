-- Hand-written answers for `LinkLayer::restore`.
use Rattle.lapd_line.proofs.Vocabulary.{◌++◌, unit_pairs, on_err_weaker}
use Rattle.lapd_line.proofs.LinkSteps.{on_ok}
use Rattle.lapd_image.proofs.Reading.{on_err}
use Rattle.lapd_line.proofs.RestoredLayer.{no_teis, no_units, no_turn, no_links}
use Rattle.lapd_line.proofs.RestoredWhole.{none_wait, links_begun, restored}
use Rattle.lapd_line.proofs.link_layer.LinkLayer.restore.Goals as goal

pub returns-in_err-restore-clause-none : goal.returns-in_err-restore-clause-none
returns-in_err-restore-clause-none g c =
    let (others, st) = c.requires.fresh in
    on_err c.from_residual.result (no_teis c.args.self.now (g.S.Shelf.store c.args.shelf.now) others st c.in_err-restore.ensures.none)

pub returns-in_err-restore-2-clause-none : goal.returns-in_err-restore-2-clause-none
returns-in_err-restore-2-clause-none g c =
    let (others, st) = c.requires.fresh in
    on_err c.from_residual-in_err-restore-2.result (no_units c.args.self.now (g.S.Shelf.store c.args.shelf.now) others st c.restore.new.self c.in_ok-restore.ensures.read c.in_err-restore-2.ensures.none)

pub returns-in_err-turn-clause-none : goal.returns-in_err-turn-clause-none
returns-in_err-turn-clause-none g c =
    let (others, st) = c.requires.fresh in
    on_err c.from_residual-in_err-turn.result
    (no_turn c.args.self.now (g.S.Shelf.store c.args.shelf.now) others st c.restore.new.self c.in_ok-restore.ensures.read c.in_ok-restore-2.ensures.read c.args.slots c.in_err-turn.ensures.none)

pub returns-clause-none : goal.returns-clause-none
returns-clause-none g c =
    let (others, st) = c.requires.fresh in
    on_err_weaker c.restore_links.result
    (no_links c.args.self.now (g.S.Shelf.store c.args.shelf.now) others st c.restore.new.self c.in_ok-restore.ensures.read c.in_ok-restore-2.ensures.read c.in_ok-turn.ensures.read) c.restore_links.ensures.none

pub restore-requires-2-clause-empty : goal.restore-requires-2-clause-empty
restore-requires-2-clause-empty g c =
    let (others, st) = c.requires.fresh in
    none_wait c.args.self.now (g.S.Shelf.store c.args.shelf.now) others st

pub restore_links-requires-clause-begun : goal.restore_links-requires-clause-begun
restore_links-requires-clause-begun g c =
    let (others, st) = c.requires.fresh in
    let (units, read, stand) = c.in_ok-restore-2.ensures.read in
    (unit_pairs c.restore-2.new.self.waiting units ++ others, links_begun c.args.self.now (g.S.Shelf.store c.args.shelf.now) others st c.restore.new.self c.restore-2.new.self c.in_ok-turn.turn c.restore-2.ensures.limits stand)

pub returns-clause-read : goal.returns-clause-read
returns-clause-read g c =
    let (others, st) = c.requires.fresh in
    on_ok c.restore_links.result
    (restored c.args.self.now (g.S.Shelf.store c.args.shelf.now) others st c.restore.new.self c.restore-2.new.self c.in_ok-turn.turn c.restore_links.new.self c.in_ok-restore.ensures.read c.in_ok-restore-2.ensures.read c.restore-2.ensures.capacity c.restore-2.ensures.limits c.in_ok-turn.ensures.few c.in_ok-turn.ensures.read c.restore_links.ensures.others)
    c.restore_links.ensures.read
