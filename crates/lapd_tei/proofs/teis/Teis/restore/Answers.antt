-- Hand-written answers for `Teis::restore`.
use Rattle.std.proofs.Common.{refl, subst}
use Rattle.lapd_image.specs.Reads.{HasNone, IsReadAs}
use Rattle.lapd_image.proofs.Reading.{on_err}
use Rattle.model_teis.specs.network.Image.{IsSavedOf, image}
use Rattle.lapd_tei.proofs.Restored.{all-read, pass1, pass2, pass3, pass4, stop1, stop2, stop3, stop4}
use Rattle.lapd_tei.proofs.Vocabulary.{List, Management, management_of, ℕ, ◌≡◌}
use Rattle.lapd_tei.proofs.teis.Teis.restore.Goals as goal

-- of the value that a view shows
seen : (m now : Management) (front : List ℕ) → m ≡ now → HasNone image (IsSavedOf m) front → HasNone image (IsSavedOf now) front
seen m now front is none = subst (λ x. HasNone image (IsSavedOf x) front) is none

pub returns-in_err-table-clause-none : goal.returns-in_err-table-clause-none
returns-in_err-table-clause-none c =
    let like = management_of c.self.inside in
    on_err c.from_residual.result (seen like _ _ c.self.view_is (stop1 like c.in_err-table.ensures.none))

pub returns-in_err-memory-clause-none : goal.returns-in_err-memory-clause-none
returns-in_err-memory-clause-none c =
    let like = management_of c.self.inside in
    on_err c.from_residual-in_err-memory.result
    (seen like _ _ c.self.view_is (pass1 like c.in_ok-table.ensures.read (stop2 like c.in_ok-table.table c.in_err-memory.ensures.none)))

pub returns-in_err-check-clause-none : goal.returns-in_err-check-clause-none
returns-in_err-check-clause-none c =
    let like = management_of c.self.inside in
    let table = c.in_ok-table.table in
    on_err c.from_residual-in_err-check.result
    (seen like _ _ c.self.view_is
    (pass1 like c.in_ok-table.ensures.read (pass2 like table c.in_ok-memory.ensures.read (stop3 like table c.in_ok-memory.memory c.in_err-check.ensures.none))))

pub returns-in_err-due-clause-none : goal.returns-in_err-due-clause-none
returns-in_err-due-clause-none c =
    let like = management_of c.self.inside in
    let table = c.in_ok-table.table in
    let memory = c.in_ok-memory.memory in
    on_err c.from_residual-in_err-due.result
    (seen like _ _ c.self.view_is
    (pass1 like c.in_ok-table.ensures.read
    (pass2 like table c.in_ok-memory.ensures.read (pass3 like table memory c.in_ok-check.ensures.read (stop4 like table memory c.in_ok-check.check c.in_err-due.ensures.none)))))

pub returns-in_err-restore-clause-none : goal.returns-in_err-restore-clause-none
returns-in_err-restore-clause-none c =
    let like = management_of c.self.inside in
    let table = c.in_ok-table.table in
    let memory = c.in_ok-memory.memory in
    on_err c.from_residual-in_err-restore.result
    (seen like _ _ c.self.view_is
    (pass1 like c.in_ok-table.ensures.read
    (pass2 like table c.in_ok-memory.ensures.read
    (pass3 like table memory c.in_ok-check.ensures.read (pass4 like table memory c.in_ok-check.check c.in_ok-due.ensures.read c.in_err-restore.ensures.none)))))

pub returns-clause-read : goal.returns-clause-read
returns-clause-read c =
    let like = management_of c.self.inside in
    let new = record like { places = c.in_ok-table.table; remembered = c.in_ok-memory.memory; check = c.in_ok-check.check; to_check = c.in_ok-due.due; waiting = c.restore.new.self } in
    subst (λ m. IsReadAs image (IsSavedOf m) new c.args.reader.now c.restore.new.reader) c.self.view_is
    (all-read like new refl c.restore.new.reader c.in_ok-table.ensures.read c.in_ok-memory.ensures.read c.in_ok-check.ensures.read
    c.in_ok-due.ensures.read c.in_ok-restore.ensures.read)
