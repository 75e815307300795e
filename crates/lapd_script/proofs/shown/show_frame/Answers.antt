-- Hand-written answers for `show_frame`.
use Rattle.lapd_script.proofs.Vocabulary.{[], take, refl, ◌∙◌, parts_of, shown_text, on_line_text, on_line}
use Rattle.lapd_script.specs.declared.shown.FrameFault.TheVariants.{Write, OutOfMemory}
use Rattle.lapd_script.proofs.Showing.{exit_is, unshown, shown_is, without_memory, broken_first, broken_second, written_both}
use Rattle.lapd_script.proofs.shown.show_frame.Goals as goal

pub returns-in_err-count : goal.returns-in_err-count
returns-in_err-count g c =
    unshown c.from_residual.result c.in_err-count.field-0.0 c.args.side c.args.digits.now (g.T.Target.taken c.args.target.now)
    (exit_is c.from_residual.result c.in_err-count.field-0.0 c.from_residual.ensures) (c.in_err-count.ensures.fault c.args.side)

pub returns-in_err-terminal : goal.returns-in_err-terminal
returns-in_err-terminal g c =
    let room = c.octets_of.new.room in
    let count = c.in_ok-count.count in
    without_memory c.from_residual-in_err-terminal.result c.args.side c.args.digits.now _ (g.T.Target.taken c.args.target.now)
    (exit_is c.from_residual-in_err-terminal.result OutOfMemory c.from_residual-in_err-terminal.ensures)
    (shown_is c.args.side c.args.digits.now room (on_line (take count room)) count (parts_of c.in-Ok.frame) c.in_ok-count.ensures.octets c.in_ok-count.ensures.short c.in-Ok.ensures.spelled refl)

pub returns-in_err-write_shown : goal.returns-in_err-write_shown
returns-in_err-write_shown g c =
    let room = c.octets_of.new.room in
    let count = c.in_ok-count.count in
    let line = c.send-line.result.items in
    broken_first c.from_residual-in_err-write_shown.result c.args.side c.args.digits.now (shown_text (parts_of c.in-Ok.frame)) (on_line_text line)
    (g.T.Target.taken c.args.target.now) (g.T.Target.taken c.write_shown.new.target)
    (exit_is c.from_residual-in_err-write_shown.result Write c.from_residual-in_err-write_shown.ensures)
    (shown_is c.args.side c.args.digits.now room line count (parts_of c.in-Ok.frame) c.in_ok-count.ensures.octets c.in_ok-count.ensures.short c.in-Ok.ensures.spelled (c.send-line.ensures (record { items = []; given = 0 }) c.in_ok-terminal.ensures).0)
    c.in_err-write_shown.ensures

pub returns-in_err-write_line_octets : goal.returns-in_err-write_line_octets
returns-in_err-write_line_octets g c =
    let room = c.octets_of.new.room in
    let count = c.in_ok-count.count in
    let line = c.as_slice.result.now in
    broken_second c.from_residual-in_err-write_line_octets.result c.in_err-write_line_octets.field-0.0 c.args.side c.args.digits.now (shown_text (parts_of c.in-Ok.frame)) (on_line_text line)
    (g.T.Target.taken c.args.target.now) (g.T.Target.taken c.write_shown.new.target) (g.T.Target.taken c.write_line_octets.new.target)
    (exit_is c.from_residual-in_err-write_line_octets.result Write c.from_residual-in_err-write_line_octets.ensures)
    (shown_is c.args.side c.args.digits.now room line count (parts_of c.in-Ok.frame) c.in_ok-count.ensures.octets c.in_ok-count.ensures.short c.in-Ok.ensures.spelled (c.as_slice.ensures.value ∙ (c.send-line.ensures (record { items = []; given = 0 }) c.in_ok-terminal.ensures).0))
    c.in_ok-write_shown.ensures c.in_err-write_line_octets.ensures

pub returns : goal.returns
returns g c =
    let room = c.octets_of.new.room in
    let count = c.in_ok-count.count in
    let line = c.as_slice.result.now in
    written_both c.args.side c.args.digits.now (shown_text (parts_of c.in-Ok.frame)) (on_line_text line)
    (g.T.Target.taken c.args.target.now) (g.T.Target.taken c.write_shown.new.target) (g.T.Target.taken c.write_line_octets.new.target)
    (shown_is c.args.side c.args.digits.now room line count (parts_of c.in-Ok.frame) c.in_ok-count.ensures.octets c.in_ok-count.ensures.short c.in-Ok.ensures.spelled (c.as_slice.ensures.value ∙ (c.send-line.ensures (record { items = []; given = 0 }) c.in_ok-terminal.ensures).0))
    c.in_ok-write_shown.ensures c.in_ok-write_line_octets.ensures
