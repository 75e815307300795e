-- A whole image is read, part by part; or there is none that may be saved.
use Rattle.std.proofs.Common.{sym, ◌∙◌}
use Rattle.std.proofs.lemmas.Bool.{false≢true}
use Rattle.lapd_timed.specs.Image.{is_kind_of_octets}
use Rattle.lapd_timed.proofs.ImageRead.{begun-inside}
use Rattle.lapd_timed.proofs.TimersRead.{if_err, if_err_and}
use Rattle.lapd_timed.proofs.WholeRead.{none-of-card, none-of-end, none-of-head, none-of-timers, none-of-waits, whole-read}
use Rattle.lapd_timed.proofs.saved.restore.Goals as goal

pub returns-in_err-kind-clause-none : goal.returns-in_err-kind-clause-none
returns-in_err-kind-clause-none c = if_err _ c.from_residual.result (λ fault bad. none-of-head c.args.octets.now (λ of_octets timed rest e. c.in_err-kind.ensures.none of_octets timed rest (c.new-reader.ensures ∙ e)))

pub returns-in_err-card-clause-none : goal.returns-in_err-card-clause-none
returns-in_err-card-clause-none c = if_err_and c.from_residual-in_err-card.result c.from_residual-in_err-card.ensures.1 (λ fault same bad.
    none-of-card c.args.octets.now (is_kind_of_octets c.in_ok-kind.kind) c.in_ok-kind.timed c.restore_head.new.reader (sym c.new-reader.ensures ∙ c.in_ok-kind.ensures.read) (c.in_err-card.ensures.none (sym same ∙ bad)))

pub returns-in_err-waits-clause-none : goal.returns-in_err-waits-clause-none
returns-in_err-waits-clause-none c = if_err _ c.from_residual-in_err-waits.result (λ fault bad.
    let (l, read, stands) = c.in_ok-card.ensures.read in
    none-of-waits c.args.octets.now (is_kind_of_octets c.in_ok-kind.kind) c.in_ok-kind.timed c.restore_head.new.reader (sym c.new-reader.ensures ∙ c.in_ok-kind.ensures.read)
    l c.restore_card.new.reader read (c.in_err-waits.ensures.none l.card (begun-inside c.frames.result.now c.in_ok-card.card c.in_ok-kind.kind l.card c.frames.ensures.card stands.stands)))

pub returns-in_err-timers-clause-none : goal.returns-in_err-timers-clause-none
returns-in_err-timers-clause-none c = if_err_and c.from_residual-in_err-timers.result c.from_residual-in_err-timers.ensures.1 (λ fault same bad.
    let (l, read, stands) = c.in_ok-card.ensures.read in
    let kind = c.in_ok-kind.kind in
    none-of-timers c.args.octets.now (is_kind_of_octets kind) c.in_ok-kind.timed c.restore_head.new.reader (sym c.new-reader.ensures ∙ c.in_ok-kind.ensures.read) l c.restore_card.new.reader read
    c.in_ok-waits.waits c.restore_waits.new.reader (c.in_ok-waits.ensures.read l.card (begun-inside c.frames.result.now c.in_ok-card.card kind l.card c.frames.ensures.card stands.stands))
    (c.in_err-timers.ensures.none (sym same ∙ bad) l.card (begun-inside c.frames-2.result.now c.in_ok-card.card kind l.card c.frames-2.ensures.card stands.stands)))

pub returns-then-not-is_done-clause-none : goal.returns-then-not-is_done-clause-none
returns-then-not-is_done-clause-none c = λ bad.
    let (l, read, stands) = c.in_ok-card.ensures.read in
    let kind = c.in_ok-kind.kind in
    none-of-end c.args.octets.now (is_kind_of_octets kind) c.in_ok-kind.timed c.restore_head.new.reader (sym c.new-reader.ensures ∙ c.in_ok-kind.ensures.read) l c.restore_card.new.reader read
    c.in_ok-waits.waits c.restore_waits.new.reader (c.in_ok-waits.ensures.read l.card (begun-inside c.frames.result.now c.in_ok-card.card kind l.card c.frames.ensures.card stands.stands))
    c.in_ok-timers.timers c.restore_timers.new.reader (c.in_ok-timers.ensures.read l.card (begun-inside c.frames-2.result.now c.in_ok-card.card kind l.card c.frames-2.ensures.card stands.stands))
    (λ done. false≢true (sym c.if-not-is_done.true ∙ c.is_done.ensures.1 done))

pub returns-clause-read : goal.returns-clause-read
returns-clause-read c =
    let (l, read, stands) = c.in_ok-card.ensures.read in
    let kind = c.in_ok-kind.kind in
    whole-read c.args.octets.now c.restore_head.new.reader c.restore_card.new.reader c.restore_waits.new.reader c.in_ok-waits.waits kind c.in_ok-kind.timed c.in_ok-card.card l
    (sym c.new-reader.ensures ∙ c.in_ok-kind.ensures.read) read stands (c.in_ok-waits.ensures.read l.card (begun-inside c.frames.result.now c.in_ok-card.card kind l.card c.frames.ensures.card stands.stands))
    c.in_ok-timers.timers c.restore_timers.new.reader (c.in_ok-timers.ensures.read l.card (begun-inside c.frames-2.result.now c.in_ok-card.card kind l.card c.frames-2.ensures.card stands.stands))
    (c.is_done.ensures.0 c.if-not-is_done.false)
