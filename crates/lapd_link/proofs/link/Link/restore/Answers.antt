-- Hand-written answers for `Link::restore`.
use Rattle.lapd_image.proofs.Reading.{on_err}
use Rattle.lapd_image.specs.Numbers.{list_of}
use Rattle.lapd_link.proofs.Restoring.{after-head, after-queue, becomes-read, contents-saved, fit-as, fit-read, kept-as, ring-as, saved-read, small-as, waiting-saved, whole-read}
use Rattle.lapd_link.proofs.Vocabulary.{Entity, [], ap, queue_of, sym, used_slots, ◌++◌, ◌∙◌, refl}
use Rattle.lapd_link_steps.specs.Image.{restored}
use Rattle.lapd_link.proofs.link.Link.restore.Goals as goal
use Rattle.model_link.specs.Image.{control_frame}

pub returns-in_err-restore_queue-clause-none : goal.returns-in_err-restore_queue-clause-none
returns-in_err-restore_queue-clause-none g c =
    on_err c.from_residual-in_err-restore_queue.result (λ m rest saved room e.
    c.in_err-restore_queue.ensures.none (queue_of m) (list_of control_frame m.waiting ++ rest)
    (contents-saved (used_slots (g.S.Shelf.store c.args.shelf.now)) c.args.slots saved room)
    (after-head (restored c.restore.new.self []) m rest c.in_ok-restore.ensures.read e))

pub returns-in_err-restore_waiting-clause-none : goal.returns-in_err-restore_waiting-clause-none
returns-in_err-restore_waiting-clause-none g c =
    let fits = c.requires.fresh.1.fits in
    let takes = c.in_ok-restore_queue.ensures.read in
    let capacity =
    ap (λ (e : Entity). e.waiting.capacity) c.restore_queue.ensures.entity ∙ ap (λ w. w.capacity) c.restore.ensures.waiting ∙ fits.rests.ring in
    on_err c.from_residual-in_err-restore_waiting.result (λ m rest saved room e.
    c.in_err-restore_waiting.ensures.none m.waiting rest (waiting-saved capacity saved)
    (after-queue (restored c.restore.new.self []) m rest c.in_ok-restore.ensures.read e takes.0 fits.range.n201_high takes.1.read
    (contents-saved (used_slots (g.S.Shelf.store c.args.shelf.now)) c.args.slots saved room)))

pub returns-then-not-is_fit-clause-none : goal.returns-then-not-is_fit-clause-none
returns-then-not-is_fit-clause-none g c = λ m rest saved room e.
    let fresh = c.requires.fresh.1 in
    let takes = c.in_ok-restore_queue.ensures.read in
    let capacity =
    ap (λ (e : Entity). e.waiting.capacity) c.restore_queue.ensures.entity ∙ ap (λ w. w.capacity) c.restore.ensures.waiting ∙ fresh.fits.rests.ring in
    let read =
    whole-read c.restore.new.self c.restore_waiting.new.self takes.0 c.in_ok-restore.ensures.read takes.1.read
    (ring-as capacity c.in_ok-restore_waiting.ensures.read)
    (kept-as c.restore_queue.ensures.entity c.restore_waiting.ensures.kept) in
    let fit = fit-read rest fresh.fits.range read (small-as c.restore_queue.ensures.entity c.restore_waiting.ensures.kept c.in_ok-restore.ensures.small) saved e in
    let no = c.if-not-is_fit.ensures.1 (fit-as (sym c.restore_queue.ensures.stays.terms) (sym (c.len.ensures.count ∙ (takes.1.kept c.requires.fresh.0 fresh.kept).lengths)) fit) in
    cc

pub returns-clause-read : goal.returns-clause-read
returns-clause-read g c =
    let fresh = c.requires.fresh.1 in
    let takes = c.in_ok-restore_queue.ensures.read in
    let capacity =
    ap (λ (e : Entity). e.waiting.capacity) c.restore_queue.ensures.entity ∙ ap (λ w. w.capacity) c.restore.ensures.waiting ∙ fresh.fits.rests.ring in
    let read =
    whole-read c.restore.new.self c.restore_waiting.new.self takes.0 c.in_ok-restore.ensures.read takes.1.read
    (ring-as capacity c.in_ok-restore_waiting.ensures.read)
    (kept-as c.restore_queue.ensures.entity c.restore_waiting.ensures.kept) in
    let fit =
    fit-as c.restore_queue.ensures.stays.terms (c.len.ensures.count ∙ (takes.1.kept c.requires.fresh.0 fresh.kept).lengths) (c.if-not-is_fit.ensures.0 refl) in
    let low = small-as c.restore_queue.ensures.entity c.restore_waiting.ensures.kept c.in_ok-restore.ensures.small in (
      restored c.restore_waiting.new.self takes.0,
      record { saved = saved-read c.restore_waiting.new.self fresh.fits.range read.queue read.waiting fit low; octets = read.octets },
      becomes-read (record { read = takes.1.read; kept = takes.1.kept }) read.waiting fit (c.restore_waiting.ensures.ring ∙ capacity ∙ sym fresh.fits.rests.ring)
          (record { terms = c.restore_queue.ensures.stays.terms; capacity = c.restore_queue.ensures.stays.capacity }) c.restore_queue.ensures.limits,
    )
