-- Timers are read, part by part.
use Rattle.std.proofs.Common.{arith, ◌+◌, ◌*◌, ◌<◌, ℕ, ap, sym, subst, ◌∙◌, get_or, length}
use Rattle.std.proofs.lemmas.List.{length-replicate}
use Rattle.lapd_timed.specs.OfCard.{slot_of, line_slot_of, Holds}
use Rattle.lapd_timed.specs.Stands.{IsOn}
use Rattle.model_line.proofs.Ranges.{ranges_of}
use Rattle.lapd_timed.proofs.ClockRead.{idle-until, none-yet, on-lines, on-lines-all, read-from}
use Rattle.lapd_timed.proofs.TimersRead.{if_err, none-of-changes, none-of-lines, none-of-moment}
use Rattle.lapd_timed.proofs.card_timers.CardTimers.restore.Goals as goal

pub returns-in_err-moment-clause-none : goal.returns-in_err-moment-clause-none
returns-in_err-moment-clause-none g c = if_err _ c.from_residual-in_err-moment.result (λ fault bad m s.
    none-of-moment m _ c.args.reader.now c.restore_lengths.new.reader c.in_ok-lengths.ensures.read c.in_err-moment.ensures.none)

pub returns-in_err-restore_lines-clause-none : goal.returns-in_err-restore_lines-clause-none
returns-in_err-restore_lines-clause-none g c = if_err _ c.from_residual-in_err-restore_lines.result (λ fault bad m s.
    none-of-lines m _ c.in_ok-moment.moment c.args.reader.now c.restore_lengths.new.reader c.restore_moment.new.reader c.in_ok-lengths.ensures.read c.in_ok-moment.ensures.read
    (c.in_err-restore_lines.ensures.none m s (ap (λ d. d.terminals) (s.config ∙ sym c.config.ensures.config) ∙ sym c.from-terminals.ensures)))

pub returns-in_err-restore-clause-none : goal.returns-in_err-restore-clause-none
returns-in_err-restore-clause-none g c = if_err _ c.from_residual-in_err-restore.result (λ fault bad m s.
    let lines = ap (λ d. d.lines) s.config ∙ sym c.lines-lines.ensures in
    let terminals = ap (λ d. d.terminals) (s.config ∙ sym c.config.ensures.config) ∙ sym c.from-terminals.ensures in
    none-of-changes m _ c.in_ok-moment.moment c.args.reader.now c.restore_lengths.new.reader c.restore_moment.new.reader c.in_ok-lengths.ensures.read c.in_ok-moment.ensures.read
    c.restore_lines.new.reader (length c.note_states.new.changes.moments) (c.in_ok-restore_lines.ensures.passes m s terminals)
    (c.note_states.ensures.moments ∙ ap (λ k. length k.moments) c.in_ok-changes.ensures ∙ length-replicate {A = ℕ} (c.lines-lines.result * (2 * c.from-terminals.result)) 0 ∙ (λ i. sym lines i * (2 * sym terminals i)))
    c.in_err-restore.ensures.none)

pub invariant_of-result : goal.invariant_of-result
invariant_of-result g c =
    let range = ranges_of c.config.result.now c.config.ensures.range in
    let m = c.requires.0 in
    let s = c.requires.1 in
    let lines = ap (λ d. d.lines) s.config ∙ sym c.lines-lines.ensures in
    let terminals = ap (λ d. d.terminals) (s.config ∙ sym c.config.ensures.config) ∙ sym c.from-terminals.ensures in
    let read = c.in_ok-restore_lines.ensures.read m s (none-yet m c.lines-lines.result c.from-terminals.result c.restore_moment.new.reader c.in_ok-moments.moments lines terminals c.in_ok-moments.ensures) in
    let holds = subst (λ n. Holds n (2 * c.from-terminals.result) (slot_of c.from-terminals.result) (line_slot_of c.from-terminals.result) (IsOn m) c.restore_lines.new.moments) lines read.places.holds in
    record {
      past = c.in_ok-restore.ensures.past;
      few_lines = omega (arith, c.lines-lines.ensures, ap (λ d. d.lines) c.config.ensures.config, range.lines.most);
      few_terminals = omega (arith, c.from-terminals.ensures, range.terminals.most);
      in_time = c.in_ok-moment.ensures.read.saved;
      size = c.in_ok-restore_lines.ensures.size ∙ c.in_ok-moments.ensures.count;
      of_lines = on-lines-all c.lines-lines.result c.restore_lines.new.moments (on-lines m c.lines-lines.result c.from-terminals.result c.restore_lines.new.moments holds);
      links = c.in_ok-restore.ensures.links ∙ c.note_states.ensures.links ∙ ap (λ k. k.links) c.in_ok-changes.ensures;
      marks = ap (λ xs. length xs) c.in_ok-restore.ensures.states ∙ c.note_states.ensures.size ∙ ap (λ k. length k.states) c.in_ok-changes.ensures ∙ length-replicate {A = ℕ} (c.lines-lines.result * (2 * c.from-terminals.result)) 0;
    }

pub returns-clause-read : goal.returns-clause-read
returns-clause-read g c = λ m s.
    let lines = ap (λ d. d.lines) s.config ∙ sym c.lines-lines.ensures in
    let terminals = ap (λ d. d.terminals) (s.config ∙ sym c.config.ensures.config) ∙ sym c.from-terminals.ensures in
    let read = c.in_ok-restore_lines.ensures.read m s (none-yet m c.lines-lines.result c.from-terminals.result c.restore_moment.new.reader c.in_ok-moments.moments lines terminals c.in_ok-moments.ensures) in
    let holds = subst (λ n. Holds n (2 * c.from-terminals.result) (slot_of c.from-terminals.result) (line_slot_of c.from-terminals.result) (IsOn m) c.restore_lines.new.moments) lines read.places.holds in
    let links = c.note_states.ensures.links ∙ ap (λ k. k.links) c.in_ok-changes.ensures in
    let many = length-replicate {A = ℕ} (c.lines-lines.result * (2 * c.from-terminals.result)) 0 in
    read-from _ m s.reached lines terminals c.args.reader.now c.restore_lengths.new.reader c.restore_moment.new.reader c.restore_lines.new.reader c.restore.new.reader
    c.in_ok-lengths.ensures.read c.in_ok-moment.ensures.read read (c.in_ok-restore_lines.ensures.until (idle-until _ c.in_ok-moments.moments c.in_ok-moments.ensures.rest)) c.in_ok-restore.ensures.read c.in_ok-restore.ensures.past
    (c.in_ok-restore.ensures.links ∙ links)
    (c.in_ok-restore.ensures.count ∙ c.note_states.ensures.moments ∙ ap (λ k. length k.moments) c.in_ok-changes.ensures ∙ many)
    (ap (λ xs. length xs) c.in_ok-restore.ensures.states ∙ c.note_states.ensures.size ∙ ap (λ k. length k.states) c.in_ok-changes.ensures ∙ many)
    (λ line k there few. (λ i. get_or (c.in_ok-restore.ensures.states i) (line * c.in_ok-restore.ensures.links i + k) 0)
    ∙ c.note_states.ensures.noted m s line k (subst (λ n. line < n) c.lines-lines.ensures there) (subst (λ n. k < n) (sym (ap (λ h. h.links) c.in_ok-changes.ensures)) few))
    (on-lines m c.lines-lines.result c.from-terminals.result c.restore_lines.new.moments holds)
