-- Hand-written answers for `Clock::restore`.
use Rattle.std.proofs.Common.{◌≡◌, ◌∙◌, ◌++◌, List, ℕ, subst, sym}
use Rattle.std.proofs.lemmas.Bool.{false≢true}
use Rattle.lapd_clock.specs.Given.{lengths_of}
use Rattle.std.specs.Prelude.{flat_map}
use Rattle.lapd_image.specs.Numbers.{list_of}
use Rattle.lapd_clock.specs.Image.{timer, IsRead}
use Rattle.lapd_clock.specs.Restoring.{HasNoLines, IsHead, ReadsLines}
use Rattle.lapd_clock.specs.Timers.{Timers}
use Rattle.lapd_clock.proofs.Restored.{clock-read, if_err, if_ok, more-there, none-there}
use Rattle.lapd_clock.proofs.clock.Clock.restore.Goals as goal
use Rattle.lapd_clock.proofs.clock.Clock.restore.Goals.{then-is_err-via-then-is_err, then-is_err-via-else-is_err+then-not-is_done}

pub returns-then-is_err-clause-none : goal.returns-then-is_err-clause-none
returns-then-is_err-clause-none c = λ _.
    let lengths = lengths_of c.in-Ok.head.lengths in
    let head = subst (λ (l : List ℕ). IsHead c.in-Ok.head.lines c.in-Ok.head.terminals lengths l c.read_head.new.reader) c.new-reader.ensures c.in-Ok.ensures.read in
    let idle = c.in-Ok-start_with.ensures.idle in
    elim c.then-is_err.branch [
      | then-is_err-via-then-is_err w ↦ none-there c.in-Ok.head.lines c.in-Ok.head.terminals lengths head
          (subst (λ (t : Timers). HasNoLines c.read_head.new.reader t) idle (if_err c.read_lines.result (sym c.is_err.ensures.value ∙ w.if-is_err.true) c.read_lines.ensures.none))
      | then-is_err-via-else-is_err+then-not-is_done w ↦ more-there c.in-Ok.head.lines c.in-Ok.head.terminals lengths head
          (subst (λ (t : Timers). ReadsLines c.read_head.new.reader c.read_lines.new.reader t c.read_lines.new.self) idle
          (if_ok c.read_lines.result (sym c.is_err.ensures.value ∙ w.if-is_err.false) c.read_lines.ensures.read))
          (λ nil. false≢true (sym w.if-not-is_done.true ∙ w.is_done.ensures.1 nil))
    ]

pub returns-clause-read : goal.returns-clause-read
returns-clause-read c =
    let lengths = lengths_of c.in-Ok.head.lengths in
    let head = subst (λ (l : List ℕ). IsHead c.in-Ok.head.lines c.in-Ok.head.terminals lengths l c.read_head.new.reader) c.new-reader.ensures c.in-Ok.ensures.read in
    let read = subst (λ (t : Timers). ReadsLines c.read_head.new.reader c.read_lines.new.reader t c.read_lines.new.self) c.in-Ok-start_with.ensures.idle
    (if_ok c.read_lines.result (sym c.is_err.ensures.value ∙ c.if-is_err.false) c.read_lines.ensures.read) in
    subst (λ (t : Timers). IsRead c.args.octets.now t) (sym read.3)
    (clock-read c.in-Ok.head.lines c.in-Ok.head.terminals lengths read.0 head read.1 read.2.saved
    (subst (λ (l : List ℕ). c.read_head.new.reader ≡ flat_map (list_of timer) read.0 ++ l) (c.is_done.ensures.0 c.if-not-is_done.false) read.2.octets))
