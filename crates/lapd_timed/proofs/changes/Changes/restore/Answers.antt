-- Moments are read, one after the other.
use Rattle.std.proofs.Common.{arith, suc, set, ◌+◌, ◌≡◌, ◌<◌, ◌≤◌, ◌++◌, ℕ, length, length-take, take, take_all, ap, sym, subst, refl, ◌∙◌}
use Rattle.std.specs.Prelude.{All}
use Rattle.std.proofs.lemmas.List.Elements.{All-nil}
use Rattle.lapd_image.proofs.Reading.{on_err, too_few}
use Rattle.model_image.specs.Images.{changes}
use Rattle.lapd_timed.proofs.ChangesRead.{few-more, late-none, length-changes, length-put, one-more-change, too-few}
use Rattle.lapd_timed.proofs.changes.Changes.restore.Goals as goal

pub loop-slot-init : goal.loop-slot-init
loop-slot-init c = record { links = refl; states = refl; count = refl; read = refl; past = All-nil (λ (moment : ℕ). moment ≤ c.args.now) }

pub loop-slot-preserved : goal.loop-slot-preserved
loop-slot-preserved c =
    let ms = c.loop-slot.self.moments in
    let i = c.loop-slot.slot in
    let m = c.in_ok-moment.moment in
    let within : i < length ms = omega (arith, c.loop-slot-test.true, c.count-slot-end.ensures, c.loop-slot.invariant.count) in
    let more : suc i ≡ i + 1 = omega arith in
    let is : set ms i m ≡ c.put.new.self.moments = sym (ap (λ k. k.moments) c.put.ensures) in
    let taken : take (suc i) (set ms i m) ≡ take (i + 1) c.put.new.self.moments = λ j. take (more j) (is j) in
    record {
      links = ap (λ k. k.links) c.put.ensures ∙ c.loop-slot.invariant.links;
      states = ap (λ k. k.states) c.put.ensures ∙ c.loop-slot.invariant.states;
      count = ap (λ k. length k.moments) c.put.ensures ∙ length-put ms i m ∙ c.loop-slot.invariant.count;
      read = one-more-change ms c.args.reader.now c.loop-slot.reader c.number.new.self i m within c.loop-slot.invariant.read c.in_ok-moment.ensures.read ∙ ap (λ xs. changes xs ++ c.number.new.self) taken;
      past = subst (All (λ (moment : ℕ). moment ≤ c.args.now)) taken (few-more (λ (moment : ℕ). moment ≤ c.args.now) ms i m within c.loop-slot.invariant.past (omega (arith, c.if-moment-now.false)));
    }

pub returns-in_err-moment-clause-none : goal.returns-in_err-moment-clause-none
returns-in_err-moment-clause-none c =
    let within : c.loop-slot.slot < length c.loop-slot.self.moments = omega (arith, c.loop-slot-test.true, c.count-slot-end.ensures, c.loop-slot.invariant.count) in
    let short = too-few c.loop-slot.self.moments c.args.reader.now c.loop-slot.reader c.loop-slot.slot within c.loop-slot.invariant.read c.in_err-moment.ensures.short in
    on_err c.from_residual.result (λ value rest fits e. too_few (changes value) rest short (omega (arith, length-changes value, fits.each, c.loop-slot.invariant.count)) e)

pub returns-then-moment-now-clause-none : goal.returns-then-moment-now-clause-none
returns-then-moment-now-clause-none c = λ value rest fits e.
    let ms = c.loop-slot.self.moments in
    let within : c.loop-slot.slot < length ms = omega (arith, c.loop-slot-test.true, c.count-slot-end.ensures, c.loop-slot.invariant.count) in
    late-none c.args.now c.in_ok-moment.moment (take c.loop-slot.slot ms) value c.number.new.self rest (omega (arith, length-take c.loop-slot.slot ms, within, fits.each, c.loop-slot.invariant.count))
    c.in_ok-moment.ensures.small c.if-moment-now.true fits.past
    (ap (λ octets. changes (take c.loop-slot.slot ms) ++ octets) (sym c.in_ok-moment.ensures.read) ∙ sym c.loop-slot.invariant.read ∙ e)

pub returns-clause-read : goal.returns-clause-read
returns-clause-read c =
    c.loop-slot.invariant.read
    ∙ ap (λ xs. changes xs ++ c.loop-slot.reader) (take_all c.loop-slot.slot c.loop-slot.self.moments (omega (arith, c.loop-slot-test.false, c.count-slot-end.ensures, c.loop-slot.invariant.count)))

pub returns-clause-past : goal.returns-clause-past
returns-clause-past c =
    subst (All (λ (moment : ℕ). moment ≤ c.args.now)) (take_all c.loop-slot.slot c.loop-slot.self.moments (omega (arith, c.loop-slot-test.false, c.count-slot-end.ensures, c.loop-slot.invariant.count))) c.loop-slot.invariant.past
