-- What an image has before the timers.
use Rattle.std.proofs.Common.{arith, ap, sym, ◌∙◌, subst}
use Rattle.lapd_card.specs.Counted.{counters_in}
use Rattle.lapd_card.specs.Image.{IsSavedConfig, IsSavedOf}
use Rattle.lapd_card.specs.FrameStands.{FrameStands}
use Rattle.lapd_card.specs.Kinds.{shelf_of}
use Rattle.lapd_image.proofs.Puts.{puts-same, puts-then}
use Rattle.model_line.specs.ConfigImage.{config}
use Rattle.model_line.proofs.Ranges.{ranges_of}
use Rattle.lapd_timed.specs.Image.{head_of}
use Rattle.lapd_timed.proofs.Spelled.{is-octets, is-timed, marks-spelled}
use Rattle.lapd_timed.proofs.saved.save_card.Goals as goal

pub save_its_config-at-requires-clause-range : goal.save_its_config-at-requires-clause-range
save_its_config-at-requires-clause-range c = c.config.ensures.range

pub save_waits-requires-clause-lines : goal.save_waits-requires-clause-lines
save_waits-requires-clause-lines c = omega (arith, c.lines.ensures, ap (λ d. d.lines) c.config.ensures.config, (ranges_of c.config.result.now c.config.ensures.range).lines.most)

pub returns-clause-puts : goal.returns-clause-puts
returns-clause-puts c = λ s timers stands timed.
    let frames = c.frames-frames.ensures.card in
    let same = c.config.ensures.config ∙ ap (λ f. f.config) frames ∙ sym stands.lines.config in
    puts-then (puts-same (λ i. head_of ((c.is_of_octets.ensures ∙ is-octets c.args.card.now s stands.kind) i) ((sym timed ∙ is-timed timers s stands.kept) i)) c.save_head-at.ensures)
    (puts-then (puts-same (ap config same) c.save_its_config-at.ensures.puts)
    (puts-then (c.save-at.ensures.puts (record { card = s.card; counted = s.counted })
    (record { stands = subst (λ f. FrameStands shelf_of f s.card) (sym frames) stands.lines; counted = ap (λ f. counters_in f.lines) frames ∙ stands.counted }))
    (puts-same (marks-spelled s c.args.waits.now c.lines.result (ap (λ d. d.lines) (stands.lines.config ∙ sym (ap (λ f. f.config) frames)) ∙ sym c.lines.ensures) stands.waiting) c.save_waits.ensures)))

pub returns-clause-saved : goal.returns-clause-saved
returns-clause-saved c = λ s timers stands.
    let frames = c.frames-frames.ensures.card in
    let same = c.config.ensures.config ∙ ap (λ f. f.config) frames ∙ sym stands.lines.config in
    let lines = c.save-at.ensures.saved (record { card = s.card; counted = s.counted })
    (record { stands = subst (λ f. FrameStands shelf_of f s.card) (sym frames) stands.lines; counted = ap (λ f. counters_in f.lines) frames ∙ stands.counted }) in
    record {
      config = subst IsSavedConfig same c.save_its_config-at.ensures.saved;
      lines = subst (λ d. IsSavedOf d (record { card = s.card; counted = s.counted })) (sym lines.config) lines;
    }
