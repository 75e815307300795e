-- Hand-written answers for `Setup::show_counters`.
use Rattle.lapd_sim.proofs.Vocabulary.{◌<◌, get_or, refl, ap, subst, ◌∙◌, none_counted, counters_of, frames_of, Store, counters_text, after_counters, scene, SetupStands, counters_in, Held}
use Rattle.lapd_sim.proofs.Scenes.{there, obeyed, on_ok, tells}
use Rattle.lapd_sim.proofs.setup.Setup.show_counters.Goals as goal

pub returns : goal.returns
returns g c = λ m h.
    let line = c.args.line in
    let less = subst (λ n. n < c.args.self.now.config.lines) c.in_ok-line.ensures.0 c.in_ok-line.ensures.1 in
    obeyed c.put_counters.result _ c.written.ensures _ _ (SetupStands c.args.self.now) _ _ (there c.args.self.now m h {at_it = line} {line = line} refl less (after_counters c.args.group))
    (tells c.put_counters.result _ _ (SetupStands c.args.self.now) (after_counters c.args.group line (scene m)) (record (scene m) { text = counters_text line c.args.group c.counters-counters.result.now })
    (ap (λ k. record (scene m) { text = counters_text line c.args.group k })
    (c.counters-counters.ensures ∙ ap (λ (f : Held Store). get_or (counters_in f.lines) c.in_ok-line.field-0 none_counted) (c.frames.ensures.card ∙ ap frames_of c.card.ensures)
    ∙ ap (λ n. get_or (counters_of c.args.self.now.timed.card) n none_counted) c.in_ok-line.ensures.0 ∙ ap (λ all. get_or all line none_counted) h.counters))
    c.put_counters.ensures (on_ok c.put_counters.result h))
