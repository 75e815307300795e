-- Hand-written answers for `FrameLine::held`.
use Rattle.lapd_line.proofs.Vocabulary.{◌+◌, arith, ap, ◌∙◌, terminal_in}
use Rattle.model_teis.specs.network.Machine.{held}
use Rattle.model_teis.specs.terminal.Machine as terminals
use Rattle.lapd_line.proofs.HeldSteps.{managed_is, few_managed, most_few}
use Rattle.lapd_line.proofs.frame_line.FrameLine.held.Goals as goal

pub held_by_links-requires : goal.held_by_links-requires
held_by_links-requires c =
    let (store, others, m, st) = c.requires in
    (store, (others, m, st.layer))

pub overflow_add-result : goal.overflow_add-result
overflow_add-result c =
    let (store, others, m, st) = c.requires in
    let layer = c.args.self.now.layer in
    omega (arith, c.held.ensures, few_managed layer store others m st.layer, most_few layer.config st.layer.range, c.held_by_links.ensures.few)

pub returns-clause-few : goal.returns-clause-few
returns-clause-few c =
    let (store, others, m, st) = c.requires in
    let layer = c.args.self.now.layer in
    omega (arith, c.held.ensures, few_managed layer store others m st.layer, c.held_by_links.ensures.few)

pub returns-clause-held : goal.returns-clause-held
returns-clause-held c = λ store others m st.
    ap (λ n. n + c.held_by_links.result) (c.held.ensures ∙ managed_is c.args.self.now.layer store others m st.layer)
    ∙ ap (λ n. held m.management + terminals.held (terminal_in m) + n) (c.held_by_links.ensures.held store others m st.layer)
