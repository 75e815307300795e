-- Hand-written answers for `Page::put_counters`.
use Rattle.lapd_transcript.proofs.Vocabulary.{if◌then◌else◌, sym, subst, ◌∙◌, flat_map, names_of, counter_text, Puts, on, nothing_text}
use Rattle.lapd_transcript.proofs.CounterNames.{zero_by_rows, text_by_rows}
use Rattle.lapd_transcript.proofs.output.Page.put_counters.Goals as goal

pub returns-then-are_zero : goal.returns-then-are_zero
returns-then-are_zero g c =
    subst (λ b. Puts c.put_nothing.result (on g.T.Target.taken c.args.self.now) (on g.T.Target.taken c.put_nothing.new.self)
    (if b then nothing_text c.args.line else flat_map (counter_text c.args.line c.args.counters.now) (names_of c.args.group)))
    (sym c.if-are_zero.true ∙ c.are_zero.ensures ∙ zero_by_rows _ (names_of c.args.group) c.names_of-names.ensures c.args.counters.now)
    c.put_nothing.ensures

pub returns : goal.returns
returns g c =
    subst (λ b. Puts c.put_each.result (on g.T.Target.taken c.args.self.now) (on g.T.Target.taken c.put_each.new.self)
    (if b then nothing_text c.args.line else flat_map (counter_text c.args.line c.args.counters.now) (names_of c.args.group)))
    (sym c.if-are_zero.false ∙ c.are_zero.ensures ∙ zero_by_rows _ (names_of c.args.group) c.names_of-names.ensures c.args.counters.now)
    (subst (Puts c.put_each.result (on g.T.Target.taken c.args.self.now) (on g.T.Target.taken c.put_each.new.self))
    (text_by_rows _ (names_of c.args.group) c.names_of-names.ensures c.args.counters.now c.args.line) c.put_each.ensures)
