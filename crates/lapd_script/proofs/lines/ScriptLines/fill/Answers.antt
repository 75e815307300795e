-- Hand-written answers for `ScriptLines::fill`.
use Rattle.lapd_script.proofs.Vocabulary.{◌+◌, ◌-◌, [], arith, eqb-true, refl, sym, take, ◌∙◌, false≢true, append-nil, held}
use Rattle.lapd_script.proofs.Reading.{filled_held, held_first, left_kept, keeps_none}
use Rattle.lapd_script.proofs.lines.ScriptLines.fill.Goals as goal

pub returns-clause-left : goal.returns-clause-left
returns-clause-left g c =
    let lines = c.args.self.now in
    let more = filled_held c.copy_within.new.self lines c.deref_mut.result.now c.read.new.buffer c.in-Ok.count (lines.filled - lines.start + c.in-Ok.count) c.requires.begins
    c.deref_mut.ensures.value c.copy_within.ensures.items c.deref_mut.ensures.len c.read.auto.buffer c.in-Ok.ensures.within refl in
    λ text left. left_kept lines _ (g.S.Source.remaining c.args.source.now) (g.S.Source.remaining c.read.new.self) (take c.in-Ok.count c.read.new.buffer) text left more c.in-Ok.ensures.octets.0
    (λ ended. c.in-Ok.ensures.octets.1 (eqb-true c.in-Ok.count 0 ended) (omega arith))

pub returns-clause-kept : goal.returns-clause-kept
returns-clause-kept g c =
    let lines = c.args.self.now in
    let more = filled_held c.copy_within.new.self lines c.deref_mut.result.now c.read.new.buffer c.in-Ok.count (lines.filled - lines.start + c.in-Ok.count) c.requires.begins
    c.deref_mut.ensures.value c.copy_within.ensures.items c.deref_mut.ensures.len c.read.auto.buffer c.in-Ok.ensures.within refl in
    held_first lines _ (take c.in-Ok.count c.read.new.buffer) c.requires.begins more

pub returns-in-Err-clause-left : goal.returns-in-Err-clause-left
returns-in-Err-clause-left g c =
    let lines = c.args.self.now in
    let more = filled_held c.copy_within.new.self lines c.deref_mut.result.now c.read.new.buffer 0 (lines.filled - lines.start) c.requires.begins
    c.deref_mut.ensures.value c.copy_within.ensures.items c.deref_mut.ensures.len c.read.auto.buffer (omega arith) (omega arith) in
    λ text left. left_kept lines _ (g.S.Source.remaining c.args.source.now) (g.S.Source.remaining c.read.new.self) [] text left more (keeps_none (g.S.Source.remaining c.args.source.now) (g.S.Source.remaining c.read.new.self) c.in-Err.ensures.octets)
    (λ ended. absurd (false≢true (sym c.requires.open ∙ ended)))

pub returns-in-Err-clause-cut : goal.returns-in-Err-clause-cut
returns-in-Err-clause-cut g c =
    let lines = c.args.self.now in
    let more = filled_held c.copy_within.new.self lines c.deref_mut.result.now c.read.new.buffer 0 (lines.filled - lines.start) c.requires.begins
    c.deref_mut.ensures.value c.copy_within.ensures.items c.deref_mut.ensures.len c.read.auto.buffer (omega arith) (omega arith) in
    more ∙ append-nil (held lines)
