-- Hand-written answers for `TerminalTeis::start`.
use Rattle.model_teis.proofs.OfTerminal.Vocabulary.{List, [], Places, None, IsSound, sym, subst}
use Rattle.model_teis.specs.declared.terminal.messages.Message.{Message}
use Rattle.model_teis.proofs.OfTerminal.SoundWords.{sound_fresh}
use Rattle.lapd_tei.proofs.terminal.teis.TerminalTeis.start.Goals as goal

pub invariant_of-result : goal.invariant_of-result
invariant_of-result c =
    subst (λ (waiting : List Message). IsSound (record { reading = c.args.reading; places = c.empty.result; number = c.args.seed; procedure = None; waiting = waiting })) (sym c.new.ensures)
    (subst (λ (places : Places). IsSound (record { reading = c.args.reading; places = places; number = c.args.seed; procedure = None; waiting = [] })) (sym c.empty.ensures)
    (sound_fresh c.args.reading c.args.terminals c.args.seed c.requires.1 c.ranges.seed.fits))
