-- A terminal is sound once its line is down.
use Rattle.model_teis.proofs.OfTerminal.Vocabulary.{◌≡◌, List, [], None, subst, sym, Terminal}
use Rattle.model_teis.specs.declared.terminal.messages.Message.{Message}
use Rattle.model_teis.specs.terminal.Sound.{IsSound}
use Rattle.model_teis.proofs.OfTerminal.SoundWords.{sound_down}

pub down_is : (m : Terminal) (waiting : List Message) → waiting ≡ [] → IsSound m → IsSound (record m { procedure = None; waiting = waiting })
down_is m waiting e sound = subst (λ w. IsSound (record m { procedure = None; waiting = w })) (sym e) (sound_down m sound)
