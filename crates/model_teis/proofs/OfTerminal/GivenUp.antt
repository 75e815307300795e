-- What a line that is down leaves of TEI management of a terminal.
use Rattle.model_teis.proofs.OfTerminal.Vocabulary.{arith, ◌≡◌, Option, [], None, Some, refl, Terminal, Procedure}
use Rattle.model_teis.specs.terminal.Machine.{nothing}
use Rattle.model_teis.specs.Steps.{◌then◌}
use Rattle.model_teis.specs.terminal.Words.{Course, begun, stop_of}
use Rattle.model_teis.specs.terminal.Rows.{end_if_any, withdraw_all}
use Rattle.model_teis.specs.terminal.Laws.{IsGivenUp}
unfoldable use Rattle.model_teis.specs.terminal.Events.{course}

abbrev Leaves : Terminal → Option Procedure → Course → Type 0
Leaves m o c = (c.now ≡ record m { procedure = None; waiting = [] }) × (c.told ≡ record nothing { orders = stop_of o })

ends : (m : Terminal) (o : Option Procedure) → m.procedure ≡ o → Leaves m o ((end_if_any o then withdraw_all) (begun m))
ends m None e = grind arith
ends m (Some procedure) e = (refl, refl)

pub given_up : (m : Terminal) → IsGivenUp m
unfolding course
given_up m = let all = ends m m.procedure refl in record { after = all.0; told = all.1 }
