-- What a script's card stores, and the bound of it.
use Rattle.std.specs.Prelude.{◌≡◌, ℕ, ◌≤◌, ◌+◌, ◌*◌, if◌then◌else◌, List, take, Some}
use Rattle.model_line.specs.declared.config.Config.{Config}
use Rattle.model_line.specs.Line.{is_terminal}
use Rattle.model_card.specs.ports.Stored.{limit}
use Rattle.lapd_sim.specs.machine.Board.{fresh, after_all}
use Rattle.lapd_script.specs.Bound.{bound}
use Rattle.lapd_script.specs.Pieces.{pieces_of}
use Rattle.lapd_sim.specs.machine.Setup.{Setup}
use Rattle.lapd_sim.specs.machine.Steps.{held}
use Rattle.lapd_sim.specs.machine.Script.{played}
use Rattle.lapd_sim.specs.machine.Events.{script_events}

-- The bound of a configuration: if it is no terminal, as the program's word `limits` tells it. A terminal remembers no
-- assignments, and one message more than its lines may have TEIs can wait there, each of 8 octets.
abbrev pub terminal_bound : ℕ → ℕ → ℕ → ℕ → ℕ → ℕ
terminal_bound lines terminals control slots n201 = lines * (2 * n201 + 10 + 8 * control * terminals + 8 * (terminals + 1)) + slots * n201

abbrev pub bound_of : Config → ℕ
bound_of c = if is_terminal c
    then terminal_bound c.lines c.terminals c.control c.slots c.n201
    else bound c.lines c.terminals c.control c.slots c.n201

-- A card stores no more after each of the script's events,
pub record ScriptsStayWithin : Type 0 where
  pub always : (text : List ℕ) (setup : Setup) (count : ℕ) → (played (pieces_of text)).setup ≡ Some setup
      → held (after_all (fresh setup.board.kind setup.board.config) (take count (script_events text))) ≤ bound_of setup.board.config
  -- and so after its last line, which is what the line `stored` tells. The limit that it tells is the same number.
  pub last : (text : List ℕ) (setup : Setup) → (played (pieces_of text)).setup ≡ Some setup → held setup.board ≤ bound_of setup.board.config
  pub same : (c : Config) → limit c ≡ bound_of c
