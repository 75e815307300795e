-- What a line of a script says.
use Rattle.std.specs.Prelude.{ℕ, ◌≤◌, List, take, Result, Ok, Err}
use Rattle.lapd_script.specs.declared.kind.FaultKind.{FaultKind}
use Rattle.lapd_transcript.specs.declared.counters.CounterGroup.{CounterGroup}
use Rattle.lapd_script.specs.declared.command.Asked.{Asked}
use Rattle.model_card.specs.declared.kinds.CardKind.{CardKind}
use Rattle.lapd_script.specs.declared.command.Durations.{Durations}
use Rattle.model_line.specs.declared.faults.Fault.{Fault}
use Rattle.model_line.specs.declared.config.Config.{Config}
use Rattle.lapd_script.specs.declared.command.Command.{Command}
use Rattle.lapd_script.specs.declared.command.Command.TheVariants.{Skip, Card, Rx, In, Failed, Next, Down, AskTei, Pull, Wait, Timers, Stored, Losses, Save, Restore, Counters, Ask}

pub data Meaning : Type 0 where
  -- nothing: the line is skipped
  skip : Meaning
  -- a card of octets, or of frames, is started with this configuration
  card : CardKind → Config → Meaning
  -- these octets come from the line of the card
  rx : ℕ → List ℕ → Meaning
  -- the frame of these octets comes from the line
  into : ℕ → List ℕ → Meaning
  -- the line's controller tells this fault in place of a frame
  failed : ℕ → Fault → Meaning
  -- the line takes the next frame
  next : ℕ → Meaning
  -- the line is down: its links are given up, and all that waits on it
  down : ℕ → Meaning
  -- a terminal asks for a TEI of the line
  ask_tei : ℕ → Meaning
  -- the line takes so many octets
  pull : ℕ → ℕ → Meaning
  -- so many milliseconds pass
  wait : ℕ → Meaning
  -- T200, T203, T201 and T202 run so long from now on
  timers : Durations → Meaning
  -- what the card holds is shown
  stored : Meaning
  -- from now on it is shown how many contents are given up
  losses : Meaning
  -- the length of the image of the card is shown, and its check
  save : Meaning
  -- the card is started anew, from its own image
  restore : Meaning
  -- what was counted of the line is shown, of these counters
  counters : ℕ → CounterGroup → Meaning
  -- for a line and a TEI this is asked, with the octets that it carries
  ask : ℕ → ℕ → Asked → List ℕ → Meaning

-- A command counts the octets of its line, which stand at the beginning of a buffer.
abbrev pub meant : List ℕ → Command → Meaning
meant buffer Skip = skip
meant buffer (Card kind numbers) = card kind numbers
meant buffer (Rx line count) = rx line (take count buffer)
meant buffer (In line count) = into line (take count buffer)
meant buffer (Failed line fault) = failed line fault
meant buffer (Next line) = next line
meant buffer (Down line) = down line
meant buffer (AskTei line) = ask_tei line
meant buffer (Pull line count) = pull line count
meant buffer (Wait milliseconds) = wait milliseconds
meant buffer (Timers durations) = timers durations
meant buffer Stored = stored
meant buffer Losses = losses
meant buffer Save = save
meant buffer Restore = restore
meant buffer (Counters line group) = counters line group
meant buffer (Ask line tei what count) = ask line tei what (take count buffer)

abbrev pub meant_by : List ℕ → Result Command FaultKind → Result Meaning FaultKind
meant_by buffer (Ok command) = Ok (meant buffer command)
meant_by buffer (Err kind) = Err kind

-- How many octets a command counts is no more than the buffer has; and as many octets are pulled and milliseconds pass
-- in one line as a script may say.
abbrev pub IsCounted : ℕ → Command → Type 0
IsCounted room (Rx line count) = count ≤ room
IsCounted room (In line count) = count ≤ room
IsCounted room (Pull line count) = count ≤ 4096
IsCounted room (Wait milliseconds) = milliseconds ≤ 3600000
IsCounted room (Ask line tei what count) = count ≤ room
IsCounted room _ = Unit {0}
