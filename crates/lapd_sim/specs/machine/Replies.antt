-- The text of a script, by the answers to its events.
use Rattle.std.specs.Prelude.{◌≡◌, ℕ, Bool, List, [], ◌∷◌, ◌++◌, map, flat_map, Option, None, Some, Result, Ok, Err}
use Rattle.model_card.specs.ports.Stored.{limit}
use Rattle.lapd_sim.specs.machine.Board.{Board, Moment, moments}
use Rattle.lapd_script.specs.declared.kind.FaultKind.{FaultKind}
use Rattle.lapd_script.specs.Meaning as line
use Rattle.lapd_script.specs.Read.{read}
use Rattle.lapd_transcript.specs.Counted.{counters_text}
use Rattle.lapd_transcript.specs.Text.{stored_text}
use Rattle.lapd_script.specs.Pieces.{pieces_of, line_in}
use Rattle.lapd_sim.specs.machine.Setup.{Setup, counters_at, taken_at}
use Rattle.lapd_sim.specs.machine.Steps.{reply_text, octet_in, held, saved_text}
use Rattle.lapd_transcript.specs.Listened.{pulled_text}
use Rattle.lapd_sim.specs.machine.Script.{Played, not_begun, one_more, played, transcript}
use Rattle.lapd_sim.specs.machine.Events.{meant_events, unless_fault, script_events, first_board}

-- What a reply says, and the octet that it gives.
abbrev pub text_of : Bool → Moment → List ℕ
text_of losses m = reply_text losses m.event m.reply

abbrev pub replies_text : Bool → List Moment → List ℕ
replies_text losses ms = flat_map (text_of losses) ms

abbrev pub octet_given : Moment → ℕ
octet_given m = octet_in m.reply

-- What a line says, where its events have these replies: of the octets that it pulls, all together; `stored` shows the card, `save`
-- its image, and `counters` and `messages` what was counted.
abbrev pub said : line.Meaning → Setup → List Moment → List ℕ
said line.skip b ms = []
said (line.card kind config) b ms = []
said (line.pull number count) b ms = pulled_text number (taken_at number b) (map octet_given ms)
said (line.timers durations) b ms = []
said line.losses b ms = []
said line.save b ms = saved_text b
said line.restore b ms = []
said line.stored b ms = stored_text (held b.board) (limit b.board.config)
said (line.counters number group) b ms = counters_text number group (counters_at number b)
said _ b ms = replies_text b.losses ms

-- The moments of a line, and what it says; before the card line, and from the first faulty line on, nothing.
abbrev pub meant_moments : line.Meaning → Setup → List Moment
meant_moments m b = moments b.board (meant_events m (record { setup = b; text = [] }))

abbrev pub read_moments : Result line.Meaning FaultKind → Option Setup → List Moment
read_moments (Err kind) setup = []
read_moments (Ok m) None = []
read_moments (Ok m) (Some b) = meant_moments m b

abbrev pub read_text : Result line.Meaning FaultKind → Option Setup → List ℕ
read_text (Err kind) setup = []
read_text (Ok m) None = []
read_text (Ok m) (Some b) = said m b (meant_moments m b)

abbrev pub line_moments : List ℕ → Played → List Moment
line_moments piece p = unless_fault (one_more p piece).fault (read_moments (read (line_in piece)) p.setup)

abbrev pub line_text : List ℕ → Played → List ℕ
line_text piece p = unless_fault (one_more p piece).fault (read_text (read (line_in piece)) p.setup)

-- Of lines, from where the script has been played to.
abbrev pub moments_from : Played → List (List ℕ) → List Moment
moments_from p [] = []
moments_from p (piece ∷ pieces) = line_moments piece p ++ moments_from (one_more p piece) pieces

abbrev pub text_from : Played → List (List ℕ) → List ℕ
text_from p [] = []
text_from p (piece ∷ pieces) = line_text piece p ++ text_from (one_more p piece) pieces

-- The moments of the lines, one after the other, are those of the run of the script's events from the fresh board on;
-- and the transcript is what the lines say of them.
pub record TranscriptsAreReplies : Type 0 where
  pub by_line : (text : List ℕ) (setup : Setup) (begun : Board) → (played (pieces_of text)).setup ≡ Some setup → first_board (pieces_of text) ≡ Some begun
      → moments begun (script_events text) ≡ moments_from not_begun (pieces_of text)
  pub text : (text : List ℕ) → transcript text ≡ text_from not_begun (pieces_of text)
