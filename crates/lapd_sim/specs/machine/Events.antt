-- The events at the card that a script brings, and what its setup has to do with them.
use Rattle.std.specs.Prelude.{◌≡◌, ℕ, zero, suc, ◌+◌, List, [], ◌∷◌, ◌++◌, map, replicate, Option, None, Some, Result, Ok, Err}
use Rattle.model_line.specs.declared.config.Config.{Config}
use Rattle.model_bits.specs.Stream.{dropped}
use Rattle.model_line.specs.Came.{cause_of}
use Rattle.model_line.specs.Request.{AskTei}
use Rattle.model_line.specs.Sound.{IsInRange}
use Rattle.model_card.specs.Event as frames
use Rattle.model_card.specs.Run as runs
use Rattle.model_card.specs.ports.Card.{OctetCard}
use Rattle.model_card.specs.ports.Event as octets
use Rattle.model_card.specs.ports.Run as octet_runs
use Rattle.lapd_sim.specs.machine.Board.{Board, pull, hears, next, expiry, request, Event, Moment, at, fresh, after_all, moments, AreAtLines, octet_event, frame_event, reply_of_octets, reply_of_frames}
use Rattle.model_card.specs.declared.kinds.CardKind.{CardKind}
use Rattle.model_card.specs.declared.kinds.CardKind.TheVariants.{Octets, Frames}
use Rattle.lapd_script.specs.declared.kind.FaultKind.{FaultKind}
use Rattle.lapd_script.specs.Meaning as line
use Rattle.lapd_script.specs.Read.{read}
use Rattle.lapd_script.specs.Pieces.{pieces_of, line_in}
use Rattle.lapd_sim.specs.machine.Setup.{Setup, terminal_at}
use Rattle.lapd_transcript.specs.Terminal.{octets_sent}
use Rattle.lapd_sim.specs.machine.Steps.{Scene, octets_at, due_by, time_until, expired, is_heard_as, request_for, teis_on, downs}
use Rattle.lapd_sim.specs.machine.Script.{Fault, Played, not_begun, one_more, played}

-- `wait`: the expiries that fall due up to its end, one after the other.
abbrev pub expiry_events : ℕ → ℕ → Scene → List Event
expiry_events zero end s = []
expiry_events (suc more) end s = elim (due_by end s.setup.clock) [ None ↦ [] | Some due ↦ at due.0 (expiry due.1) ∷ expiry_events more end (expired due.0 due.1 s) ]

abbrev pub events_until : ℕ → Scene → List Event
events_until end s = expiry_events (time_until end s.setup.clock) end s

-- `in`: the octets of the terminal, or what a frame that comes is heard as.
abbrev pub coming_events : CardKind → ℕ → List ℕ → Scene → List Event
coming_events Octets number octets s = octets_at number (octets_sent octets (terminal_at number s.setup))
coming_events Frames number octets s = at number (is_heard_as s octets) ∷ []

-- What a line brings where there is a card.
abbrev pub meant_events : line.Meaning → Scene → List Event
meant_events (line.rx number octets) s = octets_at number octets
meant_events (line.into number octets) s = coming_events s.setup.board.kind number octets s
meant_events (line.failed number fault) s = at number (hears (dropped (cause_of fault))) ∷ []
meant_events (line.next number) s = at number next ∷ []
meant_events (line.down number) s = downs number (teis_on number s.setup.board)
meant_events (line.ask_tei number) s = at number (request AskTei) ∷ []
meant_events (line.pull number count) s = replicate count (at number pull)
meant_events (line.wait milliseconds) s = events_until (s.setup.clock.now + milliseconds) s
meant_events (line.ask number tei what octets) s = at number (request (request_for what tei octets)) ∷ []
meant_events _ s = []

-- Before the card line, nothing.
abbrev pub read_events : Result line.Meaning FaultKind → Option Setup → List Event
read_events (Err kind) setup = []
read_events (Ok m) None = []
read_events (Ok m) (Some setup) = meant_events m (record { setup = setup; text = [] })

-- Nor does the faulty line bring anything, and no line after it.
abbrev pub unless_fault : {X : Type 0} → Option Fault → List X → List X
unless_fault None xs = xs
unless_fault (Some fault) xs = []

abbrev pub line_events : List ℕ → Played → List Event
line_events piece p = unless_fault (one_more p piece).fault (read_events (read (line_in piece)) p.setup)

-- Of lines, from where the script has been played to.
abbrev pub events_from : Played → List (List ℕ) → List Event
events_from p [] = []
events_from p (piece ∷ pieces) = line_events piece p ++ events_from (one_more p piece) pieces

abbrev pub script_events : List ℕ → List Event
script_events text = events_from not_begun (pieces_of text)

-- The board of the first card line, fresh.
abbrev pub board_meant : Result line.Meaning FaultKind → Option Board
board_meant (Ok (line.card kind config)) = Some (fresh kind config)
board_meant _ = None

abbrev pub first_board : List (List ℕ) → Option Board
first_board [] = None
first_board (piece ∷ pieces) = elim (board_meant (read (line_in piece))) [ None ↦ first_board pieces | Some b ↦ Some b ]

-- These are events of a card of one kind: of octets, or of frames.
abbrev pub AreEventsOf : CardKind → List Event → Type 0
AreEventsOf Octets events = (own : List octets.Event) × (events ≡ map octet_event own)
AreEventsOf Frames events = (own : List frames.Event) × (events ≡ map frame_event own)

-- The board of the setup is that of the card line, fresh, after the script's events. Its configuration is one with which a
-- card can be started, and the events are at its lines and of its kind: so laws of runs hold of it.
pub record HasRun (text : List ℕ) (setup : Setup) : Type 0 where
  pub kind : CardKind
  pub config : Config
  pub begun : first_board (pieces_of text) ≡ Some (fresh kind config)
  pub in_range : IsInRange config
  pub at_lines : AreAtLines (fresh kind config) (script_events text)
  pub of_kind : AreEventsOf kind (script_events text)
  pub board : setup.board ≡ after_all (fresh kind config) (script_events text)

abbrev pub ScriptsAreRuns : Type 0
ScriptsAreRuns = (text : List ℕ) (setup : Setup) → (played (pieces_of text)).setup ≡ Some setup → HasRun text setup

-- A board with a card of each kind; and on it a moment of a run of that card.
abbrev pub board_of_octets : Config → OctetCard → Board
board_of_octets c m = record { kind = Octets; config = c; card = m }

abbrev pub board_of_frames : Config → OctetCard → Board
board_of_frames c m = record { kind = Frames; config = c; card = m }

abbrev pub moment_of_octets : Config → octet_runs.Moment → Moment
moment_of_octets c m = record { board = board_of_octets c m.card; event = octet_event m.event; reply = reply_of_octets m.answer }

abbrev pub moment_of_frames : Config → OctetCard → runs.Moment → Moment
moment_of_frames c m x = record { board = board_of_frames c (record m { card = x.card }); event = frame_event x.event; reply = reply_of_frames x.answer }

-- Runs on a board are those of its card: of one of octets, as `model_card::ports` has them; of one of frames, as `model_card`
-- does. They lead to the same card, and have the same moments, with the same answers.
pub record RunsOnBoards : Type 0 where
  pub octet_moments : (c : Config) (m : OctetCard) (events : List octets.Event) →
      moments (board_of_octets c m) (map octet_event events) ≡ map (moment_of_octets c) (octet_runs.moments m events)
  pub frame_moments : (c : Config) (m : OctetCard) (events : List frames.Event) →
      moments (board_of_frames c m) (map frame_event events) ≡ map (moment_of_frames c m) (runs.moments m.card events)
  pub octets : (c : Config) (m : OctetCard) (events : List octets.Event) →
      after_all (board_of_octets c m) (map octet_event events) ≡ board_of_octets c (octet_runs.after_all m events)
  pub frames : (c : Config) (m : OctetCard) (events : List frames.Event) →
      after_all (board_of_frames c m) (map frame_event events) ≡ board_of_frames c (record m { card = runs.after_all m.card events })
