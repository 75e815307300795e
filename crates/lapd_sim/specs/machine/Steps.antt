-- What each line of a script makes of the setup, and what it says in the transcript.
use Rattle.std.specs.Prelude.{ℕ, zero, suc, ◌+◌, ◌-◌, ◌^◌, max, nat_lt, nat_le, Bool, true, ◌&&◌, if◌then◌else◌, List, [], ◌∷◌, ◌++◌, length, map, fold, flat_map, sum_by, Option, None, Some, unwrap_or, Result, Ok, Err}
use Rattle.std.specs.List.{filter, range_with_len}
use Rattle.std.specs.Option.{is_some}
use Rattle.lapd_frame.specs.declared.services.Service.TheVariants.{Call, Packet}
use Rattle.lapd_frame.specs.declared.timers.Timer.{Timer}
use Rattle.lapd_clock.specs.Timer.{Lengths, first_out_of_range}
use Rattle.lapd_clock.specs.Timers as clocks
use Rattle.model_line.specs.declared.config.Config.{Config}
use Rattle.model_line.specs.Config.{first_fault}
use Rattle.model_bits.specs.Stream.{dropped}
use Rattle.model_line.specs.Came.{came, cause_of}
use Rattle.model_line.specs.declared.faults.Fault.{Fault}
use Rattle.model_line.specs.Event.{LineTold}
use Rattle.model_line.specs.Request as asking
use Rattle.model_timed.specs.Clock.{Clock, at_moment, next_moment, with_lengths, without_first}
use Rattle.model_card.specs.Card as lines
use Rattle.model_card.specs.Stored as cards
use Rattle.model_card.specs.ports.Card.{OctetCard}
use Rattle.model_card.specs.ports.Stored.{stored, limit}
use Rattle.lapd_sim.specs.machine.Board.{Board, What, octet, pull, hears, next, expiry, request, Event, at, Reply, told, refused, pulled, gave, reply}
use Rattle.lapd_script.specs.declared.kind.FaultKind.{FaultKind}
use Rattle.lapd_script.specs.declared.kind.FaultKind.TheVariants.{BadNumber, NoCard, SecondCard, BadCard, WrongCard, BadLine, BadFrame, TimeOver}
use Rattle.lapd_script.specs.declared.command.Asked.{Asked}
use Rattle.lapd_script.specs.declared.command.Asked.TheVariants as asked
use Rattle.model_card.specs.declared.kinds.CardKind.{CardKind}
use Rattle.lapd_script.specs.declared.command.Durations.{Durations}
use Rattle.model_card.specs.declared.kinds.CardKind.TheVariants.{Octets, Frames}
use Rattle.lapd_script.specs.Meaning as line
use Rattle.lapd_transcript.specs.Text.{report_text, losses_text, tei_noted, refused_text, frame_text, nothing_text, image_text, stored_text}
use Rattle.lapd_transcript.specs.declared.counters.CounterGroup.{CounterGroup}
use Rattle.lapd_transcript.specs.Counted.{counters_text}
use Rattle.lapd_sim.specs.machine.Setup.{Setup, begun, happened, terminal_at, counters_at, taken_at, with_terminal, with_taken}
use Rattle.lapd_sim.specs.machine.Images.{image, sum_of}
use Rattle.lapd_transcript.specs.Terminal.{octets_sent, after_sending}
use Rattle.lapd_transcript.specs.Listened.{pulled_text}

-- A scene: the setup, and what has been said.
pub record Scene : Type 0 where
  pub setup : Setup
  pub text : List ℕ

-- The TEI that a request names.
abbrev pub tei_asked : asking.Request → Option ℕ
tei_asked (asking.Establish service tei) = Some tei
tei_asked (asking.Release service tei) = Some tei
tei_asked (asking.«Data» service tei octets) = Some tei
tei_asked (asking.Unit service tei octets) = Some tei
tei_asked (asking.Assign tei) = Some tei
tei_asked (asking.Remove tei) = Some tei
tei_asked (asking.Check tei) = Some tei
tei_asked (asking.Disown tei) = Some tei
tei_asked asking.AskTei = None
tei_asked (asking.VerifyTei tei) = Some tei
tei_asked (asking.SetBusy service tei) = Some tei
tei_asked (asking.ClearBusy service tei) = Some tei
tei_asked (asking.Deactivate service tei) = Some tei
tei_asked asking.Down = None

abbrev pub tei_named : What → Option ℕ
tei_named (request r) = tei_asked r
tei_named other = None

-- What an event brought; and if losses are shown, what the links of a TEI gave up by it. That is the TEI which a request names,
-- else that of the first note: each other event notes what it gives up.
abbrev pub shown_losses : Bool → ℕ → Option ℕ → LineTold → List ℕ
shown_losses losses line tei t = if losses then losses_text line (unwrap_or tei (tei_noted t.notes)) t.given_up t.given_up_16 else []

abbrev pub told_text : Bool → ℕ → Option ℕ → LineTold → List ℕ
told_text losses line tei t = report_text line t.notes t.contents t.cause t.lost ++ shown_losses losses line tei t

-- What a reply says. Octets that are pulled are told together, and timer orders are not told.
abbrev pub reply_text : Bool → Event → Reply → List ℕ
reply_text losses e (told t) = told_text losses e.line (tei_named e.what) t
reply_text losses e (refused why) = refused_text e.line why
reply_text losses e (pulled value begins orders) = []
reply_text losses e (gave None) = nothing_text e.line
reply_text losses e (gave (Some given)) = frame_text e.line given.octets

-- An event, and events one after the other.
abbrev pub with_event : Scene → Event → Scene
with_event s e = record { setup = happened s.setup e; text = s.text ++ reply_text s.setup.losses e (reply e s.setup.board) }

abbrev pub with_events : List Event → Scene → Scene
with_events events s = fold with_event s events

-- `rx`: each octet is an event.
abbrev pub octets_at : ℕ → List ℕ → List Event
octets_at line octets = map (λ value. at line (octet value)) octets

abbrev pub after_rx : ℕ → List ℕ → Scene → Scene
after_rx line octets s = with_events (octets_at line octets) s

-- On a card of octets, the octets of a terminal that sends a frame come from its line.
abbrev pub after_in : ℕ → List ℕ → Scene → Scene
after_in line frame s =
    let terminal = terminal_at line s.setup in
    after_rx line (octets_sent frame terminal) (record s { setup = with_terminal line (after_sending frame terminal) s.setup })

-- `pull`: the octets that the line takes, and the frames that are complete in them.
abbrev pub octet_in : Reply → ℕ
octet_in (pulled value begins orders) = value
octet_in _ = 0

pub record Pulls : Type 0 where
  pub setup : Setup
  pub octets : List ℕ

abbrev pub one_pull : ℕ → Pulls → Pulls
one_pull line p = record { setup = happened p.setup (at line pull); octets = p.octets ++ octet_in (reply (at line pull) p.setup.board) ∷ [] }

abbrev pub pulls : ℕ → ℕ → Pulls → Pulls
pulls zero line p = p
pulls (suc count) line p = pulls count line (one_pull line p)

abbrev pub after_pulls : ℕ → Pulls → List ℕ → Scene
after_pulls line p text = record { setup = with_taken line p.octets p.setup; text = text ++ pulled_text line (taken_at line p.setup) p.octets }

abbrev pub after_pull : ℕ → ℕ → Scene → Scene
after_pull line count s = after_pulls line (pulls count line (record { setup = s.setup; octets = [] })) s.text

-- `in`: a frame comes, on either kind of card. On a card of frames it is heard as `Came` of `model_line` has it.
abbrev pub is_heard_as : Scene → List ℕ → What
is_heard_as s frame = hears (came s.setup.board.config.n201 frame)

abbrev pub after_coming : CardKind → ℕ → List ℕ → Scene → Scene
after_coming Octets line frame s = after_in line frame s
after_coming Frames line frame s = with_event s (at line (is_heard_as s frame))

-- `failed`: a fault is told in place of a frame; `next`: the next frame is taken, if there is one.
abbrev pub after_failed : ℕ → Fault → Scene → Scene
after_failed line fault s = with_event s (at line (hears (dropped (cause_of fault))))

abbrev pub after_next : ℕ → Scene → Scene
after_next line s = with_event s (at line next)

-- `wait`: what falls due at or before the end, one after the other, each at its moment: the time is that moment, the timer is
-- taken from the clock, and its expiry happens. It ends: with each expiry, the time that the running timers still run until the
-- end falls, and that is how often it is tried.
abbrev pub due_by : ℕ → Clock → Option (ℕ × Timer)
due_by end c = clocks.first_due c.running end

abbrev pub time_until : ℕ → Clock → ℕ
time_until end c = sum_by (λ e. end + 1 - e.moment) c.running

-- The moment of the first, if it is not past.
abbrev pub moment_from : ℕ → Option ℕ → ℕ
moment_from now None = now
moment_from now (Some moment) = max now moment

abbrev pub at_expiry : Setup → Setup
at_expiry b = record b { clock = without_first (at_moment (moment_from b.clock.now (next_moment b.clock)) b.clock) }

abbrev pub expired : ℕ → Timer → Scene → Scene
expired line timer s = with_event (record s { setup = at_expiry s.setup }) (at line (expiry timer))

abbrev pub expiries : ℕ → ℕ → Scene → Scene
expiries zero end s = s
expiries (suc more) end s = elim (due_by end s.setup.clock) [ None ↦ s | Some due ↦ expiries more end (expired due.0 due.1 s) ]

abbrev pub until : ℕ → Scene → Scene
until end s =
    let after = expiries (time_until end s.setup.clock) end s in
    record after { setup = record after.setup { clock = at_moment end after.setup.clock } }

abbrev pub after_wait : ℕ → Scene → Scene
after_wait milliseconds s = until (s.setup.clock.now + milliseconds) s

-- `timers`: timers that are started from now on run so long; those that run keep their moments.
abbrev pub lengths_of : Durations → Lengths
lengths_of d = record { t200 = d.t200; t203 = d.t203; t201 = d.t201; t202 = d.t202 }

abbrev pub after_timers : Lengths → Scene → Scene
after_timers lengths s = record s { setup = record s.setup { clock = with_lengths lengths s.setup.clock } }

-- The requests.
abbrev pub request_for : Asked → ℕ → List ℕ → asking.Request
request_for asked.Assign tei octets = asking.Assign tei
request_for asked.Remove tei octets = asking.Remove tei
request_for asked.Check tei octets = asking.Check tei
request_for asked.Disown tei octets = asking.Disown tei
request_for asked.Verify tei octets = asking.VerifyTei tei
request_for (asked.Establish service) tei octets = asking.Establish service tei
request_for (asked.Release service) tei octets = asking.Release service tei
request_for (asked.SetBusy service) tei octets = asking.SetBusy service tei
request_for (asked.ClearBusy service) tei octets = asking.ClearBusy service tei
request_for (asked.Deactivate service) tei octets = asking.Deactivate service tei
request_for (asked.«Data» service) tei octets = asking.«Data» service tei octets
request_for (asked.Unit service) tei octets = asking.Unit service tei octets

abbrev pub after_request : ℕ → ℕ → Asked → List ℕ → Scene → Scene
after_request line tei what octets s = with_event s (at line (request (request_for what tei octets)))

-- `ask`: a terminal asks for a TEI.
abbrev pub after_asking : ℕ → Scene → Scene
after_asking line s = with_event s (at line (request asking.AskTei))

-- `down`: the line is down. Each link of the TEIs that are on it is given up, by TEI, that of call control first; and then
-- what waits and is of no link.
abbrev pub is_on_line : ℕ → Board → ℕ → Bool
is_on_line line b tei = is_some (lines.state line Call tei b.card.card)

unfoldable pub teis_on : ℕ → Board → List ℕ
teis_on line b = filter (is_on_line line b) (range_with_len 0 127)

abbrev pub deactivations : ℕ → ℕ → List Event
deactivations line tei = at line (request (asking.Deactivate Call tei)) ∷ at line (request (asking.Deactivate Packet tei)) ∷ []

abbrev pub downs : ℕ → List ℕ → List Event
downs line teis = flat_map (deactivations line) teis ++ at line (request asking.Down) ∷ []

abbrev pub after_down : ℕ → Scene → Scene
after_down line s = with_events (downs line (teis_on line s.setup.board)) s

-- `stored`: what the card holds, and its bound. A card of frames keeps nothing of those that came and went.
abbrev pub held_in : CardKind → OctetCard → ℕ
held_in Octets card = stored card
held_in Frames card = cards.stored card.card

abbrev pub held : Board → ℕ
held b = held_in b.kind b.card

abbrev pub after_stored : Scene → Scene
after_stored s = record s { text = s.text ++ stored_text (held s.setup.board) (limit s.setup.board.config) }

-- `losses`: what is given up is shown from now on.
abbrev pub after_losses : Scene → Scene
after_losses s = record s { setup = record s.setup { losses = true } }

-- `save`: how long the image of the card is, and its sum.
abbrev pub saved_text : Setup → List ℕ
saved_text b = image_text (length (image b)) (sum_of (image b))

abbrev pub after_save : Scene → Scene
after_save s = record s { text = s.text ++ saved_text s.setup }

-- `counters`, `messages`: what was counted of the line.
abbrev pub after_counters : CounterGroup → ℕ → Scene → Scene
after_counters group line s = record s { text = s.text ++ counters_text line group (counters_at line s.setup) }

-- What can be wrong with a line once there is a card: it is about octets, and the card of frames, or the other way
-- round; the card's line is not there; the frame's length, where a terminal sends it; the time.
abbrev pub for_octets : CardKind → Result Scene FaultKind → Result Scene FaultKind
for_octets Octets said = said
for_octets Frames said = Err WrongCard

abbrev pub for_frames : CardKind → Result Scene FaultKind → Result Scene FaultKind
for_frames Octets said = Err WrongCard
for_frames Frames said = said

abbrev pub at_line : ℕ → Scene → Scene → Result Scene FaultKind
at_line line s after = if nat_lt line s.setup.board.config.lines then Ok after else Err BadLine

abbrev pub is_frame : List ℕ → Bool
is_frame octets = nat_le 3 (length octets) && nat_le (length octets) 1028

abbrev pub can_come : CardKind → List ℕ → Bool
can_come Octets octets = is_frame octets
can_come Frames octets = true

abbrev pub in_at_line : ℕ → List ℕ → Scene → Result Scene FaultKind
in_at_line line octets s = if can_come s.setup.board.kind octets then Ok (after_coming s.setup.board.kind line octets s) else Err BadFrame

abbrev pub last_moment : ℕ
last_moment = 2 ^ 63 - 1

abbrev pub in_time : ℕ → Scene → Result Scene FaultKind
in_time milliseconds s = if nat_le (s.setup.clock.now + milliseconds) last_moment then Ok (after_wait milliseconds s) else Err TimeOver

-- The lengths of `timers` have to be in range.
abbrev pub with_timers : Lengths → Scene → Result Scene FaultKind
with_timers lengths s = elim (first_out_of_range lengths) [ None ↦ Ok (after_timers lengths s) | Some timer ↦ Err BadNumber ]

-- What a line does where there is a card. The card that `restore` starts from the image goes on as this one: it is the same, as far
-- as a card of frames can tell (`a_restored_card_goes_on` of `model_image`).
abbrev pub with_card : line.Meaning → Scene → Result Scene FaultKind
with_card line.skip s = Ok s
with_card (line.card kind config) s = Err SecondCard
with_card (line.rx number octets) s = for_octets s.setup.board.kind (at_line number s (after_rx number octets s))
with_card (line.into number octets) s = if nat_lt number s.setup.board.config.lines then in_at_line number octets s else Err BadLine
with_card (line.failed number fault) s = for_frames s.setup.board.kind (at_line number s (after_failed number fault s))
with_card (line.next number) s = for_frames s.setup.board.kind (at_line number s (after_next number s))
with_card (line.down number) s = at_line number s (after_down number s)
with_card (line.ask_tei number) s = at_line number s (after_asking number s)
with_card (line.pull number count) s = for_octets s.setup.board.kind (at_line number s (after_pull number count s))
with_card (line.wait milliseconds) s = in_time milliseconds s
with_card (line.timers durations) s = with_timers (lengths_of durations) s
with_card line.stored s = Ok (after_stored s)
with_card line.losses s = Ok (after_losses s)
with_card line.save s = Ok (after_save s)
with_card line.restore s = for_frames s.setup.board.kind (Ok s)
with_card (line.counters number group) s = at_line number s (after_counters group number s)
with_card (line.ask number tei what octets) s = at_line number s (after_request number tei what octets s)

-- and where there is none.
abbrev pub begun_with : CardKind → Config → Result (Option Setup) FaultKind
begun_with kind c = elim (first_fault c) [ None ↦ Ok (Some (begun kind c)) | Some field ↦ Err BadCard ]

abbrev pub without_card : line.Meaning → Result (Option Setup) FaultKind
without_card line.skip = Ok None
without_card (line.card kind config) = begun_with kind config
without_card _ = Err NoCard
